use Rattle.std.proofs.Common.{sym, ap, ◌∙◌}
use Rattle.block_meaning.specs.State.{Normal, completed}
use Rattle.block_meaning.specs.Frames.{assigned}
use Rattle.block_meaning.specs.Changes.{stored_value}
use Rattle.client_values.specs.Variables.{state_with}
use Rattle.client_values.proofs.Assigned.{variable_set}
use Rattle.client_values.proofs.assign.assign_value.Goals as goal

pub returns-clause-assigns : goal.returns-clause-assigns
returns-clause-assigns c =
    λ rest ns even.
    let old = c.args.memory.now in
    ap (λ e. stored_value e (assigned c.args.variable) (state_with rest ns old)) c.in_ok-value.ensures
    ∙ ap (completed Normal) (variable_set rest ns old c.args.variable c.in_ok-value.value even)
    ∙ ap (λ m. completed Normal (state_with rest ns m)) (sym c.in_ok-set.ensures.ok)
