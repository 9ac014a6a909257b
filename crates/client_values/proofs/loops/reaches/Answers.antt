use Rattle.std.proofs.Common.{sym, ◌∙◌}
use Rattle.client_values.specs.Variables.{state_with}
use Rattle.client_values.proofs.Scopes.{variable_is}
use Rattle.client_values.proofs.Headers.{judged_end}
use Rattle.client_values.proofs.loops.reaches.Goals as goal

pub returns : goal.returns
returns c =
    λ p rest ns go ks reads.
    let m = c.args.memory.now in
    judged_end _ c.args.phrase.now.variable c.get.result.now c.in_ok-end.end c.args.by.now c.is_in_bound.result go ks (state_with rest ns m)
    (c.in_ok-end.ensures p rest ns reads) (variable_is rest ns m reads.even c.args.phrase.now.variable ∙ sym c.get.ensures) c.is_in_bound.ensures
