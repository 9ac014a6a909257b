use Rattle.std.proofs.Common.{rules, sym, subst}
use Rattle.block_meaning.specs.Values.{fit}
use Rattle.flat_machine.specs.Config.{Config}
use Rattle.flat_machine.specs.Steps.{reach_step}
use Rattle.client_values.specs.Ends.{Judges}
use Rattle.client_values.specs.Loops.{phrase_of}
use Rattle.client_values.specs.Variables.{state_with}
use Rattle.client_values.proofs.Headers.{reads_after, set_gives, set_fault}
use Rattle.client_values.proofs.loops.set_to.Goals as goal

pub returns-in_err-assign_value-clause-judges : goal.returns-in_err-assign_value-clause-judges
returns-in_err-assign_value-clause-judges c =
    λ p rest ns go ks reads.
    let l = phrase_of c.args.phrase.now in
    set_fault (Unit {0}) (fit l.variable.kind c.args.value) l.variable (λ s. reach_step p l c.args.by.now c.args.status.now.retry go ks s) go ks (state_with rest ns c.args.memory.now) (state_with rest ns c.assign_value.new.memory)
    c.from_residual.result c.in_err-assign_value.field-0.0 (search rules) (c.in_err-assign_value.ensures.assigns rest ns reads.even)

pub returns-clause-judges : goal.returns-clause-judges
returns-clause-judges c =
    λ p rest ns go ks reads.
    let l = phrase_of c.args.phrase.now in
    let s' = state_with rest ns c.assign_value.new.memory in
    subst (λ (x : Config). Judges c.reaches.result x go ks s')
    (sym (set_gives (fit l.variable.kind c.args.value) l.variable (λ s. reach_step p l c.args.by.now c.args.status.now.retry go ks s) ks (state_with rest ns c.args.memory.now) s' (c.in_ok-assign_value.ensures.assigns rest ns reads.even)))
    (c.reaches.ensures p rest ns go ks (reads_after p rest ns c.args.memory.now c.assign_value.new.memory _ _ c.assign_value.ensures.shape reads))
