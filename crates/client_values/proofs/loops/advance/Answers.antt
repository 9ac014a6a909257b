use Rattle.std.proofs.Common.{rules, sym, ap, ◌∙◌, subst}
use Rattle.flat_machine.specs.Config.{Config}
use Rattle.flat_machine.specs.Steps.{set_step}
use Rattle.client_values.specs.Ends.{Judges}
use Rattle.client_values.specs.Loops.{phrase_of, value_to_set}
use Rattle.client_values.specs.Variables.{state_with}
use Rattle.client_values.proofs.Headers.{judged_fault, advance_is}
use Rattle.client_values.proofs.loops.advance.Goals as goal

pub returns-in_err-value-clause-judges : goal.returns-in_err-value-clause-judges
returns-in_err-value-clause-judges c =
    λ p rest ns t go ks reads e.
    let l = phrase_of c.args.phrase.now in
    let s = state_with rest ns c.args.memory.now in
    subst (λ (x : Config). Judges c.from_residual.result x go ks s) (sym (advance_is p l t c.args.status.now.retry c.args.start c.args.by.now go ks s e))
    (judged_fault (value_to_set l c.args.by.now c.args.start s) _ go ks s c.from_residual.result c.in_err-value.field-0.0 (search rules) (c.in_err-value.ensures rest ns reads.even))

pub returns-clause-judges : goal.returns-clause-judges
returns-clause-judges c =
    λ p rest ns t go ks reads e.
    let l = phrase_of c.args.phrase.now in
    let s = state_with rest ns c.args.memory.now in
    subst (λ (x : Config). Judges c.set_to.result x go ks (state_with rest ns c.set_to.new.memory))
    (sym (advance_is p l t c.args.status.now.retry c.args.start c.args.by.now go ks s e ∙ ap (λ v. set_step p l c.args.by.now c.args.status.now.retry v go ks s) (c.in_ok-value.ensures rest ns reads.even)))
    (c.set_to.ensures.judges p rest ns go ks reads)
