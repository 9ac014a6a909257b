use Rattle.std.proofs.Common.{ℕ, List, sym, ap, ◌∙◌, subst}
use Rattle.std.specs.Prelude.{Result}
use Rattle.evaluator.specs.declared.fault.EvalFault.{EvalFault}
use Rattle.block_meaning.specs.Values.{IsText}
use Rattle.client_machine.specs.Machine.{state_in}
use Rattle.client_machine.proofs.RunKept.{on_ok}
use Rattle.client_streams.specs.lines.Writes.{WritesText}
use Rattle.client_streams.proofs.Effects.{text_known}
use Rattle.client_streams.proofs.statement.write_or_fail.Goals as goal

pub returns-in-Ok-clause-ok : goal.returns-in-Ok-clause-ok
returns-in-Ok-clause-ok c =
    let old = c.args.machine.now in
    on_ok c.write.result (λ keeps wanted gives.
    text_known wanted c.as_slice.result.now old c.write.new.machine c.args.stream c.args.next c.args.left c.args.retry
    (λ p rest f. subst (λ (r : Result (List ℕ) EvalFault). WritesText r (wanted p (state_in rest old))) c.in-Ok.is (gives p rest f) ∙ ap (λ (t : List ℕ). IsText t) (sym c.as_slice.ensures)) keeps) c.write.ensures.ok

pub returns-in-Err-clause-ok : goal.returns-in-Err-clause-ok
returns-in-Err-clause-ok c =
    let old = c.args.machine.now in
    on_ok c.fail_without_text.result (λ keeps wanted gives.
    keeps wanted (λ p rest f. subst (λ (r : Result (List ℕ) EvalFault). WritesText r (wanted p (state_in rest old))) c.in-Err.is (gives p rest f))) c.fail_without_text.ensures.ok
