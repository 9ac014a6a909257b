use Rattle.std.proofs.Common.{subst}
use Rattle.std.specs.Prelude.{Err}
use Rattle.evaluator.specs.declared.fault.EvalFault.{EvalFault}
use Rattle.client_machine.specs.Machine.{state_in}
use Rattle.client_machine.proofs.RunKept.{on_ok}
use Rattle.client_streams.specs.lines.Writes.{WritesText}
use Rattle.client_streams.proofs.Effects.{text_fails}
use Rattle.client_streams.proofs.statement.fail_without_text.Goals as goal

pub returns-in-Fault-clause-ok : goal.returns-in-Fault-clause-ok
returns-in-Fault-clause-ok c =
    let old = c.args.machine.now in
    on_ok c.fail.result (λ keeps wanted gives.
    text_fails wanted c.in-Fault.fault old c.fail.new.machine c.args.stream c.args.next c.args.left c.args.retry
    (λ p rest f. subst (λ (e : EvalFault). WritesText (Err e) (wanted p (state_in rest old))) c.in-Fault.is (gives p rest f)) keeps) c.fail.ensures.ok
