use Rattle.std.proofs.Common.{◌∷◌, subst}
use Rattle.std.specs.Prelude.{reverse}
use Rattle.flat_machine.specs.Flat as flat
use Rattle.block_meaning.specs.Program.{Program}
use Rattle.block_meaning.specs.State.{State}
use Rattle.block_meaning.specs.Meaning.{cleared}
use Rattle.client_machine.specs.Config.{instr_at, task_of, stack_of}
use Rattle.client_machine.specs.KeepsFrom.{KeepsFrom}
use Rattle.client_machine.specs.Records.{stmt_of_kind, record_task_of, entries_of_stmt}
use Rattle.client_machine.specs.Machine.{stack_in, state_in}
use Rattle.client_machine.specs.declared.machine.Machine.{Machine}
use Rattle.client_machine.proofs.PaidSteps.{cleared_kept, from_same}
use Rattle.client_machine.proofs.RecordsKept.{record_begins}
use Rattle.client_machine.proofs.RunKept.{on_ok}
use Rattle.client_machine.proofs.machine.Machine.record_paid.Goals as goal

pub returns-clause-ok : goal.returns-clause-ok
returns-clause-ok c =
    let old = c.args.self.now in
    let m = c.clear_status.new.self in
    let code = old.code.instrs.items in
    let from = λ (x : Machine) (p : Program) (s : State). flat.config (flat.Execute (task_of x.code.instrs.items x.memory.copies (record_task_of c.args.stmt c.args.place c.args.retry))) (stack_of x.code.instrs.items x.memory.copies (entries_of_stmt c.args.stmt c.args.no_error c.args.next c.args.left c.args.retry (reverse x.stack.items))) s in
    on_ok c.record_cleared.result (λ keeps.
    from_same (λ p s. flat.stmt_step p (stmt_of_kind c.args.stmt c.args.no_error (instr_at code c.args.place)) c.args.left c.args.retry (flat.ThenDo (flat.RunsFrom c.args.next c.args.left c.args.retry) ∷ stack_in old) s) (λ p s. from old p (cleared c.args.no_error s)) old c.record_cleared.new.self
    (λ p rest. record_begins c.args.stmt code old.memory.copies p c.args.place c.args.no_error c.args.next c.args.left c.args.retry (reverse old.stack.items) (state_in rest old))
    (cleared_kept c.args.no_error (from old) old m c.record_cleared.new.self c.clear_status.ensures
    (subst (λ (x : Machine). KeepsFrom (from x) m c.record_cleared.new.self) c.clear_status.ensures keeps))) c.record_cleared.ensures.ok
