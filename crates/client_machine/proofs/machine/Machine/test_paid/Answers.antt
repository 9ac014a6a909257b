use Rattle.std.proofs.Common.{sym, subst}
use Rattle.flat_machine.specs.Flat as flat
use Rattle.block_meaning.specs.Values.{value_now}
use Rattle.client_machine.specs.Config.{instr_at}
use Rattle.client_machine.specs.KeepsFrom.{KeepsFrom, test_in}
use Rattle.client_machine.specs.Machine.{stack_in}
use Rattle.client_machine.specs.declared.machine.Machine.{Machine}
use Rattle.client_machine.proofs.MemoryKept.{chosen_kept, test_fails, reads_in}
use Rattle.client_machine.proofs.RunKept.{on_two}
use Rattle.client_machine.proofs.machine.Machine.test_paid.Goals as goal

pub returns-in-Ok-clause-ok : goal.returns-in-Ok-clause-ok
returns-in-Ok-clause-ok c =
    let old = c.args.self.now in
    let test = test_in (instr_at old.code.instrs.items c.args.place) in
    subst (λ (m : Machine). KeepsFrom (λ p s. flat.choose_step (value_now p test c.args.retry s) p c.args.one c.args.other c.args.left c.args.retry (stack_in old) s) old m) (sym c.choose.ensures)
    (chosen_kept (λ p s. value_now p test c.args.retry s) old c.in-Ok.value c.args.one c.args.other c.args.left c.args.retry (λ p rest f. c.in-Ok.ensures p _ old.procedures.items (reads_in p rest old f)))

pub returns-in-Err-Fault-clause-ok : goal.returns-in-Err-Fault-clause-ok
returns-in-Err-Fault-clause-ok c =
    let old = c.args.self.now in
    let test = test_in (instr_at old.code.instrs.items c.args.place) in
    let new = c.fail.new.self in
    let fails = rw c.in-Err-Fault.field-0-is at c.in-Err-Fault.ensures in
    on_two c.fail.result (λ moved pushed.
    subst (λ (m : Machine). KeepsFrom (λ p s. flat.choose_step (value_now p test c.args.retry s) p c.args.one c.args.other c.args.left c.args.retry (stack_in old) s) old m) (sym moved)
    (test_fails (λ p s. value_now p test c.args.retry s) old new.stack c.in-Err-Fault.fault c.args.one c.args.other c.args.left c.args.retry pushed (λ p rest f. fails p _ old.procedures.items (reads_in p rest old f)))) c.fail.ensures.moved c.fail.ensures.pushed
