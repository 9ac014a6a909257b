use Rattle.std.proofs.Common.{refl, sym, ap, ◌∙◌, subst}
use Rattle.flat_machine.specs.Flat as flat
use Rattle.block_meaning.specs.Streams.{pairs_of}
use Rattle.client_machine.specs.Config.{instr_at}
use Rattle.client_machine.specs.KeepsFrom.{KeepsFrom}
use Rattle.client_machine.specs.declared.machine.Machine.{Machine}
use Rattle.client_machine.specs.declared.mode.Mode.TheVariants as mode
use Rattle.client_machine.specs.declared.mode.Task.TheVariants as task
use Rattle.client_machine.proofs.MemoryKept.{assigned_kept, assignment_fails, moved_then, pushed_then}
use Rattle.client_machine.proofs.RunKept.{on_two}
use Rattle.client_streams.specs.Imports.{targets_in}
use Rattle.client_streams.specs.Statements.{under}
use Rattle.client_streams.proofs.imports.assign_values.Goals as goal

pub returns-in-Ok-clause-ok : goal.returns-in-Ok-clause-ok
returns-in-Ok-clause-ok c =
    let old = c.args.machine.now in
    let r = c.args.reader in
    let mem = c.assign_at.new.machine.memory in
    let xs = pairs_of (targets_in (instr_at old.code.instrs.items c.args.place)) c.args.values.items in
    subst (λ (m : Machine). KeepsFrom (λ p s. flat.config (flat.Execute (flat.Assigns xs c.args.retry)) (under old r.no_error r.next c.args.left c.args.retry) s) old m)
    (sym (c.go_on.ensures ∙ ap (λ (x : Machine). record x { mode = mode.Execute (task.RunsFrom r.next c.args.left c.args.retry) }) c.assign_at.ensures.moved))
    (assigned_kept xs old mem r.no_error c.args.retry r.next c.args.left c.assign_at.ensures.shape (c.if-not-are_variables_at.ensures refl c.args.values.items)
    (λ p rest ns ans reads. c.in-Ok.ensures.assigns p rest ns c.args.retry ans reads.even))

pub returns-in-Err-Fault-clause-ok : goal.returns-in-Err-Fault-clause-ok
returns-in-Err-Fault-clause-ok c =
    let old = c.args.machine.now in
    let r = c.args.reader in
    let m = c.assign_at.new.machine in
    let xs = pairs_of (targets_in (instr_at old.code.instrs.items c.args.place)) c.args.values.items in
    let new = c.fail_before.new.self in
    let none = c.if-not-are_variables_at.ensures refl c.args.values.items in
    let assigns = rw c.in-Err-Fault.field-0-is at c.in-Err-Fault.ensures.assigns in
    on_two c.fail_before.result (λ moved pushed.
    subst (λ (x : Machine). KeepsFrom (λ p s. flat.config (flat.Execute (flat.Assigns xs c.args.retry)) (under old r.no_error r.next c.args.left c.args.retry) s) old x)
    (sym (moved_then old m new _ c.assign_at.ensures.moved moved))
    (assignment_fails xs old new.stack m.memory c.in-Err-Fault.fault r.no_error c.args.retry r.next c.args.left c.assign_at.ensures.shape none
    (pushed_then old m new r.next c.args.left c.args.retry r.no_error c.assign_at.ensures.moved pushed) (λ p rest ns ans reads. assigns p rest ns c.args.retry ans reads.even))) c.fail_before.ensures.moved c.fail_before.ensures.pushed
