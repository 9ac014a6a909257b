use Rattle.std.proofs.Common.{◌∷◌, sym, ap, ◌∙◌, subst}
use Rattle.flat_machine.specs.Flat as flat
use Rattle.client_machine.specs.Config.{instr_at}
use Rattle.client_machine.specs.KeepsFrom.{KeepsFrom, pairs_in}
use Rattle.client_machine.specs.Machine.{stack_in}
use Rattle.client_machine.specs.declared.machine.Machine.{Machine}
use Rattle.client_machine.specs.declared.mode.Mode.TheVariants as mode
use Rattle.client_machine.specs.declared.mode.Task.TheVariants as task
use Rattle.client_machine.proofs.MemoryKept.{assigned_kept, assignment_fails, moved_then, pushed_then}
use Rattle.client_machine.proofs.RunKept.{on_two}
use Rattle.client_machine.proofs.machine.Machine.assign_cleared.Goals as goal

pub returns-in-Ok-clause-ok : goal.returns-in-Ok-clause-ok
returns-in-Ok-clause-ok c =
    let old = c.args.self.now in
    let mem = c.assign_at.new.self.memory in
    let xs = pairs_in (instr_at old.code.instrs.items c.args.place) in
    subst (λ (m : Machine). KeepsFrom (λ p s. flat.config (flat.Execute (flat.Assigns xs c.args.retry)) (flat.Handles c.args.no_error ∷ flat.ThenDo (flat.RunsFrom c.args.next c.args.left c.args.retry) ∷ stack_in old) s) old m)
    (sym (c.set_mode.ensures ∙ ap (λ (x : Machine). record x { mode = mode.Execute (task.RunsFrom c.args.next c.args.left c.args.retry) }) c.assign_at.ensures.moved))
    (assigned_kept xs old mem c.args.no_error c.args.retry c.args.next c.args.left c.assign_at.ensures.shape c.in-Ok.ensures.variables c.in-Ok.ensures.assigns)

pub returns-in-Err-Fault-clause-ok : goal.returns-in-Err-Fault-clause-ok
returns-in-Err-Fault-clause-ok c =
    let old = c.args.self.now in
    let m = c.assign_at.new.self in
    let xs = pairs_in (instr_at old.code.instrs.items c.args.place) in
    let new = c.fail_before.new.self in
    let none = rw c.in-Err-Fault.field-0-is at c.in-Err-Fault.ensures.variables in
    let assigns = rw c.in-Err-Fault.field-0-is at c.in-Err-Fault.ensures.assigns in
    on_two c.fail_before.result (λ moved pushed.
    subst (λ (x : Machine). KeepsFrom (λ p s. flat.config (flat.Execute (flat.Assigns xs c.args.retry)) (flat.Handles c.args.no_error ∷ flat.ThenDo (flat.RunsFrom c.args.next c.args.left c.args.retry) ∷ stack_in old) s) old x)
    (sym (moved_then old m new _ c.assign_at.ensures.moved moved))
    (assignment_fails xs old new.stack m.memory c.in-Err-Fault.fault c.args.no_error c.args.retry c.args.next c.args.left c.assign_at.ensures.shape none
    (pushed_then old m new c.args.next c.args.left c.args.retry c.args.no_error c.assign_at.ensures.moved pushed) assigns)) c.fail_before.ensures.moved c.fail_before.ensures.pushed
