use Rattle.std.proofs.Common.{Bool, sym, subst}
use Rattle.std.specs.Prelude.{OnOk}
use Rattle.client_machine.specs.declared.mode.Completion.TheVariants as completion
use Rattle.client_machine.specs.declared.mode.StackEntry.TheVariants as stack
use Rattle.client_machine.specs.Step.{KeepsEntry}
use Rattle.client_machine.proofs.RunKept.{on_ok}
use Rattle.client_machine.proofs.Faults.{quiet_kept, complained_kept}
use Rattle.client_machine.proofs.machine.Machine.handles_fault.Goals as goal

pub returns-then-quiet-clause-ok : goal.returns-then-quiet-clause-ok
returns-then-quiet-clause-ok c =
    let old = c.args.self.now in
    subst (λ (q : Bool). KeepsEntry (stack.Handles q) (completion.Faults c.args.fault) old c.set_mode.new.self) (sym c.if-quiet.true) (quiet_kept c.args.fault old c.set_mode.new.self c.set_mode.ensures)

pub returns-else-quiet-clause-ok : goal.returns-else-quiet-clause-ok
returns-else-quiet-clause-ok c =
    let old = c.args.self.now in
    subst (λ (q : Bool). OnOk c.complain.result (KeepsEntry (stack.Handles q) (completion.Faults c.args.fault) old c.complain.new.self)) (sym c.if-quiet.false) (on_ok c.complain.result (complained_kept c.args.fault old c.complain.new.self) c.complain.ensures.ok)
