use Rattle.std.proofs.Common.{Option, sym, subst}
use Rattle.std.specs.Prelude.{OnOk}
use Rattle.client_machine.specs.declared.mode.LineFault.{LineFault}
use Rattle.client_machine.specs.Step.{KeepsComplaint}
use Rattle.client_machine.proofs.Faults.{raised_kept}
use Rattle.client_machine.proofs.machine.Machine.complain.Goals as goal

pub returns-in-None-clause-ok : goal.returns-in-None-clause-ok
returns-in-None-clause-ok c = subst (λ (f : Option LineFault). KeepsComplaint f c.args.self.now c.raise.new.self) (sym c.in-None.is) (raised_kept c.args.self.now c.raise.new.self c.raise.ensures)

pub returns-in-Some-clause-ok : goal.returns-in-Some-clause-ok
returns-in-Some-clause-ok c = subst (λ (f : Option LineFault). OnOk c.write_line.result (KeepsComplaint f c.args.self.now c.write_line.new.self)) (sym c.in-Some.is) c.write_line.ensures.ok
