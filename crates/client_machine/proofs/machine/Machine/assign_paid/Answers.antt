use Rattle.std.proofs.Common.{◌∷◌, subst}
use Rattle.flat_machine.specs.Flat as flat
use Rattle.block_meaning.specs.Program.{Program}
use Rattle.block_meaning.specs.State.{State}
use Rattle.client_machine.specs.Config.{instr_at}
use Rattle.client_machine.specs.KeepsFrom.{KeepsFrom, pairs_in}
use Rattle.client_machine.specs.Machine.{stack_in}
use Rattle.client_machine.specs.declared.machine.Machine.{Machine}
use Rattle.client_machine.proofs.PaidSteps.{cleared_kept}
use Rattle.client_machine.proofs.RunKept.{on_ok}
use Rattle.client_machine.proofs.machine.Machine.assign_paid.Goals as goal

pub returns-clause-ok : goal.returns-clause-ok
returns-clause-ok c =
    let old = c.args.self.now in
    let m = c.clear_status.new.self in
    let from = λ (x : Machine) (p : Program) (s : State). flat.config (flat.Execute (flat.Assigns (pairs_in (instr_at x.code.instrs.items c.args.place)) c.args.retry)) (flat.Handles c.args.no_error ∷ flat.ThenDo (flat.RunsFrom c.args.next c.args.left c.args.retry) ∷ stack_in x) s in
    on_ok c.assign_cleared.result (λ keeps.
    cleared_kept c.args.no_error (from old) old m c.assign_cleared.new.self c.clear_status.ensures
    (subst (λ (x : Machine). KeepsFrom (from x) m c.assign_cleared.new.self) c.clear_status.ensures keeps)) c.assign_cleared.ensures.ok
