use Rattle.std.proofs.Common.{subst}
use Rattle.flat_machine.specs.Flat as flat
use Rattle.block_meaning.specs.Program.{Program}
use Rattle.block_meaning.specs.State.{State}
use Rattle.client_machine.specs.Config.{instr_at}
use Rattle.client_machine.specs.KeepsFrom.{KeepsFrom}
use Rattle.client_machine.specs.declared.machine.Machine.{Machine}
use Rattle.client_machine.proofs.PaidSteps.{cleared_kept}
use Rattle.client_machine.proofs.RunKept.{on_ok}
use Rattle.client_streams.specs.Imports.{targets_in}
use Rattle.client_streams.specs.Statements.{under}
use Rattle.client_streams.proofs.imports.import_paid.Goals as goal

pub returns-clause-ok : goal.returns-clause-ok
returns-clause-ok c =
    let old = c.args.machine.now in
    let m = c.clear_status.new.self in
    let r = c.args.reader in
    let from = λ (x : Machine) (p : Program) (s : State). flat.config (flat.Execute (flat.Imports r.stream (targets_in (instr_at x.code.instrs.items c.args.place)) c.args.retry)) (under x r.no_error r.next c.args.left c.args.retry) s in
    on_ok c.import_cleared.result (λ keeps.
    cleared_kept r.no_error (from old) old m c.import_cleared.new.machine c.clear_status.ensures
    (subst (λ (x : Machine). KeepsFrom (from x) m c.import_cleared.new.machine) c.clear_status.ensures keeps)) c.import_cleared.ensures.ok
