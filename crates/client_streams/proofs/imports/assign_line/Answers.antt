use Rattle.std.proofs.Common.{subst}
use Rattle.flat_machine.specs.Flat as flat
use Rattle.block_meaning.specs.Program.{Program}
use Rattle.block_meaning.specs.State.{State}
use Rattle.block_meaning.specs.Streams.{pairs_of}
use Rattle.client_machine.specs.Config.{instr_at}
use Rattle.client_machine.specs.KeepsFrom.{KeepsFrom}
use Rattle.client_machine.specs.declared.machine.Machine.{Machine}
use Rattle.client_machine.proofs.RunKept.{on_ok}
use Rattle.client_streams.specs.Imports.{targets_in}
use Rattle.client_streams.specs.Statements.{under}
use Rattle.client_streams.proofs.Imported.{read_kept}
use Rattle.client_streams.proofs.imports.assign_line.Goals as goal

pub returns-clause-ok : goal.returns-clause-ok
returns-clause-ok c =
    let old = c.args.machine.now in
    let m = c.read_up_to.new.machine in
    let r = c.args.reader in
    let from = λ (x : Machine) (p : Program) (s : State). flat.config (flat.Execute (flat.Assigns (pairs_of (targets_in (instr_at x.code.instrs.items c.args.place)) c.args.values.items) c.args.retry)) (under x r.no_error r.next c.args.left c.args.retry) s in
    on_ok c.assign_values.result (λ keeps.
    read_kept r.stream c.args.next (from old) old m c.assign_values.new.machine c.read_up_to.ensures.moved c.read_up_to.ensures.streams c.read_up_to.ensures.own
    (subst (λ (x : Machine). KeepsFrom (from x) m c.assign_values.new.machine) c.read_up_to.ensures.moved keeps)) c.assign_values.ensures.ok
