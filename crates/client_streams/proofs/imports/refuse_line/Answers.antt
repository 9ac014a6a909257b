use Rattle.std.proofs.Common.{ℕ, subst}
use Rattle.flat_machine.specs.Flat as flat
use Rattle.block_meaning.specs.Lines.{BadField}
use Rattle.block_meaning.specs.Program.{Program}
use Rattle.block_meaning.specs.State.{State}
use Rattle.block_meaning.specs.Streams.{read_to}
use Rattle.client_machine.specs.KeepsFrom.{KeepsFrom}
use Rattle.client_machine.specs.declared.machine.Machine.{Machine}
use Rattle.client_machine.proofs.RunKept.{on_ok}
use Rattle.client_streams.specs.Statements.{under}
use Rattle.client_streams.proofs.Imported.{read_kept}
use Rattle.client_streams.proofs.imports.refuse_line.Goals as goal

pub returns-clause-ok : goal.returns-clause-ok
returns-clause-ok c =
    let old = c.args.machine.now in
    let m = c.read_up_to.new.machine in
    let new = c.fail.new.machine in
    let r = c.args.reader in
    let from = λ (x : Machine) (p : Program) (s : State). flat.fault (BadField c.in-Ok.number) (under x r.no_error r.next c.args.left c.args.retry) s in
    on_ok c.fail.result (λ keeps.
    subst (λ (k : ℕ). KeepsFrom (λ p s. flat.fault (BadField k) (under old r.no_error r.next c.args.left c.args.retry) (read_to r.stream c.args.next s)) old new) c.in-Ok.ensures.1
    (read_kept r.stream c.args.next (from old) old m new c.read_up_to.ensures.moved c.read_up_to.ensures.streams c.read_up_to.ensures.own
    (subst (λ (x : Machine). KeepsFrom (from x) m new) c.read_up_to.ensures.moved keeps))) c.fail.ensures.ok
