use Rattle.std.proofs.Common.{ap, ◌∙◌, subst}
use Rattle.block_meaning.specs.Frames.{table_of}
use Rattle.block_meaning.specs.Reads.{held_as}
use Rattle.block_meaning.specs.State.{Held}
use Rattle.flat_machine.specs.Flat as flat
use Rattle.database_protocol.specs.declared.operation.Op.TheVariants as op
use Rattle.client_machine.specs.Config.{reading_at}
use Rattle.client_machine.specs.KeepsFrom.{KeepsFrom}
use Rattle.client_machine.specs.Machine.{stack_in}
use Rattle.client_finds.proofs.Kept.{on_ok}
use Rattle.client_finds.proofs.locks.read_locked.Goals as goal

pub returns-clause-ok : goal.returns-clause-ok
returns-clause-ok c =
    let old = c.args.machine.now in
    let r = reading_at old.code.instrs.items c.args.place in
    on_ok c.read_row.result (λ keeps.
    subst (λ (h : Held). KeepsFrom (λ p s. flat.ask (op.Get (table_of r.buffer s) c.args.row) (flat.WasRead r c.args.retry c.args.row h) (stack_in old) s) old c.read_row.new.machine)
    (c.held_under.ensures ∙ ap held_as c.in-Some.ensures) keeps) c.read_row.ensures.ok
