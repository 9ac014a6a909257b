use Rattle.block_meaning.specs.Frames.{table_of}
use Rattle.flat_machine.specs.Flat as flat
use Rattle.database_protocol.specs.declared.operation.Op.TheVariants as op
use Rattle.client_machine.specs.Config.{reading_at}
use Rattle.client_finds.proofs.Kept.{asked_kept}
use Rattle.client_finds.proofs.current.read_row.Goals as goal

pub returns-clause-ok : goal.returns-clause-ok
returns-clause-ok c =
    let old = c.args.machine.now in
    let r = reading_at old.code.instrs.items c.args.place in
    asked_kept old c.ask.new.machine c.in-Some.op (flat.WasCurrent r c.args.row c.args.made) (λ s. op.Get (table_of r.buffer s) c.args.row) c.in-Some.ensures.op c.ask.ensures
