use Rattle.row_fragments.proofs.Composes.{written_one}
use Rattle.row_fragments.proofs.write.write_one.Goals as goal

pub returns-clause-wrote : goal.returns-clause-wrote
returns-clause-wrote g c =
    written_one c.write.result (g.S.Slots.state c.args.slots.now) (g.S.Slots.state c.write.new.self) c.args.client c.args.at c.args.bytes.now c.requires.ready.rows.0 c.write.ensures.cause c.write.ensures.ok
