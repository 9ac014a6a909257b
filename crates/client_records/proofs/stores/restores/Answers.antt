use Rattle.client_records.proofs.Befores.{restored_kept}
use Rattle.client_records.proofs.stores.restores.Goals as goal

pub returns-clause-ok : goal.returns-clause-ok
returns-clause-ok c = restored_kept c.args.buffer c.args.content c.args.fault c.args.machine.now c.restore.new.machine c.set_mode.new.self c.restore.ensures.moved c.set_mode.ensures c.restore.ensures.copies c.restore.ensures.reads c.restore.ensures.state
