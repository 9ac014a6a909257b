use Rattle.client_records.proofs.Befores.{passed_kept}
use Rattle.client_records.proofs.stores.passes_by.Goals as goal

pub returns-clause-ok : goal.returns-clause-ok
returns-clause-ok c = passed_kept c.args.buffer c.args.content c.args.completion c.args.machine.now c.set_mode.new.self c.requires.other c.set_mode.ensures
