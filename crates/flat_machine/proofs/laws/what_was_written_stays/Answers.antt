use Rattle.flat_machine.proofs.Continues.{written_continues, something_is_asked}
use Rattle.flat_machine.proofs.laws.what_was_written_stays.Goals as goal

pub returns-clause-written : goal.returns-clause-written
returns-clause-written c = written_continues

pub returns-clause-asks : goal.returns-clause-asks
returns-clause-asks c = something_is_asked
