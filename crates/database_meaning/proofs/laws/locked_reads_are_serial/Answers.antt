use Rattle.database_meaning.proofs.LockedReads.{reads_as_committed}
use Rattle.database_meaning.proofs.laws.locked_reads_are_serial.Goals as goal

pub returns : goal.returns
returns c = reads_as_committed
