-- One search of rows.
use Rattle.std.proofs.Common.{ap, Err}
use Rattle.disk_database.proofs.TableLemmas.Successive.{reads_failing, reads_quiet}
use Rattle.disk_database.proofs.table.writing.find_next.Goals as goal

pub returns-in-Ok-clause-read : goal.returns-in-Ok-clause-read
returns-in-Ok-clause-read g c = reads_quiet _ _ _ _ _ _ _ _ c.in-Ok.ensures.same c.in-Ok.ensures.cause.later c.in-Ok.ensures.time

pub returns-in-Err-Disk-clause-read : goal.returns-in-Err-Disk-clause-read
returns-in-Err-Disk-clause-read g c = reads_failing _ _ _ _ _ _ _ _ (c.in-Err-Disk.ensures.err.disk (ap Err c.in-Err-Disk.field-0-is)) c.in-Err-Disk.ensures.cause.later (c.in-Err-Disk.ensures.cause.disk (ap Err c.in-Err-Disk.field-0-is)) c.in-Err-Disk.ensures.time

pub returns-in-Err-NoMemory-clause-read : goal.returns-in-Err-NoMemory-clause-read
returns-in-Err-NoMemory-clause-read g c = reads_quiet _ _ _ _ _ _ _ _ (c.in-Err-NoMemory.ensures.err.memory (ap Err c.in-Err-NoMemory.field-0-is)) c.in-Err-NoMemory.ensures.cause.later c.in-Err-NoMemory.ensures.time
