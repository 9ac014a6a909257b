-- The disk holds no database where one is made.
use Rattle.std.proofs.Common.{inr}
use Rattle.disk_database.proofs.creation.create.Goals as goal

pub returns-in-Ok-clause-new : goal.returns-in-Ok-clause-new
returns-in-Ok-clause-new g c = λ known. c.in-Ok-false.ensures.no c.in-Ok-false.field-0-test known

pub returns-in-Err-Disk-create_database-clause-harmless : goal.returns-in-Err-Disk-create_database-clause-harmless
returns-in-Err-Disk-create_database-clause-harmless g c = λ is known. inr (c.in-Ok-false.ensures.no c.in-Ok-false.field-0-test known)
