-- What the recovered slots hold, the disk holds.
use Rattle.disk_database.proofs.Recognitions.{no_database}
use Rattle.disk_database.proofs.creation.holds_database.Goals as goal

pub returns-in-Err-NotCreated-clause-no : goal.returns-in-Err-NotCreated-clause-no
returns-in-Err-NotCreated-clause-no g c = λ no known schema is. c.in-Err-NotCreated.ensures.none (cc c.in-Err-NotCreated.field-0-is) known is.slots is.recovered

pub returns-in-Ok-hold_database-clause-no : goal.returns-in-Ok-hold_database-clause-no
returns-in-Ok-hold_database-clause-no g c = λ no known.
    no_database (g.D.Disk.seen c.args.disk.now) _ (c.in-Ok.ensures.recovers known) (c.in-Ok-hold_database.ensures.no no (c.in-Ok.ensures.at_rest.observable, c.in-Ok.ensures.at_rest.fine))
