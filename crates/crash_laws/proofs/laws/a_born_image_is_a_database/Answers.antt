-- The rows that are read fit their tables; all else is what born means.
use Rattle.crash_laws.proofs.Born.{born_database, born_not_refused, not_born, opened_database}
use Rattle.crash_laws.proofs.laws.a_born_image_is_a_database.Goals as goal

pub returns-clause-database : goal.returns-clause-database
returns-clause-database c = born_database

pub returns-clause-not_refused : goal.returns-clause-not_refused
returns-clause-not_refused c = born_not_refused

pub returns-clause-opened : goal.returns-clause-opened
returns-clause-opened c = opened_database

pub returns-clause-no_other : goal.returns-clause-no_other
returns-clause-no_other c = not_born
