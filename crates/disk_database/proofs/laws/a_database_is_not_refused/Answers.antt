-- Slots hold one text, and rows that are sound where the contents are.
use Rattle.disk_database.proofs.Reopenings.{not_another, not_missing}
use Rattle.disk_database.proofs.laws.a_database_is_not_refused.Goals as goal

pub returns-clause-differs : goal.returns-clause-differs
returns-clause-differs c = not_another

pub returns-clause-not_created : goal.returns-clause-not_created
returns-clause-not_created c = not_missing
