use Rattle.abl_values.proofs.DateLaws.{day_reads_back}
use Rattle.abl_values.proofs.DayDates.{has_date}
use Rattle.abl_values.proofs.laws.dates_are_read_back.Goals as goal

pub returns-clause-date : goal.returns-clause-date
returns-clause-date c = day_reads_back

pub returns-clause-day : goal.returns-clause-day
returns-clause-day c = has_date
