use Rattle.std.proofs.Common.{sym, arith}
use Rattle.std.proofs.lemmas.Int.{ints}
use Rattle.abl_values.proofs.Days.{date_missing, no_long_month}
use Rattle.abl_values.proofs.dates.date_of.Goals as goal
use Rattle.abl_values.proofs.dates.date_of.Goals.{then-year-via-then-year as early, then-year-via-else-year+then-year-2 as late, then-year-via-else-year+else-year-2+then-month-lt1 as no_month, then-year-via-else-year+else-year-2+else-month-lt1+then-month-gt12 as month_past, then-year-via-else-year+else-year-2+else-month-lt1+else-month-gt12+then-day-lt1 as no_day, then-year-via-else-year+else-year-2+else-month-lt1+else-month-gt12+else-day-lt1+then-day-gt31 as day_past}

pub returns-then-year : goal.returns-then-year
returns-then-year c =
    sym (date_missing c.args.month c.args.day c.args.year (λ h k.
    let most = no_long_month c.args.month c.args.day c.args.year h in
    elim c.then-year.branch [
      | early w ↦ omega (arith, ints)
      | late w ↦ omega (arith, ints, h.0.1)
      | no_month w ↦ omega (arith, ints, h.1.0)
      | month_past w ↦ omega (arith, ints, h.1.1)
      | no_day w ↦ omega (arith, ints, h.2.0)
      | day_past w ↦ omega (arith, ints)
    ]))
