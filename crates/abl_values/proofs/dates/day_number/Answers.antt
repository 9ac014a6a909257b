use Rattle.std.proofs.Common.{ap, sym, ◌∙◌, rules, Some, FitsSigned}
use Rattle.std.proofs.lemmas.Bool.{false≢true}
use Rattle.std.proofs.lemmas.Int.{to_z-of_z}
use Rattle.std.specs.Int.{w8, w16, w32}
use Rattle.abl_values.proofs.Days.{date_found, date_missing}
use Rattle.abl_values.proofs.dates.day_number.Goals as goal

pub returns-in-Ok : goal.returns-in-Ok
returns-in-Ok c =
    let fy : FitsSigned w16 c.args.year = c.ranges.year in
    let fm : FitsSigned w8 c.args.month = c.ranges.month in
    let fd : FitsSigned w8 c.args.day = c.ranges.day in
    let fr : FitsSigned w32 c.to_unix_epoch_day.result = search rules in
    let found = simp to_z-of_z at c.in-Ok.ensures.value in
    let date = c.in-Ok.date in
    ap (λ z. Some z) (to_z-of_z w32 c.to_unix_epoch_day.result fr ∙ c.to_unix_epoch_day.ensures.value)
    ∙ sym (date_found date.year date.month date.day c.args.month c.args.day c.args.year c.requires.first c.requires.last found.0 found.1 found.2 date.month_in.0 date.month_in.1 date.day_in.0 date.day_in.1)

pub returns-in-Err : goal.returns-in-Err
returns-in-Err c =
    let fy : FitsSigned w16 c.args.year = c.ranges.year in
    let fm : FitsSigned w8 c.args.month = c.ranges.month in
    let fd : FitsSigned w8 c.args.day = c.ranges.day in
    sym (date_missing c.args.month c.args.day c.args.year (λ h k. false≢true (c.in-Err.ensures.succeeds.1 (simp to_z-of_z h))))
