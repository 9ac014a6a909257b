use Rattle.std.proofs.Common.{ap, ◌∙◌, rules, FitsSigned, pos}
use Rattle.std.proofs.lemmas.Int.{to_z-of_z}
use Rattle.std.specs.Int.{w16, w64}
use Rattle.abl_values.proofs.Days.{date_is}
use Rattle.abl_values.proofs.dates.parts_of.Goals as goal

pub returns-clause-month : goal.returns-clause-month
returns-clause-month c =
    let fd : FitsSigned w64 c.args.day = c.ranges.day in
    let d = c.date_at-date.result in
    let same = date_is d.year d.month d.day c.args.day (d.year_in, d.month_in, d.day_in) (c.date_at-date.ensures ∙ to_z-of_z w64 c.args.day fd) c.requires.first in
    let fits : FitsSigned w64 c.from.result = search rules in
    to_z-of_z w64 c.from.result fits ∙ c.from.ensures ∙ ap pos same.1

pub returns-clause-day : goal.returns-clause-day
returns-clause-day c =
    let fd : FitsSigned w64 c.args.day = c.ranges.day in
    let d = c.date_at-date.result in
    let same = date_is d.year d.month d.day c.args.day (d.year_in, d.month_in, d.day_in) (c.date_at-date.ensures ∙ to_z-of_z w64 c.args.day fd) c.requires.first in
    let fits : FitsSigned w64 c.from-2.result = search rules in
    to_z-of_z w64 c.from-2.result fits ∙ c.from-2.ensures ∙ ap pos same.2

pub returns-clause-year : goal.returns-clause-year
returns-clause-year c =
    let fd : FitsSigned w64 c.args.day = c.ranges.day in
    let d = c.date_at-date.result in
    let same = date_is d.year d.month d.day c.args.day (d.year_in, d.month_in, d.day_in) (c.date_at-date.ensures ∙ to_z-of_z w64 c.args.day fd) c.requires.first in
    let fits : FitsSigned w64 c.from-3.result = search rules in
    let near : FitsSigned w16 d.year = search (rules, d.year_in) in
    to_z-of_z w64 c.from-3.result fits ∙ c.from-3.ensures ∙ to_z-of_z w16 d.year near ∙ same.0
