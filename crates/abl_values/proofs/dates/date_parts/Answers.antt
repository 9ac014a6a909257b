use Rattle.std.proofs.Common.{ap, ◌∙◌, rules, FitsSigned, pos}
use Rattle.std.proofs.lemmas.Int.{to_z-of_z}
use Rattle.std.specs.Int.{w32, w64}
use Rattle.abl_values.specs.Dates.{date_of_day, date_in_years, nearest_day}
use Rattle.abl_values.proofs.dates.date_parts.Goals as goal

pub returns-clause-month : goal.returns-clause-month
unfolding date_of_day
returns-clause-month c =
    let near : FitsSigned w64 c.nearest_day.result = search rules in
    let wide : FitsSigned w64 c.from.result = search rules in
    let small : FitsSigned w32 c.args.day = c.ranges.day in
    let same = to_z-of_z w64 c.nearest_day.result near ∙ c.nearest_day.ensures.nearest
    ∙ ap nearest_day (to_z-of_z w64 c.from.result wide ∙ c.from.ensures ∙ to_z-of_z w32 c.args.day small) in
    c.parts_of.ensures.month ∙ ap (λ z. pos (date_in_years z).month) same

pub returns-clause-day : goal.returns-clause-day
unfolding date_of_day
returns-clause-day c =
    let near : FitsSigned w64 c.nearest_day.result = search rules in
    let wide : FitsSigned w64 c.from.result = search rules in
    let small : FitsSigned w32 c.args.day = c.ranges.day in
    let same = to_z-of_z w64 c.nearest_day.result near ∙ c.nearest_day.ensures.nearest
    ∙ ap nearest_day (to_z-of_z w64 c.from.result wide ∙ c.from.ensures ∙ to_z-of_z w32 c.args.day small) in
    c.parts_of.ensures.day ∙ ap (λ z. pos (date_in_years z).day) same

pub returns-clause-year : goal.returns-clause-year
unfolding date_of_day
returns-clause-year c =
    let near : FitsSigned w64 c.nearest_day.result = search rules in
    let wide : FitsSigned w64 c.from.result = search rules in
    let small : FitsSigned w32 c.args.day = c.ranges.day in
    let same = to_z-of_z w64 c.nearest_day.result near ∙ c.nearest_day.ensures.nearest
    ∙ ap nearest_day (to_z-of_z w64 c.from.result wide ∙ c.from.ensures ∙ to_z-of_z w32 c.args.day small) in
    c.parts_of.ensures.year ∙ ap (λ z. pos (date_in_years z).year) same
