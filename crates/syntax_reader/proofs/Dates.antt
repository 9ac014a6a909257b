-- The day of a date literal.
use Rattle.std.proofs.Common.{◌≡◌, ℕ, Some, None, refl, subst}
use Rattle.std.specs.Prelude.{ℤ, Option, pos}
use Rattle.abl_base.specs.declared.value.Value.{Value}
use Rattle.abl_base.specs.declared.value.Value.TheVariants as value
use Rattle.abl_values.specs.Dates.{date_from}
use Rattle.syntax_reader.specs.Nodes.{Source, IsDay}
use Rattle.syntax_reader.specs.Days.{IsDated, as_date}

with_day : (c : Source) (k : ℕ) (v : Value) (h : IsDated c k v) (found : Option ℤ) → date_from (pos h.date.month) (pos h.date.day) (pos h.date.year) ≡ found → as_date found ≡ Some v → (P : Value → Type 0) →
    ((day : ℤ) → IsDay c k day → P (value.Date day)) → P v
with_day c k v h None e none P made = absurd cc
with_day c k v h (Some day) e same P made =
    let is : value.Date day ≡ v = cc in
    subst P is (made day (record { token = h.token; date = h.date; there = h.there; spelled = h.spelled; is = e }))

-- what holds of each value of a day holds of the value of a date literal
pub from_dated : {c : Source} {k : ℕ} {v : Value} → IsDated c k v → (P : Value → Type 0) → ((day : ℤ) → IsDay c k day → P (value.Date day)) → P v
from_dated {c} {k} {v} h P made = with_day c k v h (date_from (pos h.date.month) (pos h.date.day) (pos h.date.year)) refl h.is P made
