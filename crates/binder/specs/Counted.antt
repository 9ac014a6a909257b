-- How the buffers of a source are counted, one naming after the other.
use Rattle.std.specs.Prelude.{◌≡◌, ◌≤◌, ◌-◌, Bool, false, List, map, drop, Option, None, Some}
use Rattle.abl_base.specs.declared.place.Place.{Place}
use Rattle.std.specs.List.{list_any}
use Rattle.abl_base.specs.declared.rule.Rule.TheVariants.{Y14}
use Rattle.bind_names.specs.declared.names.Naming.{Naming}
use Rattle.bind_names.specs.declared.violation.Violation.{Violation}
use Rattle.bind_names.specs.Judged.{first_of, is_before}
use Rattle.binder.specs.declared.counting.Counted.{Counted}
use Rattle.binder.specs.Sources.{first_namings, is_same_buffer, too_many_buffers}

abbrev pub one_too_many : Naming → Violation
one_too_many n = record { rule = Y14; place = n.place }

-- what the namings that are left add to the first violation so far is what all of them add to the one at the beginning
pub record Stands (first : Option Violation) (all left : List Naming) (c : Counted) : Type 0 where
  pub earlier : List Naming
  pub same : (n : Naming) → list_any (is_same_buffer n) c.before ≡ list_any (is_same_buffer n) earlier
  pub below : c.count ≤ 64
  pub rest : first_of c.first (map one_too_many (drop (64 - c.count) (first_namings earlier left))) ≡ first_of first (too_many_buffers all)

-- the first violation so far is before this place
abbrev pub is_past : Option Violation → Place → Bool
is_past None place = false
is_past (Some v) place = is_before v.place place
