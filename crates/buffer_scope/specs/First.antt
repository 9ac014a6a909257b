-- The first of several violations of rules S: the one at the earliest place, and at one place the one with the least number.
use Rattle.std.specs.Prelude.{ℕ, Bool, ◌&&◌, ◌||◌, nat_lt, if◌then◌else◌, List, [], ◌∷◌, Option, Some, None}
use Rattle.abl_base.specs.declared.rule.Rule.{Rule}
use Rattle.abl_base.specs.declared.rule.Rule.TheVariants.{S1, S2, S3, S4}
use Rattle.bind_names.specs.declared.violation.Violation.{Violation}
use Rattle.bind_names.specs.Judged.{is_before, is_same_place}

-- the number in the name of a rule S
abbrev pub rule_number : Rule → ℕ
rule_number S1 = 1
rule_number S2 = 2
rule_number S3 = 3
rule_number S4 = 4
rule_number rule = 0

abbrev pub comes_first : Violation → Violation → Bool
comes_first v w = is_before v.place w.place || (is_same_place v.place w.place && nat_lt (rule_number v.rule) (rule_number w.rule))

-- the earlier of the one so far, where there is one, and another
abbrev pub earlier : Option Violation → Violation → Violation
earlier None v = v
earlier (Some w) v = if comes_first v w then v else w

-- the first of the one so far and these
abbrev pub first_of : Option Violation → List Violation → Option Violation
first_of so_far [] = so_far
first_of so_far (v ∷ vs) = first_of (Some (earlier so_far v)) vs

-- THE FIRST VIOLATION
abbrev pub first : List Violation → Option Violation
first = first_of None
