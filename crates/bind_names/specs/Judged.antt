-- The judgement of a part of a source: what it is bound to, the rules that it breaks and where, and the buffers that it names.
use Rattle.std.specs.Prelude.{ℕ, Bool, true, false, ◌&&◌, ◌||◌, ◌==◌, nat_lt, if◌then◌else◌, List, [], ◌∷◌, ◌++◌, Option, Some, None}
use Rattle.abl_base.specs.declared.place.Place.{Place}
use Rattle.abl_base.specs.declared.rule.Rule.{Rule}
use Rattle.abl_base.specs.declared.rule.Rule.TheVariants.{Y1, Y2, Y3, Y4, Y5, Y6, Y7, Y8, Y9, Y10, Y11, Y12, Y13, Y14}
use Rattle.bind_names.specs.declared.violation.Violation.{Violation}
use Rattle.bind_names.specs.declared.names.Naming.{Naming}

-- ---- the first of several violations

-- the number in the name of a rule Y
abbrev pub rule_number : Rule → ℕ
rule_number Y1 = 1
rule_number Y2 = 2
rule_number Y3 = 3
rule_number Y4 = 4
rule_number Y5 = 5
rule_number Y6 = 6
rule_number Y7 = 7
rule_number Y8 = 8
rule_number Y9 = 9
rule_number Y10 = 10
rule_number Y11 = 11
rule_number Y12 = 12
rule_number Y13 = 13
rule_number Y14 = 14
rule_number rule = 0

-- the first place is before the second in the text
abbrev pub is_before : Place → Place → Bool
is_before p q = nat_lt p.line q.line || ((p.line == q.line) && nat_lt p.column q.column)

abbrev pub is_same_place : Place → Place → Bool
is_same_place p q = (p.line == q.line) && (p.column == q.column)

-- it comes first: the earlier place, and at one place the lesser number
abbrev pub comes_first : Violation → Violation → Bool
comes_first v w = is_before v.place w.place || (is_same_place v.place w.place && nat_lt (rule_number v.rule) (rule_number w.rule))

-- the earlier of the one so far, where there is one, and another
abbrev pub earlier : Option Violation → Violation → Violation
earlier None v = v
earlier (Some w) v = if comes_first v w then v else w

-- the first of the one so far and these
abbrev pub first_of : Option Violation → List Violation → Option Violation
first_of so_far [] = so_far
first_of so_far (v ∷ vs) = first_of (Some (earlier so_far v)) vs

-- THE FIRST VIOLATION
abbrev pub first : List Violation → Option Violation
first = first_of None

-- ---- judgements

pub record Judged (A : Type 0) : Type 0 where
  pub is : A
  pub breaks : List Violation
  pub names : List Naming

-- the rule is broken there
abbrev pub at : Rule → Place → List Violation
at rule place = record { rule = rule; place = place } ∷ []

-- the rule is broken there unless the condition holds
abbrev pub unless : Bool → Rule → Place → List Violation
unless true rule place = []
unless false rule place = at rule place

-- it breaks nothing and names no buffer
abbrev pub fine : {A : Type 0} → A → Judged A
fine a = record { is = a; breaks = []; names = [] }

-- it breaks a rule
abbrev pub broken : {A : Type 0} → A → Rule → Place → Judged A
broken a rule place = record { is = a; breaks = at rule place; names = [] }

-- combines the judgements of the parts: of one part, and of two
abbrev pub made : {A B : Type 0} → (A → B) → Judged A → Judged B
made f a = record { is = f a.is; breaks = a.breaks; names = a.names }

abbrev pub made_of : {A B C : Type 0} → (A → B → C) → Judged A → Judged B → Judged C
made_of f a b = record { is = f a.is b.is; breaks = a.breaks ++ b.breaks; names = a.names ++ b.names }

-- with further violations
abbrev pub breaking : {A : Type 0} → Judged A → List Violation → Judged A
breaking a more = record { is = a.is; breaks = a.breaks ++ more; names = a.names }

-- with a naming before the others
abbrev pub naming : {A : Type 0} → Naming → Judged A → Judged A
naming n a = record { is = a.is; breaks = a.breaks; names = n ∷ a.names }
