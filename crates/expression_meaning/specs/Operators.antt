-- The operators on values.
use Rattle.std.specs.Prelude.{ℕ, Bool, true, false, not, ◌&&◌, ◌==◌, List, [], ◌∷◌, Result, Ok, Err, pos}
use Rattle.std.specs.declared.cmp.Ordering.{Ordering}
use Rattle.std.specs.declared.cmp.Ordering.TheVariants.{Less, Equal, Greater}
use Rattle.abl_base.specs.declared.value.Value.{Value}
use Rattle.abl_base.specs.declared.value.Value.TheVariants.{Text, Int, Int64, Dec, Logical, Date, Unknown}
use Rattle.abl_values.specs.declared.arithmetic.ArithFault.{ArithFault}
use Rattle.abl_values.specs.Order.{compared_text, value_order}
use Rattle.abl_values.specs.Arithmetic.{sum_of, difference_of}
use Rattle.expression_meaning.specs.declared.fault.RunFault.{RunFault}
use Rattle.expression_meaning.specs.declared.fault.RunFault.TheVariants.{Range}

-- the result of an expression: its value, or its fault
abbrev pub Given : Type 0
Given = Result Value RunFault

-- an overflow is a fault of range
abbrev pub in_range : Result Value ArithFault → Given
in_range (Ok v) = Ok v
in_range (Err fault) = Err Range

-- `?`
abbrev pub is_unknown : Value → Bool
is_unknown (Text t) = false
is_unknown (Int n) = false
is_unknown (Int64 n) = false
is_unknown (Dec n) = false
is_unknown (Logical b) = false
is_unknown (Date d) = false
is_unknown Unknown = true

-- ---- comparisons

-- less
abbrev pub is_less : Ordering → Bool
is_less Less = true
is_less Equal = false
is_less Greater = false

-- equal
abbrev pub is_level : Ordering → Bool
is_level Less = false
is_level Equal = true
is_level Greater = false

-- greater
abbrev pub is_greater : Ordering → Bool
is_greater Less = false
is_greater Equal = false
is_greater Greater = true

-- `=`: `?` equals `?` and nothing else
abbrev pub equals : Value → Value → Bool
equals a b = is_level (value_order a b)

-- a comparison by order: `both` where both sides are `?`, and `?` where one is
abbrev pub compared_as : Bool → Bool → Bool → Bool → Value
compared_as true true both holds = Logical both
compared_as true false both holds = Unknown
compared_as false true both holds = Unknown
compared_as false false both holds = Logical holds

-- a comparison of two values by their order
abbrev pub compared : Bool → (Ordering → Bool) → Value → Value → Value
compared both holds a b = compared_as (is_unknown a) (is_unknown b) both (holds (value_order a b))

-- `<`
abbrev pub less : Value → Value → Value
less a b = compared false is_less a b

-- `>`
abbrev pub greater : Value → Value → Value
greater a b = compared false is_greater a b

-- `? <= ?` and `? >= ?` are yes
abbrev pub at_most : Value → Value → Value
at_most a b = compared true (λ o. not (is_greater o)) a b

-- `>=`
abbrev pub at_least : Value → Value → Value
at_least a b = compared true (λ o. not (is_less o)) a b

-- the first list begins with the second
abbrev pub begins_with : List ℕ → List ℕ → Bool
begins_with bs [] = true
begins_with [] (p ∷ ps) = false
begins_with (b ∷ bs) (p ∷ ps) = (b == p) && begins_with bs ps

-- BEGINS compares as `=` does
abbrev pub begins : Value → Value → Value
begins (Text t) (Text p) = Logical (begins_with (compared_text t) (compared_text p))
begins a b = Unknown

-- ---- signs and NOT

-- the sign `+`
abbrev pub positive : Value → Given
positive v = in_range (sum_of (Int64 (pos 0)) v)

-- the sign `-`
abbrev pub negative : Value → Given
negative v = in_range (difference_of (Int64 (pos 0)) v)

-- NOT
abbrev pub opposite : Value → Value
opposite (Logical b) = Logical (not b)
opposite v = Unknown

-- ---- conditions

-- a condition that is `?` counts as false
abbrev pub holds : Value → Bool
holds (Logical b) = b
holds v = false

-- AND of a value and the result of the other side: no AND x is no, whatever x gives
abbrev pub and_then : Value → Given → Given
and_then (Logical false) other = Ok (Logical false)
and_then (Logical true) other = other
and_then v (Ok w) = Ok Unknown
and_then v (Err fault) = Err fault

-- OR: yes OR x is yes, whatever x gives
abbrev pub or_else : Value → Given → Given
or_else (Logical true) other = Ok (Logical true)
or_else (Logical false) other = other
or_else v (Ok w) = Ok Unknown
or_else v (Err fault) = Err fault
