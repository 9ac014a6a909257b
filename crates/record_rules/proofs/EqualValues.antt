-- Values of a bracket.
use Rattle.std.proofs.Common.{◌≡◌, ℕ, List, Bool, true, false, refl, length}
use Rattle.std.specs.Prelude.{if◌then◌else◌, nat_le}
use Rattle.abl_base.specs.declared.value.Value.{Value}
use Rattle.abl_base.specs.declared.value.Value.TheVariants.{Text, Unknown}
use Rattle.abl_base.specs.declared.value.Kind.{Kind}
use Rattle.abl_base.specs.declared.value.Kind.TheVariants.{Character, Integer, Int64, Decimal, Logical, Date}
use Rattle.abl_base.specs.declared.limits.TheConstants.{MAX_TEXT_BYTES}
use Rattle.abl_values.specs.Arithmetic.{in_range}
use Rattle.abl_values.specs.Fit.{fitted}
use Rattle.abl_values.specs.Order.{value_order}
use Rattle.expression_meaning.specs.Operators.{equals}
use Rattle.block_meaning.specs.Reads.{equal_or}

-- one of two equal values
one_of : (b : Bool) (v : Value) → (if b then v else v) ≡ v
one_of true v = refl
one_of false v = refl

-- one of a text and `?`, which are not equal
other_of : (b : Bool) (v : Value) → b ≡ false → (if b then Unknown else v) ≡ v
other_of true v e = cc
other_of false v e = refl

-- a value that fits as itself, or not at all
itself : (b : Bool) (v : Value) → equal_or (in_range b v) v ≡ v
itself true v = one_of (equals v v) v
itself false v = refl

-- no text is `?`
apart : (t : List ℕ) → equals Unknown (Text t) ≡ false
unfolding value_order
apart t = refl

-- a text stays as it is
pub text_stays : (t : List ℕ) (kind : Kind) → equal_or (fitted (Text t) kind) (Text t) ≡ Text t
unfolding fitted
text_stays t Character = itself (nat_le (length t) MAX_TEXT_BYTES) (Text t)
text_stays t Integer = other_of (equals Unknown (Text t)) (Text t) (apart t)
text_stays t Int64 = other_of (equals Unknown (Text t)) (Text t) (apart t)
text_stays t Decimal = other_of (equals Unknown (Text t)) (Text t) (apart t)
text_stays t Logical = other_of (equals Unknown (Text t)) (Text t) (apart t)
text_stays t Date = other_of (equals Unknown (Text t)) (Text t) (apart t)
