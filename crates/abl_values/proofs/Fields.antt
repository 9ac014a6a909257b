-- What a row that fits its fields has at each place.
use Rattle.std.proofs.Common.{ℕ, zero, suc, ◌<◌, List, [], ◌∷◌, length, get_or, Option, Some, None, sym, arith, subst}
use Rattle.abl_base.specs.declared.value.Value.{Value}
use Rattle.abl_base.specs.declared.value.Value.TheVariants.{Text, Int, Int64, Dec, Logical, Date, Unknown}
use Rattle.abl_base.specs.declared.value.Kind.{Kind}
use Rattle.abl_base.specs.declared.value.Kind.TheVariants.{Character, Integer, Int64 as Whole64, Decimal, Logical as Truth, Date as Day}
use Rattle.abl_values.specs.Fit.{IsOfKind, IsOfField}
use Rattle.abl_values.specs.Rows.{FitsFields, IsShort}

of_kind_is_short : (kind : Kind) (v : Value) → IsOfKind kind v → IsShort v
of_kind_is_short Character (Text t) h = h
of_kind_is_short Integer (Text t) h = absurd h
of_kind_is_short Whole64 (Text t) h = absurd h
of_kind_is_short Decimal (Text t) h = absurd h
of_kind_is_short Truth (Text t) h = absurd h
of_kind_is_short Day (Text t) h = absurd h
of_kind_is_short kind (Int n) h = tt
of_kind_is_short kind (Int64 n) h = tt
of_kind_is_short kind (Dec n) h = tt
of_kind_is_short kind (Logical b) h = tt
of_kind_is_short kind (Date d) h = tt
of_kind_is_short kind Unknown h = tt

of_field_is_short : (kind : Option Kind) (v : Value) → IsOfField kind v → IsShort v
of_field_is_short (Some kind) v h = of_kind_is_short kind v h
of_field_is_short None v h = subst IsShort (sym h) tt

-- each value of a row that fits is short enough to be stored
pub fitting_is_short : (kinds : List (Option Kind)) (row : List Value) (i : ℕ) (d : Value) → FitsFields kinds row → i < length row → IsShort (get_or row i d)
fitting_is_short [] [] i d fits h = absurd (omega arith)
fitting_is_short [] (v ∷ row) i d fits h = absurd fits
fitting_is_short (kind ∷ kinds) [] i d fits h = absurd fits
fitting_is_short (kind ∷ kinds) (v ∷ row) zero d fits h = of_field_is_short kind v fits.0
fitting_is_short (kind ∷ kinds) (v ∷ row) (suc i) d fits h = fitting_is_short kinds row i d fits.1 (omega arith)
