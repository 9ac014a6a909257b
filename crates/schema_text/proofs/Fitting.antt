-- A value is made to fit its own kind without a change.
use Rattle.std.proofs.Common.{◌≡◌, ◌≤◌, ℕ, Bool, true, false, Ok, Err, refl, sym, ap, subst, ◌∙◌, true≢false, arith, nat_le}
use Rattle.std.specs.Prelude.{Result, length}
use Rattle.std.proofs.lemmas.Bool.{le-leb}
use Rattle.std.proofs.lemmas.Bool.Decides.{nat_tests}
use Rattle.abl_base.specs.declared.limits.TheConstants.{MAX_TEXT_BYTES}
use Rattle.abl_base.specs.declared.value.Kind.{Kind}
use Rattle.abl_base.specs.declared.value.Kind.TheVariants as kind
use Rattle.abl_base.specs.declared.value.Value.{Value}
use Rattle.abl_base.specs.declared.value.Value.TheVariants as value
use Rattle.abl_values.specs.declared.arithmetic.ArithFault.{ArithFault}
use Rattle.abl_values.specs.Arithmetic.{in_range, fits_bits, IsUnlessNoMemory}
use Rattle.abl_values.specs.Dates.{is_day}
use Rattle.abl_values.specs.Fit.{IsOfKind, fitted}

-- the result is of the kind, where there is one
abbrev pub IsFitted : Kind → Result Value ArithFault → Type 0
IsFitted k (Ok v) = IsOfKind k v
IsFitted k (Err fault) = Unit {0}

ranged : (k : Kind) (c : Bool) (v : Value) → (c ≡ true → IsOfKind k v) → IsFitted k (in_range c v)
ranged k true v h = h refl
ranged k false v h = tt

within : (m n : ℕ) → nat_le m n ≡ true → m ≤ n
within m n h = grind (arith, nat_tests)

unknown_is : (k : Kind) → IsOfKind k value.Unknown
unknown_is k = tt

pub fitted-is : (v : Value) (k : Kind) → IsFitted k (fitted v k)
unfolding fitted
fitted-is (value.Text t) kind.Character = ranged kind.Character _ (value.Text t) (λ h. within _ _ h)
fitted-is (value.Int n) kind.Integer = ranged kind.Integer _ _ (λ h. h)
fitted-is (value.Int64 n) kind.Integer = ranged kind.Integer _ _ (λ h. h)
fitted-is (value.Dec n) kind.Integer = ranged kind.Integer _ _ (λ h. h)
fitted-is (value.Int n) kind.Int64 = ranged kind.Int64 _ _ (λ h. h)
fitted-is (value.Int64 n) kind.Int64 = ranged kind.Int64 _ _ (λ h. h)
fitted-is (value.Dec n) kind.Int64 = ranged kind.Int64 _ _ (λ h. h)
fitted-is (value.Int n) kind.Decimal = ranged kind.Decimal _ _ (λ h. h)
fitted-is (value.Int64 n) kind.Decimal = ranged kind.Decimal _ _ (λ h. h)
fitted-is (value.Dec n) kind.Decimal = ranged kind.Decimal _ _ (λ h. h)
fitted-is (value.Logical c) kind.Logical = tt
fitted-is (value.Date d) kind.Date = ranged kind.Date _ _ (λ h. h)
fitted-is v k = unknown_is k

kept : (c : Bool) (v : Value) → c ≡ true → in_range c v ≡ Ok v
kept c v h = ap (λ (b : Bool). in_range b v) h

pub fitted-own : (v : Value) (k : Kind) → IsOfKind k v → fitted v k ≡ Ok v
unfolding fitted
fitted-own value.Unknown k h = refl
fitted-own (value.Text t) kind.Character h = kept (nat_le (length t) MAX_TEXT_BYTES) (value.Text t) (le-leb (length t) MAX_TEXT_BYTES h)
fitted-own (value.Int n) kind.Integer h = kept (fits_bits 31 n) (value.Int n) h
fitted-own (value.Int64 n) kind.Int64 h = kept (fits_bits 63 n) (value.Int64 n) h
fitted-own (value.Dec n) kind.Decimal h = kept (fits_bits 127 n) (value.Dec n) h
fitted-own (value.Logical c) kind.Logical h = refl
fitted-own (value.Date d) kind.Date h = kept (is_day d) (value.Date d) h
fitted-own v k h = absurd h

-- ---- what a call gives

ok_or : Value → Result Value ArithFault → Value
ok_or d (Ok v) = v
ok_or d (Err fault) = d

is_fine : Result Value ArithFault → Bool
is_fine (Ok v) = true
is_fine (Err fault) = false

pub own_value : (v w : Value) (k : Kind) → IsOfKind k v → Ok w ≡ fitted v k → w ≡ v
unfolding ok_or
own_value v w k h e = ap (ok_or v) (e ∙ fitted-own v k h)

pub fits_kind : (v w : Value) (k : Kind) → Ok w ≡ fitted v k → IsOfKind k w
fits_kind v w k e = subst (IsFitted k) (sym e) (fitted-is v k)

pub own_fault : (v : Value) (k : Kind) (fault : ArithFault) → IsOfKind k v → IsUnlessNoMemory (Err fault) (fitted v k) → fault ≡ ArithFault.NoMemory
unfolding is_fine
own_fault v k ArithFault.NoMemory h u = refl
own_fault v k ArithFault.Overflow h u = absurd (true≢false (sym (ap is_fine (u ∙ fitted-own v k h))))
