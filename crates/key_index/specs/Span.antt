-- The keys among which a search looks: those between two ends.
use Rattle.std.specs.Prelude.{◌≡◌, ℕ, Bool, true, false, List, Vec, Option, Some, None}
use Rattle.std.specs.Ordering.{nat_cmp, is_gt}
use Rattle.std.specs.BTreeMap.Range.{IsLeBy, IsLtBy}
use Rattle.std.specs.Cmp.Lexicographic.{slice_cmp}
use Rattle.std.specs.Range.Bound.{IsForward}
use Rattle.std.specs.declared.ops.Bound.{Bound}
use Rattle.std.specs.declared.ops.Bound.TheVariants.{Included, Excluded, Unbounded}
use Rattle.database_protocol.specs.declared.row_order.Cursor.{Cursor}
use Rattle.key_index.specs.Search.{BeginsWith, IsKeyBefore, IsKeyBeyond}

-- a key equals another or precedes it
abbrev pub IsKeyUpTo : List ℕ → List ℕ → Type 0
IsKeyUpTo key other = is_gt (slice_cmp nat_cmp key other) ≡ false

module _ {Z : Type 0} where
  -- the key is not before the start
  abbrev pub IsFromStart : Bound (Vec ℕ Z) → List ℕ → Type 0
  IsFromStart (Included from) key = IsKeyUpTo from.items key
  IsFromStart (Excluded from) key = IsKeyBefore from.items key
  IsFromStart Unbounded key = Unit {0}

  -- the key is not past the end
  abbrev pub IsUpToEnd : Bound (Vec ℕ Z) → List ℕ → Type 0
  IsUpToEnd (Included to) key = IsKeyUpTo key to.items
  IsUpToEnd (Excluded to) key = IsKeyBefore key to.items
  IsUpToEnd Unbounded key = Unit {0}

  -- the key is before these bytes, where there are any
  abbrev pub IsBeforeEnd : Option (Vec ℕ Z) → List ℕ → Type 0
  IsBeforeEnd None key = Unit {0}
  IsBeforeEnd (Some end) key = IsKeyBefore key end.items

  -- bytes as the end of a range that they are not in
  abbrev pub end_at : Option (Vec ℕ Z) → Bound (Vec ℕ Z)
  end_at None = Unbounded
  end_at (Some end) = Excluded end

-- the range is well ordered, contains every key with the prefix beyond the cursor's, and no key at or before the cursor's
pub record IsSpan {Z : Type 0} (cursor : Option Cursor) (prefix : List ℕ) (forward : Bool) (start end : Bound (Vec ℕ Z)) : Type 0 where
  pub in_order : IsForward (IsLeBy (λ x y. slice_cmp nat_cmp x.items y.items)) (IsLtBy (λ x y. slice_cmp nat_cmp x.items y.items)) start end
  pub covers : (key : List ℕ) → BeginsWith key prefix → IsKeyBeyond cursor forward key → IsFromStart start key × IsUpToEnd end key
  pub beyond : (key : List ℕ) → IsFromStart start key → IsUpToEnd end key → IsKeyBeyond cursor forward key

-- no key with the prefix is beyond the cursor's
abbrev pub IsNoSpan : Option Cursor → List ℕ → Bool → Type 0
IsNoSpan cursor prefix forward = (key : List ℕ) → BeginsWith key prefix → ¬ IsKeyBeyond cursor forward key

-- what the ends say of a range that ends before the given bytes: none where no key lies in it
abbrev pub IsInOrder : {Z : Type 0} → Bound (Vec ℕ Z) → Option (Vec ℕ Z) → Option (Bound (Vec ℕ Z) × Bound (Vec ℕ Z)) → Type 0
IsInOrder start end None = (key : List ℕ) → IsFromStart start key → ¬ IsBeforeEnd end key
IsInOrder start end (Some ends) =
    IsForward (IsLeBy (λ x y. slice_cmp nat_cmp x.items y.items)) (IsLtBy (λ x y. slice_cmp nat_cmp x.items y.items)) ends.0 ends.1 × (ends.0 ≡ start) × (ends.1 ≡ end_at end)

-- the start is before these bytes, or no key from it on is
abbrev pub StartsBefore : {Z : Type 0} → Bound (Vec ℕ Z) → List ℕ → Bool → Type 0
StartsBefore (Included from) bytes true = IsKeyBefore from.items bytes
StartsBefore (Excluded from) bytes true = IsKeyBefore from.items bytes
StartsBefore Unbounded bytes true = Unit {0}
StartsBefore start bytes false = (key : List ℕ) → IsFromStart start key → ¬ IsKeyBefore key bytes
