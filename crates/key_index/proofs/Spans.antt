-- The ends of the keys among which a search looks.
use Rattle.std.proofs.Common.{◌≡◌, ◌↔◌, ℕ, List, Bool, true, false, not, IsTrue, Option, Some, None, IfSome, MatchOption, Vec, refl, sym, subst}
use Rattle.std.specs.declared.ops.Bound.{Bound}
use Rattle.std.specs.declared.ops.Bound.TheVariants.{Included, Excluded}
use Rattle.database_protocol.specs.declared.row_order.Cursor.{Cursor}
use Rattle.abl_base.proofs.Bools.{not_true}
use Rattle.key_index.specs.Search.{BeginsWith, IsKeyBefore, IsKeyBeyond}
use Rattle.key_index.specs.Span.{IsFromStart, IsUpToEnd, IsBeforeEnd, IsInOrder, IsNoSpan, IsSpan, StartsBefore, end_at}
use Rattle.key_index.proofs.Orders.{before_before, before_upto, upto_before, upto_from_not_before}

false_not_true : false ≡ true → ⊥
false_not_true h = cc

-- a key that does not precede the end follows all that do
pub past_end : (b : Bool) (key bytes other : List ℕ) → (IsTrue b ↔ IsKeyBefore key bytes) → IsTrue (not b) → IsKeyBefore other bytes → IsKeyBefore other key
past_end b key bytes other iff past before = before_upto other bytes key before (upto_from_not_before bytes key (λ less. not_true b past (iff.1 less)))

module _ {Z : Type 0} where
  pub starts_included : (from : Vec ℕ Z) (bytes : List ℕ) (b : Bool) → (IsTrue b ↔ IsKeyBefore from.items bytes) → StartsBefore (Included from) bytes b
  starts_included from bytes true iff = iff.0 refl
  starts_included from bytes false iff = λ key upto less. false_not_true (iff.1 (upto_before from.items key bytes upto less))

  pub starts_excluded : (from : Vec ℕ Z) (bytes : List ℕ) (b : Bool) → (IsTrue b ↔ IsKeyBefore from.items bytes) → StartsBefore (Excluded from) bytes b
  starts_excluded from bytes true iff = iff.0 refl
  starts_excluded from bytes false iff = λ key before less. false_not_true (iff.1 (before_before from.items key bytes before less))

  end_from_before : (end : Option (Vec ℕ Z)) (key : List ℕ) → IsBeforeEnd end key → IsUpToEnd (end_at end) key
  end_from_before None key h = h
  end_from_before (Some bytes) key h = h

  before_from_end : (end : Option (Vec ℕ Z)) (key : List ℕ) → IsUpToEnd (end_at end) key → IsBeforeEnd end key
  before_from_end None key h = h
  before_from_end (Some bytes) key h = h

  -- bytes that follow all keys with a prefix are an end of them
  pub before_after : (end : Option (Vec ℕ Z)) (prefix : List ℕ) → IfSome end (λ bytes. (key : List ℕ) → BeginsWith key prefix → IsKeyBefore key bytes.items) → (key : List ℕ) → BeginsWith key prefix → IsBeforeEnd end key
  before_after None prefix h key begins = tt
  before_after (Some bytes) prefix h key begins = h key begins

  pub span_in_order : (cursor : Option Cursor) (prefix : List ℕ) (forward : Bool) (start : Bound (Vec ℕ Z)) (end : Option (Vec ℕ Z)) (r : Option (Bound (Vec ℕ Z) × Bound (Vec ℕ Z))) → IsInOrder start end r
      → ((key : List ℕ) → BeginsWith key prefix → IsKeyBeyond cursor forward key → IsFromStart start key × IsBeforeEnd end key)
      → ((key : List ℕ) → IsFromStart start key → IsBeforeEnd end key → IsKeyBeyond cursor forward key)
      → MatchOption r (IsNoSpan cursor prefix forward) (λ e. IsSpan cursor prefix forward e.0 e.1)
  span_in_order cursor prefix forward start end None order covers beyond = λ key begins far. order key (covers key begins far).0 (covers key begins far).1
  span_in_order cursor prefix forward start end (Some e) order covers beyond = record {
    in_order = order.0;
    covers = λ key begins far. (
      subst (λ (b : Bound (Vec ℕ Z)). IsFromStart b key) (sym order.1) (covers key begins far).0,
      subst (λ (b : Bound (Vec ℕ Z)). IsUpToEnd b key) (sym order.2) (end_from_before end key (covers key begins far).1),
    );
    beyond = λ key from upto.
        beyond key (subst (λ (b : Bound (Vec ℕ Z)). IsFromStart b key) order.1 from) (before_from_end end key (subst (λ (b : Bound (Vec ℕ Z)). IsUpToEnd b key) order.2 upto));
  }

  pub span_of : (cursor : Option Cursor) (given prefix : List ℕ) (forward : Bool) (r : Option (Bound (Vec ℕ Z) × Bound (Vec ℕ Z))) (e : Bound (Vec ℕ Z) × Bound (Vec ℕ Z)) → r ≡ Some e → given ≡ prefix
      → MatchOption r (IsNoSpan cursor given forward) (λ e. IsSpan cursor given forward e.0 e.1) → IsSpan cursor prefix forward e.0 e.1
  span_of cursor given prefix forward r e is same h =
      subst (λ (p : List ℕ). IsSpan cursor p forward e.0 e.1) same
      (subst (λ (o : Option (Bound (Vec ℕ Z) × Bound (Vec ℕ Z))). MatchOption o (IsNoSpan cursor given forward) (λ e. IsSpan cursor given forward e.0 e.1)) is h)
