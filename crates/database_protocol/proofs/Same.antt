-- Operations, cursors and values that `==` finds equal are the same.
use Rattle.std.proofs.Common.{◌≡◌, ◌↔◌, ◌&&◌, ℕ, Bool, true, false, IsTrue, Option, Some, None, List, nat_eq, refl, sym, subst}
use mathlib.Core.Bool.{true≢false, beq}
use Rattle.std.specs.Cmp.{unsigned_Decides as nat_same, signed_Decides as int_same, booleans_Decides as bool_same}
use Rattle.std.specs.Option.{option_eq}
use Rattle.std.specs.Cmp.Lexicographic.{pointwise, pointwise_decides, bytes_decides}
use Rattle.abl_base.specs.declared.value.Value.{Value}
use Rattle.abl_base.specs.declared.value.Value.TheVariants.{Text, Int, Int64, Dec, Logical, Date, Unknown}
use Rattle.abl_base.specs.declared.row.RowId.{RowId}
use Rattle.abl_base.specs.contracts.value.ValuePartialEq.TheImpl as value_impl
use Rattle.abl_base.specs.contracts.row.RowIdPartialEq.TheImpl as row_impl
use Rattle.database_protocol.specs.declared.operation.Op.{Op}
use Rattle.database_protocol.specs.declared.operation.Op.TheVariants.{Enter, Leave, Back, Next, Get, Lock, Insert, Put, Delete, Drop as DropLock, NextValue, CurrentValue, End}
use Rattle.database_protocol.specs.declared.row_order.Cursor.{Cursor}
use Rattle.database_protocol.specs.contracts.row_order.CursorPartialEq.TheImpl as cursor_impl
use Rattle.database_protocol.specs.contracts.operation.OpPartialEq.TheImpl as op_impl

-- ---- parts

both : (p q : Bool) {P Q : Type 0} → IsTrue p ↔ P → IsTrue q ↔ Q → IsTrue (p && q) ↔ (P × Q)
both true q p_is q_is = (λ e. (p_is.0 refl, q_is.0 e), λ d. q_is.1 d.1)
both false q p_is q_is = (λ e. absurd (true≢false (sym e)), λ d. p_is.1 d.0)

-- what is so of equal values, where it is so of a value and itself
backward : {A : Type 0} (E : A → A → Bool) → ((a : A) → IsTrue (E a a)) → (a b : A) → a ≡ b → IsTrue (E a b)
backward E own a b e = subst (λ x. IsTrue (E a x)) e (own a)

none : {P : Type 0} → IsTrue false → P
none e = absurd (true≢false (sym e))

-- ---- values

value_forward : (a b : Value) → IsTrue ((value_impl.ghosts).eq a b) → a ≡ b
value_forward (Text a) (Text b) e = λ i. Text ((bytes_decides a b).0 e i)
value_forward (Int a) (Int b) e = λ i. Int ((int_same a b).0 e i)
value_forward (Int64 a) (Int64 b) e = λ i. Int64 ((int_same a b).0 e i)
value_forward (Dec a) (Dec b) e = λ i. Dec ((int_same a b).0 e i)
value_forward (Logical a) (Logical b) e = λ i. Logical ((bool_same a b).0 e i)
value_forward (Date a) (Date b) e = λ i. Date ((int_same a b).0 e i)
value_forward Unknown Unknown e = refl
value_forward a b e = none e

value_own : (a : Value) → IsTrue ((value_impl.ghosts).eq a a)
value_own (Text a) = (bytes_decides a a).1 refl
value_own (Int a) = (int_same a a).1 refl
value_own (Int64 a) = (int_same a a).1 refl
value_own (Dec a) = (int_same a a).1 refl
value_own (Logical a) = (bool_same a a).1 refl
value_own (Date a) = (int_same a a).1 refl
value_own Unknown = refl

value_same : (a b : Value) → IsTrue ((value_impl.ghosts).eq a b) ↔ (a ≡ b)
value_same a b = (value_forward a b, backward ((value_impl.ghosts).eq) value_own a b)

row_same : (a b : RowId) → IsTrue ((row_impl.ghosts).eq a b) ↔ (a ≡ b)
row_same a b = (λ e i. record { 0 = (nat_same a.0 b.0).0 e i }, λ e. (nat_same a.0 b.0).1 (λ i. (e i).0))

values_same : (a b : List Value) → IsTrue (pointwise ((value_impl.ghosts).eq) a b) ↔ (a ≡ b)
values_same = pointwise_decides value_same

rows_same : (a b : List RowId) → IsTrue (pointwise ((row_impl.ghosts).eq) a b) ↔ (a ≡ b)
rows_same = pointwise_decides row_same

-- ---- places

cursor_same : (a b : Cursor) → IsTrue ((cursor_impl.ghosts).eq a b) ↔ (a ≡ b)
cursor_same a b =
    let parts = both (pointwise nat_eq a.key b.key) (nat_eq a.row.0 b.row.0) (bytes_decides a.key b.key) (row_same a.row b.row) in
    (λ e i. record { key = (parts.0 e).0 i; row = (parts.0 e).1 i }, λ e. parts.1 (λ i. (e i).key, λ i. (e i).row))

option_forward : {A : Type 0} (E : A → A → Bool) → ((a b : A) → IsTrue (E a b) ↔ (a ≡ b)) → (a b : Option A) → IsTrue (option_eq E a b) → a ≡ b
option_forward E same (Some a) (Some b) e = λ i. Some ((same a b).0 e i)
option_forward E same None None e = refl
option_forward E same a b e = none e

option_own : {A : Type 0} (E : A → A → Bool) → ((a b : A) → IsTrue (E a b) ↔ (a ≡ b)) → (a : Option A) → IsTrue (option_eq E a a)
option_own E same (Some a) = (same a a).1 refl
option_own E same None = refl

option_same : {A : Type 0} (E : A → A → Bool) → ((a b : A) → IsTrue (E a b) ↔ (a ≡ b)) → (a b : Option A) → IsTrue (option_eq E a b) ↔ (a ≡ b)
option_same E same a b = (option_forward E same a b, backward (option_eq E) (option_own E same) a b)

-- ---- operations

module _ (t u : ℕ) where
  row_parts : (r q : RowId) → IsTrue (nat_eq t u && nat_eq r.0 q.0) ↔ ((t ≡ u) × (r ≡ q))
  row_parts r q = both _ _ (nat_same t u) (row_same r q)

  values_parts : (a b : List Value) → IsTrue (nat_eq t u && pointwise ((value_impl.ghosts).eq) a b) ↔ ((t ≡ u) × (a ≡ b))
  values_parts a b = both _ _ (nat_same t u) (values_same a b)

  put_parts : (r q : RowId) (a b : List Value) → IsTrue (nat_eq t u && (nat_eq r.0 q.0 && pointwise ((value_impl.ghosts).eq) a b)) ↔ ((t ≡ u) × ((r ≡ q) × (a ≡ b)))
  put_parts r q a b = both _ _ (nat_same t u) (both _ _ (row_same r q) (values_same a b))

  lock_parts : (r q : RowId) (e f w v : Bool) → IsTrue (nat_eq t u && (nat_eq r.0 q.0 && (beq e f && beq w v))) ↔ ((t ≡ u) × ((r ≡ q) × ((e ≡ f) × (w ≡ v))))
  lock_parts r q e f w v = both _ _ (nat_same t u) (both _ _ (row_same r q) (both _ _ (bool_same e f) (bool_same w v)))

  next_parts :
      (i j : Option ℕ) (p q : List Value) (c d : Option Cursor) (f g : Bool) →
      IsTrue (nat_eq t u && (option_eq nat_eq i j && (pointwise ((value_impl.ghosts).eq) p q && (option_eq ((cursor_impl.ghosts).eq) c d && beq f g))))
      ↔ ((t ≡ u) × ((i ≡ j) × ((p ≡ q) × ((c ≡ d) × (f ≡ g)))))
  next_parts i j p q c d f g =
      both _ _ (nat_same t u) (both _ _ (option_same nat_eq nat_same i j) (both _ _ (values_same p q) (both _ _ (option_same ((cursor_impl.ghosts).eq) cursor_same c d) (bool_same f g))))

op_forward : (a b : Op) → IsTrue ((op_impl.ghosts).eq a b) → a ≡ b
op_forward Enter Enter e = refl
op_forward (Leave a) (Leave b) e = λ i. Leave ((rows_same a b).0 e i)
op_forward (Back a) (Back b) e = λ i. Back ((nat_same a b).0 e i)
op_forward (Next t i p c f) (Next u j q d g) e =
    let s = (next_parts t u i j p q c d f g).0 e in
    λ k. Next (s.0 k) (s.1.0 k) (s.1.1.0 k) (s.1.1.1.0 k) (s.1.1.1.1 k)
op_forward (Get t r) (Get u q) e = let s = (row_parts t u r q).0 e in λ k. Get (s.0 k) (s.1 k)
op_forward (Lock t r x w) (Lock u q y v) e =
    let s = (lock_parts t u r q x y w v).0 e in
    λ k. Lock (s.0 k) (s.1.0 k) (s.1.1.0 k) (s.1.1.1 k)
op_forward (Insert t a) (Insert u b) e = let s = (values_parts t u a b).0 e in λ k. Insert (s.0 k) (s.1 k)
op_forward (Put t r a) (Put u q b) e = let s = (put_parts t u r q a b).0 e in λ k. Put (s.0 k) (s.1.0 k) (s.1.1 k)
op_forward (Delete t r) (Delete u q) e = let s = (row_parts t u r q).0 e in λ k. Delete (s.0 k) (s.1 k)
op_forward (DropLock r) (DropLock q) e = λ i. DropLock ((row_same r q).0 e i)
op_forward (NextValue a) (NextValue b) e = λ i. NextValue ((nat_same a b).0 e i)
op_forward (CurrentValue a) (CurrentValue b) e = λ i. CurrentValue ((nat_same a b).0 e i)
op_forward End End e = refl
op_forward a b e = none e

op_own : (a : Op) → IsTrue ((op_impl.ghosts).eq a a)
op_own Enter = refl
op_own (Leave a) = (rows_same a a).1 refl
op_own (Back a) = (nat_same a a).1 refl
op_own (Next t i p c f) = (next_parts t t i i p p c c f f).1 (refl, (refl, (refl, (refl, refl))))
op_own (Get t r) = (row_parts t t r r).1 (refl, refl)
op_own (Lock t r x w) = (lock_parts t t r r x x w w).1 (refl, (refl, (refl, refl)))
op_own (Insert t a) = (values_parts t t a a).1 (refl, refl)
op_own (Put t r a) = (put_parts t t r r a a).1 (refl, (refl, refl))
op_own (Delete t r) = (row_parts t t r r).1 (refl, refl)
op_own (DropLock r) = (row_same r r).1 refl
op_own (NextValue a) = (nat_same a a).1 refl
op_own (CurrentValue a) = (nat_same a a).1 refl
op_own End = refl

pub op_same : (a b : Op) → IsTrue ((op_impl.ghosts).eq a b) ↔ (a ≡ b)
op_same a b = (op_forward a b, backward ((op_impl.ghosts).eq) op_own a b)
