-- Overlays and copies over changes that are undone.
use Rattle.std.proofs.Common.{◌≡◌, ◌≢◌, ℕ, zero, suc, ◌<◌, ◌≤◌, ◌==◌, ◌||◌, Bool, true, false, cond, eq-eqb, List, [], ◌∷◌, ◌++◌, length, take, drop, get_or, Option, Some, None, refl, sym, ap, ◌∙◌, inl, inr, arith}
use Rattle.std.specs.Prelude.{IsTrue}
use Rattle.std.specs.FinMap.{get, insert, empty}
use Rattle.std.proofs.lemmas.Bool.{cases_eq, ne_eqb}
use Rattle.std.proofs.lemmas.Bool.Decides.{nat_tests}
use Rattle.database_meaning.proofs.Maps.{get_insert_same, get_insert_other}
use Rattle.database_meaning.specs.declared.state.StoredRow.{StoredRow}
use Rattle.database_meaning.specs.State.{Overlay}
use Rattle.row_store.specs.declared.store.RowChange.{RowChange}
use Rattle.row_store.specs.Changes.{RowsById, with_row, undone, has_change, change_at, copy_at, IsOverlay, AreCopies, AreMarks}

-- ---- undoing

both_false : (a b : Bool) → a ≡ false → b ≡ false → (a || b) ≡ false
both_false a b p q = ap (λ (x : Bool). x || b) p ∙ q

under : (b : Bool) (x y z : Option StoredRow) → (b ≡ false → y ≡ z) → cond b x y ≡ cond b x z
under true x y z h = refl
under false x y z h = h refl

left_false : (a b : Bool) → (a || b) ≡ false → a ≡ false
left_false true b e = e
left_false false b e = refl

right_false : (a b : Bool) → (a || b) ≡ false → b ≡ false
right_false true b e = cc
right_false false b e = e

-- an undo at a row depends on that row alone
pub undone_cong : (changes : List RowChange) (v w : RowsById) (k : ℕ) → (has_change changes k ≡ false → v k ≡ w k) → undone changes v k ≡ undone changes w k
undone_cong [] v w k same = same refl
undone_cong (c ∷ changes) v w k same =
    under (k == c.row) c.old _ _ (λ no. undone_cong changes v w k (λ rest. same (both_false _ _ no rest)))

-- a row without a change stays
pub undone_other : (changes : List RowChange) (v : RowsById) (k : ℕ) → has_change changes k ≡ false → undone changes v k ≡ v k
undone_other [] v k other = refl
undone_other (c ∷ changes) v k other =
    ap (λ (b : Bool). cond b c.old (undone changes v k)) (left_false _ _ other) ∙ undone_other changes v k (right_false (k == c.row) _ other)

pub undone_append : (xs ys : List RowChange) (v : RowsById) → undone (xs ++ ys) v ≡ undone xs (undone ys v)
undone_append [] ys v = refl
undone_append (c ∷ xs) ys v = ap (λ (r : RowsById). with_row r c.row c.old) (undone_append xs ys v)

-- ---- parts of lists

pub drop_split : {A : Type 0} (xs : List A) (k m : ℕ) → k ≤ m → drop k (take m xs) ++ drop m xs ≡ drop k xs
drop_split xs zero zero le = refl
drop_split [] zero (suc m) le = refl
drop_split {A = A} (x ∷ xs) zero (suc m) le = ap (λ (r : List A). x ∷ r) (drop_split xs zero m (omega arith))
drop_split xs (suc k) zero le = absurd (omega arith)
drop_split [] (suc k) (suc m) le = refl
drop_split (x ∷ xs) (suc k) (suc m) le = drop_split xs k m (omega arith)

pub take_less : {A : Type 0} (xs : List A) (k m : ℕ) → k ≤ m → take k (take m xs) ≡ take k xs
take_less xs zero m le = refl
take_less xs (suc k) zero le = absurd (omega arith)
take_less [] (suc k) (suc m) le = refl
take_less {A = A} (x ∷ xs) (suc k) (suc m) le = ap (λ (r : List A). x ∷ r) (take_less xs k m (omega arith))

-- ---- copies

-- the copy of an earlier mark, looked at from a later one
pub copy_back : (rows : RowsById) (changes : List RowChange) (mark later : ℕ) → mark ≤ later
    → copy_at (undone (drop later changes) rows) (take later changes) mark ≡ copy_at rows changes mark
copy_back rows changes mark later le =
    let here : take mark (take later changes) ≡ take mark changes = take_less changes mark later le in
    let there : undone (drop mark (take later changes)) (undone (drop later changes) rows) ≡ undone (drop mark changes) rows =
    sym (undone_append (drop mark (take later changes)) (drop later changes) rows) ∙ ap (λ (r : List RowChange). undone r rows) (drop_split changes mark later le) in
    ap (λ (r : RowsById). change_at r (take mark (take later changes))) there ∙ ap (change_at (undone (drop mark changes) rows)) here

pub overlay_same : (overlay : Overlay) (a b : ℕ → Option (Option StoredRow)) → b ≡ a → IsOverlay overlay a → IsOverlay overlay b
overlay_same overlay a b is h k = h k ∙ ap (λ (f : ℕ → Option (Option StoredRow)). f k) (sym is)

-- the copies up to a mark, looked at from there
pub copies_back : (rows : RowsById) (changes : List RowChange) (later : ℕ) (low high : ℕ) (marks : List ℕ) (copies : List Overlay) (n : ℕ)
    → AreCopies rows changes marks copies → AreMarks low marks high → ((i : ℕ) → i < n → i < length marks → get_or marks i 0 ≤ later)
    → AreCopies (undone (drop later changes) rows) (take later changes) (take n marks) (take n copies)
copies_back rows changes later low high marks copies zero h m le = tt
copies_back rows changes later low high [] [] (suc n) h m le = tt
copies_back rows changes later low high [] (copy ∷ copies) (suc n) h m le = absurd h
copies_back rows changes later low high (mark ∷ marks) [] (suc n) h m le = absurd h
copies_back rows changes later low high (mark ∷ marks) (copy ∷ copies) (suc n) h m le = (
  overlay_same copy (copy_at rows changes mark) _ (copy_back rows changes mark later (le zero (omega arith) (omega arith))) h.0,
  copies_back rows changes later mark high marks copies n h.1 m.1 (λ i lt there. le (suc i) (omega arith) (omega arith)),
)

-- a mark is at most each later one
pub mark_at : (low high : ℕ) (marks : List ℕ) → AreMarks low marks high → (i : ℕ) → i < length marks → (low ≤ get_or marks i 0) × (get_or marks i 0 ≤ high)
mark_at low high [] m i lt = absurd (omega arith)
mark_at low high (mark ∷ marks) m zero lt = (m.0, high_over mark high marks m.1)
  where
    high_over : (low high : ℕ) (marks : List ℕ) → AreMarks low marks high → low ≤ high
    high_over low high [] m = m
    high_over low high (mark ∷ marks) m = let rest = high_over mark high marks m.1 in omega arith
mark_at low high (mark ∷ marks) m (suc i) lt =
    let rest = mark_at mark high marks m.1 i (omega arith) in
    (omega arith, rest.1)

pub marks_rise : (low high : ℕ) (marks : List ℕ) → AreMarks low marks high → (i j : ℕ) → i ≤ j → j < length marks → get_or marks i 0 ≤ get_or marks j 0
marks_rise low high [] m i j le lt = absurd (omega arith)
marks_rise low high (mark ∷ marks) m zero zero le lt = omega arith
marks_rise low high (mark ∷ marks) m zero (suc j) le lt = (mark_at mark high marks m.1 j (omega arith)).0
marks_rise low high (mark ∷ marks) m (suc i) zero le lt = absurd (omega arith)
marks_rise low high (mark ∷ marks) m (suc i) (suc j) le lt = marks_rise mark high marks m.1 i j (omega arith) (omega arith)

pub copy_of : (rows : RowsById) (changes : List RowChange) (marks : List ℕ) (copies : List Overlay) (i : ℕ) → AreCopies rows changes marks copies → i < length marks
    → IsOverlay (get_or copies i empty) (copy_at rows changes (get_or marks i 0))
copy_of rows changes [] [] i h lt = absurd (omega arith)
copy_of rows changes [] (copy ∷ copies) i h lt = absurd h
copy_of rows changes (mark ∷ marks) [] i h lt = absurd h
copy_of rows changes (mark ∷ marks) (copy ∷ copies) zero h lt = h.0
copy_of rows changes (mark ∷ marks) (copy ∷ copies) (suc i) h lt = copy_of rows changes marks copies i h.1 (omega arith)

-- ---- other clients

pub change_same : (rows other : RowsById) (changes : List RowChange) → ((k : ℕ) → IsTrue (has_change changes k) → other k ≡ rows k) → (k : ℕ) → change_at other changes k ≡ change_at rows changes k
change_same rows other changes same k = at (has_change changes k) refl
  where
    at : (b : Bool) → has_change changes k ≡ b → cond b (Some (other k)) None ≡ cond b (Some (rows k)) None
    at true is = ap Some (same k is)
    at false is = refl

wider : (b p q : Bool) → (IsTrue p → IsTrue q) → IsTrue (b || p) → IsTrue (b || q)
wider true p q f h = h
wider false p q f h = f h

pub has_change_take : (changes : List RowChange) (n k : ℕ) → IsTrue (has_change (take n changes) k) → IsTrue (has_change changes k)
has_change_take changes zero k h = let clash : false ≡ true = h in cc
has_change_take [] (suc n) k h = h
has_change_take (c ∷ changes) (suc n) k h = wider (k == c.row) _ _ (has_change_take changes n k) h

copy_same : (rows other : RowsById) (changes : List RowChange) (mark : ℕ) → ((k : ℕ) → IsTrue (has_change changes k) → other k ≡ rows k) → (k : ℕ) → copy_at other changes mark k ≡ copy_at rows changes mark k
copy_same rows other changes mark same k =
    change_same (undone (drop mark changes) rows) (undone (drop mark changes) other) (take mark changes)
    (λ q there. undone_cong (drop mark changes) other rows q (λ no. same q (has_change_take changes mark q there))) k

pub copies_same : (rows other : RowsById) (changes : List RowChange) (marks : List ℕ) (copies : List Overlay) → ((k : ℕ) → IsTrue (has_change changes k) → other k ≡ rows k)
    → AreCopies rows changes marks copies → AreCopies other changes marks copies
copies_same rows other changes [] [] same h = tt
copies_same rows other changes [] (copy ∷ copies) same h = h
copies_same rows other changes (mark ∷ marks) [] same h = h
copies_same rows other changes (mark ∷ marks) (copy ∷ copies) same h =
    ((λ k. h.0 k ∙ sym (copy_same rows other changes mark same k)), copies_same rows other changes marks copies same h.1)

-- ---- one change more

has_change_more : (changes : List RowChange) (e : RowChange) (k : ℕ) → has_change (changes ++ e ∷ []) k ≡ (has_change changes k || (k == e.row))
has_change_more [] e k = or_false (k == e.row)
  where
    or_false : (b : Bool) → (b || false) ≡ b
    or_false true = refl
    or_false false = refl
has_change_more (c ∷ changes) e k = ap (λ (b : Bool). (k == c.row) || b) (has_change_more changes e k) ∙ sym (or_assoc (k == c.row) (has_change changes k) (k == e.row))
  where
    or_assoc : (a b c : Bool) → ((a || b) || c) ≡ (a || (b || c))
    or_assoc true b c = refl
    or_assoc false b c = refl

pub with_row_same : (rows : RowsById) (row : ℕ) (value : Option StoredRow) → with_row rows row value row ≡ value
with_row_same rows row value = grind (arith, nat_tests)

pub with_row_other : (rows : RowsById) (row : ℕ) (value : Option StoredRow) (k : ℕ) → k ≢ row → with_row rows row value k ≡ rows k
with_row_other rows row value k ne = grind (arith, nat_tests)

-- the overlay with a change more
pub overlay_more : (rows : RowsById) (changes : List RowChange) (row : ℕ) (before value : Option StoredRow) (overlay : Overlay) → IsOverlay overlay (change_at rows changes)
    → IsOverlay (insert overlay row value) (change_at (with_row rows row value) (changes ++ record { row = row; old = before } ∷ []))
overlay_more rows changes row before value overlay h k =
    elim (cases_eq k row) [
      | inl is ↦
          let touched : has_change (changes ++ record { row = row; old = before } ∷ []) k ≡ true = has_change_more changes (record { row = row; old = before }) k ∙ last_true (has_change changes k) (k == row) (eq-eqb k row is) in
          ap (get (insert overlay row value)) is ∙ (get_insert_same overlay row value
          ∙ sym (ap (λ (b : Bool). cond b (Some (with_row rows row value k)) None) touched ∙ ap Some (ap (with_row rows row value) is ∙ with_row_same rows row value)))
      | inr ne ↦
          let touched : has_change (changes ++ record { row = row; old = before } ∷ []) k ≡ has_change changes k = has_change_more changes (record { row = row; old = before }) k ∙ last_false (has_change changes k) (k == row) (ne_eqb k row ne) in
          get_insert_other overlay row value k ne ∙ (h k
          ∙ sym (ap (λ (b : Bool). cond b (Some (with_row rows row value k)) None) touched ∙ ap (λ (o : Option StoredRow). cond (has_change changes k) (Some o) None) (with_row_other rows row value k ne)))
    ]
  where
    last_true : (a b : Bool) → b ≡ true → (a || b) ≡ true
    last_true true b e = refl
    last_true false b e = e

    last_false : (a b : Bool) → b ≡ false → (a || b) ≡ a
    last_false true b e = refl
    last_false false b e = e

take_more : {A : Type 0} (xs ys : List A) (n : ℕ) → n ≤ length xs → take n (xs ++ ys) ≡ take n xs
take_more xs ys zero le = refl
take_more [] ys (suc n) le = absurd (omega arith)
take_more {A = A} (x ∷ xs) ys (suc n) le = ap (λ (r : List A). x ∷ r) (take_more xs ys n (omega arith))

drop_more : {A : Type 0} (xs ys : List A) (n : ℕ) → n ≤ length xs → drop n (xs ++ ys) ≡ drop n xs ++ ys
drop_more xs ys zero le = refl
drop_more [] ys (suc n) le = absurd (omega arith)
drop_more (x ∷ xs) ys (suc n) le = drop_more xs ys n (omega arith)

-- a change and its undo leave the rows
covered : (rows : RowsById) (row : ℕ) (before value : Option StoredRow) → before ≡ rows row → with_row (with_row rows row value) row before ≡ rows
covered rows row before value is = λ i k. at k i
  where
    at : (k : ℕ) → with_row (with_row rows row value) row before k ≡ rows k
    at k = elim (cases_eq k row) [
      | inl same ↦ ap (with_row (with_row rows row value) row before) same ∙ (with_row_same (with_row rows row value) row before ∙ (is ∙ ap rows (sym same)))
      | inr ne ↦ with_row_other (with_row rows row value) row before k ne ∙ with_row_other rows row value k ne
    ]

copy_more : (rows : RowsById) (changes : List RowChange) (row : ℕ) (before value : Option StoredRow) (mark : ℕ) → before ≡ rows row → mark ≤ length changes
    → copy_at (with_row rows row value) (changes ++ record { row = row; old = before } ∷ []) mark ≡ copy_at rows changes mark
copy_more rows changes row before value mark is le =
    let e : RowChange = record { row = row; old = before } in
    let later : undone (drop mark (changes ++ e ∷ [])) (with_row rows row value) ≡ undone (drop mark changes) rows =
    ap (λ (r : List RowChange). undone r (with_row rows row value)) (drop_more changes (e ∷ []) mark le)
    ∙ (undone_append (drop mark changes) (e ∷ []) (with_row rows row value) ∙ ap (undone (drop mark changes)) (covered rows row before value is)) in
    ap (λ (r : RowsById). change_at r (take mark (changes ++ e ∷ []))) later ∙ ap (change_at (undone (drop mark changes) rows)) (take_more changes (e ∷ []) mark le)

-- the copies stay over a change more
pub copies_more : (rows : RowsById) (changes : List RowChange) (row : ℕ) (before value : Option StoredRow) (low : ℕ) (marks : List ℕ) (copies : List Overlay) → before ≡ rows row → AreMarks low marks (length changes)
    → AreCopies rows changes marks copies → AreCopies (with_row rows row value) (changes ++ record { row = row; old = before } ∷ []) marks copies
copies_more rows changes row before value low [] [] is m h = tt
copies_more rows changes row before value low [] (copy ∷ copies) is m h = h
copies_more rows changes row before value low (mark ∷ marks) [] is m h = h
copies_more rows changes row before value low (mark ∷ marks) (copy ∷ copies) is m h =
    let le = (mark_at low (length changes) (mark ∷ marks) m 0 (omega arith)).1 in
    (overlay_same copy (copy_at rows changes mark) _ (copy_more rows changes row before value mark is le) h.0, copies_more rows changes row before value mark marks copies is m.1 h.1)
