-- Lists of writes and of changes, with the later ones undone.
use Rattle.std.proofs.Common.{◌≡◌, ◌≢◌, ℕ, zero, suc, ◌≤◌, min, ◌||◌, Bool, true, false, cond, eqb, List, [], ◌∷◌, ◌++◌, take, drop, length, Option, refl, sym, ap, ◌∙◌, arith}
use Rattle.std.proofs.lemmas.List.{take-append-drop}
use Rattle.storage.specs.Slots as storage
use Rattle.storage.specs.Slots.{SlotState, Transaction, wrote}
use Rattle.storage.specs.declared.slots.Undo.{Undo}
use Rattle.row_fragments.proofs.Composes.{undone_append, undone_at}
use Rattle.database_meaning.specs.declared.state.StoredRow.{StoredRow}
use Rattle.row_store.specs.declared.store.RowChange.{RowChange}
use Rattle.row_store.specs.Changes.{RowsById, has_change, undone}
use Rattle.slot_rows.specs.Mixes.{rows_of, slots_of}
use Rattle.slot_rows.proofs.Histories.{Returns}

-- the elements from i on, of the first n and then of the others
pub drop_taken : {X : Type 0} (i n : ℕ) (xs : List X) → drop i (take n xs) ++ drop n xs ≡ drop (min i n) xs
drop_taken zero n xs = let e : 0 ≡ min 0 n = omega arith in take-append-drop n xs ∙ ap (λ (m : ℕ). drop m xs) e
drop_taken (suc i) zero xs = let e : 0 ≡ min (suc i) 0 = omega arith in ap (λ (m : ℕ). drop m xs) e
drop_taken (suc i) (suc n) [] = let e : suc (min i n) ≡ min (suc i) (suc n) = omega arith in ap (λ (m : ℕ). drop m []) e
drop_taken (suc i) (suc n) (x ∷ xs) = let e : suc (min i n) ≡ min (suc i) (suc n) = omega arith in drop_taken i n xs ∙ ap (λ (m : ℕ). drop m (x ∷ xs)) e

pub dropped : {X : Type 0} (n : ℕ) (xs : List X) → length xs ≤ n → drop n xs ≡ []
dropped zero [] le = refl
dropped (suc n) [] le = refl
dropped zero (x ∷ xs) le = absurd (omega arith)
dropped (suc n) (x ∷ xs) le = dropped n xs (omega arith)

pub take_left : {X : Type 0} (xs ys : List X) → take (length xs) (xs ++ ys) ≡ xs
take_left {X = X} [] ys = refl
take_left {X = X} (x ∷ xs) ys = ap (λ (zs : List X). x ∷ zs) (take_left xs ys)

pub drop_left : {X : Type 0} (xs ys : List X) → drop (length xs) (xs ++ ys) ≡ ys
drop_left [] ys = refl
drop_left (x ∷ xs) ys = drop_left xs ys

or_false : (a b : Bool) → (a || b) ≡ false → (a ≡ false) × (b ≡ false)
or_false true b e = absurd (cc e)
or_false false b e = (refl, e)

pub or_right : (a b : Bool) → b ≡ true → (a || b) ≡ true
or_right true b e = refl
or_right false b e = e

pub or_cases : {W : Type 0} (a b : Bool) → (a || b) ≡ true → (a ≡ true → W) → (b ≡ true → W) → W
or_cases true b e f g = f refl
or_cases false b e f g = g e

-- ---- writes of slots

pub wrote_drop : (n : ℕ) (us : List Undo) (k : ℕ) → wrote us k ≡ false → wrote (drop n us) k ≡ false
wrote_drop zero us k e = e
wrote_drop (suc n) [] k e = e
wrote_drop (suc n) (u ∷ us) k e = wrote_drop n us k (or_false (eqb k u.slot) (wrote us k) e).1

pub wrote_take : (n : ℕ) (us : List Undo) (k : ℕ) → wrote (take n us) k ≡ true → wrote us k ≡ true
wrote_take zero us k e = absurd (cc e)
wrote_take (suc n) [] k e = absurd (cc e)
wrote_take (suc n) (u ∷ us) k e = or_cases (eqb k u.slot) (wrote (take n us) k) e (λ here. ap (λ (b : Bool). b || wrote us k) here) (λ later. or_right (eqb k u.slot) (wrote us k) (wrote_take n us k later))

pub undone_rest : (us : List Undo) (f : ℕ → List ℕ) (k : ℕ) → wrote us k ≡ false → storage.undone us f k ≡ f k
undone_rest [] f k e = refl
undone_rest (u ∷ us) f k e =
    let parts = or_false (eqb k u.slot) (wrote us k) e in
    ap (λ (b : Bool). cond b u.old (storage.undone us f k)) parts.0 ∙ undone_rest us f k parts.1

undone_taken : (i n : ℕ) (us : List Undo) (f : ℕ → List ℕ) (k : ℕ) → storage.undone (drop i (take n us)) (storage.undone (drop n us) f) k ≡ storage.undone (drop (min i n) us) f k
undone_taken i n us f k = sym (undone_append (drop i (take n us)) (drop n us) f k) ∙ ap (λ (xs : List Undo). storage.undone xs f k) (drop_taken i n us)

-- the slots of `new` are those of `old` with the client's writes from n on undone
pub slots_return : (old new : SlotState) (client n : ℕ) → (new.transaction client).undo ≡ take n (old.transaction client).undo → ((c : ℕ) → c ≢ client → (new.transaction c).undo ≡ (old.transaction c).undo)
    → ((k : ℕ) → new.reads k ≡ storage.undone (drop n (old.transaction client).undo) old.reads k) → ((c k : ℕ) → c ≢ client → wrote (old.transaction c).undo k ≡ true → new.reads k ≡ old.reads k)
    → Returns (slots_of old) (slots_of new) client n
slots_return old new client n own others now rest = record {
  fewer = λ k w. wrote_take n (old.transaction client).undo k (sym (ap (λ (us : List Undo). wrote us k) own) ∙ w);
  same = λ c k ne. ap (λ (us : List Undo). wrote us k) (others c ne);
  now = now;
  own = λ i k.
      ap (λ (us : List Undo). storage.undone (drop i us) new.reads k) own
      ∙ (undone_at (drop i (take n (old.transaction client).undo)) new.reads (storage.undone (drop n (old.transaction client).undo) old.reads) k (now k)
      ∙ undone_taken i n (old.transaction client).undo old.reads k);
  others = λ c i k ne w.
      ap (λ (us : List Undo). storage.undone (drop i us) new.reads k) (others c ne) ∙ undone_at (drop i (old.transaction c).undo) new.reads old.reads k (rest c k ne w);
}

-- ---- changes of rows

pub changed_drop : (n : ℕ) (us : List RowChange) (k : ℕ) → has_change us k ≡ false → has_change (drop n us) k ≡ false
changed_drop zero us k e = e
changed_drop (suc n) [] k e = e
changed_drop (suc n) (u ∷ us) k e = changed_drop n us k (or_false (eqb k u.row) (has_change us k) e).1

pub changed_take : (n : ℕ) (us : List RowChange) (k : ℕ) → has_change (take n us) k ≡ true → has_change us k ≡ true
changed_take zero us k e = absurd (cc e)
changed_take (suc n) [] k e = absurd (cc e)
changed_take (suc n) (u ∷ us) k e = or_cases (eqb k u.row) (has_change (take n us) k) e (λ here. ap (λ (b : Bool). b || has_change us k) here) (λ later. or_right (eqb k u.row) (has_change us k) (changed_take n us k later))

pub rows_rest : (us : List RowChange) (f : RowsById) (k : ℕ) → has_change us k ≡ false → undone us f k ≡ f k
rows_rest [] f k e = refl
rows_rest (u ∷ us) f k e =
    let parts = or_false (eqb k u.row) (has_change us k) e in
    ap (λ (b : Bool). cond b u.old (undone us f k)) parts.0 ∙ rows_rest us f k parts.1

pub rows_append : (xs ys : List RowChange) (f : RowsById) (k : ℕ) → undone (xs ++ ys) f k ≡ undone xs (undone ys f) k
rows_append [] ys f k = refl
rows_append (u ∷ xs) ys f k = ap (λ (v : Option StoredRow). cond (eqb k u.row) u.old v) (rows_append xs ys f k)

pub rows_at : (us : List RowChange) (f g : RowsById) (k : ℕ) → f k ≡ g k → undone us f k ≡ undone us g k
rows_at [] f g k e = e
rows_at (u ∷ us) f g k e = ap (λ (v : Option StoredRow). cond (eqb k u.row) u.old v) (rows_at us f g k e)

pub changed_append : (xs ys : List RowChange) (k : ℕ) → has_change ys k ≡ true → has_change (xs ++ ys) k ≡ true
changed_append [] ys k e = e
changed_append (u ∷ xs) ys k e = or_right (eqb k u.row) (has_change (xs ++ ys) k) (changed_append xs ys k e)

pub changed_or : (xs ys : List RowChange) (k : ℕ) → has_change xs k ≡ false → has_change ys k ≡ false → has_change (xs ++ ys) k ≡ false
changed_or [] ys k e f = f
changed_or (u ∷ xs) ys k e f =
    let parts = or_false (eqb k u.row) (has_change xs k) e in
    ap (λ (b : Bool). b || has_change (xs ++ ys) k) parts.0 ∙ changed_or xs ys k parts.1 f

pub changed_left : (xs ys : List RowChange) (k : ℕ) → has_change xs k ≡ true → has_change (xs ++ ys) k ≡ true
changed_left [] ys k e = absurd (cc e)
changed_left (u ∷ xs) ys k e = or_cases (eqb k u.row) (has_change xs k) e (λ here. ap (λ (b : Bool). b || has_change (xs ++ ys) k) here) (λ later. or_right (eqb k u.row) (has_change (xs ++ ys) k) (changed_left xs ys k later))

rows_taken : (i n : ℕ) (us : List RowChange) (f : RowsById) (k : ℕ) → undone (drop i (take n us)) (undone (drop n us) f) k ≡ undone (drop (min i n) us) f k
rows_taken i n us f k = sym (rows_append (drop i (take n us)) (drop n us) f k) ∙ ap (λ (xs : List RowChange). undone xs f k) (drop_taken i n us)

-- the rows of `new` are those of `old` with the client's changes from n on undone
pub rows_return : (old new : ℕ → List RowChange) (was now : RowsById) (client n : ℕ) → new client ≡ take n (old client) → ((c : ℕ) → c ≢ client → new c ≡ old c)
    → ((k : ℕ) → now k ≡ undone (drop n (old client)) was k) → ((c k : ℕ) → c ≢ client → has_change (old c) k ≡ true → now k ≡ was k)
    → Returns (rows_of old was) (rows_of new now) client n
rows_return old new was now client n own others is rest = record {
  fewer = λ k w. changed_take n (old client) k (sym (ap (λ (us : List RowChange). has_change us k) own) ∙ w);
  same = λ c k ne. ap (λ (us : List RowChange). has_change us k) (others c ne);
  now = is;
  own = λ i k.
      ap (λ (us : List RowChange). undone (drop i us) now k) own
      ∙ (rows_at (drop i (take n (old client))) now (undone (drop n (old client)) was) k (is k)
      ∙ rows_taken i n (old client) was k);
  others = λ c i k ne w.
      ap (λ (us : List RowChange). undone (drop i us) now k) (others c ne) ∙ rows_at (drop i (old c)) now was k (rest c k ne w);
}
