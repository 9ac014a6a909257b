-- The invariant `IsKept` of the slots for rows is preserved by changes of the places and by writes.
use Rattle.std.proofs.Common.{◌≡◌, ◌≢◌, ◌⊎◌, inl, inr, ⊎_elim, ℕ, zero, suc, ◌+◌, ◌<◌, ◌||◌, cond, eqb, Bool, true, false, List, [], ◌∷◌, ◌++◌, drop, replicate, refl, sym, ap, ◌∙◌, subst, arith}
use Rattle.std.specs.List.{Contains}
use Rattle.std.proofs.lemmas.Bool.{cases_eq}
use Rattle.std.proofs.lemmas.Bool.Decides.{nat_tests}
use Rattle.abl_values.specs.Rows.{number_at_head}
use Rattle.storage.specs.Slots.{SlotState, Transaction, IsReadable, wrote}
use Rattle.storage.specs.declared.slots.Undo.{Undo}
use Rattle.row_fragments.specs.Fragments.{Holds, ends, first_or_zero, kind_in, next_in}
use Rattle.row_fragments.specs.Kinds.{HaveKinds}
use Rattle.row_fragments.specs.Calls.{Covers, Wrote}
use Rattle.row_fragments.specs.Tied.{IsTied, IsValue}
use Rattle.row_fragments.proofs.Composes.{covers_append, wrote_append, readable_on}
use Rattle.row_fragments.proofs.Within.{none_in, head_in, tail_in}
use Rattle.byte_rows.specs.declared.places.Place.{Place}
use Rattle.byte_rows.specs.Places.{AreLaid, AreReady, Fits, IsKept, IsReady, owner_in, place_in, previous_in, row_in}

-- a slot is in a list, or it is not
pub among : (xs : List ℕ) (k : ℕ) → Contains xs k ⊎ (¬ Contains xs k)
among [] k = inr (none_in k)
among (x ∷ xs) k = elim (cases_eq k x) [
  | inl e ↦ inl (subst (Contains (x ∷ xs)) (sym e) (head_in x xs))
  | inr ne ↦ ⊎_elim (λ (h : Contains xs k). inl (tail_in x k xs h)) (λ (out : ¬ Contains xs k). inr (past ne out)) (among xs k)
]
  where
    past : k ≢ x → ¬ Contains xs k → ¬ Contains (x ∷ xs) k
    past ne out (zero, within, is) = ne (sym is)
    past ne out (suc i, within, is) = out (i, omega arith, is)

-- a free slot has no next one
pub free_ends : (bytes : List ℕ) → kind_in bytes ≡ 0 → ends (next_in bytes) ≡ true
free_ends bytes is = ap (λ (n : ℕ). ends (cond (eqb n 0) 0 (number_at_head 4 (drop 4 bytes)))) is

pub not_both : (b : Bool) → b ≡ true → b ≡ false → ⊥
not_both true e f = cc f
not_both false e f = cc e

pub not_here : {X : Type 0} (k n : ℕ) (x y : X) → k ≢ n → cond (eqb k n) x y ≡ y
not_here k n x y ne = let other : eqb k n ≡ false = grind (arith, nat_tests, ne) in ap (λ (b : Bool). cond b x y) other

-- the invariant ties slots to rows
pub tied_of : (s : SlotState) (places : List Place) → IsKept s places → IsReadable s → IsTied (IsValue s) (row_in places)
tied_of s places kept readable = record {
  first = λ k bytes is within kind. (kept.fits readable k bytes within is).first kind;
  next = λ k bytes is within more. (kept.fits readable k bytes within is).next more;
}

-- ---- slots are noted as a row's

-- the place of a slot of the chain, before and after it is laid
record Moved (was now : Place) (k row owner : ℕ) : Type 0 where
  pub within : ends k ≡ false
  pub previous : ℕ
  pub ready : IsReady was row previous owner
  pub laid : now ≡ record { row = row; previous = previous; owner = owner }

moved : (old new : List Place) (slots : List ℕ) (row previous owner : ℕ) → AreReady old slots row previous owner → AreLaid new slots row previous owner → (k : ℕ) → Contains slots k → Moved (place_in old k) (place_in new k) k row owner
moved old new [] row previous owner ready laid k there = absurd (none_in k there)
moved old new (at ∷ rest) row previous owner ready laid k (zero, low, is) =
    subst (λ (n : ℕ). Moved (place_in old n) (place_in new n) n row owner) is (record { within = ready.0; previous = previous; ready = ready.1; laid = laid.0 })
moved old new (at ∷ rest) row previous owner ready laid k (suc i, low, is) = moved old new rest row at owner ready.2 laid.1 k (i, omega arith, is)

module _ (s : SlotState) (old new : List Place) (slots : List ℕ) (row previous client : ℕ) (some : 0 < row) (ready : AreReady old slots row previous (client + 1)) (laid : AreLaid new slots row previous (client + 1))
    (rest : (k : ℕ) → ¬ Contains slots k → place_in new k ≡ place_in old k) (kept : IsKept s old) where
  owner_goes : (k c : ℕ) → owner_in old k ≡ c + 1 → owner_in new k ≡ c + 1
  owner_goes k c is = ⊎_elim
      (λ (there : Contains slots k). let m = moved old new slots row previous (client + 1) ready laid k there in ap (λ (p : Place). p.owner) m.laid ∙ ⊎_elim
      (λ (free : ((place_in old k).row ≡ 0) × ((place_in old k).owner ≡ 0)). let no = free.1 in absurd (omega (arith, no, is)))
      (λ (held : ((place_in old k).row ≡ row) × ((place_in old k).previous ≡ m.previous) × (((place_in old k).owner ≡ 0) ⊎ ((place_in old k).owner ≡ client + 1))). ⊎_elim
      (λ (no : (place_in old k).owner ≡ 0). absurd (omega (arith, no, is))) (λ (own : (place_in old k).owner ≡ client + 1). sym own ∙ is) held.2)
      m.ready)
      (λ (out : ¬ Contains slots k). ap (λ (p : Place). p.owner) (rest k out) ∙ is)
      (among slots k)

  row_goes : (k : ℕ) → row_in old k ≢ 0 → (row_in new k ≡ row_in old k) × (previous_in new k ≡ previous_in old k)
  row_goes k ne = ⊎_elim
      (λ (there : Contains slots k). let m = moved old new slots row previous (client + 1) ready laid k there in ⊎_elim
      (λ (free : ((place_in old k).row ≡ 0) × ((place_in old k).owner ≡ 0)). absurd (ne free.0))
      (λ (held : ((place_in old k).row ≡ row) × ((place_in old k).previous ≡ m.previous) × (((place_in old k).owner ≡ 0) ⊎ ((place_in old k).owner ≡ client + 1))).
      (ap (λ (p : Place). p.row) m.laid ∙ sym held.0, ap (λ (p : Place). p.previous) m.laid ∙ sym held.1))
      m.ready)
      (λ (out : ¬ Contains slots k). (ap (λ (p : Place). p.row) (rest k out), ap (λ (p : Place). p.previous) (rest k out)))
      (among slots k)

  was_free : (k : ℕ) → row_in new k ≡ 0 → row_in old k ≡ 0
  was_free k is = ⊎_elim
      (λ (there : Contains slots k). let m = moved old new slots row previous (client + 1) ready laid k there in let now : row_in new k ≡ row = ap (λ (p : Place). p.row) m.laid in absurd (omega (arith, now, is, some)))
      (λ (out : ¬ Contains slots k). sym (ap (λ (p : Place). p.row) (rest k out)) ∙ is)
      (among slots k)

  fits_goes : (k : ℕ) (bytes : List ℕ) → Fits old k bytes → Fits new k bytes
  fits_goes k bytes f = record {
    first = λ kind. (row_goes k (λ none. let zero_kind = f.free none in absurd (omega (arith, zero_kind, kind)))).0 ∙ f.first kind;
    next = λ more. (row_goes (next_in bytes) (next_held more)).0 ∙ (f.next more ∙ sym (row_goes k (held more)).0);
    after = λ more. (row_goes (next_in bytes) (next_held more)).1 ∙ f.after more;
    free = λ none. f.free (was_free k none);
  }
    where
      held : ends (next_in bytes) ≡ false → row_in old k ≢ 0
      held more none = not_both (ends (next_in bytes)) (free_ends bytes (f.free none)) more

      next_held : ends (next_in bytes) ≡ false → row_in old (next_in bytes) ≢ 0
      next_held more none = held more (sym (f.next more) ∙ none)

  pub laying_keeps : IsKept s new
  laying_keeps = record {
    owned = λ c k within begun written. owner_goes k c (kept.owned c k within begun written);
    noted = λ c k within written. owner_goes k c (kept.noted c k within written);
    idle = kept.idle;
    fits = λ readable k bytes within is. fits_goes k bytes (kept.fits readable k bytes within is);
  }

-- ---- slots are written

or_either : (a b : Bool) → (a || b) ≡ true → (a ≡ true) ⊎ (b ≡ true)
or_either true b e = inl refl
or_either false b e = inr e

module _ (old new : SlotState) (places : List Place) (client : ℕ) (slots : List ℕ) (w : Wrote old new client slots) (others : (c : ℕ) → c ≢ client → new.transaction c ≡ old.transaction c)
    (begun : (new.transaction client).begun ≡ true) (seen : new.observable ≡ old.observable) (own : (k : ℕ) → Contains slots k → owner_in places k ≡ client + 1)
    (written : IsReadable old → (k : ℕ) → Contains slots k → Fits places k (new.reads k)) (kept : IsKept old places) where
  before : IsReadable new → IsReadable old
  before h = readable_on new old (sym seen) (sym w.failed) h

  one_noted : (k : ℕ) → ends k ≡ false → wrote (new.transaction client).undo k ≡ true → owner_in places k ≡ client + 1
  one_noted k within is = ⊎_elim (own k) (λ (out : ¬ Contains slots k).
      let all : (wrote (old.transaction client).undo k || wrote w.more k) ≡ true = sym (wrote_append (old.transaction client).undo w.more k) ∙ (sym (ap (λ (us : List Undo). wrote us k) w.undo) ∙ is) in
      ⊎_elim (λ (e : wrote (old.transaction client).undo k ≡ true). kept.noted client k within e) (λ (e : wrote w.more k ≡ true). absurd (not_both (wrote w.more k) e (w.of k out))) (or_either (wrote (old.transaction client).undo k) (wrote w.more k) all))
      (among slots k)

  began : (old.transaction client).begun ≡ true → (k : ℕ) → ends k ≡ false → (new.transaction client).written k ≡ true → owner_in places k ≡ client + 1
  began was k within is = ⊎_elim (own k) (λ (out : ¬ Contains slots k). kept.owned client k within was (sym (w.written k out) ∙ is)) (among slots k)

  value_was : IsReadable old → (k : ℕ) (bytes : List ℕ) → IsValue new k bytes → ((bytes ≡ new.reads k) × Contains slots k) ⊎ IsValue old k bytes
  value_was readable k bytes (inl is) = ⊎_elim (λ (there : Contains slots k). inl (is, there)) (λ (out : ¬ Contains slots k). inr (inl (is ∙ w.rest readable k out))) (among slots k)
  value_was readable k bytes (inr (c, there)) = elim (cases_eq c client) [
    | inl e ↦
        let own_writes : Covers ((old.transaction client).undo ++ w.more) k bytes = subst (λ (us : List Undo). Covers us k bytes) (ap (λ (n : ℕ). (new.transaction n).undo) e ∙ w.undo) there in
        ⊎_elim (λ (l : Covers (old.transaction client).undo k bytes). inr (inr (client, l))) (λ (r : Covers w.more k bytes). inr (inl (w.covers readable k bytes r))) (covers_append (old.transaction client).undo w.more k bytes own_writes)
    | inr ne ↦ inr (inr (c, subst (λ (t : Transaction). Covers t.undo k bytes) (others c ne) there))
  ]

  pub writing_keeps : (old.transaction client).begun ≡ true → IsKept new places
  writing_keeps was = record {
    owned = λ c k within is_begun is. elim (cases_eq c client) [
      | inl e ↦ ap (λ (n : ℕ). owner_in places k) e ∙ (began was k within (ap (λ (n : ℕ). (new.transaction n).written k) (sym e) ∙ is) ∙ ap (λ (n : ℕ). n + 1) (sym e))
      | inr ne ↦ kept.owned c k within (ap (λ (t : Transaction). t.begun) (sym (others c ne)) ∙ is_begun) (ap (λ (t : Transaction). t.written k) (sym (others c ne)) ∙ is)
    ];
    noted = λ c k within is. elim (cases_eq c client) [
      | inl e ↦ one_noted k within (ap (λ (n : ℕ). wrote (new.transaction n).undo k) (sym e) ∙ is) ∙ ap (λ (n : ℕ). n + 1) (sym e)
      | inr ne ↦ kept.noted c k within (ap (λ (t : Transaction). wrote t.undo k) (sym (others c ne)) ∙ is)
    ];
    idle = λ c is. elim (cases_eq c client) [
      | inl e ↦ absurd (not_both (new.transaction client).begun begun (ap (λ (n : ℕ). (new.transaction n).begun) (sym e) ∙ is))
      | inr ne ↦ ap (λ (t : Transaction). t.undo) (others c ne) ∙ kept.idle c (ap (λ (t : Transaction). t.begun) (sym (others c ne)) ∙ is)
    ];
    fits = λ readable k bytes within is. ⊎_elim
        (λ (here : (bytes ≡ new.reads k) × Contains slots k). subst (Fits places k) (sym here.0) (written (before readable) k here.1))
        (λ (was_value : IsValue old k bytes). kept.fits (before readable) k bytes within was_value)
        (value_was (before readable) k bytes is);
  }

-- ---- what was written fits

laid_row : (places : List Place) (at row previous owner : ℕ) → place_in places at ≡ record { row = row; previous = previous; owner = owner } → row_in places at ≡ row
laid_row places at row previous owner is = ap (λ (p : Place). p.row) is

pub next_fits : (places : List Place) (rest : List ℕ) (row at owner : ℕ) → AreLaid places rest row at owner → ends (first_or_zero rest) ≡ false → (row_in places (first_or_zero rest) ≡ row) × (previous_in places (first_or_zero rest) ≡ at)
next_fits places [] row at owner laid more = absurd (not_both (ends 0) refl more)
next_fits places (b ∷ rest) row at owner laid more = (ap (λ (p : Place). p.row) laid.0, ap (λ (p : Place). p.previous) laid.0)

-- the fragments of a chain fit
pub chain_fits : (places : List Place) (reads : ℕ → List ℕ) (chain bytes : List ℕ) (kind row previous owner : ℕ) → 0 < row → 0 < kind → (kind ≡ 1 → first_or_zero chain ≡ row) → AreLaid places chain row previous owner
    → Holds reads chain bytes → HaveKinds reads chain kind → (k : ℕ) → Contains chain k → Fits places k (reads k)
chain_fits places reads [] bytes kind row previous owner some free is_first laid held kinds k there = absurd (none_in k there)
chain_fits places reads (at ∷ rest) bytes kind row previous owner some free is_first laid held kinds k (suc i, low, is) =
    chain_fits places reads rest (drop 240 bytes) 2 row at owner some (omega arith) (λ two. absurd (omega (arith, two))) laid.1 held.2 kinds.1 k (i, omega arith, is)
chain_fits places reads (at ∷ rest) bytes kind row previous owner some free is_first laid held kinds k (zero, low, is) = subst (λ (n : ℕ). Fits places n (reads n)) is here
  where
    next_is : next_in (reads at) ≡ first_or_zero rest
    next_is = held.1

    next_one : ends (next_in (reads at)) ≡ false → (row_in places (next_in (reads at)) ≡ row) × (previous_in places (next_in (reads at)) ≡ at)
    next_one more = subst (λ (n : ℕ). (row_in places n ≡ row) × (previous_in places n ≡ at)) (sym next_is) (next_fits places rest row at owner laid.1 (ap ends (sym next_is) ∙ more))

    here : Fits places at (reads at)
    here = record {
      first = λ one. laid_row places at row previous owner laid.0 ∙ sym (is_first (sym kinds.0 ∙ one));
      next = λ more. (next_one more).0 ∙ sym (laid_row places at row previous owner laid.0);
      after = λ more. (next_one more).1;
      free = λ none. let now = laid_row places at row previous owner laid.0 in absurd (omega (arith, now, none, some));
    }

kind_of_zeros : (bytes : List ℕ) → bytes ≡ replicate 256 0 → kind_in bytes ≡ 0
kind_of_zeros bytes is = ap kind_in is

-- zeros fit each slot
pub zeros_fit : (places : List Place) (k : ℕ) (bytes : List ℕ) → bytes ≡ replicate 256 0 → Fits places k bytes
zeros_fit places k bytes is = record {
  first = λ one. let none = kind_of_zeros bytes is in absurd (omega (arith, none, one));
  next = λ more. absurd (not_both (ends (next_in bytes)) (free_ends bytes (kind_of_zeros bytes is)) more);
  after = λ more. absurd (not_both (ends (next_in bytes)) (free_ends bytes (kind_of_zeros bytes is)) more);
  free = λ none. kind_of_zeros bytes is;
}
