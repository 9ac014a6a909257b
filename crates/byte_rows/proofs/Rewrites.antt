-- A row's slots are written: the first hold a chain, the others nothing.
use Rattle.std.proofs.Common.{◌≡◌, ◌≢◌, ◌⊎◌, inl, inr, ⊎_elim, ℕ, zero, suc, ◌+◌, ◌<◌, ◌≤◌, Bool, true, false, List, [], ◌∷◌, ◌++◌, length, replicate, Some, None, refl, sym, ap, ◌∙◌, subst, arith, length-append}
use Rattle.std.specs.List.{Contains}
use Rattle.std.proofs.lemmas.Bool.Decides.{nat_tests}
use Rattle.storage.specs.Slots.{SlotState, IsReadable}
use Rattle.row_fragments.specs.Fragments.{AreClear, AreDistinct, AreRowSlots, BeginsAs, Holds, ends, first_or_zero, kind_in, row_at, table_in}
use Rattle.row_fragments.specs.Chains.{HaveFragments}
use Rattle.row_fragments.specs.Kinds.{HaveKinds}
use Rattle.row_fragments.specs.Calls.{CanTouch, Wrote}
use Rattle.row_fragments.specs.Tied.{IsValue}
use Rattle.row_fragments.proofs.Composes.{readable_on}
use Rattle.row_fragments.proofs.Within.{none_in, head_in, left_in, tail_in, right_in}
use Rattle.row_fragments.proofs.Chained.{fragments_same, holds_same, none_of_zeros, row_written}
use Rattle.row_fragments.proofs.FurtherKinds.{kinds_same}
use Rattle.row_fragments.proofs.Parts.{all_wrote, chain_can}
use Rattle.row_fragments.proofs.Ties.{other_stays, same_row}
use Rattle.byte_rows.specs.declared.places.Place.{Place}
use Rattle.byte_rows.specs.Places.{AreLaid, AreReady, Fits, IsKept, IsReady, owner_in, place_in, row_in}
use Rattle.byte_rows.specs.Rows.{AreApart, HoldsRow}
use Rattle.byte_rows.proofs.Kept.{chain_fits, tied_of, writing_keeps, zeros_fit}

pub low_bound : (at : ℕ) → ends at ≡ false → 8192 ≤ at
low_bound at e = grind (arith, nat_tests)

pub high_bound : (at : ℕ) → ends at ≡ false → at < 1048576
high_bound at e = grind (arith, nat_tests)

owner_ready : (place : Place) (row previous owner : ℕ) → IsReady place row previous owner → (place.owner ≡ 0) ⊎ (place.owner ≡ owner)
owner_ready place row previous owner (inl free) = inl free.1
owner_ready place row previous owner (inr held) = held.2

-- each slot that is ready is a slot for rows, and no other client changes it
pub ready_owner : (places : List Place) (chain : List ℕ) (row previous owner : ℕ) → AreReady places chain row previous owner → (k : ℕ) → Contains chain k
    → (ends k ≡ false) × ((owner_in places k ≡ 0) ⊎ (owner_in places k ≡ owner))
ready_owner places [] row previous owner ready k there = absurd (none_in k there)
ready_owner places (at ∷ rest) row previous owner ready k (zero, low, is) =
    subst (λ (n : ℕ). (ends n ≡ false) × ((owner_in places n ≡ 0) ⊎ (owner_in places n ≡ owner))) is (ready.0, owner_ready (place_in places at) row previous owner ready.1)
ready_owner places (at ∷ rest) row previous owner ready k (suc i, low, is) = ready_owner places rest row at owner ready.2 k (i, omega arith, is)

pub ready_rows : (places : List Place) (chain : List ℕ) (row previous owner : ℕ) → AreReady places chain row previous owner → AreRowSlots chain
ready_rows places [] row previous owner ready = tt
ready_rows places (at ∷ rest) row previous owner ready = (low_bound at ready.0, high_bound at ready.0, ready_rows places rest row at owner ready.2)

-- each slot that is laid is the row's and the client's
pub laid_place : (places : List Place) (chain : List ℕ) (row previous owner : ℕ) → AreLaid places chain row previous owner → (k : ℕ) → Contains chain k → (row_in places k ≡ row) × (owner_in places k ≡ owner)
laid_place places [] row previous owner laid k there = absurd (none_in k there)
laid_place places (at ∷ rest) row previous owner laid k (zero, low, is) =
    subst (λ (n : ℕ). (row_in places n ≡ row) × (owner_in places n ≡ owner)) is (ap (λ (p : Place). p.row) laid.0, ap (λ (p : Place). p.owner) laid.0)
laid_place places (at ∷ rest) row previous owner laid k (suc i, low, is) = laid_place places rest row at owner laid.1 k (i, omega arith, is)

laid_left : (places : List Place) (xs ys : List ℕ) (row previous owner : ℕ) → AreLaid places (xs ++ ys) row previous owner → AreLaid places xs row previous owner
laid_left places [] ys row previous owner laid = tt
laid_left places (x ∷ xs) ys row previous owner laid = (laid.0, laid_left places xs ys row x owner laid.1)

not_true : (b : Bool) → (b ≡ true → ⊥) → b ≡ false
not_true true never = absurd (never refl)
not_true false never = refl

-- the client may write the slots
pub can_touch : (s : SlotState) (places : List Place) (chain : List ℕ) (row previous client : ℕ) → IsKept s places → AreReady places chain row previous (client + 1) → AreDistinct chain
    → (s.transaction client).begun ≡ true → length chain ≤ (s.transaction client).room → (s.transaction client).counted + length chain ≤ 7989 → CanTouch s client chain
can_touch s places chain row previous client kept ready distinct begun space few = record {
  begun = begun;
  alone = λ k there other ne lt is_begun. not_true ((s.transaction other).written k) (λ is.
      let r = ready_owner places chain row previous (client + 1) ready k there in
      let own = kept.owned other k r.0 is_begun is in
      ⊎_elim (λ (none : owner_in places k ≡ 0). absurd (omega (arith, none, own))) (λ (mine : owner_in places k ≡ client + 1). let same : other ≡ client = omega (arith, mine, own) in absurd (ne same)) r.1);
  rows = ready_rows places chain row previous (client + 1) ready;
  distinct = distinct;
  room = space;
  few = few;
}

split_in : (xs ys : List ℕ) (k : ℕ) → Contains (xs ++ ys) k → Contains xs k ⊎ Contains ys k
split_in [] ys k there = inr there
split_in (x ∷ xs) ys k (zero, low, is) = inl (subst (Contains (x ∷ xs)) is (head_in x xs))
split_in (x ∷ xs) ys k (suc i, low, is) = ⊎_elim (λ (l : Contains xs k). inl (tail_in x k xs l)) (λ (r : Contains ys k). inr r) (split_in xs ys k (i, omega arith, is))

apart_parts : (xs ys : List ℕ) → AreDistinct (xs ++ ys) → (k : ℕ) → Contains xs k → ¬ Contains ys k
apart_parts [] ys h k there here = none_in k there
apart_parts (x ∷ xs) ys h k (zero, within, is) here = h.0 (right_in xs ys x (subst (Contains ys) (sym is) here))
apart_parts (x ∷ xs) ys h k (suc i, within, is) here = apart_parts xs ys h.1 k (i, omega arith, is) here

clear_at : (reads : ℕ → List ℕ) (slots : List ℕ) → AreClear reads slots → (k : ℕ) → Contains slots k → reads k ≡ replicate 256 0
clear_at reads [] clear k there = absurd (none_in k there)
clear_at reads (at ∷ rest) clear k (zero, low, is) = subst (λ (n : ℕ). reads n ≡ replicate 256 0) is clear.0
clear_at reads (at ∷ rest) clear k (suc i, low, is) = clear_at reads rest clear.1 k (i, omega arith, is)

first_left : (xs ys : List ℕ) → 0 < length xs → first_or_zero (xs ++ ys) ≡ first_or_zero xs
first_left [] ys some = absurd (omega arith)
first_left (x ∷ xs) ys some = refl

some_in : (xs : List ℕ) (k : ℕ) → Contains xs k → 0 < length xs
some_in xs k there = let low : there.0 < length xs = there.1 in omega arith

begins_same : (old new : ℕ → List ℕ) (slots : List ℕ) (kind table : ℕ) → ((k : ℕ) → Contains slots k → new k ≡ old k) → BeginsAs old slots kind table → BeginsAs new slots kind table
begins_same old new [] kind table same h = tt
begins_same old new (at ∷ rest) kind table same h = let here = same at (head_in at rest) in (ap kind_in here ∙ h.0, ap table_in here ∙ h.1)

-- no other row is read from slots that are laid as the row's
pub laid_apart : (s : SlotState) (places : List Place) (chain : List ℕ) (row previous owner : ℕ) → IsKept s places → IsReadable s → AreLaid places chain row previous owner → AreApart s chain row
laid_apart s places chain row previous owner kept readable laid a b mix_a mix_b same other ne =
    same_row (IsValue s) (row_in places) (tied_of s places kept readable) a b other mix_a mix_b
    (λ k is. same k (λ there. ne (sym is ∙ (laid_place places chain row previous owner laid k there).0)))

-- the chain is written, and then zeros
module _ (s t u : SlotState) (places : List Place) (client row table : ℕ) (chain kept freed bytes : List ℕ) (parts : chain ≡ kept ++ freed) (known : IsKept s places) (can : CanTouch s client chain)
    (laid : AreLaid places chain row 0 (client + 1)) (first : first_or_zero chain ≡ row) (some_row : 0 < row) (seen_t : t.observable ≡ s.observable) (seen_u : u.observable ≡ t.observable)
    (others_t : (c : ℕ) → c ≢ client → t.transaction c ≡ s.transaction c) (others_u : (c : ℕ) → c ≢ client → u.transaction c ≡ t.transaction c)
    (begun_t : (t.transaction client).begun ≡ (s.transaction client).begun) (begun_u : (u.transaction client).begun ≡ (t.transaction client).begun)
    (w : Wrote s t client kept) (v : Wrote t u client freed) where
  can_parts : CanTouch s client (kept ++ freed)
  can_parts = subst (CanTouch s client) parts can

  laid_parts : AreLaid places (kept ++ freed) row 0 (client + 1)
  laid_parts = subst (λ (xs : List ℕ). AreLaid places xs row 0 (client + 1)) parts laid

  pub rewrote : Wrote s u client chain
  rewrote = subst (Wrote s u client) (sym parts) (all_wrote client kept freed s can_parts t u seen_t w v)

  same_kept : IsReadable s → (k : ℕ) → Contains kept k → u.reads k ≡ t.reads k
  same_kept readable k there = v.rest (readable_on s t seen_t w.failed readable) k (apart_parts kept freed can_parts.distinct k there)

  -- the fragments are there after the zeros too
  pub fragments_kept : (total : ℕ) → IsReadable s → (IsReadable s → HaveFragments t.reads kept 1 total table bytes) → HaveFragments u.reads kept 1 total table bytes
  fragments_kept total readable have = fragments_same t.reads u.reads kept 1 total table bytes (same_kept readable) (have readable)

  others : (c : ℕ) → c ≢ client → u.transaction c ≡ s.transaction c
  others c ne = others_u c ne ∙ others_t c ne

  module _ (held : IsReadable s → Holds t.reads kept bytes) (kinds : IsReadable s → HaveKinds t.reads kept 1) (zeros : IsReadable t → AreClear u.reads freed) where
    fit : IsReadable s → (k : ℕ) → Contains chain k → Fits places k (u.reads k)
    fit readable k there = ⊎_elim
        (λ (l : Contains kept k). chain_fits places u.reads kept bytes 1 row 0 (client + 1) some_row (omega arith)
        (λ one. sym (first_left kept freed (some_in kept k l)) ∙ (ap first_or_zero (sym parts) ∙ first))
        (laid_left places kept freed row 0 (client + 1) laid_parts)
        (holds_same t.reads u.reads kept bytes (same_kept readable) (held readable))
        (kinds_same t.reads u.reads kept 1 (same_kept readable) (kinds readable)) k l)
        (λ (r : Contains freed k). zeros_fit places k (u.reads k) (clear_at u.reads freed (zeros (readable_on s t seen_t w.failed readable)) k r))
        (split_in kept freed k (subst (λ (xs : List ℕ). Contains xs k) parts there))

    pub rewriting_keeps : IsKept u places
    rewriting_keeps = writing_keeps s u places client chain rewrote others (begun_u ∙ (begun_t ∙ can.begun)) (seen_u ∙ seen_t)
        (λ k there. (laid_place places chain row 0 (client + 1) laid k there).1) fit known can.begun

    pub others_stay : IsReadable s → (other : ℕ) → other ≢ row → row_at u.reads other ≡ row_at s.reads other
    others_stay readable = other_stays s u (row_in places) client row chain (tied_of s places known readable) (tied_of u places rewriting_keeps (readable_on s u (seen_u ∙ seen_t) rewrote.failed readable)) rewrote readable
        (λ k there. (laid_place places chain row 0 (client + 1) laid k there).0)

  pub row_rewritten : 0 < length kept → length kept ≤ 125 → IsReadable s → (IsReadable s → Holds t.reads kept bytes) → (IsReadable s → BeginsAs t.reads kept 1 table) → HoldsRow u.reads chain row (Some (record { table = table; bytes = bytes }))
  row_rewritten some few readable held is_first any same =
      let here : (k : ℕ) → Contains kept k → any k ≡ t.reads k = λ k there. same k (subst (λ (xs : List ℕ). Contains xs k) (sym parts) (left_in kept freed k there)) ∙ same_kept readable k there in
      subst (λ (n : ℕ). row_at any n ≡ Some (record { table = table; bytes = bytes })) (sym (first_left kept freed some) ∙ (ap first_or_zero (sym parts) ∙ first))
      (row_written any kept bytes table some few (chain_can client kept freed s can_parts).rows (holds_same t.reads any kept bytes here (held readable)) (begins_same t.reads any kept 1 table here (is_first readable)))

  pub row_gone : 0 < length chain → length kept ≡ 0 → AreClear u.reads freed → HoldsRow u.reads chain row None
  row_gone some none clear any same = gone freed (ap length parts ∙ length-append kept freed) (λ e. sym (ap first_or_zero (parts ∙ e)) ∙ first) clear
      (λ k there. same k (subst (λ (xs : List ℕ). Contains xs k) (sym parts) (right_in kept freed k there)))
    where
      empty_left : (xs ys : List ℕ) → length xs ≡ 0 → xs ++ ys ≡ ys
      empty_left [] ys e = refl
      empty_left (x ∷ xs) ys e = absurd (omega (arith, e))

      gone : (ys : List ℕ) → length chain ≡ length kept + length ys → (kept ++ ys ≡ ys → first_or_zero ys ≡ row) → AreClear u.reads ys → ((k : ℕ) → Contains ys k → any k ≡ u.reads k) → row_at any row ≡ None
      gone [] long is c there = absurd (omega (arith, long, none, some))
      gone (y ∷ ys) long is c there = subst (λ (n : ℕ). row_at any n ≡ None) (is (empty_left kept (y ∷ ys) none)) (none_of_zeros any y (there y (head_in y ys) ∙ c.0))
