-- Slots that hold a row's bytes, over writes of other slots, and what is read from them.
use Rattle.std.proofs.Common.{◌≡◌, ◌≢◌, ◌⊎◌, inl, inr, ℕ, zero, suc, ◌+◌, ◌<◌, ◌≤◌, ◌^◌, ◌&&◌, not, Bool, true, false, cond, eqb, eq-eqb, Some, None, List, [], ◌∷◌, ◌++◌, length, take, drop, replicate, refl, sym, ap, ◌∙◌, subst, arith}
use Rattle.std.proofs.lemmas.Bool.{cases_eq}
use Rattle.std.specs.List.{Contains}
use Rattle.std.proofs.lemmas.Bool.Decides.{nat_tests}
use Rattle.std.proofs.lemmas.List.{take-append-drop}
use Rattle.row_fragments.specs.Fragments.{StoredBytes, bytes_from, slots_from, chain_of, row_at, ends, kind_in, table_in, content_in, next_in, first_or_zero, fragment_bytes, Holds, BeginsAs, AreClear, AreDistinct, AreRowSlots, begins}
use Rattle.row_fragments.specs.Calls.{CanTouch, Wrote}
use Rattle.row_fragments.specs.Chains.{HaveFragments}
use Rattle.row_fragments.proofs.Within.{first_or_rest, head_in, none_in, not_only, only, tail_in}
use Rattle.row_fragments.proofs.Composes.{readable_on, wrote_both}
use Rattle.row_fragments.proofs.Encoded.{kind_read, next_read, table_read, content_read}
use Rattle.storage.specs.Slots.{SlotState, Transaction, IsReadable}
use Rattle.std.proofs.lemmas.List.{length-take}

clear_on : (old new : ℕ → List ℕ) (at : ℕ) (rest : List ℕ) → ((k : ℕ) → k ≢ at → new k ≡ old k) → new at ≡ replicate 256 0 → AreClear old rest → AreClear new rest
clear_on old new at [] same here h = tt
clear_on old new at (x ∷ rest) same here h = (one (cases_eq x at), clear_on old new at rest same here h.1)
  where
    one : (x ≡ at) ⊎ (x ≢ at) → new x ≡ replicate 256 0
    one (inl is) = ap new is ∙ here
    one (inr ne) = same x ne ∙ h.0

-- slots that read the same hold the same
pub holds_same : (old new : ℕ → List ℕ) (slots : List ℕ) (bytes : List ℕ) → ((k : ℕ) → Contains slots k → new k ≡ old k) → Holds old slots bytes → Holds new slots bytes
holds_same old new [] bytes same h = h
holds_same old new (at ∷ rest) bytes same h =
    let here = same at (head_in at rest) in
    (ap content_in here ∙ h.0, ap next_in here ∙ h.1, holds_same old new rest (drop 240 bytes) (λ k there. same k (tail_in at k rest there)) h.2)

-- and have the same fragments
pub fragments_same : (old new : ℕ → List ℕ) (slots : List ℕ) (kind total table : ℕ) (bytes : List ℕ) → ((k : ℕ) → Contains slots k → new k ≡ old k) → HaveFragments old slots kind total table bytes → HaveFragments new slots kind total table bytes
fragments_same old new [] kind total table bytes same h = h
fragments_same old new (at ∷ rest) kind total table bytes same h = (same at (head_in at rest) ∙ h.0, fragments_same old new rest 2 0 0 (drop 240 bytes) (λ k there. same k (tail_in at k rest there)) h.1)

nothing_from : (n : ℕ) (slots : ℕ → List ℕ) → bytes_from n slots 0 ≡ []
unfolding bytes_from
nothing_from zero slots = refl
nothing_from (suc n) slots = refl

one_from : (n at : ℕ) (slots : ℕ → List ℕ) → ends at ≡ false → bytes_from (suc n) slots at ≡ content_in (slots at) ++ bytes_from n slots (next_in (slots at))
unfolding bytes_from
one_from n at slots e = ap (λ (b : Bool). cond b [] (content_in (slots at) ++ bytes_from n slots (next_in (slots at)))) e

pub row_slot_goes : (at : ℕ) → 8192 ≤ at → at < 1048576 → ends at ≡ false
row_slot_goes at low high = grind (arith, nat_tests)

-- what they hold is what is read from the first of them
pub holds_reads : (reads : ℕ → List ℕ) (slots bytes : List ℕ) (n : ℕ) → AreRowSlots slots → Holds reads slots bytes → length slots ≤ n → bytes_from n reads (first_or_zero slots) ≡ bytes
holds_reads reads [] bytes n rows h le = nothing_from n reads ∙ sym h
holds_reads reads (at ∷ rest) bytes zero rows h le = absurd (omega arith)
holds_reads reads (at ∷ rest) bytes (suc n) rows h le =
    one_from n at reads (row_slot_goes at rows.0 rows.1)
    ∙ (ap (λ (k : ℕ). content_in (reads at) ++ bytes_from n reads k) h.1
    ∙ (ap (λ (xs : List ℕ). content_in (reads at) ++ xs) (holds_reads reads rest (drop 240 bytes) n rows.2 h.2 (omega arith))
    ∙ (ap (λ (xs : List ℕ). xs ++ drop 240 bytes) h.0 ∙ take-append-drop 240 bytes)))

-- ---- one slot more

module _ (client at : ℕ) (rest slots : List ℕ) (slots_is : slots ≡ at ∷ rest) (s : SlotState) (can : CanTouch s client slots) where
  long : length slots ≡ length rest + 1
  long = ap length slots_is ∙ omega arith

  pub apart : ¬ Contains rest at
  apart = (subst AreDistinct slots_is can.distinct).0

  -- the slots after the first may be written
  pub rest_can : CanTouch s client rest
  rest_can = record {
    begun = can.begun;
    alone = λ k there. can.alone k (subst (λ (xs : List ℕ). Contains xs k) (sym slots_is) (tail_in at k rest there));
    rows = (subst AreRowSlots slots_is can.rows).2;
    distinct = (subst AreDistinct slots_is can.distinct).1;
    room = let all = can.room in omega (arith, long, all);
    few = let all = can.few in omega (arith, long, all);
  }

  -- and then the first one
  pub first_can : (t : SlotState) → Wrote s t client rest → (s.transaction client).room ≤ (t.transaction client).room + length rest → ((c : ℕ) → c ≢ client → t.transaction c ≡ s.transaction c) → (t.transaction client).begun ≡ (s.transaction client).begun → CanTouch t client (at ∷ [])
  first_can t w left others begun = record {
    begun = begun ∙ can.begun;
    alone = λ k there other ne lt is_begun.
        let same = others other ne in
        ap (λ (x : Transaction). x.written k) same
        ∙ can.alone k (subst (λ (xs : List ℕ). Contains xs k) (sym slots_is) (subst (λ (n : ℕ). Contains (at ∷ rest) n) (sym (only at k there)) (head_in at rest))) other ne lt (sym (ap (λ (x : Transaction). x.begun) same) ∙ is_begun);
    rows = let all = subst AreRowSlots slots_is can.rows in (all.0, all.1, tt);
    distinct = (none_in at, tt);
    room = let all = can.room in omega (arith, long, all, left);
    few = let all = can.few in let more = w.counted in omega (arith, long, all, more);
  }

  pub both_wrote : (t u : SlotState) → t.observable ≡ s.observable → Wrote s t client rest → Wrote t u client (at ∷ []) → Wrote s u client slots
  both_wrote t u seen f g = wrote_both s t u client rest (at ∷ []) slots seen
      (λ k there here. apart (subst (Contains rest) (only at k here) there))
      (λ k out. let outside : ¬ Contains (at ∷ rest) k = subst (λ (xs : List ℕ). ¬ Contains xs k) slots_is out in
      (λ there. outside (tail_in at k rest there), λ here. outside (subst (λ (n : ℕ). Contains (at ∷ rest) n) (sym (only at k here)) (head_in at rest))))
      (λ k there. first_or_rest at rest k (subst (λ (xs : List ℕ). Contains xs k) slots_is there))
      (omega (arith, long)) f g

  module _ (bytes back front : List ℕ) (kind next total table : ℕ) (t u : SlotState) (back_is : back ≡ drop 240 bytes) (front_is : front ≡ take 240 bytes) (next_is : next ≡ first_or_zero rest)
      (seen : t.observable ≡ s.observable) (first : Wrote s t client rest) (second : Wrote t u client (at ∷ [])) (slot : IsReadable t → u.reads at ≡ fragment_bytes kind next total table front)
      (some : 0 < kind) (next_fits : next < 2 ^ 32) (table_fits : table < 2 ^ 16) where
    then : IsReadable s → IsReadable t
    then h = readable_on s t seen first.failed h

    short : length front ≤ 240
    short = omega (arith, ap length front_is, length-take 240 bytes)

    pub both_hold : IsReadable s → (IsReadable s → Holds t.reads rest back) → Holds u.reads slots bytes
    both_hold readable held =
        let here = slot (then readable) in
        let whole : Holds u.reads (at ∷ rest) bytes = (
          ap content_in here ∙ (content_read kind next total table front short ∙ front_is),
          ap next_in here ∙ (next_read kind next total table front some next_fits ∙ next_is),
          holds_same t.reads u.reads rest (drop 240 bytes)
              (λ k there. second.rest (then readable) k (not_only at k (λ is. apart (subst (Contains rest) is there))))
              (subst (Holds t.reads rest) back_is (held readable)),
        ) in
        subst (λ (xs : List ℕ). Holds u.reads xs bytes) (sym slots_is) whole

    pub both_fragments : IsReadable s → (IsReadable s → HaveFragments t.reads rest 2 0 0 back) → HaveFragments u.reads slots kind total table bytes
    both_fragments readable held =
        let here = slot (then readable) in
        let whole : HaveFragments u.reads (at ∷ rest) kind total table bytes = (
          here ∙ (ap (λ (n : ℕ). fragment_bytes kind n total table front) next_is ∙ ap (λ (xs : List ℕ). fragment_bytes kind (first_or_zero rest) total table xs) front_is),
          fragments_same t.reads u.reads rest 2 0 0 (drop 240 bytes)
              (λ k there. second.rest (then readable) k (not_only at k (λ is. apart (subst (Contains rest) is there))))
              (subst (HaveFragments t.reads rest 2 0 0) back_is (held readable)),
        ) in
        subst (λ (xs : List ℕ). HaveFragments u.reads xs kind total table bytes) (sym slots_is) whole

    pub both_begin : IsReadable s → BeginsAs u.reads slots kind table
    both_begin readable =
        let here = slot (then readable) in
        let first_one : BeginsAs u.reads (at ∷ rest) kind table =
        (ap kind_in here ∙ kind_read kind next total table front, ap table_in here ∙ table_read kind next total table front table_fits) in
        subst (λ (xs : List ℕ). BeginsAs u.reads xs kind table) (sym slots_is) first_one

  -- zeros in each of the slots
  pub both_zeros : (t u : SlotState) → t.observable ≡ s.observable → Wrote s t client rest → Wrote t u client (at ∷ []) → IsReadable s → (IsReadable s → AreClear t.reads rest) → (IsReadable t → u.reads at ≡ replicate 256 0) → AreClear u.reads slots
  both_zeros t u seen first second readable cleared zeros =
      let then_readable : IsReadable t = readable_on s t seen first.failed readable in
      let here = zeros then_readable in
      subst (AreClear u.reads) (sym slots_is) (here, clear_on t.reads u.reads at rest (λ k ne. second.rest then_readable k (not_only at k ne)) here (cleared readable))

-- ---- rows

abbrev row_with : ℕ → List ℕ → StoredBytes
row_with table bytes = record { table = table; bytes = bytes }

nothing_at : (n at : ℕ) (slots : ℕ → List ℕ) → ends at ≡ true → bytes_from (suc n) slots at ≡ []
unfolding bytes_from
nothing_at n at slots e = ap (λ (b : Bool). cond b [] (content_in (slots at) ++ bytes_from n slots (next_in (slots at)))) e

slots_one : (n at : ℕ) (slots : ℕ → List ℕ) → ends at ≡ false → slots_from (suc n) slots at ≡ at ∷ slots_from n slots (next_in (slots at))
unfolding slots_from
slots_one n at slots e = ap (λ (b : Bool). cond b [] (at ∷ slots_from n slots (next_in (slots at)))) e

nothing_left : (at : ℕ) (slots : ℕ → List ℕ) → bytes_from zero slots at ≡ []
unfolding bytes_from
nothing_left at slots = refl

-- what is read looks at the slots of the chain alone
bytes_same : (n : ℕ) (old new : ℕ → List ℕ) (at : ℕ) → ((k : ℕ) → Contains (slots_from n old at) k → new k ≡ old k) → bytes_from n new at ≡ bytes_from n old at
bytes_same zero old new at same = nothing_left at new ∙ sym (nothing_left at old)
bytes_same (suc n) old new at same =
    one_more (ends at) refl
    (λ e.
    let rest : (k : ℕ) → Contains (slots_from n old (next_in (old at))) k → new k ≡ old k = λ k there. same k (subst (λ (xs : List ℕ). Contains xs k) (sym (slots_one n at old e)) (tail_in at k _ there)) in
    bytes_same n old new (next_in (old at)) rest)
  where
    one_more : (b : Bool) → ends at ≡ b → (ends at ≡ false → bytes_from n new (next_in (old at)) ≡ bytes_from n old (next_in (old at))) → bytes_from (suc n) new at ≡ bytes_from (suc n) old at
    one_more true e rest = nothing_at n at new e ∙ sym (nothing_at n at old e)
    one_more false e rest =
        let here : new at ≡ old at = same at (subst (λ (xs : List ℕ). Contains xs at) (sym (slots_one n at old e)) (head_in at (slots_from n old (next_in (old at))))) in
        one_from n at new e
        ∙ (ap (λ (b : List ℕ). content_in b ++ bytes_from n new (next_in b)) here ∙ (ap (λ (xs : List ℕ). content_in (old at) ++ xs) (rest e) ∙ sym (one_from n at old e)))

pub row_same : (old new : ℕ → List ℕ) (row : ℕ) → ((k : ℕ) → Contains (chain_of old row) k → new k ≡ old k) → row_at new row ≡ row_at old row
row_same old new row same =
    let here : new row ≡ old row = same row (head_in row (slots_from 124 old (next_in (old row)))) in
    let rest : bytes_from 124 new (next_in (old row)) ≡ bytes_from 124 old (next_in (old row)) =
    bytes_same 124 old new (next_in (old row)) (λ k there. same k (tail_in row k (slots_from 124 old (next_in (old row))) there)) in
    ap (λ (b : List ℕ). cond (not (ends row) && eqb (kind_in b) 1) (Some (row_with (table_in b) (content_in b ++ bytes_from 124 new (next_in b)))) None) here
    ∙ ap (λ (xs : List ℕ). cond (not (ends row) && eqb (kind_in (old row)) 1) (Some (row_with (table_in (old row)) (content_in (old row) ++ xs))) None) rest

both_true : (a b : Bool) → a ≡ false → b ≡ true → (not a && b) ≡ true
both_true true b e f = cc
both_true false b e f = f

-- a row slot of kind 1 begins a row
pub row_begins : (reads : ℕ → List ℕ) (at : ℕ) → 8192 ≤ at → at < 1048576 → kind_in (reads at) ≡ 1 → begins reads at ≡ true
row_begins reads at low high is = both_true (ends at) (eqb (kind_in (reads at)) 1) (row_slot_goes at low high) (eq-eqb (kind_in (reads at)) 1 is)

-- where none begins there is none
pub no_row_at : (reads : ℕ → List ℕ) (row : ℕ) → begins reads row ≡ false → row_at reads row ≡ None
no_row_at reads row e = ap (λ (b : Bool). cond b (Some (row_with (table_in (reads row)) (content_in (reads row) ++ bytes_from 124 reads (next_in (reads row))))) None) e

-- where one begins, it is read from its fragments
pub row_there : (reads : ℕ → List ℕ) (row : ℕ) → begins reads row ≡ true → row_at reads row ≡ Some (row_with (table_in (reads row)) (content_in (reads row) ++ bytes_from 124 reads (next_in (reads row))))
row_there reads row e = ap (λ (b : Bool). cond b (Some (row_with (table_in (reads row)) (content_in (reads row) ++ bytes_from 124 reads (next_in (reads row))))) None) e

-- the row that was written
pub row_written : (reads : ℕ → List ℕ) (drawn bytes : List ℕ) (table : ℕ) → 0 < length drawn → length drawn ≤ 125 → AreRowSlots drawn → Holds reads drawn bytes → BeginsAs reads drawn 1 table
    → row_at reads (first_or_zero drawn) ≡ Some (record { table = table; bytes = bytes })
row_written reads [] bytes table some few rows held is_first = absurd (omega arith)
row_written reads (at ∷ rest) bytes table some few rows held is_first =
    let tail : bytes_from 124 reads (next_in (reads at)) ≡ drop 240 bytes = ap (bytes_from 124 reads) held.1 ∙ holds_reads reads rest (drop 240 bytes) 124 rows.2 held.2 (omega arith) in
    let whole : content_in (reads at) ++ bytes_from 124 reads (next_in (reads at)) ≡ bytes = ap (λ (xs : List ℕ). content_in (reads at) ++ xs) tail ∙ (ap (λ (xs : List ℕ). xs ++ drop 240 bytes) held.0 ∙ take-append-drop 240 bytes) in
    row_there reads at (row_begins reads at rows.0 rows.1 is_first.0)
    ∙ (ap (λ (t : ℕ). Some (row_with t (content_in (reads at) ++ bytes_from 124 reads (next_in (reads at))))) is_first.1 ∙ ap (λ (xs : List ℕ). Some (row_with table xs)) whole)

kind_of_zeros : (b : List ℕ) → b ≡ replicate 256 0 → eqb (kind_in b) 1 ≡ false
kind_of_zeros b is = ap (λ (xs : List ℕ). eqb (kind_in xs) 1) is

and_false : (a b : Bool) → b ≡ false → (a && b) ≡ false
and_false true b e = e
and_false false b e = refl

-- no row begins in a slot of zeros
pub none_of_zeros : (reads : ℕ → List ℕ) (at : ℕ) → reads at ≡ replicate 256 0 → row_at reads at ≡ None
none_of_zeros reads at is = no_row_at reads at (and_false (not (ends at)) (eqb (kind_in (reads at)) 1) (kind_of_zeros (reads at) is))
