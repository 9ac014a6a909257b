-- What is noted of the slots while a store is opened, one row after another.
use Rattle.std.proofs.Common.{◌≡◌, ◌≢◌, ◌⊎◌, inl, inr, ⊎_elim, ℕ, zero, suc, ◌+◌, ◌<◌, ◌≤◌, true, false, List, [], ◌∷◌, length, replicate, Option, None, Some, IfNone, IfSome, refl, sym, ap, ◌∙◌, subst, arith}
use Rattle.std.proofs.lemmas.Bool.{cases_eq, cases_lt}
use Rattle.std.specs.List.{Contains}
use Rattle.storage.specs.Slots.{AreBlankFrom, IsReadable, Rests, SlotState, Transaction}
use Rattle.row_fragments.specs.Chains.{AreChains, IsBroken, IsChain, IsOfOneRow, IsWhole}
use Rattle.row_fragments.specs.Fragments.{AreDistinct, AreRowSlots, Holds, StoredBytes, begins, chain_of, ends, first_or_zero, kind_in, next_in, row_at, slots_from}
use Rattle.row_fragments.proofs.Chained.{row_begins, row_there}
use Rattle.row_fragments.proofs.Composes.{readable_on, rests_both}
use Rattle.row_fragments.proofs.Exact.{begun_inside, chain_fragments, chain_inside, chain_used, fragment_holds}
use Rattle.row_fragments.proofs.Keeping.{among, row_of_some}
use Rattle.row_fragments.proofs.Wholes.{rows_of}
use Rattle.row_fragments.proofs.Within.{head_in, none_in, tail_in}
use Rattle.byte_rows.specs.declared.places.Place.{Place}
use Rattle.byte_rows.specs.Places.{AreLaid, Fits, IsKept, place_in, previous_in, row_in}
use Rattle.byte_rows.specs.Scanned.{AreScanned, IsStray}
use Rattle.byte_rows.proofs.Kept.{free_ends, next_fits, not_both}
use Rattle.byte_rows.proofs.Reading.{idle_kept}
use Rattle.byte_rows.proofs.Rewrites.{high_bound, laid_place, low_bound}

-- ---- no slot is twice in a chain

-- the slots after one of a chain's slots come after its first slot
after_in : (slots : ℕ → List ℕ) (first : ℕ) (rest bytes : List ℕ) (k : ℕ) → Holds slots (first ∷ rest) bytes → Contains (first ∷ rest) k → (later : List ℕ) × (next_in (slots k) ≡ first_or_zero later) × ((j : ℕ) → Contains later j → Contains rest j)
after_in slots first rest bytes k h (zero, low, is) = (rest, ap (λ (n : ℕ). next_in (slots n)) (sym is) ∙ h.1, λ j there. there)
after_in slots first [] bytes k h (suc i, low, is) = absurd (omega (arith, low))
after_in slots first (x ∷ xs) bytes k h (suc i, low, is) =
    let found = after_in slots x xs _ k h.2 (i, omega arith, is) in (found.0, found.1, λ j there. tail_in x j xs (found.2 j there))

pub holds_distinct : (slots : ℕ → List ℕ) (xs bytes : List ℕ) → AreRowSlots xs → Holds slots xs bytes → AreDistinct xs
holds_distinct slots [] bytes rows h = tt
holds_distinct slots (at ∷ []) bytes rows h = (none_in at, tt)
holds_distinct slots (at ∷ x ∷ xs) bytes rows h =
    let rest = holds_distinct slots (x ∷ xs) _ rows.2 h.2 in (
      λ there.
          let found = after_in slots x xs _ at h.2 there in
          let low = rows.2.0 in
          once (x ∷ xs) found.0 x xs refl low rest (sym h.1 ∙ found.1) found.2,
      rest,
    )
  where
    once : (all later : List ℕ) (y : ℕ) (ys : List ℕ) → all ≡ y ∷ ys → 8192 ≤ y → AreDistinct (y ∷ ys) → y ≡ first_or_zero later → ((j : ℕ) → Contains later j → Contains ys j) → ⊥
    once all [] y ys e low distinct is within = absurd (omega (arith, low, is))
    once all (z ∷ zs) y ys e low distinct is within = distinct.0 (within y (subst (Contains (z ∷ zs)) (sym is) (head_in z zs)))

begun_whole : (slots : ℕ → List ℕ) (row : ℕ) (chain : List ℕ) → IsWhole slots row chain → begins slots row ≡ true
begun_whole slots row chain w = row_of_some (begins slots row) _ w.stored w.is_read

whole_inside : (slots : ℕ → List ℕ) (row : ℕ) (chain : List ℕ) → IsWhole slots row chain → (k : ℕ) → Contains chain k → ends k ≡ false
whole_inside slots row chain w k there = chain_inside slots row k (begun_inside slots row (begun_whole slots row chain w)).0 (subst (λ (xs : List ℕ). Contains xs k) w.listed there)

whole_used : (slots : ℕ → List ℕ) (row : ℕ) (chain : List ℕ) → IsWhole slots row chain → (k : ℕ) → Contains chain k → kind_in (slots k) ≢ 0
whole_used slots row chain w k there = chain_used slots chain w.stored.table w.stored.bytes w.held k there

whole_holds : (slots : ℕ → List ℕ) (row : ℕ) (chain : List ℕ) (w : IsWhole slots row chain) → Holds slots chain w.stored.bytes
whole_holds slots row chain w = fragment_holds slots chain 1 (length w.stored.bytes) w.stored.table w.stored.bytes (omega arith) (rows_of chain (whole_inside slots row chain w)) (chain_fragments slots chain w.stored.table w.stored.bytes w.held)

pub whole_distinct : (slots : ℕ → List ℕ) (row : ℕ) (chain : List ℕ) → IsWhole slots row chain → AreDistinct chain
whole_distinct slots row chain w = holds_distinct slots chain w.stored.bytes (rows_of chain (whole_inside slots row chain w)) (whole_holds slots row chain w)

-- ---- one row more

laid_on : (old new : List Place) (xs : List ℕ) (row previous owner : ℕ) → ((k : ℕ) → Contains xs k → place_in new k ≡ place_in old k) → AreLaid old xs row previous owner → AreLaid new xs row previous owner
laid_on old new [] row previous owner same laid = tt
laid_on old new (at ∷ rest) row previous owner same laid = (same at (head_in at rest) ∙ laid.0, laid_on old new rest row at owner (λ k there. same k (tail_in at k rest there)) laid.1)

pub none_scanned : (slots : ℕ → List ℕ) → AreScanned slots [] 8192
none_scanned slots = record {
  held = λ k ne. absurd (ne refl);
  rows = λ row begun lt. let low = low_bound row (begun_inside slots row begun).0 in absurd (omega (arith, low, lt));
}

pub scanned_past : (slots : ℕ → List ℕ) (places : List Place) (at : ℕ) → AreScanned slots places at → begins slots at ≡ false → AreScanned slots places (at + 1)
scanned_past slots places at scanned none = record {
  held = λ k ne. let h = scanned.held k ne in let lt = h.1 in (h.0, omega (arith, lt), h.2);
  rows = λ row begun lt. elim (cases_eq row at) [
    | inl e ↦ absurd (not_both (begins slots at) (ap (begins slots) (sym e) ∙ begun) none)
    | inr ne ↦ scanned.rows row begun (omega (arith, lt, ne))
  ];
}

module _ (slots : ℕ → List ℕ) (old new : List Place) (at : ℕ) (chain : List ℕ) (scanned : AreScanned slots old at) (whole : IsWhole slots at chain) where
  pub scanned_more : ((k : ℕ) → Contains chain k → row_in old k ≡ 0) → AreLaid new chain at 0 0 → ((k : ℕ) → ¬ Contains chain k → place_in new k ≡ place_in old k) → AreScanned slots new (at + 1)
  scanned_more free laid rest = record {
    held = λ k ne. ⊎_elim
        (λ (there : Contains chain k).
        let is : row_in new k ≡ at = (laid_place new chain at 0 0 laid k there).0 in
        subst (λ (n : ℕ). (begins slots n ≡ true) × (n < at + 1) × Contains (chain_of slots n) k) (sym is)
        (begun_whole slots at chain whole, omega arith, subst (λ (xs : List ℕ). Contains xs k) whole.listed there))
        (λ (out : ¬ Contains chain k).
        let is : row_in new k ≡ row_in old k = ap (λ (p : Place). p.row) (rest k out) in
        let h = scanned.held k (λ none. ne (is ∙ none)) in
        let lt = h.1 in
        subst (λ (n : ℕ). (begins slots n ≡ true) × (n < at + 1) × Contains (chain_of slots n) k) (sym is) (h.0, omega (arith, lt), h.2))
        (among chain k);
    rows = λ row begun lt. elim (cases_eq row at) [
      | inl e ↦ subst (λ (n : ℕ). IsWhole slots n (chain_of slots n) × AreLaid new (chain_of slots n) n 0 0) (sym e)
          (subst (IsWhole slots at) whole.listed whole, subst (λ (xs : List ℕ). AreLaid new xs at 0 0) whole.listed laid)
      | inr ne ↦
          let h = scanned.rows row begun (omega (arith, lt, ne)) in (
            h.0,
            laid_on old new (chain_of slots row) row 0 0
                (λ k there. rest k (λ here.
                let none = free k here in
                let own = (laid_place old (chain_of slots row) row 0 0 h.1 k there).0 in
                let low = low_bound row (begun_inside slots row begun).0 in
                absurd (omega (arith, none, own, low)))) h.1,
          )
    ];
  }

  -- a slot of the row that is noted as another's is in two chains
  pub shared_slot : (k : ℕ) → Contains chain k → row_in old k ≢ 0 → ¬ AreChains slots
  shared_slot k there ne all =
      let h = scanned.held k ne in
      ⊎_elim
      (λ (free : kind_in (slots k) ≡ 0). whole_used slots at chain whole k there free)
      (λ (w : IsOfOneRow slots k).
      let other = w.only (row_in old k) h.0 h.2 in
      let own = w.only at (begun_whole slots at chain whole) (subst (λ (xs : List ℕ). Contains xs k) whole.listed there) in
      let lt = h.1 in
      absurd (omega (arith, other, own, lt)))
      (all.each k (whole_inside slots at chain whole k there))

pub broken_row : (slots : ℕ → List ℕ) (row : ℕ) → begins slots row ≡ true → IsBroken slots row → ¬ AreChains slots
broken_row slots row begun broken all = broken _ (row_there slots row begun) (all.chains row _ (row_there slots row begun))

-- the slot after one of a row's is the row's too
next_of : (slots : ℕ → List ℕ) (places : List Place) (xs bytes : List ℕ) (row previous : ℕ) → Holds slots xs bytes → AreLaid places xs row previous 0 → (k : ℕ) → Contains xs k → ends (next_in (slots k)) ≡ false
    → (row_in places (next_in (slots k)) ≡ row) × (previous_in places (next_in (slots k)) ≡ k)
next_of slots places [] bytes row previous h laid k there more = absurd (none_in k there)
next_of slots places (at ∷ rest) bytes row previous h laid k (suc i, low, is) more = next_of slots places rest _ row at h.2 laid.1 k (i, omega arith, is) more
next_of slots places (at ∷ rest) bytes row previous h laid k (zero, low, is) more =
    let next : next_in (slots k) ≡ first_or_zero rest = ap (λ (n : ℕ). next_in (slots n)) (sym is) ∙ h.1 in
    let found = next_fits places rest row at 0 laid.1 (ap ends (sym next) ∙ more) in
    (ap (row_in places) next ∙ found.0, ap (previous_in places) next ∙ (found.1 ∙ is))

-- ---- all slots

zero_kind : (bytes : List ℕ) → bytes ≡ replicate 256 0 → kind_in bytes ≡ 0
zero_kind bytes is = ap kind_in is

-- each row begins below the end
begun_below : (slots : ℕ → List ℕ) (end row : ℕ) → AreBlankFrom end slots → begins slots row ≡ true → row < end
begun_below slots end row blank begun = ⊎_elim
    (λ (lt : row < end). lt)
    (λ (le : end ≤ row).
    let b = begun_inside slots row begun in
    let one = b.1 in
    let none = zero_kind (slots row) (blank row le (let high = high_bound row b.0 in omega (arith, high))) in
    absurd (omega (arith, one, none)))
    (cases_lt row end)

module _ (slots : ℕ → List ℕ) (places : List Place) (end : ℕ) (scanned : AreScanned slots places end) (blank : AreBlankFrom end slots) where
  row_scanned : (row : ℕ) → begins slots row ≡ true → IsWhole slots row (chain_of slots row) × AreLaid places (chain_of slots row) row 0 0
  row_scanned row begun = scanned.rows row begun (begun_below slots end row blank begun)

  -- a slot that is used and noted as nobody's is of no row
  pub stray_slot : IsStray slots places → ¬ AreChains slots
  stray_slot stray all = ⊎_elim
      (λ (free : kind_in (slots stray.slot) ≡ 0). stray.used free)
      (λ (w : IsOfOneRow slots stray.slot).
      let own = (laid_place places (chain_of slots w.row) w.row 0 0 (row_scanned w.row w.begun).1 stray.slot w.there).0 in
      let low = low_bound w.row (begun_inside slots w.row w.begun).0 in
      let none = stray.none in
      absurd (omega (arith, own, low, none)))
      (all.each stray.slot stray.inside)

  module _ (noted : (k : ℕ) → 8192 ≤ k → k < 1048576 → row_in places k ≡ 0 → kind_in (slots k) ≡ 0) where
    used_noted : (k : ℕ) → ends k ≡ false → kind_in (slots k) ≢ 0 → row_in places k ≢ 0
    used_noted k inside used none = used (noted k (low_bound k inside) (high_bound k inside) none)

    one_row : (k : ℕ) → row_in places k ≢ 0 → IsOfOneRow slots k
    one_row k ne =
        let h = scanned.held k ne in record {
          row = row_in places k;
          begun = h.0;
          there = h.2;
          only = λ other begun there. sym (laid_place places (chain_of slots other) other 0 0 (row_scanned other begun).1 k there).0;
        }

    pub scanned_chains : AreChains slots
    scanned_chains = record {
      chains = λ row stored is.
          let begun : begins slots row ≡ true = row_of_some (begins slots row) _ stored is in
          let whole = (row_scanned row begun).0 in
          let same = same_read (row_at slots row) whole.stored stored whole.is_read is in
          subst (λ (x : StoredBytes). IsChain slots 1 2 x.table (chain_of slots row) x.bytes) same whole.held;
      each = λ k inside. by_kind k (cases_eq (kind_in (slots k)) 0) inside;
    }
      where
        same_read : (o : Option StoredBytes) (x y : StoredBytes) → o ≡ Some x → o ≡ Some y → x ≡ y
        same_read o x y e f = let both : Some x ≡ Some y = sym e ∙ f in cc both

        by_kind : (k : ℕ) → (kind_in (slots k) ≡ 0) ⊎ (kind_in (slots k) ≢ 0) → ends k ≡ false → (kind_in (slots k) ≡ 0) ⊎ IsOfOneRow slots k
        by_kind k (inl free) inside = inl free
        by_kind k (inr used) inside = inr (one_row k (used_noted k inside used))

    -- no free slot is noted as a row's
    pub scanned_free : (k : ℕ) → kind_in (slots k) ≡ 0 → row_in places k ≡ 0
    scanned_free k free = elim (cases_eq (row_in places k) 0) [
      | inl e ↦ e
      | inr ne ↦
          let h = scanned.held k ne in
          absurd (whole_used slots (row_in places k) (chain_of slots (row_in places k)) (row_scanned (row_in places k) h.0).0 k h.2 free)
    ]

    -- each slot fits what is noted of it
    pub scanned_fits : (k : ℕ) → 8192 ≤ k → k < 1048576 → Fits places k (slots k)
    scanned_fits k low high = record {
      first = λ one. (laid_place places (chain_of slots k) k 0 0 (row_scanned k (row_begins slots k low high one)).1 k (head_in k (slots_from 124 slots (next_in (slots k))))).0;
      next = λ more. (next_laid more).0;
      after = λ more. (next_laid more).1;
      free = λ none. noted k low high none;
    }
      where
        held : ends (next_in (slots k)) ≡ false → row_in places k ≢ 0
        held more none = not_both (ends (next_in (slots k))) (free_ends (slots k) (noted k low high none)) more

        next_laid : ends (next_in (slots k)) ≡ false → (row_in places (next_in (slots k)) ≡ row_in places k) × (previous_in places (next_in (slots k)) ≡ k)
        next_laid more =
            let h = scanned.held k (held more) in
            let r = row_scanned (row_in places k) h.0 in
            next_of slots places (chain_of slots (row_in places k)) r.0.stored.bytes (row_in places k) 0 (whole_holds slots (row_in places k) (chain_of slots (row_in places k)) r.0) r.1 k h.2 more

-- what is known below the end is known of all slots
pub all_free : (slots : ℕ → List ℕ) (places : List Place) (end : ℕ) → AreBlankFrom end slots → ((k : ℕ) → 8192 ≤ k → k < end → row_in places k ≡ 0 → kind_in (slots k) ≡ 0)
    → (k : ℕ) → 8192 ≤ k → k < 1048576 → row_in places k ≡ 0 → kind_in (slots k) ≡ 0
all_free slots places end blank noted k low high none = ⊎_elim
    (λ (lt : k < end). noted k low lt none)
    (λ (le : end ≤ k). zero_kind (slots k) (blank k le high))
    (cases_lt k end)

-- ---- what was found

pub none_left : {A : Type 0} (o : Option A) (P : Type 0) → ((x : A) → o ≡ Some x → ⊥) → IfNone o P → P
none_left None P never given = given
none_left (Some x) P never given = absurd (never x refl)

pub some_held : {A : Type 0} (o : Option A) (x : A) (P : A → Type 0) → o ≡ Some x → IfSome o P → P x
some_held {A} o x P is held = subst (λ (p : Option A). IfSome p P) is held

-- ---- over reads

module _ (s t : SlotState) (looks : Rests s t) (failed : t.failed ≡ s.failed) where
  now : IsReadable s → IsReadable t
  now readable = readable_on s t looks.keeps.observable failed readable

  pub whole_was : (row : ℕ) (chain : List ℕ) → (IsReadable t → IsWhole t.reads row chain) → IsReadable s → IsWhole s.reads row chain
  whole_was row chain h readable = subst (λ (f : ℕ → List ℕ). IsWhole f row chain) (looks.reads readable) (h (now readable))

  pub broken_was : (row : ℕ) → (IsReadable t → IsBroken t.reads row) → IsReadable s → IsBroken s.reads row
  broken_was row h readable = subst (λ (f : ℕ → List ℕ). IsBroken f row) (looks.reads readable) (h (now readable))

  pub scanned_was : (places : List Place) (end : ℕ) → (IsReadable t → AreScanned t.reads places end) → IsReadable s → AreScanned s.reads places end
  scanned_was places end h readable = subst (λ (f : ℕ → List ℕ). AreScanned f places end) (looks.reads readable) (h (now readable))

  pub scanned_on : (places : List Place) (end : ℕ) → (IsReadable s → AreScanned s.reads places end) → IsReadable t → AreScanned t.reads places end
  scanned_on places end h readable =
      let was = readable_on t s (sym looks.keeps.observable) (sym failed) readable in
      subst (λ (f : ℕ → List ℕ). AreScanned f places end) (sym (looks.reads was)) (h was)

  pub chains_not : (IsReadable t → ¬ AreChains t.reads) → IsReadable s → ¬ AreChains s.reads
  chains_not never readable all = never (now readable) (subst AreChains (sym (looks.reads readable)) all)

-- what holds below a number and there
pub one_more : (P : ℕ → Type 0) (at : ℕ) → ((k : ℕ) → 8192 ≤ k → k < at → P k) → P at → (k : ℕ) → 8192 ≤ k → k < at + 1 → P k
one_more P at below here k low lt = elim (cases_eq k at) [
  | inl e ↦ subst P (sym e) here
  | inr ne ↦ below k low (omega (arith, lt, ne))
]

-- ---- the scan

-- slots that are used and noted as nobody's are found by reading again
pub scan_stray : (s t : SlotState) (places : List Place) (end : ℕ) → Rests s t → t.failed ≡ s.failed → (IsReadable s → AreBlankFrom end s.reads) → (IsReadable s → AreScanned s.reads places end)
    → (IsReadable t → IsStray t.reads places) → IsReadable s → ¬ AreChains s.reads
scan_stray s t places end looks failed blank scanned stray readable =
    stray_slot s.reads places end (scanned readable) (blank readable) (subst (λ (f : ℕ → List ℕ). IsStray f places) (looks.reads readable) (stray (now s t looks failed readable)))

module _ (s t u : SlotState) (places : List Place) (end : ℕ) (looks : Rests s t) (failed : t.failed ≡ s.failed) (looks_on : Rests t u) (failed_on : u.failed ≡ t.failed)
    (blank : IsReadable s → AreBlankFrom end s.reads) (scanned : IsReadable s → AreScanned s.reads places end) (noted : IsReadable t → (k : ℕ) → 8192 ≤ k → k < 1048576 → row_in places k ≡ 0 → kind_in (t.reads k) ≡ 0) where
  noted_was : IsReadable s → (k : ℕ) → 8192 ≤ k → k < 1048576 → row_in places k ≡ 0 → kind_in (s.reads k) ≡ 0
  noted_was readable = subst (λ (f : ℕ → List ℕ). (k : ℕ) → 8192 ≤ k → k < 1048576 → row_in places k ≡ 0 → kind_in (f k) ≡ 0) (looks.reads readable) (noted (now s t looks failed readable))

  looks_both : Rests s u
  looks_both = rests_both s t u failed looks looks_on

  pub scan_chains : IsReadable s → AreChains s.reads
  scan_chains readable = scanned_chains s.reads places end (scanned readable) (blank readable) (noted_was readable)

  pub scan_free : IsReadable s → (k : ℕ) → ends k ≡ false → kind_in (s.reads k) ≡ 0 → row_in places k ≡ 0
  scan_free readable k inside free = scanned_free s.reads places end (scanned readable) (blank readable) (noted_was readable) k free

  pub scan_known : ((c : ℕ) → (s.transaction c).begun ≡ false) → ((c : ℕ) → (s.transaction c).undo ≡ []) → IsKept u places
  scan_known idle clean = idle_kept u places
      (λ c. ap (λ (f : ℕ → Transaction). (f c).begun) looks_both.transaction ∙ idle c)
      (λ c. ap (λ (f : ℕ → Transaction). (f c).undo) looks_both.transaction ∙ clean c)
      (λ readable k low high.
      let was = readable_on u s (sym looks_both.keeps.observable) (sym (failed_on ∙ failed)) readable in
      subst (λ (f : ℕ → List ℕ). Fits places k (f k)) (sym (looks_both.reads was)) (scanned_fits s.reads places end (scanned was) (blank was) (noted_was was) k low high))
