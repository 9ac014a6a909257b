-- A store is opened: what was found of the slots is noted.
use Rattle.std.proofs.Common.{◌≡◌, ◌≢◌, ◌⊎◌, inl, inr, ⊎_elim, ℕ, ◌<◌, ◌≤◌, ◌&&◌, not, cond, eqb, Bool, true, false, List, [], drop, length, None, refl, sym, ◌∙◌, ap, subst, arith}
use Rattle.std.proofs.lemmas.Bool.{cases_lt}
use Rattle.std.proofs.lemmas.List.{get_or_past}
use Rattle.storage.specs.Slots.{SlotState, Transaction, IsReadable, Rests, wrote}
use Rattle.storage.specs.declared.slots.Undo.{Undo}
use Rattle.abl_values.specs.Rows.{number_at_head}
use Rattle.free_slots.specs.Free.{free_in}
use Rattle.free_slots.proofs.Popped.{far}
use Rattle.row_fragments.specs.Calls.{Covers}
use Rattle.row_fragments.specs.Fragments.{begins, ends, kind_in, next_in, row_at}
use Rattle.row_fragments.specs.Tied.{IsValue}
use Rattle.row_fragments.proofs.Chained.{no_row_at}
use Rattle.row_fragments.proofs.Composes.{readable_on}
use Rattle.byte_rows.specs.declared.client.Client.{Client}
use Rattle.byte_rows.specs.declared.places.Place.{Place}
use Rattle.byte_rows.specs.Clients.{ClientView, client_in, no_client}
use Rattle.byte_rows.specs.Exact.{IsExact}
use Rattle.byte_rows.specs.Freed.{IsFreed, has}
use Rattle.byte_rows.specs.Noted.{IsSound}
use Rattle.byte_rows.specs.Places.{Fits, HoldNothing, IsKept, no_place, owner_in, row_in}
use Rattle.byte_rows.proofs.Kept.{not_both}
use Rattle.byte_rows.proofs.Rewrites.{high_bound, low_bound}

-- what scanning found
module _ (s t : SlotState) (places : List Place) (idle : (c : ℕ) → (s.transaction c).begun ≡ false) (r : Rests s t) (failed : t.failed ≡ s.failed)
    (free_found : IsReadable s → (k : ℕ) → ends k ≡ false → kind_in (s.reads k) ≡ 0 → row_in places k ≡ 0) (unowned : (k : ℕ) → ends k ≡ false → owner_in places k ≡ 0) where
  idle_now : (c : ℕ) → (t.transaction c).begun ≡ false
  idle_now c = ap (λ (f : ℕ → Transaction). (f c).begun) r.transaction ∙ idle c

  found_exact : IsExact t places
  found_exact = record {
    held = λ readable k inside some none empty.
        let was : IsReadable s = readable_on t s (sym r.keeps.observable) (sym failed) readable in
        some (free_found was k inside (ap (λ (f : ℕ → List ℕ). kind_in (f k)) (sym (r.reads was)) ∙ empty));
    marked = λ c k inside begun own. absurd (not_both (t.transaction c).begun begun (idle_now c));
    free = λ k inside none. unowned k inside;
    few = λ k inside. let none = unowned k inside in omega (arith, none);
  }

  pub opened_sound : (free : ℕ → ℕ) (cs : List Client) → s.failed ≡ false → IsKept t places → IsFreed free places → length cs ≡ 16 → ((k : ℕ) → client_in cs k ≡ no_client) → IsSound t places free cs false
  opened_sound free cs fine kept freed many none = record {
    sixteen = many;
    begun = λ c lt. idle_now c ∙ sym (ap (λ (v : ClientView). v.begun) (none c));
    past = λ c le. idle_now c;
    same_failed = sym (failed ∙ fine);
    noted = λ _. record {
      kept = kept;
      freed = freed;
      exact = found_exact;
      counted = λ c lt begun. absurd (not_both (t.transaction c).begun begun (idle_now c));
      within = λ c k lt there. absurd (not_both false (sym (ap (λ (v : ClientView). has v.touched k) (none c)) ∙ there) refl);
      listed = λ c k lt inside own. let no = unowned k inside in absurd (omega (arith, own, no));
    };
  }

-- ---- the free slots

-- past the end no slot is known to be taken
past_end : (places : List Place) (end k : ℕ) → (length places ≤ end) ⊎ (end ≡ 1048576) → end ≤ k → k < 1048576 → row_in places k ≡ 0
past_end places end k rest le lt = ⊎_elim
    (λ (short : length places ≤ end). ap (λ (p : Place). p.row) (get_or_past places k no_place (omega (arith, short, le))))
    (λ (is : end ≡ 1048576). absurd (omega (arith, is, le, lt)))
    rest

-- no row begins from the end on
pub none_from : (s : SlotState) (places : List Place) (end k : ℕ) → IsKept s places → IsReadable s → (length places ≤ end) ⊎ (end ≡ 1048576) → end ≤ k → row_at s.reads k ≡ None
none_from s places end k kept readable rest le = no_row_at s.reads k (by_end (ends k) refl)
  where
    by_end : (b : Bool) → ends k ≡ b → begins s.reads k ≡ false
    by_end true e = ap (λ (b : Bool). not b && eqb (kind_in (s.reads k)) 1) e
    by_end false e =
        let free : kind_in (s.reads k) ≡ 0 = (kept.fits readable k (s.reads k) e (inl refl)).free (past_end places end k rest le (high_bound k e)) in
        ap (λ (b : Bool). not b && eqb (kind_in (s.reads k)) 1) e ∙ ap (λ (kind : ℕ). eqb kind 1) free

pub free_found : (places : List Place) (back : List ℕ) (last end : ℕ) → (length places ≤ end) ⊎ (end ≡ 1048576) → end ≤ 1048576
    → ((k : ℕ) → end ≤ k → k < 1048576 → free_in back last k ≡ 1) → ((k : ℕ) → k < 8192 → free_in back last k ≡ 0)
    → ((k : ℕ) → k < end → row_in places k ≢ 0 → free_in back last k ≡ 0) → ((k : ℕ) → 8192 ≤ k → k < end → row_in places k ≡ 0 → free_in back last k ≡ 1) → IsFreed (free_in back last) places
free_found places back last end rest high above low held given = record {
  taken = λ k some. ⊎_elim
      (λ (lt : k < end). held k lt some)
      (λ (le : end ≤ k). ⊎_elim
      (λ (in_rows : k < 1048576). absurd (some (past_end places end k rest le in_rows)))
      (λ (out : 1048576 ≤ k). far back last k out) (cases_lt k 1048576))
      (cases_lt k end);
  every = λ k inside none. ⊎_elim
      (λ (lt : k < end). given k (low_bound k inside) lt none)
      (λ (le : end ≤ k). above k le (high_bound k inside))
      (cases_lt k end);
}

-- ---- slots that hold nothing

-- a slot that holds nothing has no next one
no_next : (bytes : List ℕ) → kind_in bytes ≡ 0 → ends (next_in bytes) ≡ true
no_next bytes none =
    let is : next_in bytes ≡ 0 = ap (λ (kind : ℕ). cond (eqb kind 0) 0 (number_at_head 4 (drop 4 bytes))) none in
    ap ends is

fits_empty : (k : ℕ) (bytes : List ℕ) → kind_in bytes ≡ 0 → Fits [] k bytes
fits_empty k bytes none = record {
  first = λ one. absurd (omega (arith, none, one));
  next = λ more. absurd (not_both (ends (next_in bytes)) (no_next bytes none) more);
  after = λ more. absurd (not_both (ends (next_in bytes)) (no_next bytes none) more);
  free = λ _. none;
}

module _ (s : SlotState) (idle : (c : ℕ) → (s.transaction c).begun ≡ false) (clean : (c : ℕ) → (s.transaction c).undo ≡ []) (empty : IsReadable s → HoldNothing s.reads) where
  value_empty : IsReadable s → (k : ℕ) (bytes : List ℕ) → ends k ≡ false → IsValue s k bytes → kind_in bytes ≡ 0
  value_empty readable k bytes inside (inl now) = ap kind_in now ∙ empty readable k inside
  value_empty readable k bytes inside (inr (c, covers)) = absurd (subst (λ (us : List Undo). Covers us k bytes) (clean c) covers)

  empty_kept : IsKept s []
  empty_kept = record {
    owned = λ c k inside begun w. absurd (not_both (s.transaction c).begun begun (idle c));
    noted = λ c k inside w. absurd (not_both (wrote (s.transaction c).undo k) w (ap (λ (us : List Undo). wrote us k) (clean c)));
    idle = λ c is. clean c;
    fits = λ readable k bytes inside value. fits_empty k bytes (value_empty readable k bytes inside value);
  }

  pub new_sound : (places : List Place) (free : ℕ → ℕ) (cs : List Client) → s.failed ≡ false → places ≡ [] → IsFreed free places → length cs ≡ 16 → ((k : ℕ) → client_in cs k ≡ no_client) → IsSound s places free cs false
  new_sound places free cs fine none freed many idle_all =
      subst (λ (ps : List Place). IsSound s ps free cs false) (sym none)
      (opened_sound s s [] idle still refl (λ readable k inside is. refl) (λ k inside. refl) free cs fine empty_kept (subst (IsFreed free) none freed) many idle_all)
    where
      still : Rests s s
      still = record { keeps = record { observable = refl; committed = λ is. refl; doubt = λ is. refl }; reads = λ is. refl; transaction = refl }
