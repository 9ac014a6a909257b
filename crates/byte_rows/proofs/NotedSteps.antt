-- What is noted of slots and clients agrees with the slots after each call.
use Rattle.std.proofs.Common.{◌≡◌, ◌≢◌, ◌⊎◌, inl, inr, ⊎_elim, ℕ, zero, suc, ◌+◌, ◌<◌, ◌≤◌, ◌==◌, ◌||◌, Bool, true, false, List, [], ◌∷◌, ◌++◌, length, slice_index_or, slice_set, refl, sym, ◌∙◌, ap, subst, arith}
use Rattle.std.specs.List.{Contains}
use Rattle.std.proofs.lemmas.Bool.{cases_eq}
use Rattle.std.proofs.lemmas.Bool.Decides.{nat_tests}
use Rattle.storage.specs.Slots.{SlotState, Transaction, GoesBack, Rests}
use Rattle.row_fragments.specs.Calls.{Wrote}
use Rattle.row_fragments.specs.Fragments.{ends}
use Rattle.row_fragments.proofs.Within.{head_in, none_in, tail_in}
use Rattle.byte_rows.specs.declared.client.Client.{Client}
use Rattle.byte_rows.specs.declared.places.Place.{Place}
use Rattle.byte_rows.specs.Clients.{ClientView, client_in, view_of}
use Rattle.byte_rows.specs.Exact.{IsExact}
use Rattle.byte_rows.specs.Freed.{IsFreed, has}
use Rattle.byte_rows.specs.Noted.{IsNoted}
use Rattle.byte_rows.specs.Places.{AreLaid, IsKept, owner_in, place_in}
use Rattle.byte_rows.proofs.ClientLists.{client_at, client_set_other, client_set_same, same_set}
use Rattle.byte_rows.proofs.Exactly.{exact_back, exact_rests, exact_written}
use Rattle.byte_rows.proofs.Kept.{among, laying_keeps}
use Rattle.byte_rows.proofs.Rewrites.{laid_place}
use Rattle.byte_rows.proofs.Touched.{has_here}
use Rattle.byte_rows.proofs.Turns.{back_kept, rests_kept}

-- ---- slots in a list

or_later : (a b c : Bool) → (b ≡ true → c ≡ true) → (a || b) ≡ true → (a || c) ≡ true
or_later true b c f e = refl
or_later false b c f e = f e

or_right : (a b : Bool) → b ≡ true → (a || b) ≡ true
or_right true b e = refl
or_right false b e = e

has_left : (xs ys : List ℕ) (k : ℕ) → has xs k ≡ true → has (xs ++ ys) k ≡ true
has_left [] ys k e = cc e
has_left (x ∷ xs) ys k e = or_later (k == x) (has xs k) (has (xs ++ ys) k) (has_left xs ys k) e

has_right : (xs ys : List ℕ) (k : ℕ) → has ys k ≡ true → has (xs ++ ys) k ≡ true
has_right [] ys k e = e
has_right (x ∷ xs) ys k e = or_right (k == x) (has (xs ++ ys) k) (has_right xs ys k e)

either_or : (a b : Bool) → (a || b) ≡ true → (a ≡ true) ⊎ (b ≡ true)
either_or true b e = inl refl
either_or false b e = inr e

has_parts : (xs ys : List ℕ) (k : ℕ) → has (xs ++ ys) k ≡ true → (has xs k ≡ true) ⊎ (has ys k ≡ true)
has_parts [] ys k e = inr e
has_parts (x ∷ xs) ys k e = ⊎_elim
    (λ (here : (k == x) ≡ true). inl (ap (λ (b : Bool). b || has xs k) here))
    (λ (later : has (xs ++ ys) k ≡ true). ⊎_elim (λ (l : has xs k ≡ true). inl (or_right (k == x) (has xs k) l)) (λ (r : has ys k ≡ true). inr r) (has_parts xs ys k later))
    (either_or (k == x) (has (xs ++ ys) k) e)

has_of : (xs : List ℕ) (k : ℕ) → Contains xs k → has xs k ≡ true
has_of [] k there = absurd (none_in k there)
has_of (x ∷ xs) k (zero, low, is) = subst (λ (n : ℕ). has (x ∷ xs) n ≡ true) is (has_here x xs)
has_of (x ∷ xs) k (suc i, low, is) = or_right (k == x) (has xs k) (has_of xs k (i, omega arith, is))

in_of : (xs : List ℕ) (k : ℕ) → has xs k ≡ true → Contains xs k
in_of [] k e = absurd (cc e)
in_of (x ∷ xs) k e = elim (cases_eq k x) [
  | inl is ↦ subst (Contains (x ∷ xs)) (sym is) (head_in x xs)
  | inr ne ↦ ⊎_elim (λ (here : (k == x) ≡ true). absurd (ne (eqb_is k x here))) (λ (later : has xs k ≡ true). tail_in x k xs (in_of xs k later)) (either_or (k == x) (has xs k) e)
]
  where
    eqb_is : (a b : ℕ) → (a == b) ≡ true → a ≡ b
    eqb_is a b h = grind (arith, nat_tests)

-- ---- nothing changes

pub noted_rests : (s t : SlotState) (places : List Place) (free : ℕ → ℕ) (cs : List Client) → Rests s t → t.failed ≡ s.failed → IsNoted s places free cs → IsNoted t places free cs
noted_rests s t places free cs r failed n = record {
  kept = rests_kept s t places n.kept failed r;
  freed = n.freed;
  exact = exact_rests s t places r failed n.exact;
  counted = λ c lt begun. ap (λ (f : ℕ → Transaction). (f c).counted) r.transaction ∙ n.counted c lt (ap (λ (f : ℕ → Transaction). (f c).begun) (sym r.transaction) ∙ begun);
  within = n.within;
  listed = n.listed;
}

-- one client changes to another
module _ (cs : List Client) (client : ℕ) (was x : Client) (lt_cs : client < length cs) (was_is : was ≡ slice_index_or cs client was) where
  pub now_is : (c : ℕ) → c ≡ client → client_in (slice_set cs client x) c ≡ view_of x
  now_is c e = ap (λ (n : ℕ). client_in (slice_set cs client x) n) e ∙ client_set_same cs client x lt_cs

  pub was_in : client_in cs client ≡ view_of was
  was_in = client_at cs client was lt_cs was_is

  -- slots of the client are settled
  pub noted_settled : (s t : SlotState) (old new : List Place) (free left : ℕ → ℕ) → x.begun ≡ was.begun → x.drawn ≡ was.drawn → x.written ≡ was.written → Rests s t → IsKept t new → IsFreed left new → IsExact t new
      → ((k : ℕ) → has x.touched.items k ≡ true → (ends k ≡ false) × (k < length new)) → ((k : ℕ) → ends k ≡ false → owner_in new k ≡ client + 1 → has x.touched.items k ≡ true)
      → ((c k : ℕ) → owner_in new k ≡ c + 1 → owner_in old k ≡ c + 1) → length new ≡ length old → IsNoted s old free cs → IsNoted t new left (slice_set cs client x)
  noted_settled s t old new free left begun drawn written r kept freed exact touched all none long n = record {
    kept = kept;
    freed = freed;
    exact = exact;
    counted = λ c lt is_begun.
        ap (λ (f : ℕ → Transaction). (f c).counted) r.transaction
        ∙ (n.counted c lt (ap (λ (f : ℕ → Transaction). (f c).begun) (sym r.transaction) ∙ is_begun) ∙ sym ((same_set cs client was x lt_cs was_is begun drawn written).written c));
    within = λ c k lt there. elim (cases_eq c client) [
      | inl e ↦ touched k (sym (ap (λ (v : ClientView). has v.touched k) (now_is c e)) ∙ there)
      | inr ne ↦ let low = n.within c k lt (sym (ap (λ (v : ClientView). has v.touched k) (client_set_other cs client c x ne)) ∙ there) in let less = low.1 in (low.0, omega (arith, less, long))
    ];
    listed = λ c k lt inside own. elim (cases_eq c client) [
      | inl e ↦ ap (λ (v : ClientView). has v.touched k) (now_is c e) ∙ all k inside (own ∙ ap (λ (m : ℕ). m + 1) e)
      | inr ne ↦ ap (λ (v : ClientView). has v.touched k) (client_set_other cs client c x ne) ∙ n.listed c k lt inside (none c k own)
    ];
  }

  -- the client wrote a row's slots
  pub noted_written : (s t : SlotState) (old new : List Place) (free left : ℕ → ℕ) (chain : List ℕ) (row : ℕ) → client < 16 → 0 < row → t.observable ≡ s.observable → Wrote s t client chain
      → ((c : ℕ) → c ≢ client → t.transaction c ≡ s.transaction c) → (s.transaction client).begun ≡ true → AreLaid new chain row 0 (client + 1) → ((k : ℕ) → ¬ Contains chain k → place_in new k ≡ place_in old k)
      → ((k : ℕ) → Contains chain k → ends k ≡ false) → ((k : ℕ) → Contains chain k → k < length new) → length old ≤ length new → IsKept t new → IsFreed left new
      → x.written ≡ was.written + length chain → x.touched.items ≡ was.touched.items ++ chain → IsNoted s old free cs → IsNoted t new left (slice_set cs client x)
  noted_written s t old new free left chain row lt some seen w others begun laid rest inside_all within_all long kept freed written touched n = record {
    kept = kept;
    freed = freed;
    exact = exact_written s t old new client row chain lt some seen w others begun laid rest n.exact;
    counted = λ c few is_begun. elim (cases_eq c client) [
      | inl e ↦
          let grown = w.counted in
          let counted_was : (s.transaction client).counted ≡ was.written = n.counted client lt begun ∙ ap (λ (v : ClientView). v.written) was_in in
          let now : (client_in (slice_set cs client x) c).written ≡ x.written = ap (λ (v : ClientView). v.written) (now_is c e) in
          let total : (t.transaction client).counted ≡ (client_in (slice_set cs client x) c).written = omega (arith, grown, counted_was, now, written) in
          ap (λ (m : ℕ). (t.transaction m).counted) e ∙ total
      | inr ne ↦
          ap (λ (y : Transaction). y.counted) (others c ne) ∙ (n.counted c few (ap (λ (y : Transaction). y.begun) (sym (others c ne)) ∙ is_begun) ∙ sym (ap (λ (v : ClientView). v.written) (client_set_other cs client c x ne)))
    ];
    within = λ c k few there. elim (cases_eq c client) [
      | inl e ↦
          let all : has (was.touched.items ++ chain) k ≡ true = sym (ap (λ (xs : List ℕ). has xs k) touched) ∙ (sym (ap (λ (v : ClientView). has v.touched k) (now_is c e)) ∙ there) in
          ⊎_elim
          (λ (l : has was.touched.items k ≡ true). let low = n.within client k lt (ap (λ (v : ClientView). has v.touched k) was_in ∙ l) in let less = low.1 in (low.0, omega (arith, less, long)))
          (λ (r : has chain k ≡ true). (inside_all k (in_of chain k r), within_all k (in_of chain k r)))
          (has_parts was.touched.items chain k all)
      | inr ne ↦ let low = n.within c k few (sym (ap (λ (v : ClientView). has v.touched k) (client_set_other cs client c x ne)) ∙ there) in let less = low.1 in (low.0, omega (arith, less, long))
    ];
    listed = λ c k few inside own. ⊎_elim
        (λ (there : Contains chain k).
        let is = (laid_place new chain row 0 (client + 1) laid k there).1 in
        let same : c ≡ client = omega (arith, is, own) in
        ap (λ (v : ClientView). has v.touched k) (now_is c same) ∙ (ap (λ (xs : List ℕ). has xs k) touched ∙ has_right was.touched.items chain k (has_of chain k there)))
        (λ (out : ¬ Contains chain k). kept_listed c k few inside (ap (λ (p : Place). p.owner) (sym (rest k out)) ∙ own))
        (among chain k);
  }
    where
      kept_listed : (c k : ℕ) → c < 16 → ends k ≡ false → owner_in old k ≡ c + 1 → has (client_in (slice_set cs client x) c).touched k ≡ true
      kept_listed c k few inside own = elim (cases_eq c client) [
        | inl e ↦ ap (λ (v : ClientView). has v.touched k) (now_is c e)
            ∙ (ap (λ (xs : List ℕ). has xs k) touched ∙ has_left was.touched.items chain k (sym (ap (λ (v : ClientView). has v.touched k) (ap (λ (m : ℕ). client_in cs m) e ∙ was_in)) ∙ n.listed c k few inside own))
        | inr ne ↦ ap (λ (v : ClientView). has v.touched k) (client_set_other cs client c x ne) ∙ n.listed c k few inside own
      ]

  -- the client's transaction begins or ends
  pub noted_turned : (s t : SlotState) (places : List Place) (free : ℕ → ℕ) → ((c : ℕ) → c ≢ client → t.transaction c ≡ s.transaction c) → ((t.transaction client).begun ≡ true → (t.transaction client).counted ≡ x.written)
      → IsKept t places → IsExact t places → x.touched.items ≡ was.touched.items → IsNoted s places free cs → IsNoted t places free (slice_set cs client x)
  noted_turned s t places free others counted kept exact touched n = record {
    kept = kept;
    freed = n.freed;
    exact = exact;
    counted = λ c few is_begun. elim (cases_eq c client) [
      | inl e ↦ ap (λ (m : ℕ). (t.transaction m).counted) e ∙ (counted (ap (λ (m : ℕ). (t.transaction m).begun) (sym e) ∙ is_begun) ∙ sym (ap (λ (v : ClientView). v.written) (now_is c e)))
      | inr ne ↦
          ap (λ (y : Transaction). y.counted) (others c ne) ∙ (n.counted c few (ap (λ (y : Transaction). y.begun) (sym (others c ne)) ∙ is_begun) ∙ sym (ap (λ (v : ClientView). v.written) (client_set_other cs client c x ne)))
    ];
    within = λ c k few there. n.within c k few (sym (same c k) ∙ there);
    listed = λ c k few inside own. same c k ∙ n.listed c k few inside own;
  }
    where
      same : (c k : ℕ) → has (client_in (slice_set cs client x) c).touched k ≡ has (client_in cs c).touched k
      same c k = elim (cases_eq c client) [
        | inl e ↦ ap (λ (v : ClientView). has v.touched k) (now_is c e) ∙ (ap (λ (xs : List ℕ). has xs k) touched ∙ sym (ap (λ (v : ClientView). has v.touched k) (ap (λ (m : ℕ). client_in cs m) e ∙ was_in)))
        | inr ne ↦ ap (λ (v : ClientView). has v.touched k) (client_set_other cs client c x ne)
      ]

-- a client goes back to a mark
pub noted_back : (s t : SlotState) (places : List Place) (free : ℕ → ℕ) (cs : List Client) (client mark : ℕ) → t.failed ≡ s.failed → (s.transaction client).begun ≡ true → GoesBack s t client mark → IsNoted s places free cs → IsNoted t places free cs
noted_back s t places free cs client mark failed begun b n = record {
  kept = back_kept s t places n.kept failed client mark begun b;
  freed = n.freed;
  exact = exact_back s t places n.kept n.exact failed client mark begun b;
  counted = λ c few is_begun. elim (cases_eq c client) [
    | inl e ↦ ap (λ (m : ℕ). (t.transaction m).counted) e ∙ (b.transaction.counted ∙ (n.counted client (subst (λ (m : ℕ). m < 16) e few) begun ∙ ap (λ (m : ℕ). (client_in cs m).written) (sym e)))
    | inr ne ↦ ap (λ (y : Transaction). y.counted) (b.transaction.others c ne) ∙ n.counted c few (ap (λ (y : Transaction). y.begun) (sym (b.transaction.others c ne)) ∙ is_begun)
  ];
  within = n.within;
  listed = n.listed;
}

-- what is known of each slot is the same, and so is which slots are free
pub noted_places : (t : SlotState) (old new : List Place) (free left : ℕ → ℕ) (cs : List Client) → ((k : ℕ) → place_in new k ≡ place_in old k) → ((k : ℕ) → left k ≡ free k) → length old ≤ length new → IsNoted t old free cs → IsNoted t new left cs
noted_places t old new free left cs same left_is long n = record {
  kept = laying_keeps t old new [] 1 0 0 (omega arith) tt tt (λ k out. same k) n.kept;
  freed = record {
    taken = λ k some. left_is k ∙ n.freed.taken k (λ none. some (ap (λ (p : Place). p.row) (same k) ∙ none));
    every = λ k inside none. left_is k ∙ n.freed.every k inside (sym (ap (λ (p : Place). p.row) (same k)) ∙ none);
  };
  exact = record {
    held = λ readable k inside some none. n.exact.held readable k inside (λ is. some (ap (λ (p : Place). p.row) (same k) ∙ is)) (sym (ap (λ (p : Place). p.owner) (same k)) ∙ none);
    marked = λ c k inside begun own. n.exact.marked c k inside begun (sym (ap (λ (p : Place). p.owner) (same k)) ∙ own);
    free = λ k inside none. ap (λ (p : Place). p.owner) (same k) ∙ n.exact.free k inside (sym (ap (λ (p : Place). p.row) (same k)) ∙ none);
    few = λ k inside. subst (λ (p : Place). p.owner ≤ 16) (sym (same k)) (n.exact.few k inside);
  };
  counted = n.counted;
  within = λ c k few there. let low = n.within c k few there in let less = low.1 in (low.0, omega (arith, less, long));
  listed = λ c k few inside own. n.listed c k few inside (sym (ap (λ (p : Place). p.owner) (same k)) ∙ own);
}
