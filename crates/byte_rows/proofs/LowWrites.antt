-- A slot of sequence values is written: what is noted of rows stays.
use Rattle.std.proofs.Common.{◌≡◌, ◌≢◌, inl, inr, ⊎_elim, ℕ, ◌+◌, ◌<◌, ◌≤◌, ◌==◌, ◌||◌, cond, Bool, true, false, List, [], ◌∷◌, ◌++◌, sym, ◌∙◌, ap, subst, arith}
use Rattle.std.proofs.lemmas.Bool.{cases_eq}
use Rattle.std.proofs.lemmas.Bool.Decides.{nat_tests}
use Rattle.storage.specs.Slots.{SlotState, Transaction, IsReadable, Writes, is_low, wrote}
use Rattle.storage.specs.declared.slots.Undo.{Undo}
use Rattle.row_fragments.specs.Calls.{Covers}
use Rattle.row_fragments.specs.Fragments.{ends}
use Rattle.row_fragments.specs.Tied.{IsValue}
use Rattle.row_fragments.proofs.Composes.{covers_append, readable_on, wrote_append}
use Rattle.byte_rows.specs.declared.client.Client.{Client}
use Rattle.byte_rows.specs.declared.places.Place.{Place}
use Rattle.byte_rows.specs.Clients.{client_in}
use Rattle.byte_rows.specs.Noted.{IsNoted}
use Rattle.byte_rows.specs.Places.{IsKept}
use Rattle.byte_rows.proofs.Exactly.{exact_becomes}
use Rattle.byte_rows.proofs.Kept.{not_both, not_here}

or_false : (a b : Bool) → a ≡ false → (a || b) ≡ b
or_false true b e = absurd (cc e)
or_false false b e = cc

or_none : (a b : Bool) → b ≡ false → (a || b) ≡ true → a ≡ true
or_none true b f e = cc
or_none false b f e = absurd (cc (f, e))

module _ (s t : SlotState) (client slot : ℕ) (bytes : List ℕ) (low : 5000 ≤ slot) (high : slot ≤ 5008) (failed : t.failed ≡ s.failed) (begun : (s.transaction client).begun ≡ true) (w : Writes s t client slot bytes) where
  apart : (k : ℕ) → ends k ≡ false → k ≢ slot
  apart k inside e = let far : 8192 ≤ k = grind (arith, nat_tests, inside) in omega (arith, far, e, high)

  other : (k : ℕ) → ends k ≡ false → (k == slot) ≡ false
  other k inside = let ne = apart k inside in grind (arith, nat_tests, ne)

  reads_same : IsReadable s → (k : ℕ) → ends k ≡ false → t.reads k ≡ s.reads k
  reads_same readable k inside = ap (λ (f : ℕ → List ℕ). f k) (w.reads readable) ∙ not_here k slot bytes (s.reads k) (apart k inside)

  written_same : (k : ℕ) → ends k ≡ false → (t.transaction client).written k ≡ (s.transaction client).written k
  written_same k inside = w.transaction.written k ∙ or_false (k == slot) ((s.transaction client).written k) (other k inside)

  wrote_same : (k : ℕ) → ends k ≡ false → wrote (t.transaction client).undo k ≡ true → wrote (s.transaction client).undo k ≡ true
  wrote_same k inside is =
      or_none (wrote (s.transaction client).undo k) ((k == slot) || false) (or_false (k == slot) false (other k inside))
      (sym (wrote_append (s.transaction client).undo (record { slot = slot; old = w.before } ∷ []) k) ∙ (sym (ap (λ (us : List Undo). wrote us k) w.transaction.undo) ∙ is))

  value_was : IsReadable s → (k : ℕ) (b : List ℕ) → ends k ≡ false → IsValue t k b → IsValue s k b
  value_was readable k b inside (inl is) = inl (is ∙ reads_same readable k inside)
  value_was readable k b inside (inr (c, there)) = elim (cases_eq c client) [
    | inl e ↦
        let all : Covers ((s.transaction client).undo ++ record { slot = slot; old = w.before } ∷ []) k b = subst (λ (us : List Undo). Covers us k b) (ap (λ (n : ℕ). (t.transaction n).undo) e ∙ w.transaction.undo) there in
        ⊎_elim
        (λ (l : Covers (s.transaction client).undo k b). inr (client, l))
        (λ (r : Covers (record { slot = slot; old = w.before } ∷ []) k b). absurd (only k b inside r))
        (covers_append (s.transaction client).undo (record { slot = slot; old = w.before } ∷ []) k b all)
    | inr ne ↦ inr (c, subst (λ (x : Transaction). Covers x.undo k b) (w.transaction.others c ne) there)
  ]
    where
      only : (k : ℕ) (b : List ℕ) → ends k ≡ false → Covers (record { slot = slot; old = w.before } ∷ []) k b → ⊥
      only k b inside (inl is) = apart k inside (sym is.0)
      only k b inside (inr none) = none

  pub low_kept : (places : List Place) → IsKept s places → IsKept t places
  low_kept places kept = record {
    owned = λ c k inside is_begun is. elim (cases_eq c client) [
      | inl e ↦ kept.owned client k inside begun (sym (written_same k inside) ∙ (ap (λ (n : ℕ). (t.transaction n).written k) (sym e) ∙ is)) ∙ ap (λ (n : ℕ). n + 1) (sym e)
      | inr ne ↦ kept.owned c k inside (ap (λ (x : Transaction). x.begun) (sym (w.transaction.others c ne)) ∙ is_begun) (ap (λ (x : Transaction). x.written k) (sym (w.transaction.others c ne)) ∙ is)
    ];
    noted = λ c k inside is. elim (cases_eq c client) [
      | inl e ↦ kept.noted client k inside (wrote_same k inside (ap (λ (n : ℕ). wrote (t.transaction n).undo k) (sym e) ∙ is)) ∙ ap (λ (n : ℕ). n + 1) (sym e)
      | inr ne ↦ kept.noted c k inside (ap (λ (x : Transaction). wrote x.undo k) (sym (w.transaction.others c ne)) ∙ is)
    ];
    idle = λ c is. elim (cases_eq c client) [
      | inl e ↦ absurd (not_both (t.transaction client).begun w.transaction.begun (ap (λ (n : ℕ). (t.transaction n).begun) (sym e) ∙ is))
      | inr ne ↦ ap (λ (x : Transaction). x.undo) (w.transaction.others c ne) ∙ kept.idle c (ap (λ (x : Transaction). x.begun) (sym (w.transaction.others c ne)) ∙ is)
    ];
    fits = λ readable k b inside is.
        let was : IsReadable s = readable_on t s (sym w.keeps.observable) (sym failed) readable in
        kept.fits was k b inside (value_was was k b inside is);
  }

  counted_same : (t.transaction client).counted ≡ (s.transaction client).counted
  counted_same = let near : is_low slot ≡ true = grind (arith, nat_tests, low, high) in w.transaction.counted ∙ ap (λ (b : Bool). cond b (s.transaction client).counted ((s.transaction client).counted + 1)) near

  pub low_noted : (places : List Place) (free : ℕ → ℕ) (cs : List Client) → IsNoted s places free cs → IsNoted t places free cs
  low_noted places free cs n = record {
    kept = low_kept places n.kept;
    freed = n.freed;
    exact = exact_becomes s t places client true _ _ _ _ _ w.transaction
        (λ on k inside own. sym (w.transaction.written k) ∙ (written_same k inside ∙ n.exact.marked client k inside begun own)) w.keeps.observable failed (λ readable k inside unowned. reads_same readable k inside) n.exact;
    counted = λ c lt is_begun. elim (cases_eq c client) [
      | inl e ↦ ap (λ (m : ℕ). (t.transaction m).counted) e ∙ (counted_same ∙ (n.counted client (subst (λ (m : ℕ). m < 16) e lt) begun ∙ ap (λ (m : ℕ). (client_in cs m).written) (sym e)))
      | inr ne ↦ ap (λ (x : Transaction). x.counted) (w.transaction.others c ne) ∙ n.counted c lt (ap (λ (x : Transaction). x.begun) (sym (w.transaction.others c ne)) ∙ is_begun)
    ];
    within = n.within;
    listed = n.listed;
  }
