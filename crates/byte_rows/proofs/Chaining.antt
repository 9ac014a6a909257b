-- A change of a row leaves slots chains that were chains.
use Rattle.std.proofs.Common.{◌≡◌, inr, ℕ, zero, suc, ◌<◌, ◌≤◌, true, false, List, [], ◌∷◌, ◌++◌, length, take, drop, refl, sym, ap, ◌∙◌, subst, arith}
use Rattle.std.specs.List.{Contains}
use Rattle.storage.specs.Slots.{SlotState, IsReadable, Rests}
use Rattle.abl_values.specs.Rows.{fragments_of}
use Rattle.row_fragments.specs.Chains.{AreOwn, HaveFragments, KeepsChains}
use Rattle.row_fragments.specs.Fragments.{AreClear, begins, chain_of, ends, first_or_zero}
use Rattle.row_fragments.proofs.Composes.{readable_on}
use Rattle.row_fragments.proofs.Keeping.{rewriting_keeps_chains}
use Rattle.row_fragments.proofs.Wholes.{rows_of}
use Rattle.byte_rows.specs.Exact.{AreVacant}
use Rattle.byte_rows.specs.Rows.{AreRewritten}

-- as many as there are, or more, are all
pub take_whole : (n : ℕ) (xs : List ℕ) → length xs ≤ n → take n xs ≡ xs
take_whole zero [] le = refl
take_whole zero (x ∷ xs) le = absurd (omega (arith, le))
take_whole (suc n) [] le = refl
take_whole (suc n) (x ∷ xs) le = ap (λ (ys : List ℕ). x ∷ ys) (take_whole n xs (omega (arith, le)))

pub rewritten_keeps : (s : SlotState) (after : ℕ → List ℕ) (own drawn chain : List ℕ) (keep table : ℕ) (bytes : List ℕ) → chain ≡ own ++ drawn → keep ≤ length chain → AreVacant s drawn → ((k : ℕ) → Contains chain k → ends k ≡ false) → AreOwn s.reads own
    → (0 < keep → keep ≡ fragments_of (length bytes)) → keep ≤ 125 → table < 65536 → AreRewritten after chain keep table bytes → KeepsChains s.reads after chain
rewritten_keeps s after own drawn chain keep table bytes is many vacant inside owned least few fits w =
    subst (KeepsChains s.reads after) (sym is)
    (rewriting_keeps_chains s.reads after own drawn keep table bytes (record {
      owned = owned;
      free = λ k there. (vacant.each k there).empty;
      inside = rows_of (own ++ drawn) (λ k there. inside k (subst (λ (xs : List ℕ). Contains xs k) (sym is) there));
      many = let long = ap length is in omega (arith, many, long);
      least = least;
      few = few;
      fits = fits;
      kept = subst (λ (xs : List ℕ). HaveFragments after (take keep xs) 1 (length bytes) table bytes) is w.kept;
      freed = subst (λ (xs : List ℕ). AreClear after (drop keep xs)) is w.freed;
    }))

-- the slots that a row was found to be read from are its own
pub own_found : (s u : SlotState) (row : ℕ) (found : List ℕ) → Rests s u → u.failed ≡ s.failed → (IsReadable s → found ≡ chain_of s.reads row) → first_or_zero found ≡ row → (IsReadable s → begins s.reads row ≡ true) → IsReadable u → AreOwn u.reads found
own_found s u row found r same listed first there readable =
    let was = readable_on u s (sym r.keeps.observable) (sym same) readable in
    let reads = r.reads was in
    inr (
      subst (λ (f : ℕ → List ℕ). begins f (first_or_zero found) ≡ true) (sym reads) (ap (begins s.reads) first ∙ there was),
      listed was ∙ (ap (λ (f : ℕ → List ℕ). chain_of f row) (sym reads) ∙ ap (chain_of u.reads) (sym first)),
    )
