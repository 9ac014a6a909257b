-- Texts of several values and items, from left to right.
use Rattle.std.proofs.Common.{◌≡◌, ◌<◌, ◌≤◌, ℕ, List, [], ◌∷◌, ◌++◌, length, drop, refl, sym, ap, ◌∙◌, arith}
use Rattle.std.specs.Prelude.{map, flat_map, slice_index_or}
use Rattle.std.proofs.lemmas.List.{append_assoc, append-nil}
use Rattle.abl_base.specs.declared.value.Value.{Value}
use Rattle.client_streams.specs.lines.Reads.{all_after}
use Rattle.block_meaning.specs.Values.{EvaluatedAll, GivesAll, FailsAll, before_all, spaced, Text, IsText, HasFault, before_text}

-- ---- values

pub one_more : (vs : List Value) (v : Value) (r : EvaluatedAll) → all_after (vs ++ v ∷ []) r ≡ all_after vs (before_all v r)
one_more vs v (GivesAll ws) = ap (λ (xs : List Value). GivesAll xs) (append_assoc vs (v ∷ []) ws)
one_more vs v (FailsAll c) = refl

-- ---- lines

pub spaced_is : (text : Value → List ℕ) (v : Value) (vs : List Value) → spaced text (v ∷ vs) ≡ text v ++ flat_map (λ w. 32 ∷ text w) vs
spaced_is text v [] = sym (append-nil (text v))
spaced_is text v (w ∷ vs) = ap (λ t. text v ++ 32 ∷ t) (spaced_is text w vs)

mapped : {R : Type 0} (f : R → Value) (text : Value → List ℕ) (rs : List R) → flat_map (λ w. 32 ∷ text w) (map f rs) ≡ flat_map (λ r. 32 ∷ text (f r)) rs
mapped f text [] = refl
mapped f text (r ∷ rs) = ap (λ t. (32 ∷ text (f r)) ++ t) (mapped f text rs)

pub empty_line : {R : Type 0} (f : R → Value) (text : Value → List ℕ) (rs : List R) → length rs < 1 → spaced text (map f rs) ≡ []
empty_line f text [] l = refl
empty_line f text (r ∷ rs) l = absurd (omega arith)

pub long_line : {R : Type 0} (f : R → Value) (text : Value → List ℕ) (rs : List R) (first : R) → 1 ≤ length rs → first ≡ slice_index_or rs 0 first → spaced text (map f rs) ≡ text (f first) ++ flat_map (λ r. 32 ∷ text (f r)) (drop 1 rs)
long_line f text [] first l e = absurd (omega arith)
long_line f text (r ∷ rs) first l e =
    spaced_is text (f r) (map f rs) ∙ ap (λ t. text (f r) ++ t) (mapped f text rs) ∙ ap (λ x. text (f x) ++ flat_map (λ r. 32 ∷ text (f r)) rs) (sym e)

-- ---- texts

pub texts_after : (a b : List ℕ) (t : Text) → before_text a (before_text b t) ≡ before_text (a ++ b) t
texts_after a b (IsText more) = ap (λ (x : List ℕ). IsText x) (sym (append_assoc a b more))
texts_after a b (HasFault c) = refl
