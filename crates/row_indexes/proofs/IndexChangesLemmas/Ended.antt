-- The end of a client, index by index.
use Rattle.std.proofs.Common.{◌≡◌, ◌≢◌, ◌⊎◌, ℕ, ◌+◌, ◌<◌, ◌≤◌, List, length, take, drop, ◌++◌, slice_set, slice_index_or, None, inl, inr, refl, sym, ap, ◌∙◌, subst, arith}
use Rattle.std.specs.FinMap as map
use Rattle.std.specs.Option.{option_and_then}
use Rattle.std.specs.Ordering.{nat_cmp}
use Rattle.std.specs.Cmp.Lexicographic.{slice_cmp}
use Rattle.key_index.specs.declared.index.Node.{Node}
use Rattle.std.proofs.lemmas.Bool.{cases_eq, cases_lt}
use Rattle.std.proofs.lemmas.List.{get_or-set_other, get_or_default, get_or_past}
use Rattle.std.proofs.Math.Seq.{take-append_seam}
use Rattle.std.proofs.lemmas.Grind.{get_or-set_at}
use Rattle.key_index.specs.Index.{IsEnded, Keys, keeper_of, place_at}
use Rattle.key_index.specs.Places.{without_keeper, without_left}
use Rattle.row_indexes.specs.Places.{index_at, keepers_of, places_of}
use Rattle.row_indexes.specs.index_changes.Ending.{ended, freed}

-- the client is ended in the first `upto` indexes, and the others are as before
pub record IsEndedUpTo (client upto : ℕ) (old new : List Keys) : Type 0 where
  pub done : (j : ℕ) → j < upto → IsEnded client (index_at old j) (index_at new j)
  pub rest : (j : ℕ) → upto ≤ j → index_at new j ≡ index_at old j

pub none_ended : (client : ℕ) (indexes : List Keys) → IsEndedUpTo client 0 indexes indexes
none_ended client indexes = record { done = λ j below. absurd (omega (arith, below)); rest = λ j above. refl }

module _ (client upto : ℕ) (old new : List Keys) (x y : Keys) (within : upto < length new) (is : x ≡ slice_index_or new upto x) (so_far : IsEndedUpTo client upto old new) (ends : IsEnded client x y) where
  was : x ≡ index_at old upto
  was = is ∙ (get_or_default new upto x map.empty within ∙ so_far.rest upto (omega arith))

  done_at : (j : ℕ) → j < upto + 1 → (j ≡ upto) ⊎ (j ≢ upto) → IsEnded client (index_at old j) (index_at (slice_set new upto y) j)
  done_at j below (inl e) =
      subst (IsEnded client (index_at old j)) (sym (get_or-set_at new upto j y map.empty e within))
      (subst (λ (k : Keys). IsEnded client k y) (was ∙ ap (index_at old) (sym e)) ends)
  done_at j below (inr ne) = subst (IsEnded client (index_at old j)) (sym (get_or-set_other new upto j y map.empty ne)) (so_far.done j (omega (arith, below, ne)))

  rest_at : (j : ℕ) → upto + 1 ≤ j → (j ≡ upto) ⊎ (j ≢ upto) → index_at (slice_set new upto y) j ≡ index_at old j
  rest_at j above (inl e) = absurd (omega (arith, above, e))
  rest_at j above (inr ne) = get_or-set_other new upto j y map.empty ne ∙ so_far.rest j (omega (arith, above))

  pub one_more_ended : IsEndedUpTo client (upto + 1) old (slice_set new upto y)
  one_more_ended = record { done = λ j below. done_at j below (cases_eq j upto); rest = λ j above. rest_at j above (cases_eq j upto) }

module _ (client upto : ℕ) (old new : List Keys) (whole : length old ≤ upto) (so_far : IsEndedUpTo client upto old new) where
  past : (j : ℕ) → upto ≤ j → index_at old j ≡ map.empty
  past j above = get_or_past old j map.empty (omega (arith, above, whole))

  place_ended : (j : ℕ) (key : List ℕ) (row : ℕ) → (j < upto) ⊎ (upto ≤ j) → places_of new j key row ≡ ended client (places_of old) j key row
  place_ended j key row (inl below) = (so_far.done j below).places key row
  place_ended j key row (inr above) =
      let empty : place_at (index_at old j) key row ≡ None = ap (λ (k : Keys). place_at k key row) (past j above) ∙ ap (option_and_then (λ (n : Node). map.get n.rows row)) (map.get-empty (slice_cmp nat_cmp) key) in
      ap (λ (k : Keys). place_at k key row) (so_far.rest j above) ∙ (empty ∙ sym (ap (without_left client) empty))

  keeper_freed : (j : ℕ) (key : List ℕ) → (j < upto) ⊎ (upto ≤ j) → keepers_of new j key ≡ freed client (keepers_of old) j key
  keeper_freed j key (inl below) = (so_far.done j below).keepers key
  keeper_freed j key (inr above) =
      let empty : keeper_of (index_at old j) key ≡ None = ap (λ (k : Keys). keeper_of k key) (past j above) ∙ ap (option_and_then (λ (n : Node). n.keeper)) (map.get-empty (slice_cmp nat_cmp) key) in
      ap (λ (k : Keys). keeper_of k key) (so_far.rest j above) ∙ (empty ∙ sym (ap (without_keeper client) empty))

  pub places_ended : places_of new ≡ ended client (places_of old)
  places_ended = λ i j key row. place_ended j key row (cases_lt j upto) i

  pub keepers_freed : keepers_of new ≡ freed client (keepers_of old)
  keepers_freed = λ i j key. keeper_freed j key (cases_lt j upto) i

-- what a vector holds once all of its items are written
pub all_of : (len : ℕ) (new old : List Keys) → length new ≡ length old → len ≡ length old → take len (new ++ drop (length new) old) ≡ new
all_of len new old same is = ap (λ (n : ℕ). take n (new ++ drop (length new) old)) (is ∙ sym same) ∙ take-append_seam new (drop (length new) old)
