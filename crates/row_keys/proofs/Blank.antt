-- Indexes with no entry have no place and no keeper.
use Rattle.std.proofs.Common.{◌≡◌, ℕ, zero, suc, List, [], ◌∷◌, ◌++◌, None, refl, ap, ◌∙◌}
use Rattle.std.specs.FinMap as map
use Rattle.std.specs.FinMap.{get-empty}
use Rattle.std.specs.Ordering.{nat_cmp}
use Rattle.std.specs.Cmp.Lexicographic.{slice_cmp}
use Rattle.std.specs.Option.{option_and_then}
use Rattle.key_index.specs.declared.index.Node.{Node}
use Rattle.key_index.specs.Index.{Keys, keeper_of, place_at}
use Rattle.row_indexes.specs.Places.{index_at, keepers_of, places_of}
use Rattle.row_keys.specs.Blank.{AreBlank}

pub blank_more : (xs : List Keys) → AreBlank xs → AreBlank (xs ++ map.empty ∷ [])
blank_more [] h = (refl, tt)
blank_more (x ∷ xs) h = (h.0, blank_more xs h.1)

blank_at : (xs : List Keys) (j : ℕ) → AreBlank xs → index_at xs j ≡ map.empty
blank_at [] j h = refl
blank_at (x ∷ xs) zero h = h.0
blank_at (x ∷ xs) (suc j) h = blank_at xs j h.1

pub no_place : (xs : List Keys) → AreBlank xs → (j : ℕ) (key : List ℕ) (row : ℕ) → places_of xs j key row ≡ None
no_place xs h j key row =
    ap (λ (i : Keys). place_at i key row) (blank_at xs j h) ∙ ap (option_and_then (λ (n : Node). map.get n.rows row)) (get-empty (slice_cmp nat_cmp) key)

pub no_keeper : (xs : List Keys) → AreBlank xs → (j : ℕ) (key : List ℕ) → keepers_of xs j key ≡ None
no_keeper xs h j key = ap (λ (i : Keys). keeper_of i key) (blank_at xs j h) ∙ ap (option_and_then (λ (n : Node). n.keeper)) (get-empty (slice_cmp nat_cmp) key)
