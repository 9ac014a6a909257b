-- An entry that is entered at an empty place and forgotten leaves everything as it was.
use Rattle.std.proofs.Common.{◌≡◌, ◌≢◌, ◌⊎◌, inl, inr, ℕ, Bool, List, None, sym, subst, ◌∙◌}
use Rattle.key_index.specs.Index.{Forgets, IsSame, Keys, Puts, keeper_of, place_at}
use Rattle.key_index.proofs.LeftRows.{same_or_other}
use Rattle.key_index.proofs.TouchedKeys.{same_key_or_other}

pub forgotten : (before entered after : Keys) (client row : ℕ) (key : List ℕ) (unique : Bool) → place_at before key row ≡ None → Puts before client key row unique None entered → Forgets entered key row (keeper_of before key) after → IsSame before after
forgotten before entered after client row key unique none puts forgets = record {
  places = λ q at. by_key q at (same_key_or_other q key);
  keepers = λ q. by_keeper q (same_key_or_other q key);
}
  where
    by_row : (at : ℕ) → (at ≡ row) ⊎ (at ≢ row) → place_at after key at ≡ place_at before key at
    by_row at (inl same) = subst (λ (r : ℕ). place_at after key r ≡ place_at before key r) (sym same) (forgets.place ∙ sym none)
    by_row at (inr differ) = forgets.rows at differ ∙ puts.rows at differ

    by_key : (q : List ℕ) (at : ℕ) → (q ≡ key) ⊎ (q ≢ key) → place_at after q at ≡ place_at before q at
    by_key q at (inl same) = subst (λ (k : List ℕ). place_at after k at ≡ place_at before k at) (sym same) (by_row at (same_or_other at row))
    by_key q at (inr differ) = forgets.places q at differ ∙ puts.places q at differ

    by_keeper : (q : List ℕ) → (q ≡ key) ⊎ (q ≢ key) → keeper_of after q ≡ keeper_of before q
    by_keeper q (inl same) = subst (λ (k : List ℕ). keeper_of after k ≡ keeper_of before k) (sym same) forgets.keeper_is
    by_keeper q (inr differ) = forgets.keepers q differ ∙ puts.keepers q differ
