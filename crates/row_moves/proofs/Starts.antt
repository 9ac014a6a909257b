-- A change whose moves are all made: first those that enter, then those that leave.
use Rattle.std.proofs.Common.{◌≡◌, ℕ, zero, suc, List, [], ◌∷◌, take, drop, refl, ap, ◌∙◌, subst}
use Rattle.row_indexes.specs.declared.moves.Move.{Move}
use Rattle.row_indexes.specs.Places.{AreWithin, Keepers, Places, owner_after, with_place}
use Rattle.row_indexes.specs.Making.{CanMake, kept_after, made, with_keeper}
use Rattle.row_indexes.specs.declared.index_changes.entering.Before.{Before}
use Rattle.row_moves.specs.Started.{IsStarted}

made_parts : (n client row : ℕ) (moves : List Move) (p : Places) → made client row (drop n moves) (made client row (take n moves) p) ≡ made client row moves p
made_parts zero client row moves p = refl
made_parts (suc n) client row [] p = refl
made_parts (suc n) client row (m ∷ moves) p = made_parts n client row moves (with_place p m row (owner_after client m))

kept_parts : (n client : ℕ) (moves : List Move) (k : Keepers) → kept_after client (drop n moves) (kept_after client (take n moves) k) ≡ kept_after client moves k
kept_parts zero client moves k = refl
kept_parts (suc n) client [] k = refl
kept_parts (suc n) client (m ∷ moves) k = kept_parts n client moves (with_keeper k m client)

can_parts : (n client row : ℕ) (moves : List Move) (p : Places) (k : Keepers) → CanMake client row (take n moves) p k
    → CanMake client row (drop n moves) (made client row (take n moves) p) (kept_after client (take n moves) k) → CanMake client row moves p k
can_parts zero client row moves p k first rest = rest
can_parts (suc n) client row [] p k first rest = tt
can_parts (suc n) client row (m ∷ moves) p k first rest = (first.0, can_parts n client row moves (with_place p m row (owner_after client m)) (with_keeper k m client) first.1 rest)

within_parts : (n count : ℕ) (moves : List Move) → AreWithin count (take n moves) → AreWithin count (drop n moves) → AreWithin count moves
within_parts zero count moves first rest = rest
within_parts (suc n) count [] first rest = tt
within_parts (suc n) count (m ∷ moves) first rest = (first.0, within_parts n count moves first.1 rest)

module _ (client row count enters : ℕ) (moves : List Move) (before : List Before) (p : Places) (k : Keepers) (q : Places) (l : Keepers) (s : IsStarted client row count enters moves before p k q l) where
  pub all_can : CanMake client row moves p k
  all_can =
      can_parts enters client row moves p k s.entered
      (subst (λ (z : Places). CanMake client row (drop enters moves) z (kept_after client (take enters moves) k)) s.places (subst (CanMake client row (drop enters moves) q) s.keepers s.rest))

  pub all_within : AreWithin count moves
  all_within = within_parts enters count moves s.within_first s.within

  pub all_made : (now : Places) → now ≡ made client row (drop enters moves) q → now ≡ made client row moves p
  all_made now is = is ∙ (ap (made client row (drop enters moves)) s.places ∙ made_parts enters client row moves p)

  pub all_kept : (now : Keepers) → now ≡ kept_after client (drop enters moves) l → now ≡ kept_after client moves k
  all_kept now is = is ∙ (ap (kept_after client (drop enters moves)) s.keepers ∙ kept_parts enters client moves k)
