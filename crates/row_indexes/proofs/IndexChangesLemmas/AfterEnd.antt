-- An end leaves what other clients can undo.
use Rattle.std.proofs.Common.{◌≡◌, ◌≢◌, ℕ, Bool, true, false, cond, List, [], ◌∷◌, Option, Some, None, refl, sym, ap, ◌∙◌, subst}
use Rattle.std.proofs.lemmas.Bool.{ne_eqb}
use Rattle.key_index.specs.Places.{without_keeper, without_left}
use Rattle.row_indexes.specs.declared.moves.Move.{Move}
use Rattle.row_indexes.specs.declared.moves.Moved.{Moved}
use Rattle.row_indexes.specs.Places.{AreKept, CanUndo, Keepers, Places, is_place, owner_before, undone, with_place}
use Rattle.row_indexes.specs.Changes.{AreAllKept, CanUndoAll, all_undone}
use Rattle.row_indexes.specs.index_changes.Ending.{ended, freed}

through : (client : ℕ) (b : Bool) (o : Option ℕ) (x : Option (Option ℕ)) → without_left client (Some o) ≡ Some o
    → without_left client (cond b (Some o) x) ≡ cond b (Some o) (without_left client x)
through client true o x e = e
through client false o x e = refl

module _ (client c : ℕ) (differ : c ≢ client) where
  own_stays : without_left client (Some (Some c)) ≡ Some (Some c)
  own_stays = ap (λ (b : Bool). cond b None (Some (Some c))) (ne_eqb c client differ)

  keeper_stays : without_keeper client (Some c) ≡ Some c
  keeper_stays = ap (λ (b : Bool). cond b None (Some c)) (ne_eqb c client differ)

  before_stays : (b : Bool) → without_left client (Some (cond b (Some c) None)) ≡ Some (cond b (Some c) None)
  before_stays true = own_stays
  before_stays false = refl

  after_stays : (b : Bool) → without_left client (Some (cond b None (Some c))) ≡ Some (cond b None (Some c))
  after_stays true = refl
  after_stays false = own_stays

  ended_place : (m : Move) (row : ℕ) (places : Places) → with_place (ended client places) m row (owner_before c m) ≡ ended client (with_place places m row (owner_before c m))
  ended_place m row places = λ i j key at. sym (through client (is_place m row j key at) (owner_before c m) (places j key at) (before_stays m.entered)) i

  ended_undone : (row : ℕ) (moves : List Move) (places : Places) → undone c row moves (ended client places) ≡ ended client (undone c row moves places)
  ended_undone row [] places = refl
  ended_undone row (m ∷ later) places = ap (λ (p : Places). with_place p m row (owner_before c m)) (ended_undone row later places) ∙ ended_place m row (undone c row later places)

  ended_can : (row : ℕ) (moves : List Move) (places : Places) → CanUndo c row moves places → CanUndo c row moves (ended client places)
  ended_can row [] places can = tt
  ended_can row (m ∷ later) places can = (
    ended_can row later places can.0,
    ap (λ (p : Places). p m.index m.key row) (ended_undone row later places) ∙ (ap (without_left client) can.1 ∙ after_stays m.entered),
  )

  pub ended_all_undone : (changes : List Moved) (places : Places) → all_undone c changes (ended client places) ≡ ended client (all_undone c changes places)
  ended_all_undone [] places = refl
  ended_all_undone (change ∷ later) places =
      ap (undone c change.row change.moves.items) (ended_all_undone later places) ∙ ended_undone change.row change.moves.items (all_undone c later places)

  pub ended_can_undo_all : (changes : List Moved) (places : Places) → CanUndoAll c changes places → CanUndoAll c changes (ended client places)
  ended_can_undo_all [] places can = tt
  ended_can_undo_all (change ∷ later) places can = (
    ended_can_undo_all later places can.0,
    subst (CanUndo c change.row change.moves.items) (sym (ended_all_undone later places)) (ended_can change.row change.moves.items (all_undone c later places) can.1),
  )

  freed_kept : (moves : List Move) (keepers : Keepers) → AreKept c moves keepers → AreKept c moves (freed client keepers)
  freed_kept [] keepers kept = tt
  freed_kept (m ∷ later) keepers kept = ((λ unique. ap (without_keeper client) (kept.0 unique) ∙ keeper_stays), freed_kept later keepers kept.1)

  pub freed_all_kept : (changes : List Moved) (keepers : Keepers) → AreAllKept c changes keepers → AreAllKept c changes (freed client keepers)
  freed_all_kept [] keepers kept = tt
  freed_all_kept (change ∷ later) keepers kept = (freed_kept change.moves.items keepers kept.0, freed_all_kept later keepers kept.1)
