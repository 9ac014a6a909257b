use Rattle.std.proofs.Common.{◌≡◌, ◌+◌, ◌∷◌, [], ℕ, List, length, drop, sym, ap, ◌∙◌, subst, arith, length-append}
use Rattle.row_indexes.specs.declared.moves.Move.{Move}
use Rattle.row_indexes.specs.declared.moves.Moved.{Moved}
use Rattle.row_indexes.specs.Places.{AreKept, AreWithin, CanUndo, places_of, keepers_of, undone}
use Rattle.row_indexes.specs.Changes.{AreAllKept, AreAllWithin, CanUndoAll, all_undone}
use Rattle.row_indexes.proofs.Taking.{all_kept_last, all_within_last, all_can_last, back_more}
use Rattle.row_indexes.proofs.back.+back.Goals as goal

pub undo_moves-requires-clause-within : goal.undo_moves-requires-clause-within
undo_moves-requires-clause-within t c =
    subst (AreWithin (length c.args.indexes.now.items)) (sym c.as_slice.ensures.value)
    (all_within_last (length c.args.indexes.now.items) c.pop.new.self.items c.in-Some.last (subst (AreAllWithin (length c.args.indexes.now.items)) c.in-Some.ensures.items c.requires.within)).1

pub undo_moves-requires-clause-can : goal.undo_moves-requires-clause-can
undo_moves-requires-clause-can t c =
    subst (λ (xs : List Move). CanUndo c.args.client c.in-Some.last.row xs (places_of c.args.indexes.now.items)) (sym c.as_slice.ensures.value)
    (all_can_last c.args.client c.pop.new.self.items c.in-Some.last (places_of c.args.indexes.now.items)
    (subst (λ (xs : List Moved). CanUndoAll c.args.client xs (places_of c.args.indexes.now.items)) c.in-Some.ensures.items c.requires.can)).1

pub undo_moves-requires-clause-kept : goal.undo_moves-requires-clause-kept
undo_moves-requires-clause-kept t c =
    subst (λ (xs : List Move). AreKept c.args.client xs (keepers_of c.args.indexes.now.items)) (sym c.as_slice.ensures.value)
    (all_kept_last c.args.client c.pop.new.self.items c.in-Some.last (keepers_of c.args.indexes.now.items)
    (subst (λ (xs : List Moved). AreAllKept c.args.client xs (keepers_of c.args.indexes.now.items)) c.in-Some.ensures.items c.requires.kept)).1

pub back-requires : goal.back-requires
back-requires t c = (
  let long : length c.args.changes.now.items ≡ length c.pop.new.self.items + 1 = ap length c.in-Some.ensures.items ∙ length-append c.pop.new.self.items (c.in-Some.last ∷ []) in let d = c.decreases in omega arith,
  (
    let long : length c.args.changes.now.items ≡ length c.pop.new.self.items + 1 = ap length c.in-Some.ensures.items ∙ length-append c.pop.new.self.items (c.in-Some.last ∷ []) in
        let more = c.if-len-mark.false in
        let whole = c.args.changes.now.ok.0 in
        omega arith,
    (
      subst (λ (n : ℕ). AreAllWithin n c.pop.new.self.items) (sym c.undo_moves.ensures.count)
          (all_within_last (length c.args.indexes.now.items) c.pop.new.self.items c.in-Some.last (subst (AreAllWithin (length c.args.indexes.now.items)) c.in-Some.ensures.items c.requires.within)).0,
      (
        subst (CanUndoAll c.args.client c.pop.new.self.items)
            (sym (c.undo_moves.ensures.places ∙ ap (λ (xs : List Move). undone c.args.client c.in-Some.last.row xs (places_of c.args.indexes.now.items)) c.as_slice.ensures.value))
            (all_can_last c.args.client c.pop.new.self.items c.in-Some.last (places_of c.args.indexes.now.items)
            (subst (λ (xs : List Moved). CanUndoAll c.args.client xs (places_of c.args.indexes.now.items)) c.in-Some.ensures.items c.requires.can)).0,
        subst (AreAllKept c.args.client c.pop.new.self.items) (sym c.undo_moves.ensures.keepers)
            (all_kept_last c.args.client c.pop.new.self.items c.in-Some.last (keepers_of c.args.indexes.now.items)
            (subst (λ (xs : List Moved). AreAllKept c.args.client xs (keepers_of c.args.indexes.now.items)) c.in-Some.ensures.items c.requires.kept)).0,
      ),
    ),
  ),
)

pub returns-in-Some-clause-places : goal.returns-in-Some-clause-places
returns-in-Some-clause-places t c =
    let long : length c.args.changes.now.items ≡ length c.pop.new.self.items + 1 = ap length c.in-Some.ensures.items ∙ length-append c.pop.new.self.items (c.in-Some.last ∷ []) in
    let more = c.if-len-mark.false in
    let whole = c.args.changes.now.ok.0 in
    c.back.ensures.places
    ∙ (ap (all_undone c.args.client (drop c.args.mark c.pop.new.self.items)) (c.undo_moves.ensures.places ∙ ap (λ (xs : List Move). undone c.args.client c.in-Some.last.row xs (places_of c.args.indexes.now.items)) c.as_slice.ensures.value)
    ∙ back_more c.args.client c.args.mark c.args.changes.now.items c.pop.new.self.items c.in-Some.last (places_of c.args.indexes.now.items) c.in-Some.ensures.items (omega arith))
