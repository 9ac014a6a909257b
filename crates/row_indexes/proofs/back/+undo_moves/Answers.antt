use Rattle.std.proofs.Common.{◌≡◌, ◌+◌, ℕ, List, length, sym, ap, ◌∙◌, subst, arith}
use Rattle.row_indexes.specs.declared.moves.Move.{Move}
use Rattle.row_indexes.specs.Places.{AreKept, AreWithin, CanUndo, places_of, keepers_of, undone}
use Rattle.row_indexes.proofs.Taking.{kept_last, within_last, can_last, taken_more}
use Rattle.row_indexes.proofs.back.+undo_moves.Goals as goal

pub undo_one-requires-clause-within : goal.undo_one-requires-clause-within
undo_one-requires-clause-within t c =
    (within_last (length c.args.indexes.now.items) c.in-Some.earlier.now c.in-Some.last.now (subst (AreWithin (length c.args.indexes.now.items)) c.in-Some.ensures.cases.0 c.requires.within)).1

pub undo_one-requires-clause-there : goal.undo_one-requires-clause-there
undo_one-requires-clause-there t c =
    (can_last c.args.client c.args.row c.in-Some.earlier.now c.in-Some.last.now (places_of c.args.indexes.now.items)
    (subst (λ (xs : List Move). CanUndo c.args.client c.args.row xs (places_of c.args.indexes.now.items)) c.in-Some.ensures.cases.0 c.requires.can)).1

pub undo_one-requires-clause-kept : goal.undo_one-requires-clause-kept
undo_one-requires-clause-kept t c =
    (kept_last c.args.client c.in-Some.earlier.now c.in-Some.last.now (keepers_of c.args.indexes.now.items)
    (subst (λ (xs : List Move). AreKept c.args.client xs (keepers_of c.args.indexes.now.items)) c.in-Some.ensures.cases.0 c.requires.kept)).1

pub undo_moves-requires : goal.undo_moves-requires
undo_moves-requires t c = (
  let long : length c.in-Some.earlier.now + 1 ≡ length c.args.moves.now = c.in-Some.ensures.cases.1 in let d = c.decreases in omega arith,
  (
    subst (λ (n : ℕ). AreWithin n c.in-Some.earlier.now) (sym c.undo_one.ensures.count)
        (within_last (length c.args.indexes.now.items) c.in-Some.earlier.now c.in-Some.last.now (subst (AreWithin (length c.args.indexes.now.items)) c.in-Some.ensures.cases.0 c.requires.within)).0,
    (
      subst (CanUndo c.args.client c.args.row c.in-Some.earlier.now) (sym c.undo_one.ensures.places)
          (can_last c.args.client c.args.row c.in-Some.earlier.now c.in-Some.last.now (places_of c.args.indexes.now.items)
          (subst (λ (xs : List Move). CanUndo c.args.client c.args.row xs (places_of c.args.indexes.now.items)) c.in-Some.ensures.cases.0 c.requires.can)).0,
      subst (AreKept c.args.client c.in-Some.earlier.now) (sym c.undo_one.ensures.keepers)
          (kept_last c.args.client c.in-Some.earlier.now c.in-Some.last.now (keepers_of c.args.indexes.now.items)
          (subst (λ (xs : List Move). AreKept c.args.client xs (keepers_of c.args.indexes.now.items)) c.in-Some.ensures.cases.0 c.requires.kept)).0,
    ),
  ),
)

pub returns-in-Some-clause-places : goal.returns-in-Some-clause-places
returns-in-Some-clause-places t c =
    c.undo_moves.ensures.places
    ∙ (ap (undone c.args.client c.args.row c.in-Some.earlier.now) c.undo_one.ensures.places
    ∙ (sym (taken_more c.args.client c.args.row c.in-Some.earlier.now c.in-Some.last.now (places_of c.args.indexes.now.items))
    ∙ ap (λ (xs : List Move). undone c.args.client c.args.row xs (places_of c.args.indexes.now.items)) (sym c.in-Some.ensures.cases.0)))
