use Rattle.std.proofs.Common.{◌≡◌, ◌≢◌, ◌≤◌, List, length, take, drop, ap, sym, ◌∙◌, subst}
use Rattle.row_indexes.specs.declared.moves.Moved.{Moved}
use Rattle.row_indexes.specs.Places.{keepers_of, places_of}
use Rattle.row_indexes.specs.Changes.{AreAllKept, AreAllWithin, CanUndoAll, all_undone}
use Rattle.row_moves.proofs.Clients.{moved_at, set_other, set_same}
use Rattle.row_moves.proofs.ends.go_back.Goals as goal

pub back-requires-clause-mark : goal.back-requires-clause-mark
back-requires-clause-mark c =
    subst (λ (l : List Moved). c.args.mark ≤ length l) (moved_at c.args.clients.now.items c.args.client c.index_mut-own.result.now c.requires.client c.index_mut-own.ensures.value) c.requires.mark

pub back-requires-clause-within : goal.back-requires-clause-within
back-requires-clause-within c =
    subst (AreAllWithin (length c.args.indexes.now.items)) (moved_at c.args.clients.now.items c.args.client c.index_mut-own.result.now c.requires.client c.index_mut-own.ensures.value) c.requires.within

pub back-requires-clause-can : goal.back-requires-clause-can
back-requires-clause-can c =
    subst (λ (l : List Moved). CanUndoAll c.args.client l (places_of c.args.indexes.now.items)) (moved_at c.args.clients.now.items c.args.client c.index_mut-own.result.now c.requires.client c.index_mut-own.ensures.value)
    c.requires.can

pub back-requires-clause-kept : goal.back-requires-clause-kept
back-requires-clause-kept c =
    subst (λ (l : List Moved). AreAllKept c.args.client l (keepers_of c.args.indexes.now.items)) (moved_at c.args.clients.now.items c.args.client c.index_mut-own.result.now c.requires.client c.index_mut-own.ensures.value)
    c.requires.reserved

pub returns-clause-places : goal.returns-clause-places
returns-clause-places c =
    c.back.ensures.places
    ∙ ap (λ (l : List Moved). all_undone c.args.client (drop c.args.mark l) (places_of c.args.indexes.now.items))
    (sym (moved_at c.args.clients.now.items c.args.client c.index_mut-own.result.now c.requires.client c.index_mut-own.ensures.value))

pub returns-clause-own : goal.returns-clause-own
returns-clause-own c =
    set_same c.args.clients.now.items c.args.client (record { changes = c.back.new.changes }) c.requires.client
    ∙ (c.back.ensures.changes ∙ ap (take c.args.mark) (sym (moved_at c.args.clients.now.items c.args.client c.index_mut-own.result.now c.requires.client c.index_mut-own.ensures.value)))

pub returns-clause-others : goal.returns-clause-others
returns-clause-others c = λ d ne. set_other c.args.clients.now.items c.args.client d (record { changes = c.back.new.changes }) ne
