use Rattle.std.proofs.Common.{◌≡◌, ◌≢◌, [], ◌∷◌, ◌++◌, List, ap, sym, ◌∙◌}
use Rattle.row_indexes.specs.declared.moves.Moved.{Moved}
use Rattle.row_moves.proofs.Clients.{moved_at, room_at, set_other, set_same}
use Rattle.row_moves.proofs.changes.note.Goals as goal

pub add-requires : goal.add-requires
add-requires c = room_at c.args.clients.now.items c.args.client c.index_mut-own.result.now c.requires.client c.index_mut-own.ensures.value c.requires.room

pub returns-clause-own : goal.returns-clause-own
returns-clause-own c =
    set_same c.args.clients.now.items c.args.client c.add.new.self c.requires.client
    ∙ (c.add.ensures ∙ ap (λ (l : List Moved). l ++ c.args.change ∷ []) (sym (moved_at c.args.clients.now.items c.args.client c.index_mut-own.result.now c.requires.client c.index_mut-own.ensures.value)))

pub returns-clause-others : goal.returns-clause-others
returns-clause-others c = λ d ne. set_other c.args.clients.now.items c.args.client d c.add.new.self ne
