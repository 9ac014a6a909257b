use Rattle.std.proofs.Common.{◌≡◌, None, sym, ap, ◌∙◌, subst}
use Rattle.row_indexes.specs.Places.{Keepers, keepers_of, places_of}
use Rattle.row_store.specs.Changes.{with_row}
use Rattle.database_meaning.specs.Waiting.{row_in}
use Rattle.row_keys.specs.Entries.{AreEntries}
use Rattle.row_keys.specs.Moves.{AreMovesOf}
use Rattle.indexed_store.specs.declared.entering.TheConstants.{CLIENT}
use Rattle.indexed_store.proofs.Entered.{entries_more, keepers_more}
use Rattle.indexed_store.proofs.entering.enter_keys.Goals as goal

pub returns-clause-entries : goal.returns-clause-entries
returns-clause-entries c = λ rows empty entries.
    let schema = c.args.schema.now in
    let at = c.args.row.0 in
    let table = c.args.table in
    let values = c.args.values.now in
    let moves = c.as_slice.result.now in
    let same : c.in_ok-moves.field-0.moves.items ≡ moves = cc c.as_slice.ensures.value in
    let are : AreMovesOf schema None (row_in table values) moves = subst (AreMovesOf schema None (row_in table values)) same c.in_ok-moves.ensures.moves in
    subst (AreEntries schema (with_row rows at (row_in table values))) (sym c.in_ok-enter_all.ensures.places) (entries_more schema rows at table values moves CLIENT (places_of c.args.indexes.now.items) are empty entries)

pub returns-clause-keepers : goal.returns-clause-keepers
returns-clause-keepers c = λ j key d ne is.
    keepers_more CLIENT c.as_slice.result.now (keepers_of c.args.indexes.now.items) j key d ne (ap (λ (f : Keepers). f j key) (sym c.in_ok-enter_all.ensures.keepers) ∙ is)
