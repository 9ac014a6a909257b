use Rattle.std.proofs.Common.{rules, sym, ap, ◌∙◌}
use Rattle.row_indexes.specs.Places.{Keepers, keepers_of}
use Rattle.row_keys.proofs.Placed.{none_is_none}
use Rattle.slot_rows.specs.Decoded.{decoded}
use Rattle.indexed_store.specs.declared.open_error.OpenError.TheVariants.{Unsound}
use Rattle.indexed_store.specs.declared.entering.TheConstants.{CLIENT}
use Rattle.indexed_store.proofs.Entered.{entered_ended, entered_none, freed_none}
use Rattle.indexed_store.proofs.Refused.{error_as}
use Rattle.indexed_store.proofs.entering.indexes_of.Goals as goal

pub returns-in_err-enter_rows-clause-unsound : goal.returns-in_err-enter_rows-clause-unsound
returns-in_err-enter_rows-clause-unsound g c = λ is readable sound.
    c.in_err-enter_rows.ensures.unsound (error_as c.from_residual.result c.in_err-enter_rows.field-0.0 Unsound (search rules) is) readable (entered_none c.args.rows.now.schema c.in-Ok.indexes.items c.in-Ok.ensures.places) sound

pub returns-clause-entered : goal.returns-clause-entered
returns-clause-entered g c = λ readable.
    let rows = c.args.rows.now in
    entered_ended rows.schema (decoded rows.schema (g.S.Slots.state rows.chains.slots).reads) CLIENT c.enter_rows.new.indexes.items c.end_all.new.indexes.items c.end_all.ensures.places
    (c.in_ok-enter_rows.ensures.entered readable (entered_none rows.schema c.in-Ok.indexes.items c.in-Ok.ensures.places))

pub returns-clause-keepers : goal.returns-clause-keepers
returns-clause-keepers g c = λ j key.
    ap (λ (f : Keepers). f j key) c.end_all.ensures.keepers
    ∙ freed_none CLIENT (keepers_of c.enter_rows.new.indexes.items) j key (λ d ne is. none_is_none d (sym (c.in-Ok.ensures.keepers j key) ∙ c.in_ok-enter_rows.ensures.keepers j key d ne is))
