use Rattle.std.proofs.Common.{◌≡◌, ◌+◌, [], Option, Some, None, Ok, Err, MatchOption, refl, sym, ap, ◌∙◌, subst, arith}
use Rattle.row_store.specs.Changes.{RowsById, with_row}
use Rattle.row_store.specs.Rows.{AfterError, RowState}
use Rattle.abl_values.specs.Schema.{SchemaData}
use Rattle.byte_rows.specs.Still.{Still}
use Rattle.slot_rows.specs.declared.decode.OldRow.{OldRow}
use Rattle.slot_rows.specs.Decoded.{decoded}
use Rattle.slot_rows.specs.State.{state_of}
use Rattle.indexed_store.specs.Opened.{AreEntered, AreSoundRows, rows_before}
use Rattle.indexed_store.specs.State.{no_reserved}
use Rattle.indexed_store.proofs.Refused.{on_ok_map, read_refused, read_still}
use Rattle.indexed_store.proofs.Sound.{before_past, before_same, before_with, sound_before}
use Rattle.indexed_store.proofs.entering.enter_at.Goals as goal

pub returns-in-Ok-None-clause-read : goal.returns-in-Ok-None-clause-read
returns-in-Ok-None-clause-read g c =
    let rows = c.args.rows.now in
    let now = c.old_row.new.self in
    let s = g.S.Slots.state rows.chains.slots in
    let t = g.S.Slots.state now.chains.slots in
    let at_s = g.S.Slots.stop rows.chains.slots in
    let at_t = g.S.Slots.stop now.chains.slots in
    let e = c.in-Ok-None.ensures in
    let still : Still s t at_s at_t = record { rests = e.rests; time = e.time; later = (e.cause no_reserved []).later; failed = ap (λ (x : RowState). x.failed) (e.same no_reserved []) } in
    read_still s t at_s at_t (state_of rows.schema no_reserved [] s rows.opens.items) (state_of now.schema no_reserved [] t now.opens.items) (Ok (tt {0})) (λ q. cc q) still
    (ap (λ (x : SchemaData). state_of x no_reserved [] t now.opens.items) e.schema ∙ e.same no_reserved [])

pub returns-in-Ok-None-clause-entered : goal.returns-in-Ok-None-clause-entered
returns-in-Ok-None-clause-entered g c = λ readable entered.
    let rows = c.args.rows.now in
    let all : RowsById = decoded rows.schema (g.S.Slots.state rows.chains.slots).reads in
    let none : all c.args.at ≡ None = subst (λ (o : Option OldRow). MatchOption o (all c.args.at ≡ None) (λ one. all c.args.at ≡ Some one.row)) c.in-Ok-None.field-0-is (c.in-Ok-None.ensures.found readable) in
    subst (λ (r : RowsById). AreEntered rows.schema r c.args.indexes.now.items) (before_same c.args.at all none) entered

pub returns-in-Ok-Some-clause-read : goal.returns-in-Ok-Some-clause-read
returns-in-Ok-Some-clause-read g c =
    let rows = c.args.rows.now in
    let now = c.old_row.new.self in
    let s = g.S.Slots.state rows.chains.slots in
    let t = g.S.Slots.state now.chains.slots in
    let at_s = g.S.Slots.stop rows.chains.slots in
    let at_t = g.S.Slots.stop now.chains.slots in
    let e = c.in-Ok-Some.ensures in
    let still : Still s t at_s at_t = record { rests = e.rests; time = e.time; later = (e.cause no_reserved []).later; failed = ap (λ (x : RowState). x.failed) (e.same no_reserved []) } in
    read_still s t at_s at_t (state_of rows.schema no_reserved [] s rows.opens.items) (state_of now.schema no_reserved [] t now.opens.items) c.enter_row.result c.enter_row.ensures.disk still
    (ap (λ (x : SchemaData). state_of x no_reserved [] t now.opens.items) e.schema ∙ e.same no_reserved [])

pub returns-in-Ok-Some-clause-entered : goal.returns-in-Ok-Some-clause-entered
returns-in-Ok-Some-clause-entered g c =
    let schema = c.args.rows.now.schema in
    let at = c.args.at in
    let all : RowsById = decoded schema (g.S.Slots.state c.args.rows.now.chains.slots).reads in
    let row = c.in-Ok-Some.found.row in
    let own : c.schema.result.now ≡ schema = c.schema.ensures ∙ c.in-Ok-Some.ensures.schema in
    on_ok_map c.enter_row.result
    (λ enter readable entered.
    let there : all at ≡ Some row = subst (λ (o : Option OldRow). MatchOption o (all at ≡ None) (λ one. all at ≡ Some one.row)) c.in-Ok-Some.field-0-is (c.in-Ok-Some.ensures.found readable) in
    let was : AreEntered c.schema.result.now (rows_before at all) c.args.indexes.now.items = subst (λ (x : SchemaData). AreEntered x (rows_before at all) c.args.indexes.now.items) (sym own) entered in
    subst (λ (x : SchemaData). AreEntered x (rows_before (at + 1) all) c.enter_row.new.indexes.items) own
    (subst (λ (r : RowsById). AreEntered c.schema.result.now r c.enter_row.new.indexes.items) (before_with at all (Some row) there) (enter (rows_before at all) (before_past at all at (omega arith)) was)))
    c.enter_row.ensures.entered

pub returns-in-Ok-Some-clause-unsound : goal.returns-in-Ok-Some-clause-unsound
returns-in-Ok-Some-clause-unsound g c = λ is readable entered sound.
    let schema = c.args.rows.now.schema in
    let at = c.args.at in
    let all : RowsById = decoded schema (g.S.Slots.state c.args.rows.now.chains.slots).reads in
    let row = c.in-Ok-Some.found.row in
    let own : c.schema.result.now ≡ schema = c.schema.ensures ∙ c.in-Ok-Some.ensures.schema in
    let there : all at ≡ Some row = subst (λ (o : Option OldRow). MatchOption o (all at ≡ None) (λ one. all at ≡ Some one.row)) c.in-Ok-Some.field-0-is (c.in-Ok-Some.ensures.found readable) in
    let was : AreEntered c.schema.result.now (rows_before at all) c.args.indexes.now.items = subst (λ (x : SchemaData). AreEntered x (rows_before at all) c.args.indexes.now.items) (sym own) entered in
    c.enter_row.ensures.unsound is (rows_before at all) (before_past at all at (omega arith)) was
    (subst (λ (x : SchemaData). AreSoundRows x (with_row (rows_before at all) at (Some row))) (sym own)
    (subst (AreSoundRows schema) (sym (before_with at all (Some row) there)) (sound_before schema (at + 1) all sound)))

pub returns-in-Err-clause-read : goal.returns-in-Err-clause-read
returns-in-Err-clause-read g c =
    let rows = c.args.rows.now in
    let now = c.old_row.new.self in
    let s = g.S.Slots.state rows.chains.slots in
    let t = g.S.Slots.state now.chains.slots in
    let e = c.in-Err.ensures in
    read_refused {T = Option OldRow} s t (g.S.Slots.stop rows.chains.slots) (g.S.Slots.stop now.chains.slots) (state_of rows.schema no_reserved [] s rows.opens.items) (state_of now.schema no_reserved [] t now.opens.items) c.in-Err.error c.of_rows.result refl e.keeps e.time
    (subst (λ (x : SchemaData). AfterError {T = Option OldRow} (state_of rows.schema no_reserved [] s rows.opens.items) (state_of x no_reserved [] t now.opens.items) (Err c.in-Err.error)) (sym e.schema) (e.err no_reserved [])) (e.cause no_reserved [])
    c.of_rows.ensures.disk c.of_rows.ensures.fine
