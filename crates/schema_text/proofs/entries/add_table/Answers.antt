use Rattle.std.proofs.lemmas.Result.{err_from_is_err_and}
use Rattle.std.proofs.Common.{sym, ap, subst, refl, ◌∙◌, map, arith}
use Rattle.abl_values.specs.declared.schema.TableDef.{TableDef}
use Rattle.abl_values.specs.Schema.{lines_in_order, number_of_name}
use Rattle.abl_values.specs.Sound.{IsSound}
use Rattle.schema_text.specs.Written.{IsHeld}
use Rattle.schema_text.proofs.Begun.{after_table, held_table, is_past, next_table, one_table_more, table_free, sound_table, tables_few}
use Rattle.schema_text.proofs.Names.{short_name}
use Rattle.schema_text.proofs.Told.{table_at-written}
use Rattle.schema_text.proofs.entries.add_table.Goals as goal

pub returns-then-len-ge-MAX_TABLES-clause-table : goal.returns-then-len-ge-MAX_TABLES-clause-table
returns-then-len-ge-MAX_TABLES-clause-table c s w b begun =
    let n = next_table s c.args.entries.now c.args.text.now begun b in
    absurd (omega (arith, tables_few s c.args.entries.now c.args.text.now w n))

pub returns-in_err-table-clause-table : goal.returns-in_err-table-clause-table
returns-in_err-table-clause-table c s w b begun =
    let n = next_table s c.args.entries.now c.args.text.now begun b in
    let written = table_at-written s w c.args.entries.now.tables n.table n.tables n.all_tables in
    let err = err_from_is_err_and c.from_residual.result c.from_residual.ensures.1 in
    rw (err.1, err.2) (c.in_err-table.ensures.table n.table (lines_in_order n.order n.tables n.sequences) written (is_past 70 n.order n.tables n.sequences refl refl) (is_past 73 n.order n.tables n.sequences refl refl) n.others)

pub returns-in_err-add-clause-table : goal.returns-in_err-add-clause-table
returns-in_err-add-clause-table c s w b begun =
    let n = next_table s c.args.entries.now c.args.text.now begun b in
    let written = table_at-written s w c.args.entries.now.tables n.table n.tables n.all_tables in
    let same = c.in_ok-table.ensures.table n.table (lines_in_order n.order n.tables n.sequences) written (is_past 70 n.order n.tables n.sequences refl refl) (is_past 73 n.order n.tables n.sequences refl refl) n.others in
    let err = err_from_is_err_and c.from_residual-in_err-add.result c.from_residual-in_err-add.ensures.1 in
    rw (err.1, err.2) (c.in_err-add.ensures.refused (short_name c.in_ok-table.table.name c.in_ok-table.ensures.sound.name)
    (ap (λ (u : TableDef). number_of_name 0 (map (λ v. v.name) c.args.entries.now.tables) u.name) same.0 ∙ table_free s c.args.entries.now c.args.text.now w n))

pub returns-clause-table : goal.returns-clause-table
returns-clause-table c s w b begun =
    let n = next_table s c.args.entries.now c.args.text.now begun b in
    let written = table_at-written s w c.args.entries.now.tables n.table n.tables n.all_tables in
    let same = c.in_ok-table.ensures.table n.table (lines_in_order n.order n.tables n.sequences) written (is_past 70 n.order n.tables n.sequences refl refl) (is_past 73 n.order n.tables n.sequences refl refl) n.others in
    after_table s c.args.entries.now _ c.args.text.now c.in_ok-table.rest.now n c.in_ok-table.table same.0 c.in_ok-add.ensures.added refl c.in_ok-push.ensures.ok same.1

pub returns-clause-sound : goal.returns-clause-sound
returns-clause-sound c h =
    subst IsSound (sym (one_table_more c.args.entries.now _ c.in_ok-table.table c.in_ok-add.ensures.added refl c.in_ok-push.ensures.ok))
    (sound_table c.args.entries.now.tables c.args.entries.now.sequences c.args.entries.now.order c.in_ok-table.table h c.in_ok-table.ensures.sound c.in_ok-table.ensures.few (omega arith))

pub returns-clause-held : goal.returns-clause-held
returns-clause-held c h =
    subst IsHeld (sym (one_table_more c.args.entries.now _ c.in_ok-table.table c.in_ok-add.ensures.added refl c.in_ok-push.ensures.ok))
    (held_table c.args.entries.now.tables c.args.entries.now.sequences c.args.entries.now.order c.in_ok-table.table h c.in_ok-table.ensures.held c.in_ok-add.ensures.free)
