use Rattle.std.proofs.lemmas.Result.{err_from_is_err_and}
use Rattle.std.proofs.Common.{◌≡◌, ◌++◌, length, List, None, sym, ap, ◌∙◌, rules}
use Rattle.std.proofs.lemmas.Option.{none-some}
use Rattle.abl_values.specs.declared.schema.FieldDef.{FieldDef}
use Rattle.abl_values.specs.Schema.{index_lines}
use Rattle.schema_text.specs.Words.{name_after}
use Rattle.schema_text.proofs.ItemHeads.{after_fields}
use Rattle.schema_text.proofs.Started.{table_is, table_started, table_there}
use Rattle.schema_text.proofs.Told.{fields_written, indexes_written}
use Rattle.schema_text.proofs.tables.table_at.Goals as goal

pub returns-in_default-clause-table : goal.returns-in_default-clause-table
returns-in_default-clause-table c t r w no_field no_index e =
    let none : name_after 84 10 c.args.text.now ≡ None = search rules in
    absurd (none-some _ (sym none ∙ table_there t r c.args.text.now w e))

pub returns-in_err-fields-clause-table : goal.returns-in_err-fields-clause-table
returns-in_err-fields-clause-table c t r w no_field no_index e =
    let st = table_started t r c.args.text.now _ w e c.in-Some.ensures.name in
    let err = err_from_is_err_and c.from_residual.result c.from_residual.ensures.1 in
    rw (err.1, err.2) (c.in_err-fields.ensures.fields t.fields (index_lines t.fields t.primary 0 t.indexes ++ r) (fields_written t w) (after_fields t.fields t.primary 0 t.indexes r no_field) st.1)

pub returns-in_err-indexes-clause-table : goal.returns-in_err-indexes-clause-table
returns-in_err-indexes-clause-table c t r w no_field no_index e =
    let st = table_started t r c.args.text.now _ w e c.in-Some.ensures.name in
    let f = c.in_ok-fields.ensures.fields t.fields (index_lines t.fields t.primary 0 t.indexes ++ r) (fields_written t w) (after_fields t.fields t.primary 0 t.indexes r no_field) st.1 in
    let err = err_from_is_err_and c.from_residual-in_err-indexes.result c.from_residual-in_err-indexes.ensures.1 in
    rw (err.1, err.2)
    (c.in_err-indexes.ensures.indexes t.indexes t.primary r (indexes_written t (length c.in_ok-fields.fields) (ap length f.0) w) no_index
    (f.1 ∙ ap (λ (fs : List FieldDef). index_lines fs t.primary 0 t.indexes ++ r) (sym f.0)))

pub returns-clause-table : goal.returns-clause-table
returns-clause-table c t r w no_field no_index e =
    let st = table_started t r c.args.text.now _ w e c.in-Some.ensures.name in
    let f = c.in_ok-fields.ensures.fields t.fields (index_lines t.fields t.primary 0 t.indexes ++ r) (fields_written t w) (after_fields t.fields t.primary 0 t.indexes r no_field) st.1 in
    let i = c.in_ok-indexes.ensures.indexes t.indexes t.primary r (indexes_written t (length c.in_ok-fields.fields) (ap length f.0) w) no_index
    (f.1 ∙ ap (λ (fs : List FieldDef). index_lines fs t.primary 0 t.indexes ++ r) (sym f.0)) in
    (table_is t c.in_ok-name.name c.in_ok-fields.fields c.in_ok-indexes.field-0.indexes c.in_ok-indexes.field-0.primary w.told (c.in_ok-name.ensures ∙ st.0) f.0 i.0 i.1, i.2)
