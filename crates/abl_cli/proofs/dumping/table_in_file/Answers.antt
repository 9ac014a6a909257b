-- The table of the schema file, or what prevents the dump.
use Rattle.std.proofs.Common.{◌≡◌, ◌∙◌, Err, List, ℕ, ap, subst, sym}
use Rattle.std.proofs.lemmas.Result.{err_from_is_err_and}
use Rattle.run_report.specs.declared.refusal.Refusal.TheVariants.{NoTable}
use Rattle.source_files.specs.Compiled.{BreaksSchema, schema_in}
use Rattle.source_files.proofs.Causes.{of_error}
use Rattle.command_arguments.specs.CommandLine.{dump_of}
use Rattle.abl_cli.specs.Stored.{PreventsDump, df_breaks, dump_wants, no_df, no_schema, no_table}
use Rattle.abl_cli.proofs.Creations.{schema_from}
use Rattle.abl_cli.proofs.Dumps.{table_is_within}
use Rattle.abl_cli.proofs.dumping.table_in_file.Goals as goal

pub returns-in_err-df-clause-prevented : goal.returns-in_err-df-clause-prevented
returns-in_err-df-clause-prevented g c =
    let p = err_from_is_err_and c.from_residual.result c.from_residual.ensures.1 in
    let is : c.from_residual.result ≡ Err c.in_err-df.field-0.0 = cc (p.1, p.2) in
    of_error _ is (no_schema (no_df c.in_err-df.ensures.refused))

pub returns-in_err-schema-clause-prevented : goal.returns-in_err-schema-clause-prevented
returns-in_err-schema-clause-prevented g c =
    let p = err_from_is_err_and c.from_residual-in_err-schema.result c.from_residual-in_err-schema.ensures.1 in
    let is : c.from_residual-in_err-schema.result ≡ Err c.in_err-schema.field-0.0 = cc (p.1, p.2) in
    of_error _ is (no_schema (df_breaks c.in_ok-df.ensures.text (subst (λ (text : List ℕ). BreaksSchema text c.in_err-schema.field-0.0) c.as_slice.ensures c.in_err-schema.ensures.refused)))

pub returns-in_err-schema_of_rows-clause-prevented : goal.returns-in_err-schema_of_rows-clause-prevented
returns-in_err-schema_of_rows-clause-prevented g c =
    let p = err_from_is_err_and c.from_residual-in_err-schema_of_rows.result c.from_residual-in_err-schema_of_rows.ensures.1 in
    let is : c.from_residual-in_err-schema_of_rows.result ≡ Err c.in_err-schema_of_rows.field-0.0 = cc (p.1, p.2) in
    of_error _ is (no_schema (df_breaks c.in_ok-df.ensures.text (subst (λ (text : List ℕ). BreaksSchema text c.in_err-schema_of_rows.field-0.0) c.as_slice-2.ensures c.in_err-schema_of_rows.ensures.refused)))

pub returns-in-Some-clause-table : goal.returns-in-Some-clause-table
returns-in-Some-clause-table g c =
    record { has = schema_from c.in_ok-df.ensures.text c.as_slice.ensures c.in_ok-schema.ensures.schema c.in_ok-schema.ensures.clean; is = sym c.in-Some.ensures }

pub returns-in-Some-clause-within : goal.returns-in-Some-clause-within
returns-in-Some-clause-within g c = table_is_within c.in_ok-schema.schema c.args.named.now.table.now c.in-Some.number (sym c.in-Some.ensures)

pub returns-in-Some-clause-same : goal.returns-in-Some-clause-same
returns-in-Some-clause-same g c =
    c.in_ok-schema_of_rows.ensures.schema ∙ ap (λ (text : List ℕ). schema_in text) (c.as_slice-2.ensures ∙ sym c.as_slice.ensures) ∙ sym c.in_ok-schema.ensures.schema

pub returns-in-Ok-clause-prevented : goal.returns-in-Ok-clause-prevented
returns-in-Ok-clause-prevented g c =
    subst (λ (name : List ℕ). PreventsDump (g.F.Files.state c.args.files.now) (g.F.Files.state c.read.new.files).faults (dump_of c.args.named.now) (NoTable name)) (sym c.in-Ok.ensures)
    (no_table c.in_ok-schema.schema (schema_from c.in_ok-df.ensures.text c.as_slice.ensures c.in_ok-schema.ensures.schema c.in_ok-schema.ensures.clean) (sym c.in-None.ensures))

pub returns-clause-prevented : goal.returns-clause-prevented
returns-clause-prevented g c = dump_wants
