-- The schema of the file, or what keeps it from being read.
use Rattle.std.proofs.Common.{◌≡◌, Err, List, ℕ, subst}
use Rattle.std.proofs.lemmas.Result.{err_from_is_err_and}
use Rattle.run_report.specs.declared.refusal.Refusal.{Refusal}
use Rattle.source_files.specs.Compiled.{BreaksSchema}
use Rattle.source_files.proofs.Causes.{if_err, of_error}
use Rattle.abl_cli.specs.Stored.{PreventsSchema, df_breaks, no_df}
use Rattle.abl_cli.proofs.Creations.{is_schema}
use Rattle.abl_cli.proofs.creating.schema_in_file.Goals as goal

pub returns-in_err-df-clause-prevented : goal.returns-in_err-df-clause-prevented
returns-in_err-df-clause-prevented g c =
    let p = err_from_is_err_and c.from_residual.result c.from_residual.ensures.1 in
    let is : c.from_residual.result ≡ Err c.in_err-df.field-0.0 = cc (p.1, p.2) in
    of_error _ is (no_df c.in_err-df.ensures.refused)

pub returns-clause-schema : goal.returns-clause-schema
returns-clause-schema g c = is_schema (g.F.Files.state c.args.files.now) c.args.name.now c.in_ok-df.df c.as_slice.result.now c.schema_of.result c.in_ok-df.ensures.text c.as_slice.ensures c.schema_of.ensures.schema c.schema_of.ensures.clean

pub returns-clause-prevented : goal.returns-clause-prevented
returns-clause-prevented g c =
    if_err c.schema_of.result (BreaksSchema c.as_slice.result.now) (PreventsSchema (g.F.Files.state c.args.files.now) (g.F.Files.state c.read.new.files).faults c.args.name.now)
    (λ (refusal : Refusal) breaks. df_breaks c.in_ok-df.ensures.text (subst (λ (text : List ℕ). BreaksSchema text refusal) c.as_slice.ensures breaks)) c.schema_of.ensures.refused
