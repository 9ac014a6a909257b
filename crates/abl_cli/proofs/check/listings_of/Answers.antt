-- What refuses a file or a rule prevents the check.
use Rattle.std.proofs.Common.{◌≡◌, ◌≤◌, ◌⊎◌, Err, None, List, arith, length, subst, sym}
use Rattle.std.proofs.lemmas.Result.{err_from_is_err_and}
use Rattle.schema_reader.specs.Rules.{violation_of}
use Rattle.host_io.specs.Files.{FileState}
use Rattle.command_arguments.specs.CommandLine.{check_of}
use Rattle.preprocessor.specs.declared.texts.NamedText.{NamedText}
use Rattle.abl_cli.specs.Check.{HaveListings, OneBreaks}
use Rattle.source_files.specs.Compiled.{BreaksSchema, schema_in}
use Rattle.abl_cli.specs.Command.{asks_checked_schema, asks_sources, no_checked_file}
use Rattle.source_files.proofs.Causes.{of_error, still_asked, still_asks_sources, still_sources}
use Rattle.abl_cli.proofs.Checks.{as_many, check_prevented_by, are_listed}
use Rattle.abl_cli.proofs.check.listings_of.Goals as goal

pub returns-in_err-df-clause-prevented : goal.returns-in_err-df-clause-prevented
returns-in_err-df-clause-prevented g c =
    let p = err_from_is_err_and c.from_residual.result c.from_residual.ensures.1 in
    let is : c.from_residual.result ≡ Err c.in_err-df.field-0.0 = cc (p.1, p.2) in
    of_error _ is (no_checked_file (record { name = c.args.check.now.schema.now; asks = asks_checked_schema; unread = c.in_err-df.ensures.refused }))

pub returns-in_err-sources-clause-prevented : goal.returns-in_err-sources-clause-prevented
returns-in_err-sources-clause-prevented g c =
    let files : FileState = g.F.Files.state c.args.files.now in
    let later : FileState = g.F.Files.state c.read.new.files in
    let p = err_from_is_err_and c.from_residual-in_err-sources.result c.from_residual-in_err-sources.ensures.1 in
    let is : c.from_residual-in_err-sources.result ≡ Err c.in_err-sources.field-0.0 = cc (p.1, p.2) in
    let sound = g.met.F.Files.sound_observable c.args.files.now in
    of_error _ is (no_checked_file (still_asked files later c.in_ok-df.ensures.same sound (λ name asks. asks_sources c.in_ok-df.ensures.text (still_asks_sources files later c.in_ok-df.ensures.same sound asks)) c.in_err-sources.ensures.refused))

pub listings_in-requires : goal.listings_in-requires
listings_in-requires g c =
    let many = as_many (g.F.Files.state c.read.new.files) c.args.check.now.programs.now c.in_ok-sources.sources.items c.in_ok-sources.ensures.read in
    subst (λ (sources : List (List NamedText)). length sources ≤ 16) (sym c.deref.ensures.value) (omega (arith, many, c.requires))

pub returns-in-Ok-clause-listed : goal.returns-in-Ok-clause-listed
returns-in-Ok-clause-listed g c =
    let files : FileState = g.F.Files.state c.args.files.now in
    let later : FileState = g.F.Files.state c.read.new.files in
    let have = still_sources files later c.in_ok-df.ensures.same (g.met.F.Files.sound_observable c.args.files.now) c.args.check.now.programs.now c.in_ok-sources.sources.items c.in_ok-sources.ensures.read in
    are_listed files (check_of c.args.check.now) c.in_ok-df.df c.in_ok-sources.sources.items c.in_ok-df.ensures.text have c.as_slice.result.now c.as_slice.ensures c.in-Ok.listings.items c.in-Ok.ensures.clean
    (subst (λ (sources : List (List NamedText)). HaveListings (schema_in c.as_slice.result.now) sources c.in-Ok.listings.items) c.deref.ensures.value c.in-Ok.ensures.listed)

pub returns-clause-prevented : goal.returns-clause-prevented
returns-clause-prevented g c =
    let files : FileState = g.F.Files.state c.args.files.now in
    let later : FileState = g.F.Files.state c.read.new.files in
    let have = still_sources files later c.in_ok-df.ensures.same (g.met.F.Files.sound_observable c.args.files.now) c.args.check.now.programs.now c.in_ok-sources.sources.items c.in_ok-sources.ensures.read in
    check_prevented_by files (check_of c.args.check.now) c.in_ok-df.df c.in_ok-sources.sources.items c.in_ok-df.ensures.text have c.as_slice.result.now c.as_slice.ensures _ c.in-Err.refusal
    (subst (λ (sources : List (List NamedText)). BreaksSchema c.as_slice.result.now c.in-Err.refusal ⊎ ((violation_of c.as_slice.result.now ≡ None) × OneBreaks (schema_in c.as_slice.result.now) 0 sources c.in-Err.refusal)) c.deref.ensures.value c.in-Err.ensures.refused)
