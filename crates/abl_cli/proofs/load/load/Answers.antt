-- What is read, compiled and begun is what the run needs, or prevents it.
use Rattle.std.proofs.Common.{◌≡◌, ◌⊎◌, inl, inr, ◌≤◌, ◌++◌, Err, None, List, ℕ, sym, ap, ◌∙◌, subst, arith, length}
use Rattle.std.specs.Prelude.{map}
use Rattle.std.proofs.lemmas.List.{length-map}
use Rattle.std.proofs.lemmas.Result.{err_from_is_err_and}
use Rattle.schema_reader.specs.Rules.{violation_of}
use Rattle.host_io.specs.Files.{FileState}
use Rattle.command_arguments.specs.CommandLine.{ClientFiles, client_in}
use Rattle.client_core.specs.ClientView.{ClientView}
use Rattle.source_files.specs.declared.files.ClientTexts.{ClientTexts}
use Rattle.run_report.specs.declared.refusal.Refusal.TheVariants.{NoMemory}
use Rattle.source_files.specs.Compiled.{BreaksSchema, OneSourceBreaks, schema_in}
use Rattle.source_files.specs.Files.{HaveClients}
use Rattle.abl_cli.specs.Command.{asks_schema, no_file}
use Rattle.abl_cli.specs.Inside.{AreBegun}
use Rattle.source_files.specs.Compiled.{HaveCodes}
use Rattle.source_files.proofs.Causes.{of_error, same_further, still_asked, still_asks_clients, still_clients}
use Rattle.abl_cli.proofs.Loads.{as_many_texts, as_many_codes, files_prevent, rules_prevent, named_prevents, is_ready}
use Rattle.abl_cli.proofs.load.load.Goals as goal

pub returns-in_err-df-clause-prevented : goal.returns-in_err-df-clause-prevented
returns-in_err-df-clause-prevented g c =
    let p = err_from_is_err_and c.from_residual.result c.from_residual.ensures.1 in
    let is : c.from_residual.result ≡ Err c.in_err-df.field-0.0 = cc (p.1, p.2) in
    of_error _ is (no_file (record { name = c.args.schema.now; asks = asks_schema; unread = c.in_err-df.ensures.refused }))

pub returns-in_err-read_clients-clause-prevented : goal.returns-in_err-read_clients-clause-prevented
returns-in_err-read_clients-clause-prevented g c =
    let files : FileState = g.F.Files.state c.args.files.now in
    let later : FileState = g.F.Files.state c.read.new.files in
    let sound = g.met.F.Files.sound_observable c.args.files.now in
    let p = err_from_is_err_and c.from_residual-in_err-read_clients.result c.from_residual-in_err-read_clients.ensures.1 in
    let refusal = c.in_err-read_clients.field-0.0 in
    let is : c.from_residual-in_err-read_clients.result ≡ Err refusal = cc (p.1, p.2) in
    of_error _ is (files_prevent files c.args.schema.now (map client_in c.args.clients.now) c.in_ok-df.df c.in_ok-df.ensures.text (g.F.Files.state c.read_clients.new.files).faults refusal
    (still_asked files later c.in_ok-df.ensures.same sound (λ name. still_asks_clients files later c.in_ok-df.ensures.same sound) c.in_err-read_clients.ensures.refused))

pub compiled_in-requires : goal.compiled_in-requires
compiled_in-requires g c =
    let files : FileState = g.F.Files.state c.args.files.now in
    let later : FileState = g.F.Files.state c.read.new.files in
    let sound = g.met.F.Files.sound_observable c.args.files.now in
    let clients : List ClientFiles = map client_in c.args.clients.now in
    let texts : List ClientTexts = c.read_clients.new.texts.items in
    let read = c.in_ok-read_clients.ensures.read in
    let texts_are = read.1 ∙ ap (λ (ts : List ClientTexts). ts ++ read.0) c.new-texts.ensures.items in
    let have = subst (λ (ts : List ClientTexts). HaveClients files clients ts) (sym texts_are) (still_clients files later c.in_ok-df.ensures.same sound clients read.0 read.2) in
    let many = as_many_texts files clients texts have in
    let mapped = length-map c.args.clients.now client_in in
    subst (λ (ts : List ClientTexts). length ts ≤ 16) (sym c.deref.ensures.value) (omega (arith, many, mapped, c.requires))

pub returns-in_err-compiled-clause-prevented : goal.returns-in_err-compiled-clause-prevented
returns-in_err-compiled-clause-prevented g c =
    let files : FileState = g.F.Files.state c.args.files.now in
    let later : FileState = g.F.Files.state c.read.new.files in
    let sound = g.met.F.Files.sound_observable c.args.files.now in
    let clients : List ClientFiles = map client_in c.args.clients.now in
    let texts : List ClientTexts = c.read_clients.new.texts.items in
    let read = c.in_ok-read_clients.ensures.read in
    let texts_are = read.1 ∙ ap (λ (ts : List ClientTexts). ts ++ read.0) c.new-texts.ensures.items in
    let have = subst (λ (ts : List ClientTexts). HaveClients files clients ts) (sym texts_are) (still_clients files later c.in_ok-df.ensures.same sound clients read.0 read.2) in
    let d = c.as_slice.result.now in
    let p = err_from_is_err_and c.from_residual-in_err-compiled.result c.from_residual-in_err-compiled.ensures.1 in
    let refusal = c.in_err-compiled.field-0.0 in
    let is : c.from_residual-in_err-compiled.result ≡ Err refusal = cc (p.1, p.2) in
    of_error _ is (rules_prevent files c.args.schema.now clients c.in_ok-df.df c.in_ok-df.ensures.text texts have d c.as_slice.ensures (g.F.Files.state c.read_clients.new.files).faults refusal
    (subst (λ (ts : List ClientTexts). (refusal ≡ NoMemory) ⊎ (BreaksSchema d refusal ⊎ ((violation_of d ≡ None) × OneSourceBreaks (schema_in d) 0 ts refusal))) c.deref.ensures.value c.in_err-compiled.ensures.refused))

pub begin_clients-requires : goal.begin_clients-requires
begin_clients-requires g c =
    let d = c.as_slice.result.now in
    let codes = c.in_ok-compiled.compiled.codes.items in
    as_many_codes (schema_in d) c.read_clients.new.texts.items codes (subst (λ (ts : List ClientTexts). HaveCodes (schema_in d) ts codes) c.deref.ensures.value c.in_ok-compiled.ensures.codes)

pub returns-in_err-begin_clients-clause-prevented : goal.returns-in_err-begin_clients-clause-prevented
returns-in_err-begin_clients-clause-prevented g c =
    let files : FileState = g.F.Files.state c.args.files.now in
    let later : FileState = g.F.Files.state c.read.new.files in
    let sound = g.met.F.Files.sound_observable c.args.files.now in
    let clients : List ClientFiles = map client_in c.args.clients.now in
    let texts : List ClientTexts = c.read_clients.new.texts.items in
    let read = c.in_ok-read_clients.ensures.read in
    let texts_are = read.1 ∙ ap (λ (ts : List ClientTexts). ts ++ read.0) c.new-texts.ensures.items in
    let have = subst (λ (ts : List ClientTexts). HaveClients files clients ts) (sym texts_are) (still_clients files later c.in_ok-df.ensures.same sound clients read.0 read.2) in
    let named : FileState = g.F.Files.state c.read_clients.new.files in
    let d = c.as_slice.result.now in
    let codes = c.in_ok-compiled.compiled.codes.items in
    let are = subst (λ (ts : List ClientTexts). HaveCodes (schema_in d) ts codes) c.deref.ensures.value c.in_ok-compiled.ensures.codes in
    let same = same_further c.in_ok-df.ensures.same c.in_ok-read_clients.ensures.same in
    let p = err_from_is_err_and c.from_residual-in_err-begin_clients.result c.from_residual-in_err-begin_clients.ensures.1 in
    let refusal = c.in_err-begin_clients.field-0.0 in
    let is : c.from_residual-in_err-begin_clients.result ≡ Err refusal = cc (p.1, p.2) in
    of_error _ is (named_prevents files c.args.schema.now clients c.in_ok-df.df c.in_ok-df.ensures.text texts have d c.as_slice.ensures c.in_ok-compiled.ensures.clean codes are named same sound
    (g.F.Files.state c.begin_clients.new.files).faults refusal c.in_err-begin_clients.ensures.refused)

pub returns-clause-ready : goal.returns-clause-ready
returns-clause-ready g c =
    let files : FileState = g.F.Files.state c.args.files.now in
    let later : FileState = g.F.Files.state c.read.new.files in
    let sound = g.met.F.Files.sound_observable c.args.files.now in
    let clients : List ClientFiles = map client_in c.args.clients.now in
    let texts : List ClientTexts = c.read_clients.new.texts.items in
    let read = c.in_ok-read_clients.ensures.read in
    let texts_are = read.1 ∙ ap (λ (ts : List ClientTexts). ts ++ read.0) c.new-texts.ensures.items in
    let have = subst (λ (ts : List ClientTexts). HaveClients files clients ts) (sym texts_are) (still_clients files later c.in_ok-df.ensures.same sound clients read.0 read.2) in
    let named : FileState = g.F.Files.state c.read_clients.new.files in
    let d = c.as_slice.result.now in
    let codes = c.in_ok-compiled.compiled.codes.items in
    let are = subst (λ (ts : List ClientTexts). HaveCodes (schema_in d) ts codes) c.deref.ensures.value c.in_ok-compiled.ensures.codes in
    let same = same_further c.in_ok-df.ensures.same c.in_ok-read_clients.ensures.same in
    let begun = c.in_ok-begin_clients.ensures.begun in
    let begun_are = begun.1 ∙ ap (λ (ts : List ClientView). ts ++ begun.0) c.new-begun.ensures.items in
    is_ready files c.args.schema.now clients c.in_ok-df.df c.in_ok-df.ensures.text texts have d c.as_slice.ensures c.in_ok-compiled.ensures.clean codes are named same sound c.args.units c.in_ok-compiled.compiled.schema c.begin_clients.new.clients.items c.in_ok-compiled.ensures.schema
    (subst (λ (text : List ℕ). AreBegun named c.args.units (schema_in text).tables codes texts c.begin_clients.new.clients.items) (c.as_slice-2.ensures ∙ sym c.as_slice.ensures)
    (subst (λ (ts : List ClientView). AreBegun named c.args.units (schema_in c.as_slice-2.result.now).tables codes texts ts) (sym begun_are) begun.2))

pub returns-clause-schema : goal.returns-clause-schema
returns-clause-schema g c = c.in_ok-compiled.ensures.schema ∙ ap (λ (text : List ℕ). schema_in text) c.as_slice.ensures
