use Rattle.std.proofs.Common.{◌≡◌, ℕ, List, Err}
use Rattle.std.proofs.lemmas.Result.{err_from_is_err_and}
use Rattle.host_io.specs.Files.{FileState}
use Rattle.command_arguments.specs.CommandLine.{client_in}
use Rattle.run_report.specs.declared.refusal.Refusal.{Refusal}
use Rattle.source_files.specs.Files.{AskedIsNotRead, AsksClient, asks_input, asks_source}
use Rattle.source_files.proofs.Causes.{asked_so, of_error, still_asked, still_has_input}
use Rattle.source_files.proofs.files.read_client.Goals as goal

pub returns-in_err-source-clause-refused : goal.returns-in_err-source-clause-refused
returns-in_err-source-clause-refused g c =
    let files : FileState = g.F.Files.state c.args.files.now in
    let faults : ℕ = (g.F.Files.state c.read_source.new.files).faults in
    let p = err_from_is_err_and c.from_residual.result c.from_residual.ensures.1 in
    let is : c.from_residual.result ≡ Err c.in_err-source.field-0.0 = cc (p.1, p.2) in
    of_error (λ (refusal : Refusal). AskedIsNotRead files faults (AsksClient files (client_in c.args.client.now)) refusal) is
    (asked_so (λ name asks. asks_source asks) c.in_err-source.ensures.refused)

pub returns-in-Ok-clause-texts : goal.returns-in-Ok-clause-texts
returns-in-Ok-clause-texts g c =
    let files : FileState = g.F.Files.state c.args.files.now in
    let later : FileState = g.F.Files.state c.read_source.new.files in
    (c.in_ok-source.ensures.read, still_has_input files later c.in_ok-source.ensures.same (g.met.F.Files.sound_observable c.args.files.now) _ _ c.in-Ok.ensures.text)

pub returns-in-Err-clause-refused : goal.returns-in-Err-clause-refused
returns-in-Err-clause-refused g c =
    let files : FileState = g.F.Files.state c.args.files.now in
    let later : FileState = g.F.Files.state c.read_source.new.files in
    still_asked files later c.in_ok-source.ensures.same (g.met.F.Files.sound_observable c.args.files.now)
    (λ name is. asks_input c.in_ok-source.source c.in_ok-source.ensures.read is) c.in-Err.ensures.refused
