-- The files of a client, and then those of the others.
use Rattle.std.proofs.Common.{◌≡◌, ◌++◌, ◌∷◌, [], Err, ℕ, List, sym, ap, ◌∙◌, subst, append_assoc}
use Rattle.std.specs.Prelude.{map}
use Rattle.std.proofs.lemmas.Result.{err_from_is_err_and}
use Rattle.host_io.specs.Files.{FileState}
use Rattle.command_arguments.specs.CommandLine.{ClientFiles, client_in}
use Rattle.command_arguments.specs.declared.client.ClientArgument.{ClientArgument}
use Rattle.source_files.specs.declared.files.ClientTexts.{ClientTexts}
use Rattle.run_report.specs.declared.refusal.Refusal.{Refusal}
use Rattle.source_files.specs.Files.{AskedIsNotRead, AsksClients, HaveClients, asks_later_client, asks_own, asks_source, asks_this_client}
use Rattle.source_files.proofs.Causes.{asked_so, asked_wants, if_err, of_error, on_ok, still_asked, still_asks_clients, still_clients}
use Rattle.source_files.proofs.files.+read_clients.Goals as goal

pub returns-in_err-read-clause-refused : goal.returns-in_err-read-clause-refused
returns-in_err-read-clause-refused g t c =
    let files : FileState = g.F.Files.state c.args.files.now in
    let faults : ℕ = (g.F.Files.state c.read_client.new.files).faults in
    let p = err_from_is_err_and c.from_residual.result c.from_residual.ensures.1 in
    let refusal = c.in_err-read.field-0.0 in
    let is : c.from_residual.result ≡ Err refusal = cc (p.1, p.2) in
    of_error (λ (refusal : Refusal). AskedIsNotRead files faults (AsksClients files (map client_in c.args.clients.now)) refusal) is
    (subst (λ (clients : List ClientArgument). AskedIsNotRead files faults (AsksClients files (map client_in clients)) refusal) (sym c.in-Some.ensures.cases.0)
    (asked_so (λ name asks. asks_this_client asks) c.in_err-read.ensures.refused))

-- there is no memory for its texts
pub returns-in_default-push-clause-refused : goal.returns-in_default-push-clause-refused
returns-in_default-push-clause-refused g t c =
    let files : FileState = g.F.Files.state c.args.files.now in
    let faults : ℕ = (g.F.Files.state c.read_client.new.files).faults in
    rw c.in-Some.ensures.cases.0 (asked_wants c.in-Some.client.now.program.now (asks_this_client (asks_source asks_own)))

pub returns-clause-read : goal.returns-clause-read
returns-clause-read g t c =
    let files : FileState = g.F.Files.state c.args.files.now in
    let later : FileState = g.F.Files.state c.read_client.new.files in
    let sound = g.met.F.Files.sound_observable c.args.files.now in
    let first = c.in_ok-read.read in
    let old = c.args.texts.now.items in
    let new = c.read_clients.new.texts.items in
    on_ok c.read_clients.result
    ((more : List ClientTexts) × (new ≡ c.push.new.self.items ++ more) × HaveClients later (map client_in c.in-Some.rest.now) more)
    ((more : List ClientTexts) × (new ≡ old ++ more) × HaveClients files (map client_in c.args.clients.now) more)
    (λ rest. (
      first ∷ rest.0,
      rest.1 ∙ ap (λ (texts : List ClientTexts). texts ++ rest.0) c.in-Ok.ensures.items ∙ append_assoc old (first ∷ []) rest.0,
      subst (λ (clients : List ClientArgument). HaveClients files (map client_in clients) (first ∷ rest.0)) (sym c.in-Some.ensures.cases.0)
          (c.in_ok-read.ensures.texts, still_clients files later c.in_ok-read.ensures.same sound (map client_in c.in-Some.rest.now) rest.0 rest.2),
    ))
    c.read_clients.ensures.read

pub returns-clause-refused : goal.returns-clause-refused
returns-clause-refused g t c =
    let files : FileState = g.F.Files.state c.args.files.now in
    let later : FileState = g.F.Files.state c.read_client.new.files in
    let faults : ℕ = (g.F.Files.state c.read_clients.new.files).faults in
    let sound = g.met.F.Files.sound_observable c.args.files.now in
    let rest : List ClientFiles = map client_in c.in-Some.rest.now in
    if_err c.read_clients.result
    (λ (refusal : Refusal). AskedIsNotRead later faults (AsksClients later rest) refusal)
    (λ (refusal : Refusal). AskedIsNotRead files faults (AsksClients files (map client_in c.args.clients.now)) refusal)
    (λ refusal h. subst (λ (clients : List ClientArgument). AskedIsNotRead files faults (AsksClients files (map client_in clients)) refusal) (sym c.in-Some.ensures.cases.0)
    (still_asked files later c.in_ok-read.ensures.same sound (λ name asks. asks_later_client c.in_ok-read.read c.in_ok-read.ensures.texts (still_asks_clients files later c.in_ok-read.ensures.same sound asks)) h))
    c.read_clients.ensures.refused
