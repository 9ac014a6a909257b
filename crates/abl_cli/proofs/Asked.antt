-- The files that a run and a check ask for: each was read where all are there, and at most one that is not there is asked for.
use Rattle.std.proofs.Common.{◌≡◌, ◌⊎◌, inl, inr, ℕ, List, [], ◌∷◌, Option, Some, None, refl}
use Rattle.std.specs.Prelude.{IsTrue}
use Rattle.host_io.specs.Files.{FileState}
use Rattle.command_arguments.specs.CommandLine.{Check, ClientFiles}
use Rattle.preprocessor.specs.declared.texts.NamedText.{NamedText}
use Rattle.run_report.specs.declared.refusal.Refusal.{Refusal}
use Rattle.run_report.specs.declared.refusal.Refusal.TheVariants.{NoMemory}
use Rattle.source_files.specs.declared.files.ClientTexts.{ClientTexts}
use Rattle.source_files.specs.Files.{HasInput, HasText, HaveClients, HaveSources, IsNotRead}
use Rattle.source_files.proofs.Asked.{one_asked_clients, one_asked_sources, there_clients, there_sources, unread_there}
use Rattle.abl_cli.specs.Command.{AsksCheck, AsksRun, ClientsThere, IsInputThere, IsThere, asks_checked_schema, asks_clients, asks_schema, asks_sources}

-- the file of this name was read
abbrev pub WasRead : FileState → List ℕ → Type 0
WasRead files name = (text : List ℕ) × HasText files name text

-- a file that is there was read
pub there_read : {files : FileState} {name text : List ℕ} → IsThere files name text → HasText files name text
there_read is = record { content = λ t. is.there; short = is.short }

-- the texts of clients whose files are there
input_there : (files : FileState) (input : Option (List ℕ)) → IsInputThere files input → (text : List ℕ) × HasInput files input text
input_there files None is = ([], refl)
input_there files (Some name) is = (is.0, there_read is.1)

pub clients_there : (files : FileState) (cs : List ClientFiles) (sources : List (List NamedText)) → ClientsThere files cs sources → (ts : List ClientTexts) × HaveClients files cs ts
clients_there files [] [] are = ([], tt)
clients_there files [] (s ∷ ss) are = absurd are
clients_there files (c ∷ cs) [] are = absurd are
clients_there files (c ∷ cs) (s ∷ ss) are =
    let input = input_there files c.input are.0.1 in
    let rest = clients_there files cs ss are.1 in
    (record { source = s; input = input.0 } ∷ rest.0, ((are.0.0, input.1), rest.1))

module _ (files : FileState) (observable : IsTrue files.observable) where
  pub run_read : {schema name : List ℕ} {cs : List ClientFiles} (df : List ℕ) (ts : List ClientTexts) → HasText files schema df → HaveClients files cs ts → AsksRun files schema cs name → WasRead files name
  run_read df ts has have asks_schema = (df, has)
  run_read df ts has have (asks_clients other asks) = there_clients files observable ts have asks

  pub check_read : {check : Check} {name : List ℕ} (df : List ℕ) (sources : List (List NamedText)) → HasText files check.schema df → HaveSources files check.programs sources → AsksCheck files check name → WasRead files name
  check_read df sources has have asks_checked_schema = (df, has)
  check_read df sources has have (asks_sources other asks) = there_sources files observable sources have asks

  module _ (sound : IsTrue files.sound) {faults : ℕ} {why : Refusal} where
    pub one_asked_run : {schema name other : List ℕ} {cs : List ClientFiles} → ((text : List ℕ) → HasText files name text → ⊥) → IsNotRead files faults other why → AsksRun files schema cs name → AsksRun files schema cs other → (why ≡ NoMemory) ⊎ (name ≡ other)
    one_asked_run lacks unread asks_schema asks_schema = inr refl
    one_asked_run lacks unread asks_schema (asks_clients {df = df} has asked) = absurd (lacks df has)
    one_asked_run lacks unread (asks_clients {df = df} has asks) asks_schema = inl (unread_there files observable sound df has unread)
    one_asked_run lacks unread (asks_clients has asks) (asks_clients had asked) = one_asked_clients files observable sound lacks unread asks asked

    pub one_asked_check : {check : Check} {name other : List ℕ} → ((text : List ℕ) → HasText files name text → ⊥) → IsNotRead files faults other why → AsksCheck files check name → AsksCheck files check other → (why ≡ NoMemory) ⊎ (name ≡ other)
    one_asked_check lacks unread asks_checked_schema asks_checked_schema = inr refl
    one_asked_check lacks unread asks_checked_schema (asks_sources {df = df} has asked) = absurd (lacks df has)
    one_asked_check lacks unread (asks_sources {df = df} has asks) asks_checked_schema = inl (unread_there files observable sound df has unread)
    one_asked_check lacks unread (asks_sources has asks) (asks_sources had asked) = one_asked_sources files observable sound lacks unread asks asked
