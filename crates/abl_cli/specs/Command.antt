-- The result of a command: it was refused by the first cause that prevented it, or it did its work on the disk.
use Rattle.std.specs.Prelude.{◌≡◌, ◌⊎◌, ◌≤◌, ℕ, length, map, Bool, IsTrue, List, [], ◌∷◌, Option, Some, None}
use Rattle.std.specs.List.{flat_map}
use Rattle.schema_reader.specs.Rules.{violation_of}
use Rattle.host_io.specs.declared.out.Stream.TheVariants.{Output as Standard}
use Rattle.host_io.specs.Files.{FileState}
use Rattle.bound_tree.specs.Tree.{Source as Tree}
use Rattle.client_output.specs.declared.section.Section.{Section}
use Rattle.preprocessor.specs.declared.texts.NamedText.{NamedText}
use Rattle.run_report.specs.declared.refusal.Refusal.{Refusal}
use Rattle.run_report.specs.declared.refusal.Refusal.TheVariants.{Usage, NoMemory}
use Rattle.run_report.specs.declared.ending.Report.{Report}
use Rattle.source_files.specs.declared.files.TheConstants.{MAX_FILE_BYTES}
use Rattle.source_files.specs.declared.files.ClientTexts.{ClientTexts}
use Rattle.command_arguments.specs.CommandLine.{Run, ClientFiles, IsRun, arguments_of, Check, IsCheck, check_arguments, Bank, IsBank, bank_arguments, Create, IsCreate, create_arguments, Dump, IsDump, dump_arguments, IsWrong, number_of}
use Rattle.bank_run.specs.declared.inputs.bank.Bank.{Bank as BankNumbers}
use Rattle.bank_run.specs.Texts.{bank_names}
use Rattle.bank_run.specs.Result.{BankResult}
use Rattle.source_files.specs.Files.{AskedIsNotRead, AsksClients, AsksSources, HasSource, HasText, HaveClients, HaveSources, HaveTexts, OneIsNotRead}
use Rattle.source_files.specs.Compiled.{BreaksSchema, IsSourceTree, OneSourceBreaks, schema_in}
use Rattle.run_report.specs.Ending.{IsRefused, WritesStatus, output_refusal, status_after}
use Rattle.run_works.specs.declared.outcome.Outcome.{Outcome}
use Rattle.run_works.specs.Disks.{DiskState}
use Rattle.client_threads.specs.served.Works.{Work}
use Rattle.run_works.specs.Works.{HasNotRun, HasRun}
use Rattle.abl_cli.specs.Check.{HaveListings, OneBreaks, check_text}
use Rattle.abl_cli.specs.Stored.{CreateResult, DumpResult, HasSchema, HasTable, PreventsDump, PreventsSchema}
use Rattle.abl_values.specs.Schema.{SchemaData, primary_of}
use Rattle.row_store.specs.declared.store.FoundRow.{FoundRow}
use Rattle.log_meaning.specs.Images.{Recovers}
use Rattle.slot_rows.specs.Decoded.{decoded}
use Rattle.disk_database.specs.table.Order.{AreAll, export_lines}
use Rattle.run_report.specs.Report.{reports, run_text}
use Rattle.host_io.specs.Out.{OutState, Writes, appended}

-- A run asks for the file of this name before the rules are looked at, and those that it asks for before it were read: the schema file, and then
-- those of each client in order, its source, each file that the source needs, and its input
pub data AsksRun (files : FileState) (schema : List ℕ) (clients : List ClientFiles) : List ℕ → Type 0 where
  asks_schema : AsksRun files schema clients schema
  asks_clients : {df name : List ℕ} → HasText files schema df → AsksClients files clients name → AsksRun files schema clients name

-- the texts that were read for a run, before the rules were looked at
pub record Texts (files : FileState) (schema : List ℕ) (clients : List ClientFiles) : Type 0 where
  pub df : List ℕ
  pub texts : List ClientTexts
  pub has_schema : HasText files schema df
  pub have : HaveClients files clients texts

-- the sources denote these trees
abbrev pub AreTrees : SchemaData → List ClientTexts → List Tree → Type 0
AreTrees schema [] [] = Unit {0}
AreTrees schema [] (tree ∷ trees) = ⊥
AreTrees schema (t ∷ ts) [] = ⊥
AreTrees schema (t ∷ ts) (tree ∷ trees) = IsSourceTree schema t.source tree × AreTrees schema ts trees

-- the files after INPUT FROM, in client order and text order
abbrev pub named_inputs : List Tree → List (List ℕ)
named_inputs trees = flat_map (λ (tree : Tree). tree.inputs) trees

-- The first thing that prevents the run of these clients over this schema file, in the order in which they are looked for: the schema
-- file, the source, the files that it needs and the input of each client in order, the rules of the schema, those of the sources in order, the
-- files after INPUT FROM. Out of memory may come at any time
pub data Prevents (files : FileState) (faults : ℕ) (schema : List ℕ) (clients : List ClientFiles) : Refusal → Type 0 where
  no_file : {refusal : Refusal} → AskedIsNotRead files faults (AsksRun files schema clients) refusal → Prevents files faults schema clients refusal
  schema_breaks : {refusal : Refusal} (texts : Texts files schema clients) → BreaksSchema texts.df refusal → Prevents files faults schema clients refusal
  source_breaks : {refusal : Refusal} (texts : Texts files schema clients) → violation_of texts.df ≡ None → OneSourceBreaks (schema_in texts.df) 0 texts.texts refusal → Prevents files faults schema clients refusal
  no_named_input : {refusal : Refusal} (texts : Texts files schema clients) → violation_of texts.df ≡ None → (trees : List Tree) → AreTrees (schema_in texts.df) texts.texts trees →
      OneIsNotRead files faults (named_inputs trees) refusal → Prevents files faults schema clients refusal
  run_wants : Prevents files faults schema clients NoMemory

-- the texts that were read for a check, before the rules were looked at
pub record CheckTexts (files : FileState) (check : Check) : Type 0 where
  pub df : List ℕ
  pub sources : List (List NamedText)
  pub has_schema : HasText files check.schema df
  pub have_sources : HaveSources files check.programs sources

-- a check asks for the file of this name, likewise: the schema file, and then each source and the files that it needs
pub data AsksCheck (files : FileState) (check : Check) : List ℕ → Type 0 where
  asks_checked_schema : AsksCheck files check check.schema
  asks_sources : {df name : List ℕ} → HasText files check.schema df → AsksSources files check.programs name → AsksCheck files check name

-- The first thing that prevents this check, in the order in which they are looked for: the schema file, each source and the files that it
-- needs, the rules of the schema, those of the sources in order. Out of memory may come at any time
pub data PreventsCheck (files : FileState) (faults : ℕ) (check : Check) : Refusal → Type 0 where
  no_checked_file : {refusal : Refusal} → AskedIsNotRead files faults (AsksCheck files check) refusal → PreventsCheck files faults check refusal
  schema_is_broken : {refusal : Refusal} (texts : CheckTexts files check) → BreaksSchema texts.df refusal → PreventsCheck files faults check refusal
  one_breaks : {refusal : Refusal} (texts : CheckTexts files check) → violation_of texts.df ≡ None → OneBreaks (schema_in texts.df) 0 texts.sources refusal → PreventsCheck files faults check refusal

-- the files are read, the schema and the sources break no rule, and these are the lines of each source's blocks
pub record AreListed (files : FileState) (check : Check) (listings : List (List ℕ)) : Type 0 where
  pub texts : CheckTexts files check
  pub clean : violation_of texts.df ≡ None
  pub have : HaveListings (schema_in texts.df) texts.sources listings

-- the works of clients whose sources and inputs have these texts
abbrev pub AreWorks : FileState → SchemaData → List ClientTexts → List Work → Type 0
AreWorks files schema [] [] = Unit {0}
AreWorks files schema [] (w ∷ ws) = ⊥
AreWorks files schema (t ∷ ts) [] = ⊥
AreWorks files schema (t ∷ ts) (w ∷ ws) = (IsSourceTree schema t.source w.tree × ((w.tables ≡ schema.tables) × ((w.input ≡ t.input) × HaveTexts files w.tree.inputs w.inputs))) × AreWorks files schema ts ws

-- the names of the clients of a run
abbrev pub client_names : Run → List (List ℕ)
client_names run = map (λ (c : ClientFiles). c.name) run.clients

-- why a command was refused before it came to the disk: the arguments have no form, or they name a command that is prevented
pub data Cause (arguments : List (List ℕ)) (files : FileState) (faults : ℕ) : List (List ℕ) → Refusal → Type 0 where
  wrong_argument : {names : List (List ℕ)} {arg : ℕ} → IsWrong arguments arg → Cause arguments files faults names (Usage arg)
  prevented : {refusal : Refusal} (run : Run) → IsRun run → arguments ≡ arguments_of run → Prevents files faults run.schema run.clients refusal → Cause arguments files faults (client_names run) refusal
  check_prevented : {refusal : Refusal} (check : Check) → IsCheck check → arguments ≡ check_arguments check → PreventsCheck files faults check refusal → Cause arguments files faults check.programs refusal
  create_prevented : {refusal : Refusal} (create : Create) → IsCreate create → arguments ≡ create_arguments create → PreventsSchema files faults create.schema refusal → Cause arguments files faults [] refusal
  dump_prevented : {refusal : Refusal} (dump : Dump) → IsDump dump → arguments ≡ dump_arguments dump → PreventsDump files faults dump refusal → Cause arguments files faults [] refusal

-- the report of a check of the sources of these names with these listings: its text is on standard output, or a prefix where a write
-- failed, and then the line on standard error
pub record HasChecked (names listings : List (List ℕ)) (old new : OutState) (report : Report) : Type 0 where
  pub trace : report.trace ≡ []
  pub ends : report.ends ≡ []
  pub whole : Bool
  pub between : OutState
  pub text : Writes whole Standard (check_text names listings) old between
  pub refusal : report.refusal ≡ output_refusal whole
  pub status : report.status ≡ status_after report.refusal
  pub lines : WritesStatus [] [] report.refusal between new

-- the numbers of the bank that the arguments name
abbrev pub bank_of : Bank → BankNumbers
bank_of bank = record { start = number_of bank.start; clients = number_of bank.clients; accounts = number_of bank.accounts; transfers = number_of bank.transfers }

-- THE RESULT OF A COMMAND: the disk as contracts see it and as it was given, the arguments, the files before the command and their count of
-- faults after it, the streams before and after it, and what it did, with the disk that it hands back
pub data CommandResult {D : Type 0} (seen : D → DiskState) (disk : D) (arguments : List (List ℕ)) (files : FileState) (faults : ℕ) (old new : OutState) (outcome : Outcome D) : Type 0 where
  -- it was refused before it came to the disk, which is as it was
  Refused : (names : List (List ℕ)) (refusal : Refusal) → Cause arguments files faults names refusal → outcome.disk ≡ disk → IsRefused names refusal old new outcome.report →
      CommandResult seen disk arguments files faults old new outcome
  -- it opened no database for the clients that the arguments name, over a schema and sources that break no rule. A disk that holds none, or one of
  -- another schema, is untouched
  NotRun : (named : Run) → IsRun named → arguments ≡ arguments_of named →
      (texts : Texts files named.schema named.clients) → violation_of texts.df ≡ None → (works : List Work) → AreWorks files (schema_in texts.df) texts.texts works →
      HasNotRun (schema_in texts.df) (client_names named) (seen disk) (seen outcome.disk) old new outcome.report → CommandResult seen disk arguments files faults old new outcome
  -- it ran these clients
  Ran : (named : Run) → IsRun named → arguments ≡ arguments_of named →
      (texts : Texts files named.schema named.clients) → violation_of texts.df ≡ None → (works : List Work) → AreWorks files (schema_in texts.df) texts.texts works →
      HasRun named.mode (schema_in texts.df) (client_names named) (number_of named.steps) works (seen disk) (seen outcome.disk) old new outcome.report → CommandResult seen disk arguments files faults old new outcome
  -- it listed the sources that the arguments name, over a schema that breaks no rule; the disk is as it was
  Checked : (check : Check) → IsCheck check → arguments ≡ check_arguments check → (listings : List (List ℕ)) → AreListed files check listings → outcome.disk ≡ disk → HasChecked check.programs listings old new outcome.report →
      CommandResult seen disk arguments files faults old new outcome
  -- it was a bank, whatever the files are
  Banked : (bank : Bank) → IsBank bank → arguments ≡ bank_arguments bank → BankResult (bank_of bank) seen disk old new outcome → CommandResult seen disk arguments files faults old new outcome
  -- it made the database of the schema that the arguments name, or could not
  Created : (create : Create) → IsCreate create → arguments ≡ create_arguments create → (schema : SchemaData) → HasSchema files create.schema schema → CreateResult schema (seen disk) (seen outcome.disk) old new outcome.report →
      CommandResult seen disk arguments files faults old new outcome
  -- it wrote the rows of the table that the arguments name, or could not, as over a disk that holds no database of the schema, which is untouched
  Dumped : (dump : Dump) → IsDump dump → arguments ≡ dump_arguments dump → (schema : SchemaData) (table : ℕ) → HasTable files dump schema table → DumpResult schema table (seen disk) (seen outcome.disk) old new outcome.report →
      CommandResult seen disk arguments files faults old new outcome

-- ---- for laws

-- the refusal is this one, or out of memory
abbrev pub IsRefusal : Option Refusal → Refusal → Type 0
IsRefusal reported refusal = (reported ≡ Some refusal) ⊎ (reported ≡ Some NoMemory)

-- the refusal is Usage
abbrev pub IsUsage : Option Refusal → Type 0
IsUsage (Some (Usage arg)) = Unit {0}
IsUsage refusal = ⊥

-- the whole text of a command was appended to standard output, and nothing to standard error: that of the run, the bank, the check or the dump
-- that the arguments name. A creation has none
pub data HasWholeText {D : Type 0} (seen : D → DiskState) (disk : D) (arguments : List (List ℕ)) (files : FileState) (report : Report) (old new : OutState) : Type 0 where
  of_run : (run : Run) → arguments ≡ arguments_of run → (texts : Texts files run.schema run.clients) → (parts : List (List Section)) →
      new.texts ≡ appended Standard (run_text run.mode (schema_in texts.df) (client_names run) parts report.trace) old.texts → HasWholeText seen disk arguments files report old new
  of_bank : (bank : Bank) → arguments ≡ bank_arguments bank → (parts : List (List Section)) →
      new.texts ≡ appended Standard (reports (bank_names (number_of bank.clients)) parts) old.texts → HasWholeText seen disk arguments files report old new
  of_check : (check : Check) → arguments ≡ check_arguments check → (listings : List (List ℕ)) → AreListed files check listings → new.texts ≡ appended Standard (check_text check.programs listings) old.texts →
      HasWholeText seen disk arguments files report old new
  of_create : (create : Create) → arguments ≡ create_arguments create → new.texts ≡ old.texts → HasWholeText seen disk arguments files report old new
  of_dump : (dump : Dump) → arguments ≡ dump_arguments dump → (schema : SchemaData) (table : ℕ) → HasTable files dump schema table → (list : List FoundRow) →
      (IsTrue (seen disk).observable → (slots : ℕ → List ℕ) → Recovers (seen disk).seen slots → AreAll schema (decoded schema slots) table (primary_of schema table) None list) →
      new.texts ≡ appended Standard (export_lines list) old.texts → HasWholeText seen disk arguments files report old new

-- the arguments name the run, and the files are observable and fail for a missing file alone
pub record NamesRun (arguments : List (List ℕ)) (files : FileState) (run : Run) : Type 0 where
  pub is_run : IsRun run
  pub arguments_are : arguments ≡ arguments_of run
  pub observable : IsTrue files.observable
  pub sound : IsTrue files.sound

-- such files have this text under the name, and it is not too long
pub record IsThere (files : FileState) (name text : List ℕ) : Type 0 where
  pub there : files.file name ≡ Some text
  pub short : length text ≤ MAX_FILE_BYTES

-- the client's input likewise, if it is a file
abbrev pub IsInputThere : FileState → Option (List ℕ) → Type 0
IsInputThere files None = Unit {0}
IsInputThere files (Some name) = (text : List ℕ) × IsThere files name text

-- each of these files likewise
abbrev pub AreThere : FileState → List (List ℕ) → Type 0
AreThere files [] = Unit {0}
AreThere files (name ∷ names) = ((text : List ℕ) × IsThere files name text) × AreThere files names

-- the source of each client and the files that it needs are there with these texts, and its input is there
abbrev pub ClientsThere : FileState → List ClientFiles → List (List NamedText) → Type 0
ClientsThere files [] [] = Unit {0}
ClientsThere files [] (texts ∷ sources) = ⊥
ClientsThere files (c ∷ cs) [] = ⊥
ClientsThere files (c ∷ cs) (texts ∷ sources) = (HasSource files c.program texts × IsInputThere files c.input) × ClientsThere files cs sources

-- the schema file and the files of the clients are there, with these texts of the schema file and of the sources
pub record AllThere (files : FileState) (run : Run) (df : List ℕ) (sources : List (List NamedText)) : Type 0 where
  pub schema : IsThere files run.schema df
  pub clients : ClientsThere files run.clients sources

-- the sources with these texts denote these trees
abbrev pub AreSources : SchemaData → List (List NamedText) → List Tree → Type 0
AreSources schema [] [] = Unit {0}
AreSources schema [] (tree ∷ trees) = ⊥
AreSources schema (texts ∷ sources) [] = ⊥
AreSources schema (texts ∷ sources) (tree ∷ trees) = IsSourceTree schema texts tree × AreSources schema sources trees
