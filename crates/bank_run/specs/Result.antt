-- The result of a bank: it was refused, or its three phases ran.
use Rattle.std.specs.Prelude.{◌≡◌, List, [], ◌∷◌}
use Rattle.abl_values.specs.Schema.{SchemaData}
use Rattle.host_io.specs.Out.{OutState}
use Rattle.command_arguments.specs.declared.parts.Mode.TheVariants.{Quiet}
use Rattle.bank_run.specs.declared.inputs.bank.Bank.{Bank}
use Rattle.bank_run.specs.declared.inputs.sources.TheConstants.{BANK_SCHEMA}
use Rattle.run_report.specs.declared.refusal.Refusal.{Refusal}
use Rattle.run_report.specs.declared.refusal.Refusal.TheVariants.{NoMemory}
use Rattle.run_report.specs.Ending.{IsRefused}
use Rattle.source_files.specs.declared.files.ClientTexts.{ClientTexts}
use Rattle.source_files.specs.Compiled.{BreaksSchema, IsSourceTree, OneSourceBreaks, schema_in}
use Rattle.run_works.specs.declared.outcome.Outcome.{Outcome}
use Rattle.run_works.specs.Disks.{DiskState}
use Rattle.client_threads.specs.served.Works.{Work}
use Rattle.run_works.specs.Works.{HasNotRun}
use Rattle.bank_run.specs.declared.bank.TheConstants.{BANK_UNITS}
use Rattle.bank_run.specs.Texts.{bank_names, bank_texts}
use Rattle.bank_run.specs.Phases.{HasRunPhases}

-- the schema of a bank
abbrev pub bank_schema : SchemaData
bank_schema = schema_in BANK_SCHEMA.now

-- why a bank is refused before its first phase: the rule that the schema or the first source that breaks one breaks first, or out of memory
pub data PreventsBank (bank : Bank) : Refusal → Type 0 where
  schema_breaks : {refusal : Refusal} → BreaksSchema BANK_SCHEMA.now refusal → PreventsBank bank refusal
  source_breaks : {refusal : Refusal} → OneSourceBreaks bank_schema 0 (bank_texts bank) refusal → PreventsBank bank refusal
  bank_wants : PreventsBank bank NoMemory

-- the works of clients with these texts, which read no further file
abbrev pub AreTextWorks : SchemaData → List ClientTexts → List Work → Type 0
AreTextWorks schema [] [] = Unit {0}
AreTextWorks schema [] (w ∷ ws) = ⊥
AreTextWorks schema (t ∷ ts) [] = ⊥
AreTextWorks schema (t ∷ ts) (w ∷ ws) = (IsSourceTree schema t.source w.tree × ((w.tables ≡ schema.tables) × ((w.input ≡ t.input) × (w.inputs ≡ [])))) × AreTextWorks schema ts ws

-- THE RESULT OF A BANK: the disk as contracts see it and as it was given, the streams, and what the bank did, with the disk that it hands back
pub data BankResult (bank : Bank) {D : Type 0} (seen : D → DiskState) (disk : D) (old new : OutState) (outcome : Outcome D) : Type 0 where
  -- it was refused before it came to the disk, which is as it was
  BankPrevented : (refusal : Refusal) → PreventsBank bank refusal → outcome.disk ≡ disk → IsRefused (bank_names bank.clients) refusal old new outcome.report → BankResult bank seen disk old new outcome
  -- it opened no database of the schema of a bank. A disk that holds none, or one of another schema, is untouched
  BankNotRun : HasNotRun bank_schema (bank_names bank.clients) (seen disk) (seen outcome.disk) old new outcome.report → BankResult bank seen disk old new outcome
  -- its clients ran: the one that sets up the accounts, then those that make transfers, then the one that adds up
  BankRan : (works : List Work) → AreTextWorks bank_schema (bank_texts bank) works → HasRunPhases Quiet bank_schema (bank_names bank.clients) BANK_UNITS bank.clients works (seen disk) (seen outcome.disk) old new outcome.report →
      BankResult bank seen disk old new outcome
