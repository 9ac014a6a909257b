-- What holds of the clients of a run before they run.
use Rattle.std.specs.Prelude.{◌≡◌, ℕ, List, [], ◌∷◌, None}
use Rattle.std.specs.List.{flat_map}
use Rattle.schema_reader.specs.Rules.{violation_of}
use Rattle.abl_values.specs.declared.schema.TableDef.{TableDef}
use Rattle.abl_values.specs.Schema.{SchemaData}
use Rattle.host_io.specs.Files.{FileState}
use Rattle.block_code.specs.declared.code.Code.{Code}
use Rattle.client_core.specs.ClientView.{ClientView}
use Rattle.source_files.specs.declared.files.ClientTexts.{ClientTexts}
use Rattle.source_files.specs.Files.{HaveTexts}
use Rattle.source_files.specs.Compiled.{schema_in}
use Rattle.client_threads.specs.served.Works.{Work}
use Rattle.client_threads.specs.served.Served.{AreToDo, IsClientOf}
use Rattle.host_io.specs.Out.{OutState}
use Rattle.command_arguments.specs.CommandLine.{Check, ClientFiles}
use Rattle.run_report.specs.declared.ending.Report.{Report}
use Rattle.run_report.specs.declared.refusal.Refusal.{Refusal}
use Rattle.run_report.specs.Ending.{IsRefused}
use Rattle.abl_cli.specs.Command.{AreListed, AreWorks, HasChecked, PreventsCheck, Texts}

-- the files after INPUT FROM that the codes name, in order
abbrev pub inputs_of : List Code → List (List ℕ)
inputs_of codes = flat_map (λ (code : Code). code.inputs.items) codes

-- the client is to run what the code denotes over these tables, with this input and the files that the code names
pub record IsBegun (files : FileState) (units : ℕ) (tables : List TableDef) (code : Code) (input : List ℕ) (client : ClientView) : Type 0 where
  pub inputs : List (List ℕ)
  pub have : HaveTexts files code.inputs.items inputs
  pub to_run : IsClientOf units tables code input inputs client

-- and so is each of these clients
abbrev pub AreBegun : FileState → ℕ → List TableDef → List Code → List ClientTexts → List ClientView → Type 0
AreBegun files units tables [] [] [] = Unit {0}
AreBegun files units tables (code ∷ codes) (t ∷ ts) (client ∷ clients) = IsBegun files units tables code t.input client × AreBegun files units tables codes ts clients
AreBegun files units tables codes ts clients = ⊥

-- the files are read, the schema breaks no rule and is this one, and the clients are to do the works that the texts denote
pub record IsReady (files : FileState) (schema : List ℕ) (clients : List ClientFiles) (units : ℕ) (denoted : SchemaData) (begun : List ClientView) : Type 0 where
  pub texts : Texts files schema clients
  pub clean : violation_of texts.df ≡ None
  pub schema_is : denoted ≡ schema_in texts.df
  pub works : List Work
  pub are : AreWorks files (schema_in texts.df) texts.texts works
  pub to_do : AreToDo units works begun

-- the result of a check, whatever the disk is
pub data CheckResult (check : Check) (files : FileState) (faults : ℕ) (old new : OutState) (report : Report) : Type 0 where
  HasListed : (listings : List (List ℕ)) → AreListed files check listings → HasChecked check.programs listings old new report → CheckResult check files faults old new report
  HasNotListed : (refusal : Refusal) → PreventsCheck files faults check refusal → IsRefused check.programs refusal old new report → CheckResult check files faults old new report
