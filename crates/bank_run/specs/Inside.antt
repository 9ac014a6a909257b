-- What holds of the clients of a bank before they run.
use Rattle.std.specs.Prelude.{◌≡◌, ℕ, List, [], ◌∷◌}
use Rattle.abl_values.specs.declared.schema.TableDef.{TableDef}
use Rattle.abl_values.specs.Schema.{SchemaData}
use Rattle.block_code.specs.declared.code.Code.{Code}
use Rattle.client_core.specs.ClientView.{ClientView}
use Rattle.bank_run.specs.declared.inputs.bank.Bank.{Bank}
use Rattle.source_files.specs.declared.files.ClientTexts.{ClientTexts}
use Rattle.client_threads.specs.served.Works.{Work}
use Rattle.client_threads.specs.served.Served.{AreToDo, IsClientOf}
use Rattle.bank_run.specs.declared.bank.TheConstants.{BANK_UNITS}
use Rattle.bank_run.specs.Texts.{bank_texts}
use Rattle.bank_run.specs.Result.{AreTextWorks, bank_schema}

-- each client is to run what its code denotes over these tables, with the input of its texts
abbrev pub AreClientsOf : ℕ → List TableDef → List Code → List ClientTexts → List ClientView → Type 0
AreClientsOf units tables [] [] [] = Unit {0}
AreClientsOf units tables (code ∷ codes) (t ∷ ts) (client ∷ clients) = IsClientOf units tables code t.input [] client × AreClientsOf units tables codes ts clients
AreClientsOf units tables codes ts clients = ⊥

-- the schema is that of a bank, and the clients are to do its works
pub record IsBankReady (bank : Bank) (schema : SchemaData) (clients : List ClientView) : Type 0 where
  pub schema_is : schema ≡ bank_schema
  pub works : List Work
  pub are : AreTextWorks bank_schema (bank_texts bank) works
  pub to_do : AreToDo BANK_UNITS works clients
