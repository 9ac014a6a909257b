-- The works of clients that are to run.
use Rattle.std.proofs.Common.{◌≡◌, ◌⊎◌, inl, inr, None, ◌+◌, ℕ, zero, suc, List, [], ◌∷◌, refl, sym, ap, subst, arith, length, length-append}
use Rattle.abl_values.specs.Schema.{SchemaData}
use Rattle.bound_tree.specs.Bound.{source_of}
use Rattle.block_code.specs.declared.code.Code.{Code}
use Rattle.client_core.specs.ClientView.{ClientView}
use Rattle.bank_run.specs.declared.inputs.bank.Bank.{Bank}
use Rattle.source_files.specs.declared.files.ClientTexts.{ClientTexts}
use Rattle.source_files.specs.Compiled.{BreaksSchema, HaveCodes, OneSourceBreaks}
use Rattle.client_threads.specs.served.Works.{Work}
use Rattle.client_threads.specs.served.Served.{AreToDo}
use Rattle.bank_run.specs.Inside.{AreClientsOf}
use Rattle.bank_run.specs.Result.{AreTextWorks, PreventsBank, bank_schema, bank_wants, schema_breaks, source_breaks}
use Rattle.run_report.specs.declared.refusal.Refusal.{Refusal}
use Rattle.run_report.specs.declared.refusal.Refusal.TheVariants.{NoMemory}
use Rattle.schema_reader.specs.Rules.{violation_of}
use Rattle.bank_run.specs.Texts.{bank_texts, transfer_texts, with_input}
use Rattle.bank_run.specs.declared.inputs.sources.TheConstants.{BANK_SCHEMA, SETUP_SOURCE, TOTAL_SOURCE, TRANSFER_SOURCE}
use Rattle.bank_run.specs.inputs.Bank.{client_input, setup_input}

-- the works of the clients
pub record Begun (schema : SchemaData) (units : ℕ) (ts : List ClientTexts) (tasks : List ClientView) : Type 0 where
  pub works : List Work
  pub are : AreTextWorks schema ts works
  pub to_do : AreToDo units works tasks

pub begun : (schema : SchemaData) (units : ℕ) (ts : List ClientTexts) (codes : List Code) (tasks : List ClientView) → HaveCodes schema ts codes → AreClientsOf units schema.tables codes ts tasks → Begun schema units ts tasks
begun schema units [] [] [] have are = record { works = []; are = tt; to_do = tt }
begun schema units [] [] (task ∷ tasks) have are = absurd are
begun schema units [] (code ∷ codes) tasks have are = absurd have
begun schema units (t ∷ ts) [] tasks have are = absurd have
begun schema units (t ∷ ts) (code ∷ codes) [] have are = absurd are
begun schema units (t ∷ ts) (code ∷ codes) (task ∷ tasks) have are =
    let rest = begun schema units ts codes tasks have.1 are.1 in
    let one = have.0 in
    let client = are.0 in
    record {
      works = record { tables = schema.tables; tree = source_of one.bound; input = t.input; inputs = [] } ∷ rest.works;
      are = ((one.form, (refl, (refl, refl))), rest.are);
      to_do = ((λ p is. client one.bound p one.compiled is.source is.tables is.input_is is.inputs_are is.forms is.lines), rest.to_do);
    }

-- ---- how many there are

pub as_many_codes : (schema : SchemaData) (ts : List ClientTexts) (codes : List Code) → HaveCodes schema ts codes → length codes ≡ length ts
as_many_codes schema [] [] have = refl
as_many_codes schema [] (code ∷ codes) have = absurd have
as_many_codes schema (t ∷ ts) [] have = absurd have
as_many_codes schema (t ∷ ts) (code ∷ codes) have = ap (λ k. suc k) (as_many_codes schema ts codes have.1)

pub as_many_clients : (schema : SchemaData) (units : ℕ) (codes : List Code) (ts : List ClientTexts) (tasks : List ClientView) → AreClientsOf units schema.tables codes ts tasks → length tasks ≡ length ts
as_many_clients schema units [] [] [] are = refl
as_many_clients schema units [] [] (task ∷ tasks) are = absurd are
as_many_clients schema units [] (t ∷ ts) tasks are = absurd are
as_many_clients schema units (code ∷ codes) [] tasks are = absurd are
as_many_clients schema units (code ∷ codes) (t ∷ ts) [] are = absurd are
as_many_clients schema units (code ∷ codes) (t ∷ ts) (task ∷ tasks) are = ap (λ k. suc k) (as_many_clients schema units codes ts tasks are.1)

as_many_transfers : (bank : Bank) (n : ℕ) → length (transfer_texts bank n) ≡ n
as_many_transfers bank zero = refl
as_many_transfers bank (suc n) =
    let before = as_many_transfers bank n in
    let sum = length-append (transfer_texts bank n) (with_input TRANSFER_SOURCE.now (client_input bank n) ∷ []) in
    omega (arith, sum, before)

pub as_many_texts : (bank : Bank) → length (bank_texts bank) ≡ bank.clients + 2
as_many_texts bank =
    let before = as_many_transfers bank bank.clients in
    let sum = length-append (with_input SETUP_SOURCE.now (setup_input bank.accounts) ∷ transfer_texts bank bank.clients) (with_input TOTAL_SOURCE.now [] ∷ []) in
    omega (arith, sum, before)

-- ---- what prevents a bank

pub prevents : (bank : Bank) (texts : List ClientTexts) (refusal : Refusal) → texts ≡ bank_texts bank → (refusal ≡ NoMemory) ⊎ (BreaksSchema BANK_SCHEMA.now refusal ⊎ ((violation_of BANK_SCHEMA.now ≡ None) × OneSourceBreaks bank_schema 0 texts refusal)) → PreventsBank bank refusal
prevents bank texts refusal are (inl e) = subst (PreventsBank bank) (sym e) bank_wants
prevents bank texts refusal are (inr (inl breaks)) = schema_breaks breaks
prevents bank texts refusal are (inr (inr breaks)) = source_breaks (subst (λ (ts : List ClientTexts). OneSourceBreaks bank_schema 0 ts refusal) are breaks.1)
