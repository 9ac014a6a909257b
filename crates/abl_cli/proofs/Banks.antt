-- The bank that arguments name, and what follows from its result.
use Rattle.std.proofs.Common.{◌≡◌, ℕ, List, arith}
use Rattle.command_arguments.specs.CommandLine.{NamesBank}
use Rattle.command_arguments.specs.declared.bank.BankArguments.{BankArguments}
use Rattle.bank_run.specs.declared.inputs.bank.Bank.{Bank as BankNumbers}
use Rattle.bank_run.specs.Result.{PreventsBank, schema_breaks, source_breaks}
use Rattle.bank_run.specs.Texts.{IsBank}
use Rattle.run_report.specs.declared.refusal.Refusal.TheVariants.{Usage, Output}
use Rattle.source_files.specs.declared.files.ClientTexts.{ClientTexts}
use Rattle.source_files.specs.Compiled.{OneSourceBreaks, this_source, later_source}
use Rattle.abl_values.specs.Schema.{SchemaData}
use Rattle.abl_cli.specs.Command.{bank_of}

-- the numbers that were read
abbrev pub numbers_of : BankArguments → BankNumbers
numbers_of read = record { start = read.start; clients = read.clients; accounts = read.accounts; transfers = read.transfers }

pub same_bank : (arguments : List (List ℕ)) (read : BankArguments) (named : NamesBank arguments read) → numbers_of read ≡ bank_of named.bank
same_bank arguments read named = λ i. record { start = named.start i; clients = named.clients i; accounts = named.accounts i; transfers = named.transfers i }

pub in_bounds : (arguments : List (List ℕ)) (read : BankArguments) → NamesBank arguments read → IsBank (numbers_of read)
in_bounds arguments read named =
    let start = named.is_bank.start.few in
    let some = named.is_bank.clients.enough in
    let few = named.is_bank.clients.few in
    let accounts = named.is_bank.accounts.enough in
    let few_accounts = named.is_bank.accounts.few in
    record {
      start = omega (arith, named.start, start);
      some = omega (arith, named.clients, some);
      few = omega (arith, named.clients, few);
      accounts = omega (arith, named.accounts, accounts);
      few_accounts = omega (arith, named.accounts, few_accounts);
    }

-- ---- a bank is refused by no wrong argument, and by no fault of the output

no_source_usage : {schema : SchemaData} {number arg : ℕ} {texts : List ClientTexts} → OneSourceBreaks schema number texts (Usage arg) → ⊥
no_source_usage (this_source h) = elim h [ ]
no_source_usage (later_source tree is h) = no_source_usage h

no_source_output : {schema : SchemaData} {number : ℕ} {texts : List ClientTexts} → OneSourceBreaks schema number texts Output → ⊥
no_source_output (this_source h) = elim h [ ]
no_source_output (later_source tree is h) = no_source_output h

pub no_bank_usage : (bank : BankNumbers) {arg : ℕ} → PreventsBank bank (Usage arg) → ⊥
no_bank_usage bank (schema_breaks h) = elim h [ ]
no_bank_usage bank (source_breaks h) = no_source_usage h

pub no_bank_output : (bank : BankNumbers) → PreventsBank bank Output → ⊥
no_bank_output bank (schema_breaks h) = elim h [ ]
no_bank_output bank (source_breaks h) = no_source_output h
