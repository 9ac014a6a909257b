-- The arguments of the command line: their form, and the number of the wrong one.
use Rattle.std.specs.Prelude.{◌≡◌, ◌⊎◌, ℕ, ◌+◌, ◌*◌, ◌-◌, ◌<◌, ◌≤◌, ◌≢◌, List, [], ◌∷◌, ◌++◌, length, All, take, codes, fold, slice_index, Option, Some, None, option_copied, map}
use Rattle.command_arguments.specs.declared.parts.Mode.{Mode}
use Rattle.command_arguments.specs.declared.parts.Mode.TheVariants.{Trace, Quiet}
use Rattle.command_arguments.specs.declared.run.RunArguments.{RunArguments}
use Rattle.command_arguments.specs.declared.client.ClientArgument.{ClientArgument}
use Rattle.command_arguments.specs.declared.check.CheckArguments.{CheckArguments}
use Rattle.command_arguments.specs.declared.bank.BankArguments.{BankArguments}
use Rattle.command_arguments.specs.declared.create.CreateArguments.{CreateArguments}
use Rattle.command_arguments.specs.declared.dump.DumpArguments.{DumpArguments}
use Rattle.command_arguments.specs.declared.command.Command.{Command}
use Rattle.command_arguments.specs.declared.command.Command.TheVariants.{Run as ToRun, Check as ToCheck, Bank as ToBank, Create as ToCreate, Dump as ToDump}
use Rattle.std.specs.Char.{IsAsciiDigit, IsAsciiAlphanumeric}

-- the number that decimal digits denote
abbrev pub number_of : List ℕ → ℕ
number_of digits = fold (λ n digit. 10 * n + (digit - 48)) 0 digits

-- STEPS: 1 to 999999999, in digits without a leading zero
pub record IsSteps (arg : List ℕ) : Type 0 where
  pub digits : All IsAsciiDigit arg
  pub some : 0 < length arg
  pub short : length arg ≤ 9
  pub first : slice_index arg 0 ≢ 48

-- MODE: `trace` or `quiet`
abbrev pub mode_argument : Mode → List ℕ
mode_argument Trace = codes "trace"
mode_argument Quiet = codes "quiet"

abbrev pub IsMode : List ℕ → Type 0
IsMode arg = (mode : Mode) × (arg ≡ mode_argument mode)

-- NAME: 1 to 16 ASCII letters or digits
pub record IsName (name : List ℕ) : Type 0 where
  pub letters : All IsAsciiAlphanumeric name
  pub some : 0 < length name
  pub short : length name ≤ 16

-- PROG and INPUT: not empty, and without `<`
pub record IsFileName (name : List ℕ) : Type 0 where
  pub some : 0 < length name
  pub plain : All (λ byte. byte ≢ 60) name

-- INPUT may be left out
abbrev pub IsInput : Option (List ℕ) → Type 0
IsInput None = Unit {0}
IsInput (Some name) = IsFileName name

-- a client: its name, its source, and its input, if it has one
pub record ClientFiles : Type 0 where
  pub name : List ℕ
  pub program : List ℕ
  pub input : Option (List ℕ)

-- what the arguments `run SCHEMA STEPS MODE CLIENT...` name, each CLIENT `NAME=PROG` or `NAME=PROG<INPUT`
pub record Run : Type 0 where
  pub schema : List ℕ
  pub steps : List ℕ
  pub mode : Mode
  pub clients : List ClientFiles

-- `<INPUT`, or nothing
abbrev pub input_part : Option (List ℕ) → List ℕ
input_part None = []
input_part (Some name) = 60 ∷ name

-- `NAME=PROG` or `NAME=PROG<INPUT`
abbrev pub client_argument : ClientFiles → List ℕ
client_argument c = c.name ++ 61 ∷ (c.program ++ input_part c.input)

-- the arguments that name it
abbrev pub arguments_of : Run → List (List ℕ)
arguments_of run = codes "run" ∷ run.schema ∷ run.steps ∷ mode_argument run.mode ∷ map client_argument run.clients

-- each part of a client has its form
pub record IsClientFiles (c : ClientFiles) : Type 0 where
  pub name : IsName c.name
  pub program : IsFileName c.program
  pub input : IsInput c.input

-- no two of the clients have one name
abbrev pub HaveOwnNames : List ClientFiles → Type 0
HaveOwnNames [] = Unit {0}
HaveOwnNames (c ∷ cs) = All (λ (d : ClientFiles). c.name ≢ d.name) cs × HaveOwnNames cs

-- each part has its form, and there are 1 to 16 clients, whose names differ
pub record IsRun (run : Run) : Type 0 where
  pub schema : 0 < length run.schema
  pub steps : IsSteps run.steps
  pub some : 0 < length run.clients
  pub few : length run.clients ≤ 16
  pub clients : All IsClientFiles run.clients
  pub names : HaveOwnNames run.clients

-- the arguments have the form of a run
abbrev pub HaveRunForm : List (List ℕ) → Type 0
HaveRunForm arguments = (run : Run) × (IsRun run × (arguments ≡ arguments_of run))

-- what the arguments `check SCHEMA PROG...` name: the schema file and the sources
pub record Check : Type 0 where
  pub schema : List ℕ
  pub programs : List (List ℕ)

-- the arguments that name it
abbrev pub check_arguments : Check → List (List ℕ)
check_arguments check = codes "check" ∷ check.schema ∷ check.programs

-- SCHEMA and each PROG are not empty, and there are 1 to 16 PROG
pub record IsCheck (check : Check) : Type 0 where
  pub schema : 0 < length check.schema
  pub some : 0 < length check.programs
  pub few : length check.programs ≤ 16
  pub names : All (λ name. 0 < length name) check.programs

-- the arguments have the form of a check
abbrev pub HaveCheckForm : List (List ℕ) → Type 0
HaveCheckForm arguments = (check : Check) × (IsCheck check × (arguments ≡ check_arguments check))

-- a number in decimal digits without a leading zero; ten digits are enough for each bound
pub record IsDecimal (arg : List ℕ) : Type 0 where
  pub digits : All IsAsciiDigit arg
  pub some : 0 < length arg
  pub short : length arg ≤ 10
  pub first : (length arg ≡ 1) ⊎ (slice_index arg 0 ≢ 48)

-- and from `least` to `most`
pub record IsNumber (least most : ℕ) (arg : List ℕ) : Type 0 where
  pub decimal : IsDecimal arg
  pub enough : least ≤ number_of arg
  pub few : number_of arg ≤ most

-- what the arguments `bank START CLIENTS ACCOUNTS TRANSFERS` name, each in digits
pub record Bank : Type 0 where
  pub start : List ℕ
  pub clients : List ℕ
  pub accounts : List ℕ
  pub transfers : List ℕ

-- the arguments that name it
abbrev pub bank_arguments : Bank → List (List ℕ)
bank_arguments bank = codes "bank" ∷ bank.start ∷ bank.clients ∷ bank.accounts ∷ bank.transfers ∷ []

-- each number is within its bounds
pub record IsBank (bank : Bank) : Type 0 where
  pub start : IsNumber 0 2147483647 bank.start
  pub clients : IsNumber 1 8 bank.clients
  pub accounts : IsNumber 2 10000 bank.accounts
  pub transfers : IsNumber 1 50000 bank.transfers

-- the arguments have the form of a bank
abbrev pub HaveBankForm : List (List ℕ) → Type 0
HaveBankForm arguments = (bank : Bank) × (IsBank bank × (arguments ≡ bank_arguments bank))

-- what the arguments `create SCHEMA` name: the schema file
pub record Create : Type 0 where
  pub schema : List ℕ

-- the arguments that name it
abbrev pub create_arguments : Create → List (List ℕ)
create_arguments create = codes "create" ∷ create.schema ∷ []

-- SCHEMA is not empty
pub record IsCreate (create : Create) : Type 0 where
  pub schema : 0 < length create.schema

-- the arguments have the form of a creation
abbrev pub HaveCreateForm : List (List ℕ) → Type 0
HaveCreateForm arguments = (create : Create) × (IsCreate create × (arguments ≡ create_arguments create))

-- what the arguments `dump SCHEMA TABLE` name: the schema file, and the name of a table
pub record Dump : Type 0 where
  pub schema : List ℕ
  pub table : List ℕ

-- the arguments that name it
abbrev pub dump_arguments : Dump → List (List ℕ)
dump_arguments dump = codes "dump" ∷ dump.schema ∷ dump.table ∷ []

-- SCHEMA and TABLE are not empty
pub record IsDump (dump : Dump) : Type 0 where
  pub schema : 0 < length dump.schema
  pub table : 0 < length dump.table

-- the arguments have the form of a dump
abbrev pub HaveDumpForm : List (List ℕ) → Type 0
HaveDumpForm arguments = (dump : Dump) × (IsDump dump × (arguments ≡ dump_arguments dump))

-- THE ARGUMENTS HAVE A FORM
abbrev pub HaveForm : List (List ℕ) → Type 0
HaveForm arguments = HaveRunForm arguments ⊎ (HaveCheckForm arguments ⊎ (HaveBankForm arguments ⊎ (HaveCreateForm arguments ⊎ HaveDumpForm arguments)))

-- some arguments of the form begin with these
abbrev pub BeginForm : (List (List ℕ) → Type 0) → List (List ℕ) → Type 0
BeginForm form arguments = (more : List (List ℕ)) × form (arguments ++ more)

-- The wrong argument, from 0: the first arguments up to it begin no arguments of the form, and those before it do.
-- Where only more arguments are missing it is the count of arguments.
pub data IsWrongIn (form : List (List ℕ) → Type 0) : List (List ℕ) → ℕ → Type 0 where
  at_argument : (arguments : List (List ℕ)) (n : ℕ) → n < length arguments → BeginForm form (take n arguments) → ¬ BeginForm form (take (n + 1) arguments) → IsWrongIn form arguments n
  missing : (arguments : List (List ℕ)) → BeginForm form arguments → ¬ form arguments → IsWrongIn form arguments (length arguments)

-- THE WRONG ARGUMENT, over all forms
abbrev pub IsWrong : List (List ℕ) → ℕ → Type 0
IsWrong = IsWrongIn HaveForm

-- the client that was read off an argument
abbrev pub client_in : ClientArgument → ClientFiles
client_in read = record { name = read.name.now; program = read.program.now; input = option_copied read.input }

-- the arguments are those of clients whose parts have their form, and whose names differ
pub record AreClients (arguments : List (List ℕ)) : Type 0 where
  pub clients : List ClientFiles
  pub good : All IsClientFiles clients
  pub names : HaveOwnNames clients
  pub arguments_are : arguments ≡ map client_argument clients

-- the arguments name what was read
pub record Names (arguments : List (List ℕ)) (read : RunArguments) : Type 0 where
  pub run : Run
  pub is_run : IsRun run
  pub arguments_are : arguments ≡ arguments_of run
  pub schema : read.schema.now ≡ run.schema
  pub steps : read.steps ≡ number_of run.steps
  pub mode : read.mode ≡ run.mode
  pub clients : read.clients.now ≡ map client_argument run.clients

-- what a check reads off the arguments
abbrev pub check_of : CheckArguments → Check
check_of read = record { schema = read.schema.now; programs = read.programs.now }

-- the arguments name the check that was read
pub record NamesCheck (arguments : List (List ℕ)) (read : CheckArguments) : Type 0 where
  pub is_check : IsCheck (check_of read)
  pub arguments_are : arguments ≡ check_arguments (check_of read)

-- the arguments name the bank that was read
pub record NamesBank (arguments : List (List ℕ)) (read : BankArguments) : Type 0 where
  pub bank : Bank
  pub is_bank : IsBank bank
  pub arguments_are : arguments ≡ bank_arguments bank
  pub start : read.start ≡ number_of bank.start
  pub clients : read.clients ≡ number_of bank.clients
  pub accounts : read.accounts ≡ number_of bank.accounts
  pub transfers : read.transfers ≡ number_of bank.transfers

-- what a creation reads off the arguments
abbrev pub create_of : CreateArguments → Create
create_of read = record { schema = read.schema.now }

-- the arguments name the creation that was read
pub record NamesCreate (arguments : List (List ℕ)) (read : CreateArguments) : Type 0 where
  pub is_create : IsCreate (create_of read)
  pub arguments_are : arguments ≡ create_arguments (create_of read)

-- what a dump reads off the arguments
abbrev pub dump_of : DumpArguments → Dump
dump_of read = record { schema = read.schema.now; table = read.table.now }

-- the arguments name the dump that was read
pub record NamesDump (arguments : List (List ℕ)) (read : DumpArguments) : Type 0 where
  pub is_dump : IsDump (dump_of read)
  pub arguments_are : arguments ≡ dump_arguments (dump_of read)

-- the arguments name what was read
abbrev pub NamesCommand : List (List ℕ) → Command → Type 0
NamesCommand arguments (ToRun read) = Names arguments read
NamesCommand arguments (ToCheck read) = NamesCheck arguments read
NamesCommand arguments (ToBank read) = NamesBank arguments read
NamesCommand arguments (ToCreate read) = NamesCreate arguments read
NamesCommand arguments (ToDump read) = NamesDump arguments read
