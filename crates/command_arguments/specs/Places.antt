-- The forms of the arguments of a run and of a bank, argument by argument.
use Rattle.std.specs.Prelude.{◌≡◌, ℕ, ◌<◌, List, [], ◌∷◌, ◌++◌, length, codes, Option}
use Rattle.command_arguments.specs.declared.run.Argument.{Argument}
use Rattle.command_arguments.specs.declared.run.Argument.TheVariants.{Command, Schema, Steps, Mode}
use Rattle.command_arguments.specs.declared.bank.BankPlace.{BankPlace}
use Rattle.command_arguments.specs.declared.bank.BankPlace.TheVariants as bank
use Rattle.command_arguments.specs.CommandLine.{IsMode, IsNumber, IsSteps, IsName, IsFileName, IsInput, input_part}

-- the places before the clients, in order
abbrev pub form : List Argument
form = Command ∷ Schema ∷ Steps ∷ Mode ∷ []

-- `PROG` or `PROG<INPUT`
pub record AreFiles (part : List ℕ) : Type 0 where
  pub program : List ℕ
  pub input : Option (List ℕ)
  pub is_program : IsFileName program
  pub is_input : IsInput input
  pub joined : part ≡ program ++ input_part input

-- `NAME=PROG` or `NAME=PROG<INPUT`
pub record IsClient (arg : List ℕ) : Type 0 where
  pub name : List ℕ
  pub part : List ℕ
  pub is_name : IsName name
  pub files : AreFiles part
  pub joined : arg ≡ name ++ 61 ∷ part

-- the argument fits the place
abbrev pub Fits : Argument → List ℕ → Type 0
Fits Command arg = arg ≡ codes "run"
Fits Schema arg = 0 < length arg
Fits Steps arg = IsSteps arg
Fits Mode arg = IsMode arg

-- each argument fits its place, and there are no more arguments than places
abbrev pub FitAll : List Argument → List (List ℕ) → Type 0
FitAll places [] = Unit {0}
FitAll [] (arg ∷ arguments) = ⊥
FitAll (argument ∷ places) (arg ∷ arguments) = Fits argument arg × FitAll places arguments

-- the places of a bank, in order
abbrev pub bank_form : List BankPlace
bank_form = bank.Command ∷ bank.Start ∷ bank.Clients ∷ bank.Accounts ∷ bank.Transfers ∷ []

-- the argument fits the place of a bank
abbrev pub FitsBank : BankPlace → List ℕ → Type 0
FitsBank bank.Command arg = arg ≡ codes "bank"
FitsBank bank.Start arg = IsNumber 0 2147483647 arg
FitsBank bank.Clients arg = IsNumber 1 8 arg
FitsBank bank.Accounts arg = IsNumber 2 10000 arg
FitsBank bank.Transfers arg = IsNumber 1 50000 arg

-- each argument fits its place, and there are no more arguments than places
abbrev pub FitBank : List BankPlace → List (List ℕ) → Type 0
FitBank places [] = Unit {0}
FitBank [] (arg ∷ arguments) = ⊥
FitBank (place ∷ places) (arg ∷ arguments) = FitsBank place arg × FitBank places arguments
