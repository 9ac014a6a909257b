-- What a reference says.
use Rattle.std.specs.Prelude.{ℕ, ◌+◌, ◌-◌, ◌*◌, Bool, true, ◌&&◌, ◌==◌, nat_lt, if◌then◌else◌, List, [], ◌∷◌, ◌++◌}
use Rattle.preprocessor.specs.declared.names.Definition.{Definition}
use Rattle.preprocessor.specs.declared.names.Maker.TheVariants.{ByArgument}
use Rattle.preprocessor.specs.declared.reference.Argument.{Argument}
use Rattle.preprocessor.specs.declared.reference.Argument.TheVariants.{Wrong, Positional, Named}
use Rattle.preprocessor.specs.declared.reference.Reference.{Reference}
use Rattle.preprocessor.specs.declared.reference.Reference.TheVariants.{Faulty, Name, Number, File}
use Rattle.preprocessor.specs.declared.reference.TheConstants.{MAX_ARGUMENT}
use Rattle.preprocessor.specs.Modes.{is_digit}
use Rattle.preprocessor.specs.Names.{is_name}

abbrev pub all_digits : List ℕ → Bool
all_digits [] = true
all_digits (b ∷ bs) = is_digit b && all_digits bs

-- the number that the digits spell, where n was spelled before them; at most MAX_ARGUMENT
abbrev pub number_of : ℕ → List ℕ → ℕ
number_of n [] = n
number_of n (b ∷ bs) = number_of (if nat_lt MAX_ARGUMENT (n * 10 + (b - 48)) then MAX_ARGUMENT else n * 10 + (b - 48)) bs

-- a definition by an argument, where its name is one
abbrev pub where_name : List ℕ → List ℕ → Argument
where_name name value = if is_name name then Named (record { name = name; value = value; maker = ByArgument }) else Wrong

-- NAME=value, where `name` are the bytes before
abbrev pub named : List ℕ → List ℕ → Argument
named name [] = Wrong
named name (b ∷ bs) = if b == 61 then where_name name bs else named (name ++ b ∷ []) bs

-- A word that begins with & defines a name.
abbrev pub argument_of : List ℕ → Argument
argument_of [] = Positional []
argument_of (b ∷ bs) = if b == 38 then named [] bs else Positional (b ∷ bs)

-- a file with its arguments and definitions, where it has a name
abbrev pub file_named : List ℕ → List (List ℕ) → List Definition → Reference
file_named [] arguments definitions = Faulty
file_named (b ∷ bs) arguments definitions = File (record { name = b ∷ bs; arguments = arguments; definitions = definitions })

-- a file and the words after it; the arguments and the definitions each in their order
abbrev pub file_of : List ℕ → List (List ℕ) → List Definition → List (List ℕ) → Reference
file_of name arguments definitions [] = file_named name arguments definitions
file_of name arguments definitions (w ∷ ws) = elim (argument_of w) [
  | Wrong ↦ Faulty
  | Positional p ↦ file_of name (arguments ++ p ∷ []) definitions ws
  | Named d ↦ file_of name arguments (definitions ++ d ∷ []) ws
]

-- one word: &NAME, a number, or a file without arguments
abbrev pub lone : List ℕ → Reference
lone [] = Faulty
lone (b ∷ bs) =
    if b == 38 then (if is_name bs then Name bs else file_named (b ∷ bs) [] [])
    else if all_digits (b ∷ bs) then Number (number_of 0 (b ∷ bs))
    else file_named (b ∷ bs) [] []

-- what the words say
abbrev pub reading : List (List ℕ) → Reference
reading [] = Faulty
reading (w ∷ []) = lone w
reading (w ∷ v ∷ vs) = file_of w [] [] (v ∷ vs)
