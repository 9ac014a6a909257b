-- How the names of a list are found by an index.
use Rattle.std.specs.Prelude.{◌≡◌, ◌≤◌, ℕ, List, [], ◌∷◌, length, if◌then◌else◌, Option, None, Some}
use Rattle.abl_base.specs.declared.limits.TheConstants.{MAX_NAME_BYTES}
use Rattle.abl_values.specs.Schema.{number_of_name, same_name}
use Rattle.bind_names.specs.declared.listed.First.{First}

-- the number that the index has for a name
abbrev pub number_in : List First → List ℕ → Option ℕ
number_in [] name = None
number_in (f ∷ fs) name = if same_name f.spelling name then Some f.number else number_in fs name

-- for each name that is not too long for it, the index has the number of the first that is this name
abbrev pub Finds : List First → List (List ℕ) → Type 0
Finds firsts names = (name : List ℕ) → length name ≤ MAX_NAME_BYTES → number_in firsts name ≡ number_of_name 0 names name
