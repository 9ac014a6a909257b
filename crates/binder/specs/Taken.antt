-- How the names of internal procedures are found.
use Rattle.std.specs.Prelude.{◌≡◌, ◌≤◌, ℕ, List, length, map}
use Rattle.std.specs.List.{list_any}
use Rattle.std.specs.Option.{is_some}
use Rattle.abl_base.specs.declared.limits.TheConstants.{MAX_NAME_BYTES}
use Rattle.abl_values.specs.Schema.{number_of_name, same_name}
use Rattle.binder.specs.declared.taken.ProcedureName.{ProcedureName}

-- those found in the index are those of the names that are not too long for it
abbrev pub Finds : List ProcedureName → List (List ℕ) → Type 0
Finds found names = (name : List ℕ) → length name ≤ MAX_NAME_BYTES → is_some (number_of_name 0 (map (λ n. n.spelling) found) name) ≡ list_any (λ n. same_name n name) names
