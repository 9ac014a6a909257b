-- The namings of buffers in a source, those of each procedure together.
use Rattle.std.specs.Prelude.{◌≡◌, ◌==◌, ◌++◌, ℕ, List, [], slice_index_or}
use Rattle.std.specs.List.{filter}
use Rattle.bind_names.specs.declared.names.Naming.{Naming}
use Rattle.binder.specs.declared.groups.Groups.{Groups}

-- the namings in the procedure of this number
abbrev pub own_namings : ℕ → List Naming → List Naming
own_namings p said = filter (λ n. n.procedure == p) said

-- the list of number p has the namings in the procedure of number p
pub record IsGrouped (said : List Naming) (groups : Groups) : Type 0 where
  pub each : (p : ℕ) → slice_index_or groups.namings.items p [] ≡ own_namings p said

-- it has them but for those among the namings that are left
pub record IsGrouping (all left : List Naming) (groups : List (List Naming)) : Type 0 where
  pub each : (p : ℕ) → slice_index_or groups p [] ++ own_namings p left ≡ own_namings p all
