-- The moves toward a row's values, listed in the order of the indexes.
use Rattle.std.specs.Prelude.{ℕ, ◌+◌, Bool, true, false, not, ◌&&◌, if◌then◌else◌, List, [], ◌∷◌, ◌++◌, Option, Some, None}
use Rattle.abl_base.specs.declared.value.Value.{Value}
use Rattle.abl_values.specs.declared.schema.IndexDef.{IndexDef}
use Rattle.abl_values.specs.Keys.{has_unknown, key_bytes}
use Rattle.abl_values.specs.Masks.{same_bytes}
use Rattle.abl_values.specs.Schema.{SchemaData, indexes_of}
use Rattle.row_indexes.specs.declared.moves.Move.{Move}
use Rattle.row_keys.specs.Numbers.{first_of_table}

-- the key differs from that of the other row, or there is no other row
abbrev pub key_differs : IndexDef → Option (List Value) → List Value → Bool
key_differs index None to = true
key_differs index (Some from) to = not (same_bytes (key_bytes index.parts from) (key_bytes index.parts to))

-- the key is a unique key
abbrev pub is_unique_in : IndexDef → List Value → Bool
is_unique_in index values = index.unique && not (has_unknown index.parts values)

abbrev pub move_in : ℕ → IndexDef → List Value → Bool → Move
move_in number index to entered = record { index = number; key = key_bytes index.parts to; unique = is_unique_in index to; entered = entered }

-- the move in this index, if the key differs there
abbrev pub moves_in_one : ℕ → IndexDef → Option (List Value) → List Value → Bool → List Move
moves_in_one number index from to entered = if key_differs index from to then move_in number index to entered ∷ [] else []

-- the move among the identities, if there is no other row
abbrev pub moves_of_identity : ℕ → Option (List Value) → Bool → List Move
moves_of_identity number None entered = record { index = number; key = []; unique = false; entered = entered } ∷ []
moves_of_identity number (Some from) entered = []

-- the moves in these indexes, numbered from here, and among the identities after them
abbrev pub moves_in : ℕ → List IndexDef → Option (List Value) → List Value → Bool → List Move
moves_in number [] from to entered = moves_of_identity number from entered
moves_in number (index ∷ indexes) from to entered = moves_in_one number index from to entered ++ moves_in (number + 1) indexes from to entered

-- the moves toward these values of the table from others
abbrev pub moves_toward : SchemaData → ℕ → Option (List Value) → Option (List Value) → Bool → List Move
moves_toward schema table from None entered = []
moves_toward schema table from (Some to) entered = moves_in (first_of_table schema table) (indexes_of schema table) from to entered
