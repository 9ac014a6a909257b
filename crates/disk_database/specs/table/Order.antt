-- The rows of a table in the order of an index, and their lines.
use Rattle.std.specs.Prelude.{ℕ, true, List, [], ◌∷◌, Option, Some}
use Rattle.std.specs.List.{flat_map}
use Rattle.abl_values.specs.Schema.{SchemaData}
use Rattle.value_masks.specs.Export.{export}
use Rattle.database_protocol.specs.declared.row_order.Cursor.{Cursor}
use Rattle.database_meaning.specs.Search.{IsNextIn}
use Rattle.row_store.specs.declared.store.FoundRow.{FoundRow}
use Rattle.row_store.specs.Changes.{RowsById}
use Rattle.row_store.specs.Questions.{FindsNoneIn}

-- the place of a row in the order
abbrev pub place_of : FoundRow → Cursor
place_of f = record { key = f.key; row = f.row }

-- The list has the first rows of the table in the order of the index after this place, without one from the beginning: each is the next row
-- of the table after the one before it. Without an index the order is that of identity
abbrev pub AreFirst : SchemaData → RowsById → ℕ → Option ℕ → Option Cursor → List FoundRow → Type 0
AreFirst schema rows table index after [] = Unit {0}
AreFirst schema rows table index after (f ∷ fs) = IsNextIn schema rows table index [] after true f.row f.key f.values × AreFirst schema rows table index (Some (place_of f)) fs

-- and after the last of them the table has no row
abbrev pub AreAll : SchemaData → RowsById → ℕ → Option ℕ → Option Cursor → List FoundRow → Type 0
AreAll schema rows table index after [] = FindsNoneIn schema rows table index [] after true
AreAll schema rows table index after (f ∷ fs) = IsNextIn schema rows table index [] after true f.row f.key f.values × AreAll schema rows table index (Some (place_of f)) fs

-- the line of each, as EXPORT writes it
abbrev pub export_lines : List FoundRow → List ℕ
export_lines list = flat_map (λ (f : FoundRow). export f.values) list
