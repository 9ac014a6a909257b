-- The items of the lines so far, as the walk over a file keeps them.
use Rattle.std.specs.Prelude.{List, [], ◌∷◌, ◌++◌}
use Rattle.schema_lines.specs.declared.item.Attributed.{Attributed}
use Rattle.schema_lines.specs.declared.item.Item.{Item}
use Rattle.schema_lines.specs.Files.{Lot}

-- these attributes too under the last of the items; they are dropped where there is none
abbrev pub under_last : List Attributed → List Item → List Item
under_last attributes [] = []
under_last attributes (item ∷ []) =
    record { line = item.line; head = item.head; attributes = item.attributes ++ attributes } ∷ []
under_last attributes (item ∷ next ∷ items) = item ∷ under_last attributes (next ∷ items)

-- items with a lot after them, whose loose attributes belong to the last of the items
abbrev pub followed_by : List Item → Lot → List Item
followed_by items lot = under_last lot.loose items ++ lot.items
