-- The items of a schema file, each with the attribute lines under it.
use Rattle.std.specs.Prelude.{ℕ, ◌+◌, List, [], ◌∷◌, map}
use Rattle.schema_lines.specs.declared.item.Line.{Line}
use Rattle.schema_lines.specs.declared.item.Line.TheVariants.{Skipped, Begins, Says}
use Rattle.schema_lines.specs.declared.item.Attributed.{Attributed}
use Rattle.schema_lines.specs.declared.item.Item.{Item}
use Rattle.schema_lines.specs.Lines.{lines_of}
use Rattle.schema_lines.specs.Forms.{said}

-- lines of a file in order: the attributes before the first item, and the items
pub record Lot : Type 0 where
  pub loose : List Attributed
  pub items : List Item

-- these lines after a line with this number
abbrev pub line_before : ℕ → Line → Lot → Lot
line_before n Skipped lot = lot
line_before n (Says attribute) lot =
    record { loose = record { line = n; attribute = attribute } ∷ lot.loose; items = lot.items }
line_before n (Begins head) lot =
    record { loose = []; items = record { line = n; head = head; attributes = lot.loose } ∷ lot.items }

-- the lines; the first has the number `n`. An attribute belongs to the last item that begins before it
abbrev pub gathered : ℕ → List Line → Lot
gathered n [] = record { loose = []; items = [] }
gathered n (line ∷ lines) = line_before n line (gathered (n + 1) lines)

-- the items of a file; attributes before the first item are skipped
unfoldable pub items_of : List ℕ → List Item
items_of text = (gathered 1 (map said (lines_of text))).items
