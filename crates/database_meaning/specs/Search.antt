-- The order of a table's rows, and which row a Next finds.
use Rattle.std.specs.Prelude.{◌≡◌, ◌⊎◌, ℕ, Bool, true, false, List, [], ◌∷◌, Option, Some, None, slice_index_or}
use Rattle.std.specs.Ordering.{nat_cmp, ordering_then}
use Rattle.std.specs.declared.cmp.Ordering.{Ordering}
use Rattle.std.specs.declared.cmp.Ordering.TheVariants.{Less, Greater}
use Rattle.std.specs.Cmp.Lexicographic.{slice_cmp}
use Rattle.abl_base.specs.declared.value.Value.{Value}
use Rattle.abl_base.specs.declared.value.Kind.{Kind}
use Rattle.abl_base.specs.declared.row.RowId.{RowId}
use Rattle.database_protocol.specs.declared.row_order.Cursor.{Cursor}
use Rattle.database_protocol.specs.declared.operation.Op.{Op}
use Rattle.database_protocol.specs.declared.operation.Op.TheVariants.{Next}
use Rattle.abl_values.specs.declared.schema.KeyPart.{KeyPart}
use Rattle.abl_values.specs.Fit.{IsOfField}
use Rattle.abl_values.specs.Schema.{SchemaData}
use Rattle.database_meaning.specs.declared.state.StoredRow.{StoredRow}
use Rattle.abl_values.specs.Keys.{component, component_bytes}
use Rattle.database_meaning.specs.Setting.{Setting, kinds_of, parts_of, key_in}
use Rattle.database_meaning.specs.State.{State, view}
use Rattle.database_meaning.specs.Waiting.{row_in}

-- ---- row order

-- the key of a row in the order of an index. Without an index the key is empty, and the order is that of identity
abbrev pub order_key : SchemaData → ℕ → Option ℕ → List Value → List ℕ
order_key schema table None values = []
order_key schema table (Some index) values = key_in schema table index values

-- places in a table's order: by key bytes, and then by identity
abbrev pub place_cmp : List ℕ → RowId → List ℕ → RowId → Ordering
place_cmp key row other_key other_row = ordering_then (slice_cmp nat_cmp key other_key) (nat_cmp row.0 other_row.0)

-- ---- prefix

abbrev pub kind_at : List (Option Kind) → ℕ → Option Kind
kind_at kinds field = slice_index_or kinds field None

-- the leading values of the row in these components are those of the prefix: each is of the field's kind, and
-- level with the row's. A prefix of more values than there are components, or with a value of another kind, matches no row
abbrev pub HasPrefix : List (Option Kind) → List KeyPart → List Value → List Value → Type 0
HasPrefix kinds parts [] values = Unit {0}
HasPrefix kinds [] (p ∷ ps) values = ⊥
HasPrefix kinds (part ∷ parts) (p ∷ ps) values =
    IsOfField (kind_at kinds part.field) p × (component_bytes part.descending (component part values) ≡ component_bytes part.descending p) × HasPrefix kinds parts ps values

-- without an index only the empty prefix matches
abbrev pub MatchesPrefix : SchemaData → ℕ → Option ℕ → List Value → List Value → Type 0
MatchesPrefix schema table None prefix values = prefix ≡ []
MatchesPrefix schema table (Some index) prefix values = HasPrefix (kinds_of schema table) (parts_of schema table index) prefix values

-- ---- the row found

-- beyond: after where the search goes forward, before where it goes back
abbrev pub direction : Bool → Ordering
direction true = Greater
direction false = Less

abbrev pub IsBeyond : Option Cursor → Bool → List ℕ → RowId → Type 0
IsBeyond None forward key row = Unit {0}
IsBeyond (Some cursor) forward key row = place_cmp key row cursor.key cursor.row ≡ direction forward

-- a row that the search may find: of the table, with the prefix, beyond the cursor. The rows are a function of the identity
abbrev pub IsFindableIn : SchemaData → (ℕ → Option StoredRow) → ℕ → Option ℕ → List Value → Option Cursor → Bool → RowId → List ℕ → List Value → Type 0
IsFindableIn schema rows table index prefix cursor forward row key values =
    (rows row.0 ≡ row_in table values) × (key ≡ order_key schema table index values) × MatchesPrefix schema table index prefix values × IsBeyond cursor forward key row

-- it comes first of these: the least after the cursor, or the greatest before it
abbrev pub IsNextIn : SchemaData → (ℕ → Option StoredRow) → ℕ → Option ℕ → List Value → Option Cursor → Bool → RowId → List ℕ → List Value → Type 0
IsNextIn schema rows table index prefix cursor forward row key values =
    IsFindableIn schema rows table index prefix cursor forward row key values
    × ((q : RowId) (other : List ℕ) (more : List Value) → IsFindableIn schema rows table index prefix cursor forward q other more → (q ≡ row) ⊎ (place_cmp other q key row ≡ direction forward))

-- a Next may find the row in the view
abbrev pub IsFindable : Setting → State → Op → RowId → List ℕ → List Value → Type 0
IsFindable f s (Next table index prefix cursor forward) row key values = IsFindableIn f.schema (view f s) table index prefix cursor forward row key values
IsFindable f s _ row key values = ⊥

-- a Next finds it
abbrev pub IsNext : Setting → State → Op → RowId → List ℕ → List Value → Type 0
IsNext f s (Next table index prefix cursor forward) row key values = IsNextIn f.schema (view f s) table index prefix cursor forward row key values
IsNext f s _ row key values = ⊥

abbrev pub FindsNone : Setting → State → Op → Type 0
FindsNone f s op = (row : RowId) (key : List ℕ) (values : List Value) → ¬ IsFindable f s op row key values
