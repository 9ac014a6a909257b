-- The temporary tables of a client, and the places of rows in their orders.
use Rattle.std.specs.Prelude.{ℕ, ◌+◌, ◌-◌, ◌==◌, nat_lt, nat_le, Bool, true, false, ◌&&◌, if◌then◌else◌, List, [], ◌∷◌, length, slice_index_or, slice_set, Option, Some, None}
use Rattle.std.specs.Ordering.{nat_cmp, ordering_then, is_lt}
use Rattle.std.specs.Cmp.Lexicographic.{slice_cmp}
use Rattle.abl_base.specs.declared.value.Value.{Value}
use Rattle.abl_base.specs.declared.value.Value.TheVariants.{Text, Int, Int64, Dec, Logical, Date, Unknown}
use Rattle.abl_base.specs.declared.value.Kind.{Kind}
use Rattle.abl_base.specs.declared.value.Kind.TheVariants as kind
use Rattle.abl_values.specs.declared.schema.IndexDef.{IndexDef}
use Rattle.abl_values.specs.declared.schema.KeyPart.{KeyPart}
use Rattle.abl_values.specs.declared.schema.TableDef.{TableDef}
use Rattle.abl_values.specs.Keys.{key_bytes}
use Rattle.abl_values.specs.Schema.{no_table, no_index, field_kinds}
use Rattle.database_protocol.specs.declared.row_order.Cursor.{Cursor}
use Rattle.temp_meaning.specs.Rows.{TempRow}

-- a table: whether an UNDO leaves it alone, the greatest number that it ever gave to a row, and its rows, by ascending numbers
pub record TempTable : Type 0 where
  pub no_undo : Bool
  pub given : ℕ
  pub rows : List TempRow

-- the tables of a client: the number of the first one, since those of the schema come before it, and what their definitions say
pub record Temps : Type 0 where
  pub first : ℕ
  pub defs : List TableDef
  pub tables : List TempTable

abbrev pub no_temp : TempTable
no_temp = record { no_undo = false; given = 0; rows = [] }

-- how many rows there are
abbrev pub row_count : List TempTable → ℕ
row_count [] = 0
row_count (t ∷ ts) = length t.rows + row_count ts

-- it is one of them
abbrev pub is_own : Temps → ℕ → Bool
is_own ts t = nat_le ts.first t && nat_lt t (ts.first + length ts.tables)

-- its place among them, its definition, and the table
abbrev pub place_of : Temps → ℕ → ℕ
place_of ts t = t - ts.first

abbrev pub def_of : Temps → ℕ → TableDef
def_of ts t = slice_index_or ts.defs (place_of ts t) no_table

abbrev pub table_of : Temps → ℕ → TempTable
table_of ts t = slice_index_or ts.tables (place_of ts t) no_temp

abbrev pub with_table : ℕ → TempTable → Temps → Temps
with_table t x ts = record ts { tables = slice_set ts.tables (place_of ts t) x }

-- ---- keys and prefixes

abbrev pub index_in : TableDef → ℕ → IndexDef
index_in def i = slice_index_or def.indexes i no_index

-- the key of a row in the order of an index of its table; without an index it is empty
abbrev pub key_in : TableDef → Option ℕ → List Value → List ℕ
key_in def None values = []
key_in def (Some i) values = key_bytes (index_in def i).parts values

-- a value of the kind, or `?`; a field of an unsupported kind has `?` alone
abbrev pub fits_kind : Option Kind → Value → Bool
fits_kind k Unknown = true
fits_kind None v = false
fits_kind (Some kind.Character) (Text t) = true
fits_kind (Some kind.Integer) (Int n) = true
fits_kind (Some kind.Int64) (Int64 n) = true
fits_kind (Some kind.Decimal) (Dec n) = true
fits_kind (Some kind.Logical) (Logical b) = true
fits_kind (Some kind.Date) (Date d) = true
fits_kind (Some k) v = false

-- the values are of the kinds of these components, and there are no more of them
abbrev pub fits_parts : List (Option Kind) → List KeyPart → List Value → Bool
fits_parts kinds parts [] = true
fits_parts kinds [] (v ∷ vs) = false
fits_parts kinds (part ∷ parts) (v ∷ vs) = fits_kind (slice_index_or kinds part.field None) v && fits_parts kinds parts vs

-- the values of a prefix as a row of their own, which has these components; they are numbered from n
abbrev pub leading_parts : ℕ → List KeyPart → List Value → List KeyPart
leading_parts n parts [] = []
leading_parts n [] (v ∷ vs) = []
leading_parts n (part ∷ parts) (v ∷ vs) = record { field = n; descending = part.descending } ∷ leading_parts (n + 1) parts vs

abbrev pub prefix_key : List KeyPart → List Value → List ℕ
prefix_key parts prefix = key_bytes (leading_parts 0 parts prefix) prefix

-- the first bytes of the key are these
abbrev pub begins : List ℕ → List ℕ → Bool
begins key [] = true
begins [] (b ∷ bs) = false
begins (k ∷ ks) (b ∷ bs) = (k == b) && begins ks bs

-- the leading values of a row in these components are those of the prefix: its key begins with theirs
abbrev pub has_prefix : List (Option Kind) → List KeyPart → List Value → List Value → Bool
has_prefix kinds parts prefix values = fits_parts kinds parts prefix && begins (key_bytes parts values) (prefix_key parts prefix)

abbrev pub is_empty : List Value → Bool
is_empty [] = true
is_empty (v ∷ vs) = false

abbrev pub matches : TableDef → Option ℕ → List Value → List Value → Bool
matches def None prefix values = is_empty prefix
matches def (Some i) prefix values = has_prefix (field_kinds def.fields) (index_in def i).parts prefix values

-- ---- the next row

-- places in an order: by key bytes, and then by number
abbrev pub place_before : List ℕ → ℕ → List ℕ → ℕ → Bool
place_before key n other_key m = is_lt (ordering_then (slice_cmp nat_cmp key other_key) (nat_cmp n m))

-- in the direction of a search
abbrev pub comes_before : Bool → List ℕ → ℕ → List ℕ → ℕ → Bool
comes_before true key n other_key m = place_before key n other_key m
comes_before false key n other_key m = place_before other_key m key n

abbrev pub is_beyond : Option Cursor → Bool → List ℕ → ℕ → Bool
is_beyond None forward key n = true
is_beyond (Some c) forward key n = comes_before forward c.key c.row.0 key n

-- the nearer one of two
abbrev pub nearer : TableDef → Option ℕ → Bool → TempRow → Option TempRow → Option TempRow
nearer def index forward r None = Some r
nearer def index forward r (Some q) = if comes_before forward (key_in def index q.values) q.number (key_in def index r.values) r.number then Some q else Some r

-- a search may find the row: it has the prefix, and is beyond the cursor
abbrev pub may_find : TableDef → Option ℕ → List Value → Option Cursor → Bool → TempRow → Bool
may_find def index prefix from forward r = matches def index prefix r.values && is_beyond from forward (key_in def index r.values) r.number

-- the row that a search finds among these: the nearest one beyond the cursor that has the prefix
abbrev pub nearest : TableDef → Option ℕ → List Value → Option Cursor → Bool → List TempRow → Option TempRow
nearest def index prefix from forward [] = None
nearest def index prefix from forward (r ∷ rs) =
    if may_find def index prefix from forward r then nearer def index forward r (nearest def index prefix from forward rs) else nearest def index prefix from forward rs

abbrev pub next_row : Temps → ℕ → Option ℕ → List Value → Option Cursor → Bool → Option TempRow
next_row ts t index prefix from forward = nearest (def_of ts t) index prefix from forward (table_of ts t).rows

-- the place of a row in an order
abbrev pub place_in : TableDef → Option ℕ → TempRow → Cursor
place_in def index r = record { key = key_in def index r.values; row = record { 0 = r.number } }
