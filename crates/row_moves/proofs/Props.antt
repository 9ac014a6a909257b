-- What holds between two calls has one proof at most.
use Rattle.std.proofs.Common.{◌≡◌, ℕ, List, [], ◌∷◌, Option, Some, None}
use Rattle.std.proofs.Props.{props}
use Rattle.std.specs.Coded.{Coded-set, ×_prop}
use Rattle.abl_base.specs.declared.value.Value.{Value}
use Rattle.abl_base.specs.declared.value.Value.TheVariants.{Text, Int, Int64, Dec, Logical, Date, Unknown}
use Rattle.abl_base.specs.declared.value.Kind.{Kind}
use Rattle.abl_base.specs.declared.value.Kind.TheVariants.{Character, Integer, Int64 as Whole64, Decimal, Logical as Truth, Date as Day}
use Rattle.abl_base.specs.contracts.value.Value as value
use Rattle.abl_values.specs.Fit.{IsOfField, IsOfKind}
use Rattle.abl_values.specs.Rows.{FitsFields}
use Rattle.abl_values.specs.Schema.{SchemaData}
use Rattle.database_meaning.specs.declared.state.StoredRow.{StoredRow}
use Rattle.row_store.specs.declared.store.RowChange.{RowChange}
use Rattle.row_store.specs.Rows.{RowState}
use Rattle.key_index.specs.Index.{Keys}
use Rattle.row_indexes.specs.declared.moves.Move.{Move}
use Rattle.row_indexes.specs.declared.moves.Moved.{Moved}
use Rattle.row_indexes.specs.Places.{AreKept, AreWithin, CanUndo, Keepers, Places}
use Rattle.row_indexes.specs.Changes.{AreAllKept, AreAllWithin, CanUndoAll}
use Rattle.row_keys.specs.Entries.{AreEntriesAt}
use Rattle.row_moves.specs.Indexed.{AreFit, AreOfSameRows, FitsSchema, IsIndexed, LeadBack}

of_kind-prop : (kind : Kind) (v : Value) → IsProp (IsOfKind kind v)
of_kind-prop Character (Text t) = hlevel props
of_kind-prop Character (Int n) = hlevel props
of_kind-prop Character (Int64 n) = hlevel props
of_kind-prop Character (Dec n) = hlevel props
of_kind-prop Character (Logical b) = hlevel props
of_kind-prop Character (Date d) = hlevel props
of_kind-prop Character Unknown = hlevel props
of_kind-prop Integer (Text t) = hlevel props
of_kind-prop Integer (Int n) = hlevel props
of_kind-prop Integer (Int64 n) = hlevel props
of_kind-prop Integer (Dec n) = hlevel props
of_kind-prop Integer (Logical b) = hlevel props
of_kind-prop Integer (Date d) = hlevel props
of_kind-prop Integer Unknown = hlevel props
of_kind-prop Whole64 (Text t) = hlevel props
of_kind-prop Whole64 (Int n) = hlevel props
of_kind-prop Whole64 (Int64 n) = hlevel props
of_kind-prop Whole64 (Dec n) = hlevel props
of_kind-prop Whole64 (Logical b) = hlevel props
of_kind-prop Whole64 (Date d) = hlevel props
of_kind-prop Whole64 Unknown = hlevel props
of_kind-prop Decimal (Text t) = hlevel props
of_kind-prop Decimal (Int n) = hlevel props
of_kind-prop Decimal (Int64 n) = hlevel props
of_kind-prop Decimal (Dec n) = hlevel props
of_kind-prop Decimal (Logical b) = hlevel props
of_kind-prop Decimal (Date d) = hlevel props
of_kind-prop Decimal Unknown = hlevel props
of_kind-prop Truth (Text t) = hlevel props
of_kind-prop Truth (Int n) = hlevel props
of_kind-prop Truth (Int64 n) = hlevel props
of_kind-prop Truth (Dec n) = hlevel props
of_kind-prop Truth (Logical b) = hlevel props
of_kind-prop Truth (Date d) = hlevel props
of_kind-prop Truth Unknown = hlevel props
of_kind-prop Day (Text t) = hlevel props
of_kind-prop Day (Int n) = hlevel props
of_kind-prop Day (Int64 n) = hlevel props
of_kind-prop Day (Dec n) = hlevel props
of_kind-prop Day (Logical b) = hlevel props
of_kind-prop Day (Date d) = hlevel props
of_kind-prop Day Unknown = hlevel props

of_field-prop : (kind : Option Kind) (v : Value) → IsProp (IsOfField kind v)
of_field-prop (Some kind) v = of_kind-prop kind v
of_field-prop None v = Coded-set value.the_row.coded v Unknown

fits-prop : (kinds : List (Option Kind)) (values : List Value) → IsProp (FitsFields kinds values)
fits-prop [] [] = hlevel props
fits-prop (kind ∷ kinds) (v ∷ vs) = ×_prop (of_field-prop kind v) (fits-prop kinds vs)
fits-prop [] (v ∷ vs) = hlevel props
fits-prop (kind ∷ kinds) [] = hlevel props

schema-prop : (schema : SchemaData) (row : Option StoredRow) → IsProp (FitsSchema schema row)
schema-prop schema None = hlevel props
schema-prop schema (Some row) = hlevel (props, fits-prop)

fit-prop : (schema : SchemaData) (changes : List RowChange) → IsProp (AreFit schema changes)
fit-prop schema [] = hlevel props
fit-prop schema (c ∷ changes) = ×_prop (schema-prop schema c.old) (fit-prop schema changes)

same_rows-prop : (changes : List RowChange) (moved : List Moved) → IsProp (AreOfSameRows changes moved)
same_rows-prop [] [] = hlevel props
same_rows-prop (c ∷ changes) (m ∷ moved) = ×_prop (hlevel props) (same_rows-prop changes moved)
same_rows-prop [] (m ∷ moved) = hlevel props
same_rows-prop (c ∷ changes) [] = hlevel props

entries-prop : (schema : SchemaData) (row : Option StoredRow) (places : Places) (k : ℕ) → IsProp (AreEntriesAt schema row places k)
entries-prop schema row places k = hlevel props

lead-prop : (schema : SchemaData) (client : ℕ) (changes : List RowChange) (moved : List Moved) (places : Places) → IsProp (LeadBack schema client changes moved places)
lead-prop schema client [] [] places = hlevel props
lead-prop schema client (c ∷ changes) (m ∷ moved) places = ×_prop (lead-prop schema client changes moved places) (hlevel props)
lead-prop schema client [] (m ∷ moved) places = hlevel props
lead-prop schema client (c ∷ changes) [] places = hlevel props

can-prop : (client row : ℕ) (moves : List Move) (places : Places) → IsProp (CanUndo client row moves places)
can-prop client row [] places = hlevel props
can-prop client row (m ∷ later) places = ×_prop (can-prop client row later places) (hlevel props)

all_can-prop : (client : ℕ) (moved : List Moved) (places : Places) → IsProp (CanUndoAll client moved places)
all_can-prop client [] places = hlevel props
all_can-prop client (m ∷ later) places = ×_prop (all_can-prop client later places) (can-prop client m.row m.moves.items _)

kept-prop : (client : ℕ) (moves : List Move) (keepers : Keepers) → IsProp (AreKept client moves keepers)
kept-prop client [] keepers = hlevel props
kept-prop client (m ∷ later) keepers = ×_prop (hlevel props) (kept-prop client later keepers)

all_kept-prop : (client : ℕ) (moved : List Moved) (keepers : Keepers) → IsProp (AreAllKept client moved keepers)
all_kept-prop client [] keepers = hlevel props
all_kept-prop client (m ∷ later) keepers = ×_prop (kept-prop client m.moves.items keepers) (all_kept-prop client later keepers)

within-prop : (count : ℕ) (moves : List Move) → IsProp (AreWithin count moves)
within-prop count [] = hlevel props
within-prop count (m ∷ later) = ×_prop (hlevel props) (within-prop count later)

all_within-prop : (count : ℕ) (moved : List Moved) → IsProp (AreAllWithin count moved)
all_within-prop count [] = hlevel props
all_within-prop count (m ∷ later) = ×_prop (within-prop count m.moves.items) (all_within-prop count later)

pub IsIndexed-prop : (s : RowState) (moved : ℕ → List Moved) (keys : List Keys) → IsProp (IsIndexed s moved keys)
IsIndexed-prop s moved keys = hlevel (props, schema-prop, fit-prop, same_rows-prop, lead-prop, all_can-prop, all_kept-prop, all_within-prop)
