-- A schema as data, what its readers find, and its canonical text.
use Rattle.std.specs.Prelude.{◌≤◌, ℕ, ◌+◌, Bool, true, false, ◌==◌, if◌then◌else◌, List, [], ◌∷◌, ◌++◌, length, map, codes, slice_index_or, Option, Some, None, pos}
use Rattle.abl_base.specs.declared.limits.TheConstants.{MAX_TABLES, MAX_FIELDS}
use Rattle.std.specs.List.{All, flat_map}
use Rattle.std.specs.Fmt.{signed_decimal}
use Rattle.abl_base.specs.declared.value.Value.TheVariants.{Unknown}
use Rattle.abl_base.specs.declared.value.Kind.{Kind}
use Rattle.abl_base.specs.declared.value.Kind.TheVariants.{Character, Integer, Int64, Decimal, Logical, Date}
use Rattle.abl_values.specs.declared.schema.FieldDef.{FieldDef}
use Rattle.abl_values.specs.declared.schema.KeyPart.{KeyPart}
use Rattle.abl_values.specs.declared.schema.IndexDef.{IndexDef}
use Rattle.abl_values.specs.declared.schema.TableDef.{TableDef}
use Rattle.abl_values.specs.declared.schema.SequenceDef.{SequenceDef}
use Rattle.abl_values.specs.Order.{folded}
use Rattle.abl_values.specs.Masks.{same_bytes}
use Rattle.abl_values.specs.Texts.{export_text}

-- tables and sequences, each numbered from 0 in the order of the file, and `order`, which has true for a table
-- and false for a sequence, in the same order
pub record SchemaData : Type 0 where
  pub tables : List TableDef
  pub sequences : List SequenceDef
  pub order : List Bool

-- ---- readers

-- two names are the same but for the case of ASCII letters
abbrev pub same_name : List ℕ → List ℕ → Bool
same_name a b = same_bytes (folded a) (folded b)

-- the number of the first of these names that is the same, counted from `n`
abbrev pub number_of_name : ℕ → List (List ℕ) → List ℕ → Option ℕ
number_of_name n [] name = None
number_of_name n (x ∷ xs) name = if same_name x name then Some n else number_of_name (n + 1) xs name

abbrev pub table_names : List TableDef → List (List ℕ)
table_names = map (λ t. t.name)

abbrev pub field_names : List FieldDef → List (List ℕ)
field_names = map (λ f. f.name)

abbrev pub field_kinds : List FieldDef → List (Option Kind)
field_kinds [] = []
field_kinds (f ∷ fs) = f.kind ∷ field_kinds fs

-- ---- what a reader finds where there is no item with the number

abbrev pub no_table : TableDef
no_table = record { name = []; fields = []; indexes = []; primary = None }

abbrev pub no_field : FieldDef
no_field = record { name = []; kind = None; initial = Unknown; mandatory = false; mask = [] }

abbrev pub no_index : IndexDef
no_index = record { name = []; unique = false; parts = [] }

abbrev pub no_sequence : SequenceDef
no_sequence = record { name = []; initial = pos 0; increment = pos 0 }

-- the table with this number; where there is none, a table without name, fields and indexes
abbrev pub table_at : SchemaData → ℕ → TableDef
table_at s t = slice_index_or s.tables t no_table

-- the number of the table with this name, in any case
unfoldable pub table_named : SchemaData → List ℕ → Option ℕ
table_named s name = number_of_name 0 (table_names s.tables) name

-- the number of a table's field with this name, in any case
unfoldable pub field_named : SchemaData → ℕ → List ℕ → Option ℕ
field_named s t name = number_of_name 0 (field_names (table_at s t).fields) name

-- at most MAX_TABLES tables, each with at most MAX_FIELDS fields
abbrev pub IsWithinLimits : List TableDef → Type 0
IsWithinLimits tables = (length tables ≤ MAX_TABLES) × All (λ t. length t.fields ≤ MAX_FIELDS) tables

abbrev pub name_of : SchemaData → ℕ → List ℕ
name_of s t = (table_at s t).name

abbrev pub fields_of : SchemaData → ℕ → List FieldDef
fields_of s t = (table_at s t).fields

abbrev pub indexes_of : SchemaData → ℕ → List IndexDef
indexes_of s t = (table_at s t).indexes

abbrev pub primary_of : SchemaData → ℕ → Option ℕ
primary_of s t = (table_at s t).primary

-- ---- canonical text

abbrev pub kind_text : Option Kind → List ℕ
kind_text None = 45 ∷ []
kind_text (Some Character) = codes "CHARACTER"
kind_text (Some Integer) = codes "INTEGER"
kind_text (Some Int64) = codes "INT64"
kind_text (Some Decimal) = codes "DECIMAL"
kind_text (Some Logical) = codes "LOGICAL"
kind_text (Some Date) = codes "DATE"

-- one of two letters
abbrev pub letter : Bool → ℕ → ℕ → List ℕ
letter b on off = (if b then on else off) ∷ []

-- `F name kind M|O initial`
abbrev pub field_line : FieldDef → List ℕ
field_line f =
    codes "F " ++ folded f.name ++ 32 ∷ kind_text f.kind ++ 32 ∷ letter f.mandatory 77 79 ++ 32 ∷ export_text f.initial ++ 10 ∷ []

-- ` field A|D`
abbrev pub part_text : List FieldDef → KeyPart → List ℕ
part_text fields p = 32 ∷ folded (slice_index_or fields p.field no_field).name ++ 32 ∷ letter p.descending 68 65

abbrev pub is_number : Option ℕ → ℕ → Bool
is_number None n = false
is_number (Some k) n = k == n

-- `I name U|N P|N` and its parts
abbrev pub index_line : List FieldDef → Bool → IndexDef → List ℕ
index_line fields primary i =
    codes "I " ++ folded i.name ++ 32 ∷ letter i.unique 85 78 ++ 32 ∷ letter primary 80 78
    ++ flat_map (part_text fields) i.parts ++ 10 ∷ []

-- the lines of the indexes from the n-th on
abbrev pub index_lines : List FieldDef → Option ℕ → ℕ → List IndexDef → List ℕ
index_lines fields primary n [] = []
index_lines fields primary n (i ∷ is) =
    index_line fields (is_number primary n) i ++ index_lines fields primary (n + 1) is

-- `T name`, the lines of the fields, and those of the indexes
abbrev pub table_lines : TableDef → List ℕ
table_lines t =
    codes "T " ++ folded t.name ++ 10 ∷ flat_map field_line t.fields ++ index_lines t.fields t.primary 0 t.indexes

-- `S name initial increment`
abbrev pub sequence_line : SequenceDef → List ℕ
sequence_line s =
    codes "S " ++ folded s.name ++ 32 ∷ signed_decimal s.initial ++ 32 ∷ signed_decimal s.increment ++ 10 ∷ []

-- tables and sequences in the order of the file
unfoldable pub lines_in_order : List Bool → List TableDef → List SequenceDef → List ℕ
lines_in_order [] tables sequences = []
lines_in_order (true ∷ order) [] sequences = lines_in_order order [] sequences
lines_in_order (true ∷ order) (t ∷ tables) sequences = table_lines t ++ lines_in_order order tables sequences
lines_in_order (false ∷ order) tables [] = lines_in_order order tables []
lines_in_order (false ∷ order) tables (s ∷ sequences) = sequence_line s ++ lines_in_order order tables sequences

unfoldable pub canonical_text : SchemaData → List ℕ
canonical_text s = lines_in_order s.order s.tables s.sequences
