-- Rows of tables: a field may get another value of its kind.
use Rattle.std.proofs.Common.{◌≡◌, ◌<◌, ℕ, zero, suc, Bool, true, false, List, [], ◌∷◌, Option, Some, None, Ok, Err, refl, sym, subst, arith, nat_le, IfSome, ◌≤◌}
use Rattle.std.specs.Prelude.{nat_lt, slice_get, slice_index_or, slice_set, Result}
use Rattle.std.proofs.lemmas.Bool.Decides.{nat_tests}
use Rattle.std.proofs.lemmas.Option.{none-some}
use Rattle.abl_base.specs.declared.value.Kind.{Kind}
use Rattle.abl_base.specs.declared.value.Kind.TheVariants as kind
use Rattle.abl_base.specs.declared.value.Value.{Value}
use Rattle.abl_base.specs.declared.value.Value.TheVariants as value
use Rattle.abl_base.specs.declared.value.Value.TheVariants.{Unknown}
use Rattle.abl_values.specs.declared.arithmetic.ArithFault.{ArithFault}
use Rattle.abl_values.specs.declared.schema.FieldDef.{FieldDef}
use Rattle.abl_values.specs.Arithmetic.{in_range}
use Rattle.abl_values.specs.Fit.{IsOfField, IsOfKind, fitted}
use Rattle.abl_values.specs.Rows.{FitsFields}
use Rattle.abl_values.specs.Schema.{SchemaData, field_kinds, no_field, no_table, table_at}
use Rattle.database_meaning.specs.Setting.{HasTable, HasIndex}
use Rattle.bound_tree.specs.declared.procedure.BufferDef.{BufferDef}
use Rattle.kind_laws.specs.bound_kinds.WellKinded.{is_of_kind, kind_of_field, table_of}
use Rattle.kind_laws.specs.schemas.Named.{can_read, has_buffer, has_index, has_table}
use Rattle.kind_laws.specs.Reached.{Ground}
use Rattle.kind_laws.proofs.Kept.{here, IsRow, table_among, table_here}
use Rattle.kind_laws.proofs.States.{of_kind}
use Rattle.abl_values.specs.declared.schema.TableDef.{TableDef}
use Rattle.kind_laws.proofs.BoundKindsLemmas.Parts.{both_left, both_right}

-- ---- values that were converted

-- the result is of the kind, where there is one
abbrev pub IsFitted : Kind → Result Value ArithFault → Type 0
IsFitted k (Ok v) = IsOfKind k v
IsFitted k (Err fault) = Unit {0}

ranged : (k : Kind) (c : Bool) (v : Value) → (c ≡ true → IsOfKind k v) → IsFitted k (in_range c v)
ranged k true v h = h refl
ranged k false v h = tt

unknown_is : (k : Kind) → IsOfKind k Unknown
unknown_is k = tt

within : (m n : ℕ) → nat_le m n ≡ true → m ≤ n
within m n h = grind (arith, nat_tests)

pub fitted_is : (v : Value) (k : Kind) → IsFitted k (fitted v k)
unfolding fitted
fitted_is (value.Text t) kind.Character = ranged kind.Character _ (value.Text t) (λ h. within _ _ h)
fitted_is (value.Int n) kind.Integer = ranged kind.Integer _ _ (λ h. h)
fitted_is (value.Int64 n) kind.Integer = ranged kind.Integer _ _ (λ h. h)
fitted_is (value.Dec n) kind.Integer = ranged kind.Integer _ _ (λ h. h)
fitted_is (value.Int n) kind.Int64 = ranged kind.Int64 _ _ (λ h. h)
fitted_is (value.Int64 n) kind.Int64 = ranged kind.Int64 _ _ (λ h. h)
fitted_is (value.Dec n) kind.Int64 = ranged kind.Int64 _ _ (λ h. h)
fitted_is (value.Int n) kind.Decimal = ranged kind.Decimal _ _ (λ h. h)
fitted_is (value.Int64 n) kind.Decimal = ranged kind.Decimal _ _ (λ h. h)
fitted_is (value.Dec n) kind.Decimal = ranged kind.Decimal _ _ (λ h. h)
fitted_is (value.Logical c) kind.Logical = tt
fitted_is (value.Date d) kind.Date = ranged kind.Date _ _ (λ h. h)
fitted_is v k = unknown_is k

-- ---- rows

-- a field of a row has a value of the field's kind
pub row_fits : (fs : List FieldDef) (vs : List Value) → FitsFields (field_kinds fs) vs → (n : ℕ) (k : Kind) → (slice_index_or fs n no_field).kind ≡ Some k → is_of_kind k (slice_index_or vs n Unknown) ≡ true
row_fits [] vs h n k e = absurd (none-some k e)
row_fits (f ∷ fs) [] h n k e = absurd h
row_fits (f ∷ fs) (v ∷ vs) h zero k e = of_kind k v (subst (λ (o : Option Kind). IsOfField o v) e h.0)
row_fits (f ∷ fs) (v ∷ vs) h (suc n) k e = row_fits fs vs h.1 n k e

-- with another value of its kind in a field
set_fits : (fs : List FieldDef) (vs : List Value) (n : ℕ) (k : Kind) (v : Value) → FitsFields (field_kinds fs) vs → (slice_index_or fs n no_field).kind ≡ Some k → IsOfKind k v → FitsFields (field_kinds fs) (slice_set vs n v)
set_fits [] vs n k v h e is = absurd (none-some k e)
set_fits (f ∷ fs) [] n k v h e is = absurd h
set_fits (f ∷ fs) (w ∷ ws) zero k v h e is = (subst (λ (o : Option Kind). IsOfField o v) (sym e) is, h.1)
set_fits (f ∷ fs) (w ∷ ws) (suc n) k v h e is = (h.0, set_fits fs ws n k v h.1 e is)

pub row_set : (schema : SchemaData) (t : ℕ) (vs : List Value) (n : ℕ) (k : Kind) (v : Value) → IsRow schema t vs → kind_of_field (table_at schema t) n ≡ Some k → IsOfKind k v → IsRow schema t (slice_set vs n v)
row_set schema t vs n k v h e is = (h.0, set_fits (table_at schema t).fields vs n k v h.1 e is)

-- ---- the table of a buffer

-- a field that the table of a buffer has is one of the table by its number
among_field : (g : Ground) (bs : List BufferDef) (b f : ℕ) (k : Kind) → kind_of_field (elim (slice_get bs b) as (λ _. TableDef) [ None ↦ no_table | Some d ↦ table_at g.schema d.table ]) f ≡ Some k → kind_of_field (table_at g.schema (table_among bs b)) f ≡ Some k
among_field g [] b f k e = absurd (none-some k e)
among_field g (d ∷ ds) zero f k e = e
among_field g (d ∷ ds) (suc b) f k e = among_field g ds b f k e

pub field_here : (g : Ground) (ns : List ℕ) (b f : ℕ) (k : Kind) → kind_of_field (table_of (here g ns) b) f ≡ Some k → kind_of_field (table_at g.schema (table_here g ns b)) f ≡ Some k
field_here g [] b f k e = absurd (none-some k e)
field_here g (n ∷ ns) b f k e = among_field g (here g (n ∷ ns)).buffers b f k e

less : (m n : ℕ) → nat_lt m n ≡ true → m < n
less m n h = grind (arith, nat_tests)

-- the schema has the table of a buffer in which a record is created
pub created_table : (schema : SchemaData) (bs : List BufferDef) (b : ℕ) → has_buffer schema (slice_get bs b) ≡ true → HasTable schema (table_among bs b)
created_table schema [] b h = absurd cc
created_table schema (d ∷ ds) zero h = less d.table _ h
created_table schema (d ∷ ds) (suc b) h = created_table schema ds b h

-- the schema has the table of a buffer in which records are read, and this has the index
pub record IsRead (schema : SchemaData) (t : ℕ) (o : Option ℕ) : Type 0 where
  pub table : HasTable schema t
  pub index : IfSome o (HasIndex schema t)

index_is : (schema : SchemaData) (t : ℕ) (o : Option ℕ) → has_index (table_at schema t) o ≡ true → IfSome o (HasIndex schema t)
index_is schema t None h = tt
index_is schema t (Some i) h = less i _ h

pub read_table : (schema : SchemaData) (bs : List BufferDef) (b : ℕ) (o : Option ℕ) → can_read schema o (slice_get bs b) ≡ true → IsRead schema (table_among bs b) o
read_table schema [] b o h = absurd cc
read_table schema (d ∷ ds) zero o h = record { table = less d.table _ (both_left (has_table schema d.table) _ h); index = index_is schema d.table o (both_right (has_table schema d.table) _ h) }
read_table schema (d ∷ ds) (suc b) o h = read_table schema ds b o h
