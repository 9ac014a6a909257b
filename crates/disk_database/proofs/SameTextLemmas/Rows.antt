-- Rows and their keys are the same under two schemas that describe them alike.
use Rattle.std.proofs.Common.{◌≡◌, ℕ, zero, suc, ◌+◌, List, [], ◌∷◌, ◌++◌, length, map, Option, Some, None, refl, sym, ap, ◌∙◌}
use Rattle.std.specs.Prelude.{nat_lt, if◌then◌else◌, slice_index_or}
use Rattle.std.proofs.lemmas.List.{length-map}
use Rattle.abl_base.specs.declared.value.Kind.{Kind}
use Rattle.abl_base.specs.declared.value.Value.{Value}
use Rattle.abl_values.specs.declared.schema.KeyPart.{KeyPart}
use Rattle.abl_values.specs.declared.schema.IndexDef.{IndexDef}
use Rattle.abl_values.specs.Keys.{key_bytes, unique_key}
use Rattle.abl_values.specs.Rows.{row_in}
use Rattle.abl_values.specs.Schema.{SchemaData, indexes_of}
use Rattle.schema_reader.specs.Laws.{observable_index}
use Rattle.database_meaning.specs.declared.state.Key.{Key}
use Rattle.database_meaning.specs.declared.state.StoredRow.{StoredRow}
use Rattle.database_meaning.specs.Setting.{key_at, key_in, keys_from, kinds_of, no_index, parts_of, unique_keys}
use Rattle.row_fragments.specs.Fragments.{StoredBytes, row_at}
use Rattle.slot_rows.specs.Decoded.{decoded, or_no_table, row_of, values_of}
use Rattle.disk_database.proofs.SameTextLemmas.Alike.{DescribeAlike}

parts-observable : (indexes : List IndexDef) (i : ℕ) → (slice_index_or (map observable_index indexes) i no_index).parts ≡ (slice_index_or indexes i no_index).parts
parts-observable [] i = refl
parts-observable (x ∷ xs) zero = refl
parts-observable (x ∷ xs) (suc i) = parts-observable xs i

keys-observable : (table i : ℕ) (indexes : List IndexDef) (values : List Value) → keys_from table i (map observable_index indexes) values ≡ keys_from table i indexes values
keys-observable table i [] values = refl
keys-observable table i (x ∷ xs) values = ap (λ (keys : List Key). key_at table i (unique_key x.unique x.parts values) ++ keys) (keys-observable table (i + 1) xs values)

abbrev row_as : ℕ → List Value → StoredRow
row_as table values = record { table = table; values = values }

module _ (a b : SchemaData) (same : DescribeAlike a b) where
  -- ---- keys

  pub as_many_indexes : (t : ℕ) → length (indexes_of a t) ≡ length (indexes_of b t)
  as_many_indexes t = sym (length-map (indexes_of a t) observable_index) ∙ ap length (same.indexes t) ∙ length-map (indexes_of b t) observable_index

  parts_alike : (t i : ℕ) → parts_of a t i ≡ parts_of b t i
  parts_alike t i =
      sym (parts-observable (indexes_of a t) i) ∙ ap (λ (indexes : List IndexDef). (slice_index_or indexes i no_index).parts) (same.indexes t) ∙ parts-observable (indexes_of b t) i

  pub key_alike : (t i : ℕ) (values : List Value) → key_in a t i values ≡ key_in b t i values
  key_alike t i values = ap (λ (parts : List KeyPart). key_bytes parts values) (parts_alike t i)

  pub unique_alike : (row : Option StoredRow) → unique_keys a row ≡ unique_keys b row
  unfolding unique_keys
  unique_alike None = refl
  unique_alike (Some row) =
      sym (keys-observable row.table 0 (indexes_of a row.table) row.values) ∙ ap (λ (indexes : List IndexDef). keys_from row.table 0 indexes row.values) (same.indexes row.table)
      ∙ keys-observable row.table 0 (indexes_of b row.table) row.values

  -- ---- rows

  values_alike : (stored : StoredBytes) → values_of a stored ≡ values_of b stored
  values_alike stored =
      ap (λ (n : ℕ). if nat_lt stored.table n then row_in (kinds_of a stored.table) stored.bytes else None) same.tables
      ∙ ap (λ (kinds : List (Option Kind)). if nat_lt stored.table (length b.tables) then row_in kinds stored.bytes else None) (same.kinds stored.table)

  no_table_alike : (table : ℕ) (values : Option (List Value)) → or_no_table a table values ≡ or_no_table b table values
  no_table_alike table (Some values) = refl
  no_table_alike table None = ap (λ n. row_as n []) same.tables

  row_alike : (stored : Option StoredBytes) → row_of a stored ≡ row_of b stored
  row_alike None = refl
  row_alike (Some stored) =
      ap (λ (values : Option (List Value)). Some (or_no_table a stored.table values)) (values_alike stored) ∙ ap Some (no_table_alike stored.table (values_of b stored))

  pub decoded_alike : (slots : ℕ → List ℕ) → decoded a slots ≡ decoded b slots
  decoded_alike slots = λ i k. row_alike (row_at slots k) i
