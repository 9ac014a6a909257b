-- Small sets of slots: a row that is read, and slots that are no database.
use Rattle.std.proofs.Common.{◌≡◌, ℕ, ◌==◌, if◌then◌else◌, true, false, List, [], ◌∷◌, ◌++◌, replicate, Some, None, refl, arith}
use Rattle.std.specs.Prelude.{pos, codes}
use Rattle.abl_base.specs.declared.value.Value.TheVariants.{Int}
use Rattle.abl_base.specs.declared.value.Kind.TheVariants.{Integer}
use Rattle.abl_values.specs.Keys.{key_bytes, unique_key}
use Rattle.abl_values.specs.Rows.{number_bytes, number_at_head, row_in}
use Rattle.abl_values.specs.Schema.{SchemaData}
use Rattle.database_meaning.specs.declared.state.Key.{Key}
use Rattle.database_meaning.specs.Setting.{unique_keys}
use Rattle.row_store.specs.Changes.{RowsById}
use Rattle.row_fragments.specs.Fragments.{StoredBytes, fragment_bytes, bytes_from, slots_from, table_in, content_in, next_in}
use Rattle.slot_rows.specs.Decoded.{decoded}
use Rattle.database_layout.specs.contents.Contents.{zeros, AreRows, HaveKeys}
use Rattle.database_layout.proofs.ContentsLemmas.Births.{no_slot_of_two_rows}

-- one table with one whole number, and a unique index over it
abbrev counters : SchemaData
counters = record {
  tables = record {
    name = codes "counter";
    fields = record { name = codes "num"; kind = Some Integer; initial = Int (pos 0); mandatory = false; mask = [] } ∷ [];
    indexes = record { name = codes "num"; unique = true; parts = record { field = 0; descending = false } ∷ [] } ∷ [];
    primary = Some 0;
  } ∷ [];
  sequences = [];
  order = true ∷ [];
}

-- ---- a row of five bytes in slot 8,192

abbrev one_row : ℕ → List ℕ
one_row k = if k == 8192 then fragment_bytes 1 0 5 0 (1 ∷ 0 ∷ 0 ∷ 0 ∷ 7 ∷ []) else zeros

the_row_is_read : decoded counters one_row 8192 ≡ Some (record { table = 0; values = Int (pos 7) ∷ [] })
unfolding number_bytes number_at_head bytes_from row_in
the_row_is_read = refl

no_row_is_beside_it : decoded counters one_row 8193 ≡ None
no_row_is_beside_it = refl

-- ---- two rows that name the same next slot

abbrev shared : ℕ → List ℕ
shared k =
    if k == 8192 then fragment_bytes 1 8194 241 0 (replicate 240 65)
    else (if k == 8193 then fragment_bytes 1 8194 241 0 (replicate 240 66) else (if k == 8194 then fragment_bytes 2 0 0 0 (65 ∷ []) else zeros))

pub shared_slot_is_of_no_database : (schema : SchemaData) → AreRows schema shared → ⊥
unfolding number_bytes number_at_head slots_from
shared_slot_is_of_no_database schema rows =
    let same : 8192 ≡ 8193 = no_slot_of_two_rows schema shared rows 8192 8193 8194 refl refl (1, omega arith, refl) (1, omega arith, refl) refl (λ e. omega (arith, e)) in
    omega (arith, same)

-- ---- a row whose second slot names itself

abbrev looped : ℕ → List ℕ
looped k = if k == 8192 then fragment_bytes 1 8193 2 0 (65 ∷ []) else (if k == 8193 then fragment_bytes 2 8193 0 0 (66 ∷ []) else zeros)

pub loop_is_of_no_database : (schema : SchemaData) → AreRows schema looped → ⊥
unfolding number_bytes number_at_head slots_from bytes_from
loop_is_of_no_database schema rows =
    let row : StoredBytes = record { table = table_in (looped 8192); bytes = content_in (looped 8192) ++ bytes_from 124 looped (next_in (looped 8192)) } in
    let count = (rows.chains 8192 row refl).count in
    omega (arith, count)

-- ---- two rows with the same unique key

abbrev twice : RowsById
twice k = if k == 8192 then Some (record { table = 0; values = Int (pos 7) ∷ [] }) else (if k == 8193 then Some (record { table = 0; values = Int (pos 7) ∷ [] }) else None)

abbrev key_of_seven : Key
key_of_seven = record { table = 0; index = 0; bytes = 1 ∷ 128 ∷ 0 ∷ 0 ∷ 0 ∷ 0 ∷ 0 ∷ 0 ∷ 7 ∷ [] }

pub equal_keys_are_of_no_database : HaveKeys counters twice → ⊥
unfolding unique_keys unique_key key_bytes number_bytes
equal_keys_are_of_no_database keys =
    let same : 8192 ≡ 8193 = keys.apart 8192 8193 key_of_seven refl refl in
    omega (arith, same)
