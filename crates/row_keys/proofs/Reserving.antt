-- The clients that keep unique keys of a row.
use Rattle.std.proofs.Common.{◌≡◌, ◌≢◌, ◌⊎◌, ◌↔◌, ℕ, ◌+◌, ◌<◌, true, false, List, [], length, Option, Some, None, inl, inr, refl, sym, ap, ◌∙◌, subst, eqb-true, eq-eqb, arith}
use Rattle.std.specs.Prelude.{IsTrue}
use Rattle.std.specs.List.{Contains}
use Rattle.std.proofs.lemmas.Bool.{and_parts, cases_lt}
use Rattle.abl_base.specs.declared.value.Value.{Value}
use Rattle.abl_values.specs.declared.schema.IndexDef.{IndexDef}
use Rattle.abl_values.specs.Keys.{unique_key}
use Rattle.abl_values.specs.Schema.{SchemaData, indexes_of}
use Rattle.database_meaning.specs.declared.state.StoredRow.{StoredRow}
use Rattle.database_meaning.specs.declared.state.Key.{Key}
use Rattle.database_meaning.specs.Setting.{HasIndex, HasTable, has_key, unique_keys}
use Rattle.database_meaning.specs.Waiting.{IsAscending, ListsAll, row_in}
use Rattle.database_meaning.proofs.Keys.{Has}
use Rattle.row_store.specs.Questions.{table_in}
use Rattle.key_index.specs.Index.{Keys, KeepsSome, keeper_of}
use Rattle.key_index.specs.Left.{Lists}
use Rattle.key_index.specs.Places.{is_client}
use Rattle.row_indexes.specs.Places.{Keepers, index_at, keepers_of}
use Rattle.row_keys.specs.Numbers.{first_of_table, number_of}
use Rattle.row_keys.specs.Questions.{HasUniqueKey, IsKeptAgainst, IsRead, KeepsAgainst}
use Rattle.row_keys.specs.Reserved.{is_in_schema, reserved_at}
use Rattle.row_keys.proofs.Kept.{not_true}
use Rattle.row_keys.proofs.Others.{def_of, unique_at}
use Rattle.row_keys.proofs.Placed.{none_is_none}
use Rattle.row_keys.proofs.UniqueMoves.{both_true, in_schema, key_listed, key_there, none_listed, schema_parts, unique_in, unique_order}

-- ---- a key that a client keeps

keeper_is : (client : ℕ) (keeper : Option ℕ) → is_client client keeper ≡ true → keeper ≡ Some client
keeper_is client None e = let clash : false ≡ true = e in cc
keeper_is client (Some other) e = ap (λ (n : ℕ). Some n) (eqb-true other client e)

pub reserved_from : (schema : SchemaData) (keepers : Keepers) (client : ℕ) (k : Key) → reserved_at schema keepers client k ≡ true
    → (HasTable schema k.table × HasIndex schema k.table k.index) × (keepers (number_of schema k.table (Some k.index)) k.bytes ≡ Some client)
reserved_from schema keepers client k e =
    let p = and_parts (is_in_schema schema k) (is_client client (keepers (number_of schema k.table (Some k.index)) k.bytes)) e in
    (schema_parts schema k p.0, keeper_is client (keepers (number_of schema k.table (Some k.index)) k.bytes) p.1)

pub reserved_to : (schema : SchemaData) (keepers : Keepers) (client : ℕ) (k : Key) → HasTable schema k.table → HasIndex schema k.table k.index → keepers (number_of schema k.table (Some k.index)) k.bytes ≡ Some client
    → reserved_at schema keepers client k ≡ true
reserved_to schema keepers client k ht hi e =
    both_true (is_in_schema schema k) _ (in_schema schema k ht hi) (ap (is_client client) e ∙ eq-eqb client client refl)

-- ---- the keys of a table

pub keeps_in : (schema : SchemaData) (indexes : List Keys) (client table index : ℕ) → HasTable schema table → HasIndex schema table index → KeepsSome (index_at indexes (first_of_table schema table + index)) client
    → (k : Key) × (k.table ≡ table) × IsTrue (reserved_at schema (keepers_of indexes) client k)
keeps_in schema indexes client table index ht hi h =
    let k : Key = record { table = table; index = index; bytes = h.0 } in (k, refl, reserved_to schema (keepers_of indexes) client k ht hi h.1)

pub keeps_none : (schema : SchemaData) (indexes : List Keys) (client table : ℕ) → ((j : ℕ) → j < length (indexes_of schema table) → ¬ KeepsSome (index_at indexes (first_of_table schema table + j)) client)
    → ¬ ((k : Key) × (k.table ≡ table) × IsTrue (reserved_at schema (keepers_of indexes) client k))
keeps_none schema indexes client table none h =
    let k = h.0 in
    let r = reserved_from schema (keepers_of indexes) client k h.2 in
    let hi : HasIndex schema table k.index = subst (λ (t : ℕ). HasIndex schema t k.index) h.1 r.0.1 in
    none k.index hi (k.bytes, ap (λ (t : ℕ). keepers_of indexes (number_of schema t (Some k.index)) k.bytes) (sym h.1) ∙ r.1)

pub reserves_none : (schema : SchemaData) (indexes : List Keys) (client : ℕ) → ((t : ℕ) → t < length schema.tables → ¬ ((k : Key) × (k.table ≡ t) × IsTrue (reserved_at schema (keepers_of indexes) client k)))
    → ¬ ((k : Key) × IsTrue (reserved_at schema (keepers_of indexes) client k))
reserves_none schema indexes client none h = none h.0.table (reserved_from schema (keepers_of indexes) client h.0 h.1).0.0 (h.0, refl, h.1)

-- ---- against a change

module _ (schema : SchemaData) (indexes : List Keys) (client table : ℕ) (old : Option (List Value)) (values : List Value) (ht : HasTable schema table) where
  abbrev pub Against : ℕ → ℕ → Type 0
  Against index d = IsKeptAgainst (index_at indexes (number_of schema table (Some index))) (def_of schema table index) client old values d

  old_has : (index : ℕ) (key : List ℕ) (stored : Option StoredRow) → HasIndex schema table index → IsRead table old stored → Has (unique_keys schema stored) (record { table = table; index = index; bytes = key }) → HasUniqueKey (def_of schema table index) old key
  old_has index key stored hi read has = by old read
    where
      of_other : (stored : Option StoredRow) → table_in stored ≢ Some table → ¬ Has (unique_keys schema stored) (record { table = table; index = index; bytes = key })
      of_other None ne h = none_listed schema (record { table = table; index = index; bytes = key }) h
      of_other (Some row) ne h = ne (ap (λ (n : ℕ). Some n) (key_listed schema row.table row.values (record { table = table; index = index; bytes = key }) h).table_is)

      by : (old : Option (List Value)) → IsRead table old stored → HasUniqueKey (def_of schema table index) old key
      by None read = absurd (of_other stored read has)
      by (Some v) read =
          let l = key_listed schema table v (record { table = table; index = index; bytes = key }) (subst (λ (s : Option StoredRow). Has (unique_keys schema s) (record { table = table; index = index; bytes = key })) read has) in
          let at = l.index in
          let place : l.place ≡ index = omega (arith, at) in
          sym (unique_at (indexes_of schema table) index v hi) ∙ (ap (λ (n : ℕ). unique_in (indexes_of schema table) n v) (sym place) ∙ l.unique)

  old_lacks : (index : ℕ) (key : List ℕ) (stored : Option StoredRow) → HasIndex schema table index → IsRead table old stored → HasUniqueKey (def_of schema table index) old key → Has (unique_keys schema stored) (record { table = table; index = index; bytes = key })
  old_lacks index key stored hi read has = by old read has
    where
      by : (old : Option (List Value)) → IsRead table old stored → HasUniqueKey (def_of schema table index) old key → Has (unique_keys schema stored) (record { table = table; index = index; bytes = key })
      by None read has = absurd has
      by (Some v) read has =
          subst (λ (s : Option StoredRow). Has (unique_keys schema s) (record { table = table; index = index; bytes = key })) (sym read)
          (key_there schema table v (record { table = table; index = index; bytes = key }) (record { table_is = refl; place = index; index = omega arith; unique = unique_at (indexes_of schema table) index v hi ∙ has }))

  against_to : (stored : Option StoredRow) (index d : ℕ) → IsRead table old stored → HasIndex schema table index → Against index d → KeepsAgainst schema (keepers_of indexes) client stored (row_in table values) d
  against_to stored index d read hi h =
      let key = h.0 in
      let k : Key = record { table = table; index = index; bytes = key } in
      let unique = unique_at (indexes_of schema table) index values hi ∙ h.1 in (
        h.4,
        (
          k,
          key_there schema table values k (record { table_is = refl; place = index; index = omega arith; unique = unique }),
          not_true (has_key (unique_keys schema stored) k) (λ has. h.2 (old_has index key stored hi read has)),
          reserved_to schema (keepers_of indexes) d k ht hi h.3,
        ),
      )

  against_from : (stored : Option StoredRow) (d : ℕ) → IsRead table old stored → KeepsAgainst schema (keepers_of indexes) client stored (row_in table values) d → (index : ℕ) × HasIndex schema table index × Against index d
  against_from stored d read h =
      let k = h.1.0 in
      let l = key_listed schema table values k h.1.1 in
      let at = l.index in
      let place : l.place ≡ k.index = omega (arith, at) in
      let unique : unique_in (indexes_of schema table) k.index values ≡ Some k.bytes = ap (λ (n : ℕ). unique_in (indexes_of schema table) n values) (sym place) ∙ l.unique in
      let lt = (unique_order (indexes_of schema table) k.index values k.bytes unique).0 in
      let kept = (reserved_from schema (keepers_of indexes) d k h.1.3).1 in (
        k.index,
        lt,
        (
          k.bytes,
          sym (unique_at (indexes_of schema table) k.index values lt) ∙ unique,
          λ has. (let there : Has (unique_keys schema stored) (record { table = table; index = k.index; bytes = k.bytes }) = old_lacks k.index k.bytes stored lt read has in
              let same : Has (unique_keys schema stored) k = subst (λ (t : ℕ). Has (unique_keys schema stored) (record { table = t; index = k.index; bytes = k.bytes })) l.table_is there in
              let clash : true ≡ false = sym same ∙ h.1.2 in cc),
          ap (λ (t : ℕ). keepers_of indexes (number_of schema t (Some k.index)) k.bytes) l.table_is ∙ kept,
          h.0,
        ),
      )

  -- the clients found in all indexes of the table
  pub lists_all : (holders : List ℕ) → IsAscending holders → ((d : ℕ) → Contains holders d ↔ ((j : ℕ) × (j < length (indexes_of schema table)) × Against j d))
      → (stored : Option StoredRow) → IsRead table old stored → ListsAll holders (KeepsAgainst schema (keepers_of indexes) client stored (row_in table values))
  lists_all holders up all stored read = (
    up,
    λ d. (
      λ c. (let h = (all d).0 c in against_to stored h.0 d read h.1 h.2),
      λ k. (let h = against_from stored d read k in (all d).1 (h.0, h.1, h.2)),
    ),
  )

-- ---- one index

pub kept_without_key : (index : Keys) (def : IndexDef) (client : ℕ) (old : Option (List Value)) (values : List Value) → unique_key def.unique def.parts values ≡ None
    → (d : ℕ) → (None ≡ Some d) ↔ IsKeptAgainst index def client old values d
kept_without_key index def client old values none d = (λ e. absurd (none_is_none d e), λ h. absurd (none_is_none h.0 (sym none ∙ h.1)))

pub same_key : (o : Option (List ℕ)) (a b : List ℕ) → o ≡ Some a → o ≡ Some b → a ≡ b
same_key o a b ea eb = let found : Some a ≡ Some b = sym ea ∙ eb in cc

pub kept_by_old : (index : Keys) (def : IndexDef) (client : ℕ) (old : Option (List Value)) (values : List Value) (key : List ℕ) → unique_key def.unique def.parts values ≡ Some key → HasUniqueKey def old key
    → (d : ℕ) → (None ≡ Some d) ↔ IsKeptAgainst index def client old values d
kept_by_old index def client old values key u has d = (
  λ e. absurd (none_is_none d e),
  λ h. absurd (h.2 (subst (λ (k : List ℕ). HasUniqueKey def old k) (same_key (unique_key def.unique def.parts values) key h.0 u h.1) has)),
)

pub kept_by_other : (index : Keys) (def : IndexDef) (client : ℕ) (old : Option (List Value)) (values : List Value) (key : List ℕ) (keeper : Option ℕ) → unique_key def.unique def.parts values ≡ Some key → (HasUniqueKey def old key → ⊥)
    → ((d : ℕ) → (keeper ≡ Some d) ↔ ((keeper_of index key ≡ Some d) × (d ≢ client))) → (d : ℕ) → (keeper ≡ Some d) ↔ IsKeptAgainst index def client old values d
kept_by_other index def client old values key keeper u lacks is d = (
  λ e. (let p = (is d).0 e in (key, u, lacks, p.0, p.1)),
  λ h. (is d).1 (ap (keeper_of index) (same_key (unique_key def.unique def.parts values) key h.0 u h.1) ∙ h.3, h.4),
)

-- ---- the loop

-- one more index
pub lists_more : (Found : ℕ → ℕ → Type 0) (before after : List ℕ) (n : ℕ) (keeper : Option ℕ) → ((d : ℕ) → Lists before d ↔ ((j : ℕ) × (j < n) × Found j d)) → ((d : ℕ) → (keeper ≡ Some d) ↔ Found n d)
    → ((d : ℕ) → Lists after d ↔ (Lists before d ⊎ (keeper ≡ Some d))) → (d : ℕ) → Lists after d ↔ ((j : ℕ) × (j < n + 1) × Found j d)
lists_more Found before after n keeper all one grown d = (
  λ h. elim ((grown d).0 h) [
    | inl l ↦ let p = (all d).0 l in let lt = p.1 in (p.0, omega (arith, lt), p.2)
    | inr e ↦ (n, omega arith, (one d).0 e)
  ],
  λ p. elim (cases_lt p.0 n) [
    | inl lt ↦ (grown d).1 (inl ((all d).1 (p.0, lt, p.2)))
    | inr ge ↦ let lt = p.1 in let same : p.0 ≡ n = omega (arith, ge, lt) in (grown d).1 (inr ((one d).1 (subst (λ (j : ℕ). Found j d) same p.2)))
  ],
)

pub lists_none : (Found : ℕ → ℕ → Type 0) (d : ℕ) → Lists [] d ↔ ((j : ℕ) × (j < 0) × Found j d)
lists_none Found d = (λ h. absurd h, λ p. absurd (let lt = p.1 in omega (arith, lt)))
