-- Other rows with a unique key.
use Rattle.std.proofs.Common.{◌≡◌, ◌≢◌, ℕ, zero, suc, ◌+◌, ◌<◌, ◌≤◌, true, List, [], ◌∷◌, length, get_or, Option, Some, None, inl, inr, refl, sym, ap, ◌∙◌, subst, arith}
use Rattle.std.specs.Prelude.{MatchOption}
use Rattle.std.proofs.lemmas.Bool.{cases_lt}
use Rattle.abl_base.specs.declared.value.Value.{Value}
use Rattle.abl_base.specs.declared.row.RowId.{RowId}
use Rattle.abl_values.specs.declared.schema.IndexDef.{IndexDef}
use Rattle.abl_values.specs.Keys.{key_bytes, unique_key}
use Rattle.abl_values.specs.Schema.{SchemaData, indexes_of}
use Rattle.database_meaning.specs.declared.state.StoredRow.{StoredRow}
use Rattle.database_meaning.specs.declared.state.Key.{Key}
use Rattle.database_meaning.specs.Setting.{FitsTable, HasIndex, HasTable, kinds_of, no_index, unique_keys}
use Rattle.database_meaning.specs.Answers.{IsDuplicateIn}
use Rattle.database_meaning.specs.Search.{order_key}
use Rattle.database_meaning.specs.Waiting.{row_in}
use Rattle.database_meaning.proofs.Keys.{Has}
use Rattle.row_store.specs.Changes.{RowsById}
use Rattle.key_index.specs.Index.{IsEntry, Keys}
use Rattle.key_index.specs.Places.{IsAbove}
use Rattle.row_indexes.specs.Places.{index_at, places_of}
use Rattle.row_keys.specs.Numbers.{number_of}
use Rattle.row_keys.specs.Entries.{AreEntries, AreFitting, entry_key}
use Rattle.row_keys.specs.Questions.{HasOther, IsLeastDuplicateIn, IsOther}
use Rattle.row_keys.proofs.Placed.{none_is_none}
use Rattle.row_keys.proofs.Found.{entry_parts, row_has_key}
use Rattle.row_keys.proofs.Listing.{order_in}
use Rattle.row_keys.proofs.UniqueMoves.{key_listed, key_there, none_listed, unique_alike, unique_in, unique_order}

-- ---- one index

module _ (index : Keys) (key : List ℕ) where
  pub none_at_all : (row : Option RowId) → ((q : ℕ) → IsAbove None q → ¬ IsEntry index key q) → (other : RowId) → ¬ IsOther index key row other
  none_at_all row none other h = none other.0 tt h.0

  same_id : (q row : RowId) → q.0 ≡ row.0 → q ≡ row
  same_id q row e = λ z. record { 0 = e z }

  -- another row lies above the replaced one, where that is the least
  above_first : (row : Option RowId) (first : RowId) → row ≡ Some first → ((q : ℕ) → IsAbove None q → IsEntry index key q → first.0 ≤ q) → (other : RowId) → IsOther index key row other → first.0 < other.0
  above_first row first own least other h =
      let upto = least other.0 tt h.0 in
      elim (cases_lt first.0 other.0) [
        | inl lt ↦ lt
        | inr ge ↦ let is : other.0 ≡ first.0 = omega (arith, upto, ge) in absurd (h.1 (own ∙ ap (λ (q : RowId). Some q) (sym (same_id other first is))))
      ]

  pub none_above : (row : Option RowId) (first : RowId) → row ≡ Some first → ((q : ℕ) → IsAbove None q → IsEntry index key q → first.0 ≤ q) → ((q : ℕ) → IsAbove (Some first.0) q → ¬ IsEntry index key q)
      → (other : RowId) → ¬ IsOther index key row other
  none_above row first own least none other h = none other.0 (above_first row first own least other h) h.0

  pub second_is_other : (row : Option RowId) (first second : RowId) → row ≡ Some first → first.0 < second.0 → IsEntry index key second.0 → IsOther index key row second
  second_is_other row first second own above entry = (
    entry,
    λ e. (let found_is : Some first ≡ Some second = sym own ∙ e in
        let row_is : first ≡ second = cc in
        let rows : first.0 ≡ second.0 = ap (λ (q : RowId). q.0) row_is in
        absurd (omega (arith, rows, above))),
  )

-- under the unique key of the values
pub under_key : (index : Keys) (def : IndexDef) (row : Option RowId) (values : List Value) (key : List ℕ) → unique_key def.unique def.parts values ≡ Some key → (found : Option RowId)
    → MatchOption found ((other : RowId) → ¬ IsOther index key row other) (λ other. IsOther index key row other)
    → MatchOption found ((other : RowId) → ¬ HasOther index def row values other) (λ other. HasOther index def row values other)
under_key index def row values key is None none = λ other h. (
    let found : Some h.0 ≡ Some key = sym h.1 ∙ is in
    let same : h.0 ≡ key = cc in
    none other (subst (λ (k : List ℕ). IsOther index k row other) same h.2)
    )
under_key index def row values key is (Some other) h = (key, is, h)

pub no_key : (index : Keys) (def : IndexDef) (row : Option RowId) (values : List Value) → unique_key def.unique def.parts values ≡ None → (other : RowId) → ¬ HasOther index def row values other
no_key index def row values none other h = none_is_none h.0 (sym none ∙ h.1)

-- ---- the indexes of a table

pub none_more : (P : ℕ → RowId → Type 0) (n : ℕ) → ((j : ℕ) (q : RowId) → j < n → ¬ P j q) → ((q : RowId) → ¬ P n q) → (j : ℕ) (q : RowId) → j < n + 1 → ¬ P j q
none_more P n before here j q lt p =
    elim (cases_lt j n) [
      | inl below ↦ before j q below p
      | inr ge ↦ let is : j ≡ n = omega (arith, lt, ge) in here q (subst (λ (i : ℕ). P i q) is p)
    ]

pub unique_at : (xs : List IndexDef) (k : ℕ) (values : List Value) → k < length xs → unique_in xs k values ≡ unique_key (get_or xs k no_index).unique (get_or xs k no_index).parts values
unique_at [] k values h = absurd (omega arith)
unique_at (x ∷ xs) zero values h = refl
unique_at (x ∷ xs) (suc k) values h = unique_at xs k values (omega arith)

order_of_index : (xs : List IndexDef) (k : ℕ) (values : List Value) → k < length xs → order_in xs k values ≡ key_bytes (get_or xs k no_index).parts values
order_of_index [] k values h = absurd (omega arith)
order_of_index (x ∷ xs) zero values h = refl
order_of_index (x ∷ xs) (suc k) values h = order_of_index xs k values (omega arith)

abbrev pub def_of : SchemaData → ℕ → ℕ → IndexDef
def_of schema table index = get_or (indexes_of schema table) index no_index

module _ (schema : SchemaData) (rows : RowsById) (indexes : List Keys) (table : ℕ) (replaced : Option RowId) (values : List Value)
    (entries : AreEntries schema rows (places_of indexes)) (fitting : AreFitting schema rows) (ht : HasTable schema table) (fits : FitsTable schema table values) where
  abbrev Other : ℕ → RowId → Type 0
  Other index other = HasOther (index_at indexes (number_of schema table (Some index))) (def_of schema table index) replaced values other

  other_to : (index : ℕ) (other : RowId) → HasIndex schema table index → Other index other → IsDuplicateIn schema rows replaced (row_in table values) index other
  other_to index other hi h =
      let key = h.0 in
      let xs = indexes_of schema table in
      let is : rows other.0 ≡ rows other.0 = refl in
      let own = entry_parts schema table (Some index) (rows other.0) key ((entries other.0 table (Some index) key ht hi).0 h.2.0) in
      let unique : unique_in xs index values ≡ Some key = unique_at xs index values hi ∙ h.1 in
      let order = unique_order xs index values key unique in
      let there = fitting other.0 (record { table = table; values = own.values }) own.stored_is in
      let same : order_in xs index own.values ≡ order_in xs index values = order_of_index xs index own.values hi ∙ (sym own.key_is ∙ sym order.1) in
      let alike = unique_alike (kinds_of schema table) xs index own.values values key there.1 fits same unique in
      let k : Key = record { table = table; index = index; bytes = key } in (
        k,
        refl,
        key_there schema table values k (record { table_is = refl; place = index; index = omega arith; unique = unique }),
        h.2.1,
        subst (λ (s : Option StoredRow). Has (unique_keys schema s) k) (sym own.stored_is) (key_there schema table own.values k (record { table_is = refl; place = index; index = omega arith; unique = alike })),
      )

  other_from : (index : ℕ) (other : RowId) → IsDuplicateIn schema rows replaced (row_in table values) index other → HasIndex schema table index × Other index other
  other_from index other d =
      let k = d.0 in
      let xs = indexes_of schema table in
      let l = key_listed schema table values k d.2 in
      let at = l.index in
      let place : l.place ≡ index = omega (arith, at, d.1) in
      let unique : unique_in xs index values ≡ Some k.bytes = ap (λ (n : ℕ). unique_in xs n values) (sym place) ∙ l.unique in
      let order = unique_order xs index values k.bytes unique in
      let lt = order.0 in
      (lt, (k.bytes, sym (unique_at xs index values lt) ∙ unique, ((entries other.0 table (Some index) k.bytes ht lt).1 (stored_key (rows other.0) k l.table_is d.1 d.4), d.3)))
    where
      stored_key : (stored : Option StoredRow) (k : Key) → table ≡ k.table → k.index ≡ index → Has (unique_keys schema stored) k → entry_key schema table (Some index) stored ≡ Some k.bytes
      stored_key None k t i h = absurd (none_listed schema k h)
      stored_key (Some row) k t i h =
          let l = key_listed schema row.table row.values k h in
          let is : row.table ≡ table = l.table_is ∙ sym t in
          let at = l.index in
          let place : l.place ≡ index = omega (arith, at, i) in
          let order = unique_order (indexes_of schema row.table) l.place row.values k.bytes l.unique in
          let lt = order.0 in
          let found : k.bytes ≡ order_key schema row.table (Some l.place) row.values = sym (sym (order_of_index (indexes_of schema row.table) l.place row.values lt) ∙ order.1) in
          row_has_key schema table (Some index) (Some row) k.bytes row.values (λ z. Some (record { table = is z; values = row.values }))
          (found ∙ (ap (λ (n : ℕ). order_key schema row.table (Some n) row.values) place ∙ ap (λ (n : ℕ). order_key schema n (Some index) row.values) is))

  -- the least index with another row
  pub least : (index : ℕ) (other : RowId) → HasIndex schema table index → Other index other → ((j : ℕ) (q : RowId) → j < index → ¬ Other j q) → IsLeastDuplicateIn schema rows replaced (row_in table values) index other
  least index other hi h none = (other_to index other hi h, λ j q lt d. none j q lt (other_from j q d).1)

  pub no_least : ((j : ℕ) (q : RowId) → j < length (indexes_of schema table) → ¬ Other j q) → (index : ℕ) (other : RowId) → ¬ IsLeastDuplicateIn schema rows replaced (row_in table values) index other
  no_least none index other d = let f = other_from index other d.0 in none index other f.0 f.1
