-- What an index finds is what a search of the rows finds.
use Rattle.std.proofs.Common.{◌≡◌, ℕ, ◌<◌, Bool, true, false, cond, List, [], ◌∷◌, Option, Some, None, inl, inr, refl, sym, ap, ◌∙◌, subst, eq-eqb, nat_cmp, arith}
use Rattle.std.proofs.lemmas.Bool.{cases_eq, cases_lt, ne_eqb}
use Rattle.std.specs.Prelude.{MatchOption}
use Rattle.std.proofs.lemmas.Cmp.{tied_itself}
use Rattle.std.specs.FinSet.{nat_cmp-IsAntisymmetric, slice_cmp-IsAntisymmetric}
use Rattle.std.specs.Ordering.{ordering_reverse, ordering_then}
use Rattle.std.specs.declared.cmp.Ordering.{Ordering}
use Rattle.std.specs.declared.cmp.Ordering.TheVariants.{Less, Equal, Greater}
use Rattle.std.specs.Cmp.Lexicographic.{slice_cmp, nat_list_cmp_total}
use Rattle.abl_base.specs.declared.value.Value.{Value}
use Rattle.abl_base.specs.declared.row.RowId.{RowId}
use Rattle.abl_values.proofs.Numbers.{nat_cmp-less, nat_cmp-greater, nat_cmp-same}
use Rattle.abl_values.specs.Schema.{SchemaData}
use Rattle.database_protocol.specs.declared.row_order.Cursor.{Cursor}
use Rattle.database_meaning.specs.declared.state.StoredRow.{StoredRow}
use Rattle.database_meaning.specs.Setting.{FitsTable, HasTable, kinds_of, parts_of}
use Rattle.database_meaning.specs.Search.{IsBeyond, IsFindableIn, MatchesPrefix, direction, order_key, place_cmp}
use Rattle.database_meaning.specs.Waiting.{row_in}
use Rattle.row_store.specs.Changes.{RowsById}
use Rattle.row_store.specs.Questions.{FindsNoneIn, table_in}
use Rattle.key_index.specs.Index.{Keys}
use Rattle.key_index.specs.Search.{BeginsWith, FindsNone, IsBefore, IsBeyondCursor, IsFindable, IsNext, LiesBeyond}
use Rattle.row_indexes.specs.Places.{index_at, places_of}
use Rattle.row_keys.specs.Numbers.{HasOrder, number_of}
use Rattle.row_keys.specs.Entries.{AreEntries, AreFitting, entry_key}
use Rattle.row_keys.specs.Prefixes.{FitsPrefix, prefix_bytes}
use Rattle.row_keys.specs.Questions.{IsFoundAt}
use Rattle.row_keys.proofs.Delimited.{begins_prefix, prefix_begins, prefix_fits}
use Rattle.row_keys.proofs.Placed.{none_is_none}

-- ---- the order of places

less_from : (a b : ℕ) → nat_cmp a b ≡ Less → a < b
less_from a b e =
    elim (cases_lt a b) [
      | inl lt ↦ lt
      | inr ge ↦ elim (cases_eq a b) [
        | inl is ↦ let clash : Equal ≡ Less = sym (nat_cmp-same a b is) ∙ e in cc
        | inr ne ↦ let gt : b < a = omega arith in let clash : Greater ≡ Less = sym (nat_cmp-greater a b gt) ∙ e in cc
      ]
    ]

greater_from : (a b : ℕ) → nat_cmp a b ≡ Greater → b < a
greater_from a b e =
    elim (cases_lt b a) [
      | inl lt ↦ lt
      | inr ge ↦ elim (cases_eq a b) [
        | inl is ↦ let clash : Equal ≡ Greater = sym (nat_cmp-same a b is) ∙ e in cc
        | inr ne ↦ let lt : a < b = omega arith in let clash : Less ≡ Greater = sym (nat_cmp-less a b lt) ∙ e in cc
      ]
    ]

abbrev order_of : List ℕ → ℕ → List ℕ → ℕ → Ordering
order_of k r o q = ordering_then (slice_cmp nat_cmp k o) (nat_cmp r q)

same_keys : (k o : List ℕ) → k ≡ o → slice_cmp nat_cmp k o ≡ Equal
same_keys k o e = ap (λ (x : List ℕ). slice_cmp nat_cmp x o) e ∙ tied_itself nat_list_cmp_total o

before_to : (k : List ℕ) (r : ℕ) (o : List ℕ) (q : ℕ) → IsBefore k r o q → order_of k r o q ≡ Less
before_to k r o q (inl e) = ap (λ (c : Ordering). ordering_then c (nat_cmp r q)) e
before_to k r o q (inr p) = ap (λ (c : Ordering). ordering_then c (nat_cmp r q)) (same_keys k o p.0) ∙ nat_cmp-less r q p.1

before_from : (k : List ℕ) (r : ℕ) (o : List ℕ) (q : ℕ) (c : Ordering) → slice_cmp nat_cmp k o ≡ c → ordering_then c (nat_cmp r q) ≡ Less → IsBefore k r o q
before_from k r o q Less e h = inl e
before_from k r o q Equal e h = inr (slice_cmp-IsAntisymmetric nat_cmp-IsAntisymmetric k o e, less_from r q h)
before_from k r o q Greater e h = absurd (let clash : Greater ≡ Less = h in cc)

after_to : (k : List ℕ) (r : ℕ) (o : List ℕ) (q : ℕ) → IsBefore o q k r → order_of k r o q ≡ Greater
after_to k r o q (inl e) = ap (λ (c : Ordering). ordering_then c (nat_cmp r q)) (nat_list_cmp_total.antisymm k o ∙ ap ordering_reverse e)
after_to k r o q (inr p) = ap (λ (c : Ordering). ordering_then c (nat_cmp r q)) (same_keys k o (sym p.0)) ∙ nat_cmp-greater r q p.1

after_from : (k : List ℕ) (r : ℕ) (o : List ℕ) (q : ℕ) (c : Ordering) → slice_cmp nat_cmp k o ≡ c → ordering_then c (nat_cmp r q) ≡ Greater → IsBefore o q k r
after_from k r o q Less e h = absurd (let clash : Less ≡ Greater = h in cc)
after_from k r o q Equal e h = inr (sym (slice_cmp-IsAntisymmetric nat_cmp-IsAntisymmetric k o e), greater_from r q h)
after_from k r o q Greater e h = inl (nat_list_cmp_total.antisymm o k ∙ ap ordering_reverse e)

lies_to : (forward : Bool) (key : List ℕ) (row : RowId) (other : List ℕ) (at : RowId) → LiesBeyond forward key row.0 other at.0 → place_cmp key row other at ≡ direction forward
lies_to true key row other at h = after_to key row.0 other at.0 h
lies_to false key row other at h = before_to key row.0 other at.0 h

lies_from : (forward : Bool) (key : List ℕ) (row : RowId) (other : List ℕ) (at : RowId) → place_cmp key row other at ≡ direction forward → LiesBeyond forward key row.0 other at.0
lies_from true key row other at h = after_from key row.0 other at.0 (slice_cmp nat_cmp key other) refl h
lies_from false key row other at h = before_from key row.0 other at.0 (slice_cmp nat_cmp key other) refl h

beyond_to : (cursor : Option Cursor) (forward : Bool) (key : List ℕ) (row : RowId) → IsBeyondCursor cursor forward key row.0 → IsBeyond cursor forward key row
beyond_to None forward key row h = tt
beyond_to (Some c) forward key row h = lies_to forward key row c.key c.row h

beyond_from : (cursor : Option Cursor) (forward : Bool) (key : List ℕ) (row : RowId) → IsBeyond cursor forward key row → IsBeyondCursor cursor forward key row.0
beyond_from None forward key row h = tt
beyond_from (Some c) forward key row h = lies_from forward key row c.key c.row h

-- ---- the key of a row of the table

own_entry : (schema : SchemaData) (table : ℕ) (o : Option ℕ) (values : List Value) → entry_key schema table o (row_in table values) ≡ Some (order_key schema table o values)
own_entry schema table o values = ap (λ (b : Bool). cond b (Some (order_key schema table o values)) None) (eq-eqb table table refl)

pub record HasEntryKey (schema : SchemaData) (table : ℕ) (o : Option ℕ) (stored : Option StoredRow) (key : List ℕ) : Type 0 where
  pub values : List Value
  pub stored_is : stored ≡ row_in table values
  pub key_is : key ≡ order_key schema table o values

pub entry_parts : (schema : SchemaData) (table : ℕ) (o : Option ℕ) (stored : Option StoredRow) (key : List ℕ) → entry_key schema table o stored ≡ Some key → HasEntryKey schema table o stored key
entry_parts schema table o None key e = absurd (none_is_none key e)
entry_parts schema table o (Some row) key e =
    elim (cases_eq row.table table) [
      | inl is ↦
          let found : Some (order_key schema table o row.values) ≡ Some key = sym (ap (λ (b : Bool). cond b (Some (order_key schema table o row.values)) None) (eq-eqb row.table table is)) ∙ e in
          let same : order_key schema table o row.values ≡ key = cc in
          record { values = row.values; stored_is = λ z. Some (record { table = is z; values = row.values }); key_is = sym same }
      | inr ne ↦ absurd (none_is_none key (sym (ap (λ (b : Bool). cond b (Some (order_key schema table o row.values)) None) (ne_eqb row.table table ne)) ∙ e))
    ]

pub key_of_row : (schema : SchemaData) (table : ℕ) (o : Option ℕ) (stored : Option StoredRow) (key : List ℕ) (values : List Value) → entry_key schema table o stored ≡ Some key → stored ≡ row_in table values → key ≡ order_key schema table o values
key_of_row schema table o stored key values e is =
    let found : Some (order_key schema table o values) ≡ Some key = sym (ap (entry_key schema table o) is ∙ own_entry schema table o values) ∙ e in
    let same : order_key schema table o values ≡ key = cc in
    sym same

pub row_has_key : (schema : SchemaData) (table : ℕ) (o : Option ℕ) (stored : Option StoredRow) (key : List ℕ) (values : List Value) → stored ≡ row_in table values → key ≡ order_key schema table o values → entry_key schema table o stored ≡ Some key
row_has_key schema table o stored key values is e = ap (entry_key schema table o) is ∙ (own_entry schema table o values ∙ ap (λ (k : List ℕ). Some k) (sym e))

-- ---- leading values

matches_begins : (schema : SchemaData) (table : ℕ) (o : Option ℕ) (prefix values : List Value) → MatchesPrefix schema table o prefix values → BeginsWith (order_key schema table o values) (prefix_bytes schema table o prefix)
matches_begins schema table None prefix values h = ([], refl)
matches_begins schema table (Some index) prefix values h = prefix_begins (kinds_of schema table) (parts_of schema table index) prefix values h

begins_matches : (schema : SchemaData) (table : ℕ) (o : Option ℕ) (prefix values : List Value) → FitsTable schema table values → FitsPrefix schema table o prefix
    → BeginsWith (order_key schema table o values) (prefix_bytes schema table o prefix) → MatchesPrefix schema table o prefix values
begins_matches schema table None [] values fits asked h = refl
begins_matches schema table None (p ∷ ps) values fits asked h = absurd asked
begins_matches schema table (Some index) prefix values fits asked h = begins_prefix (kinds_of schema table) (parts_of schema table index) prefix values fits asked h

matches_fits : (schema : SchemaData) (table : ℕ) (o : Option ℕ) (prefix values : List Value) → MatchesPrefix schema table o prefix values → FitsPrefix schema table o prefix
matches_fits schema table None prefix values h = subst (λ (ps : List Value). FitsPrefix schema table None ps) (sym h) tt
matches_fits schema table (Some index) prefix values h = prefix_fits (kinds_of schema table) (parts_of schema table index) prefix values h

-- ---- the search

pub none_fits : (schema : SchemaData) (rows : RowsById) (table : ℕ) (o : Option ℕ) (prefix : List Value) (cursor : Option Cursor) (forward : Bool)
    → (FitsPrefix schema table o prefix → ⊥) → FindsNoneIn schema rows table o prefix cursor forward
none_fits schema rows table o prefix cursor forward never row key values h = never (matches_fits schema table o prefix values h.2)

module _ (schema : SchemaData) (rows : RowsById) (indexes : List Keys) (table : ℕ) (o : Option ℕ) (prefix : List Value) (cursor : Option Cursor) (forward : Bool)
    (entries : AreEntries schema rows (places_of indexes)) (fitting : AreFitting schema rows) (ht : HasTable schema table) (ho : HasOrder schema table o) (asked : FitsPrefix schema table o prefix) where
  abbrev index : Keys
  index = index_at indexes (number_of schema table o)

  to_index : (row : RowId) (key : List ℕ) (values : List Value) → IsFindableIn schema rows table o prefix cursor forward row key values
      → IsFindable index cursor (prefix_bytes schema table o prefix) forward key row.0
  to_index row key values h = record {
    entry = (entries row.0 table o key ht ho).1 (row_has_key schema table o (rows row.0) key values h.0 h.1);
    begins = subst (λ (k : List ℕ). BeginsWith k (prefix_bytes schema table o prefix)) (sym h.1) (matches_begins schema table o prefix values h.2);
    beyond = beyond_from cursor forward key row h.3;
  }

  from_index : (row : RowId) (key : List ℕ) (values : List Value) → rows row.0 ≡ row_in table values → IsFindable index cursor (prefix_bytes schema table o prefix) forward key row.0
      → IsFindableIn schema rows table o prefix cursor forward row key values
  from_index row key values is h =
      let key_is : key ≡ order_key schema table o values = key_of_row schema table o (rows row.0) key values ((entries row.0 table o key ht ho).0 h.entry) is in
      let fits = fitting row.0 (record { table = table; values = values }) is in
      (is, key_is, begins_matches schema table o prefix values fits.1 asked (subst (λ (k : List ℕ). BeginsWith k (prefix_bytes schema table o prefix)) key_is h.begins), beyond_to cursor forward key row h.beyond)

  pub finds_none : FindsNone index cursor (prefix_bytes schema table o prefix) forward → FindsNoneIn schema rows table o prefix cursor forward
  finds_none none row key values h = none key row.0 (to_index row key values h)

  same_row : (q row : RowId) → q.0 ≡ row.0 → q ≡ row
  same_row q row e = λ z. record { 0 = e z }

  pub finds : (found : Cursor) → IsNext index cursor (prefix_bytes schema table o prefix) forward found → IsFoundAt schema rows table o prefix cursor forward found
  finds found next =
      let own = entry_parts schema table o (rows found.row.0) found.key ((entries found.row.0 table o found.key ht ho).0 next.findable.entry) in (
        ap table_in own.stored_is,
        λ values is. (
          from_index found.row found.key values is next.findable,
          λ q other more h. elim (next.first other q.0 (to_index q other more h)) [
            | inl p ↦ inl (same_row q found.row p.1)
            | inr l ↦ inr (lies_to forward other q found.key found.row l)
          ],
        ),
      )

  pub found_is : (found : Option Cursor) → MatchOption found (FindsNone index cursor (prefix_bytes schema table o prefix) forward) (λ f. IsNext index cursor (prefix_bytes schema table o prefix) forward f)
      → MatchOption found (FindsNoneIn schema rows table o prefix cursor forward) (λ f. IsFoundAt schema rows table o prefix cursor forward f)
  found_is None h = finds_none h
  found_is (Some f) h = finds f h
