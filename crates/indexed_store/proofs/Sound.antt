-- Rows that a store may have: no key of theirs is too long, and no two of them have a unique key in common.
use Rattle.std.proofs.Common.{◌≡◌, inl, inr, ℕ, zero, suc, ◌+◌, ◌<◌, ◌≤◌, Bool, true, false, cond, eqb, eqb-true, eq-eqb, nat_le, nat_lt, List, length, Option, Some, None, is_some, IsTrue, refl, sym, ap, ◌∙◌, subst, arith}
use Rattle.std.proofs.Math.Path.{fun_ext}
use Rattle.std.proofs.lemmas.Bool.{cases_eq, cases_lt, ne_eqb}
use Rattle.std.proofs.lemmas.Bool.Decides.{nat_tests}
use Rattle.abl_base.specs.declared.limits.TheConstants.{MAX_KEY_BYTES}
use Rattle.abl_base.specs.declared.row.RowId.{RowId}
use Rattle.abl_base.specs.declared.value.Value.{Value}
use Rattle.abl_values.specs.Schema.{SchemaData}
use Rattle.database_meaning.specs.declared.state.Key.{Key}
use Rattle.database_meaning.specs.declared.state.StoredRow.{StoredRow}
use Rattle.database_meaning.specs.Answers.{HasLongKey, IsDuplicateIn}
use Rattle.database_meaning.specs.Setting.{HasIndex, has_key, key_in, unique_keys}
use Rattle.database_meaning.specs.Waiting.{row_in}
use Rattle.row_store.specs.Changes.{RowsById, with_row}
use Rattle.row_store.specs.Questions.{IsLongKey, setting_of}
use Rattle.row_moves.proofs.Parts.{or_first, or_true}
use Rattle.row_fragments.specs.Fragments.{StoredBytes, ends, kind_in, row_at}
use Rattle.row_fragments.proofs.Chained.{no_row_at}
use Rattle.slot_rows.specs.Decoded.{AreRead, decoded, is_read, or_no_table, row_of, values_of}
use Rattle.slot_rows.proofs.Opening.{not_begins}
use Rattle.row_keys.specs.Entries.{AreFitting}
use Rattle.row_keys.specs.Questions.{IsLeastDuplicateIn}
use Rattle.row_keys.proofs.Placed.{none_is_none}
use Rattle.indexed_store.specs.Opened.{AreSoundRows, IsSoundRow, rows_before}

-- ---- the least number with a property

none_below : (P : ℕ → Type 0) → ((i : ℕ) → P i → ((j : ℕ) → j < i → P j → ⊥) → ⊥) → (n i : ℕ) → i < n → P i → ⊥
none_below P none zero i lt p = absurd (omega (arith, lt))
none_below P none (suc n) i lt p = none i p (λ j less. none_below P none n j (omega (arith, lt, less)))

-- where no number is the least with a property, none has it
pub none_at_all : (P : ℕ → Type 0) → ((i : ℕ) → P i → ((j : ℕ) → j < i → P j → ⊥) → ⊥) → (i : ℕ) → P i → ⊥
none_at_all P none i = none_below P none (suc i) i (omega arith)

pub all_short : (schema : SchemaData) (table : ℕ) (values : List Value) → ((index : ℕ) → IsLongKey schema table values index → ⊥) → (index : ℕ) → HasIndex schema table index → length (key_in schema table index values) ≤ MAX_KEY_BYTES
all_short schema table values none index has = elim (cases_lt MAX_KEY_BYTES (length (key_in schema table index values))) [
  | inl long ↦ absurd (none_at_all (HasLongKey (setting_of schema) (record { table = table; values = values })) (λ i p least. none i (p, least)) index (has, long))
  | inr le ↦ le
]

record HasDuplicateAt (schema : SchemaData) (rows : RowsById) (new : Option StoredRow) (index : ℕ) : Type 0 where
  other : RowId
  is : IsDuplicateIn schema rows None new index other

pub no_duplicate : (schema : SchemaData) (rows : RowsById) (new : Option StoredRow) → ((index : ℕ) (other : RowId) → IsLeastDuplicateIn schema rows None new index other → ⊥) → (index : ℕ) (other : RowId) → IsDuplicateIn schema rows None new index other → ⊥
no_duplicate schema rows new none index other is =
    none_at_all (HasDuplicateAt schema rows new) (λ i p least. none i p.other (p.is, λ j o less d. least j less (record { other = o; is = d }))) index (record { other = other; is = is })

pub fitting_of : (schema : SchemaData) (rows : RowsById) → AreSoundRows schema rows → AreFitting schema rows
fitting_of schema rows sound = λ k row e. let is = sound.each k row e in (is.table, is.fits)

-- ---- one row more

pub no_key : (schema : SchemaData) (key : Key) → has_key (unique_keys schema None) key ≡ false
unfolding unique_keys
no_key schema key = refl

abbrev HasKey : SchemaData → Option StoredRow → Key → Type 0
HasKey schema row key = IsTrue (has_key (unique_keys schema row) key)

no_row_has : (schema : SchemaData) (row : Option StoredRow) (key : Key) → row ≡ None → HasKey schema row key → ⊥
no_row_has schema row key none has =
    let not : has_key (unique_keys schema row) key ≡ false = ap (λ (r : Option StoredRow). has_key (unique_keys schema r) key) none ∙ no_key schema key in
    let clash : true ≡ false = sym has ∙ not in
    cc

pub none_sound : (schema : SchemaData) → AreSoundRows schema (λ k. None)
none_sound schema = record { each = λ k row e. absurd (none_is_none row e); apart = λ k other key has also. absurd (no_row_has schema None key refl has) }

module _ (schema : SchemaData) (rows : RowsById) (at table : ℕ) (values : List Value) where
  abbrev new : StoredRow
  new = record { table = table; values = values }

  abbrev after : RowsById
  after = with_row rows at (row_in table values)

  here : after at ≡ Some new
  here = ap (λ (b : Bool). cond b (Some new) (rows at)) (eq-eqb at at refl)

  there : (other : ℕ) → (other ≡ at → ⊥) → after other ≡ rows other
  there other ne = ap (λ (b : Bool). cond b (Some new) (rows other)) (ne_eqb other at ne)

  each_row : AreSoundRows schema rows → IsSoundRow schema new → (k : ℕ) (row : StoredRow) → after k ≡ Some row → IsSoundRow schema row
  each_row sound fits k row = by_row (eqb k at)
    where
      by_row : (b : Bool) → cond b (Some new) (rows k) ≡ Some row → IsSoundRow schema row
      by_row true e = let same : new ≡ row = cc in subst (IsSoundRow schema) same fits
      by_row false e = sound.each k row e

  apart_rows : AreSoundRows schema rows → ((index : ℕ) (other : RowId) → IsDuplicateIn schema rows None (row_in table values) index other → ⊥) → (k other : ℕ) (key : Key) → HasKey schema (after k) key → HasKey schema (after other) key → k ≡ other
  apart_rows sound none k other key = by_rows (eqb k at) (eqb other at) refl refl
    where
      by_rows : (b c : Bool) → eqb k at ≡ b → eqb other at ≡ c → HasKey schema (cond b (Some new) (rows k)) key → HasKey schema (cond c (Some new) (rows other)) key → k ≡ other
      by_rows true true e f x y = eqb-true k at e ∙ sym (eqb-true other at f)
      by_rows true false e f x y = absurd (none key.index (record { 0 = other }) (key, refl, x, none_is_none (record { 0 = other }), y))
      by_rows false true e f x y = absurd (none key.index (record { 0 = k }) (key, refl, y, none_is_none (record { 0 = k }), x))
      by_rows false false e f x y = sound.apart k other key x y

  pub sound_more : AreSoundRows schema rows → IsSoundRow schema new → ((index : ℕ) (other : RowId) → IsDuplicateIn schema rows None (row_in table values) index other → ⊥) → AreSoundRows schema after
  sound_more sound fits none = record { each = each_row sound fits; apart = apart_rows sound none }

  pub long_unsound : (index : ℕ) → IsLongKey schema table values index → AreSoundRows schema after → ⊥
  long_unsound index long sound =
      let short = (sound.each at new here).short index long.0.0 in
      let more = long.0.1 in
      omega (arith, short, more)

  pub duplicate_unsound : (index : ℕ) (other : RowId) → rows at ≡ None → IsDuplicateIn schema rows None (row_in table values) index other → AreSoundRows schema after → ⊥
  duplicate_unsound index other empty d sound = elim (cases_eq other.0 at) [
    | inl is ↦ no_row_has schema (rows other.0) d.0 (ap rows is ∙ empty) d.4
    | inr ne ↦ ne
        (sym (sound.apart at other.0 d.0 (subst (λ (r : Option StoredRow). HasKey schema r d.0) (sym here) d.2) (subst (λ (r : Option StoredRow). HasKey schema r d.0) (sym (there other.0 ne)) d.4)))
  ]

-- ---- rows with low identities

lt_is : (k at : ℕ) → k < at → nat_lt k at ≡ true
lt_is k at lt = grind (arith, nat_tests, lt)

ge_is : (k at : ℕ) → at ≤ k → nat_lt k at ≡ false
ge_is k at le = grind (arith, nat_tests, le)

pub before_below : (at : ℕ) (rows : RowsById) (k : ℕ) → k < at → rows_before at rows k ≡ rows k
before_below at rows k lt = ap (λ (b : Bool). cond b (rows k) None) (lt_is k at lt)

pub before_past : (at : ℕ) (rows : RowsById) (k : ℕ) → at ≤ k → rows_before at rows k ≡ None
before_past at rows k le = ap (λ (b : Bool). cond b (rows k) None) (ge_is k at le)

pub before_more : (at : ℕ) (rows : RowsById) → with_row (rows_before at rows) at (rows at) ≡ rows_before (suc at) rows
before_more at rows = fun_ext (λ k. by_row k (eqb k at) refl)
  where
    by_row : (k : ℕ) (b : Bool) → eqb k at ≡ b → cond b (rows at) (rows_before at rows k) ≡ rows_before (suc at) rows k
    by_row k true e = let is = eqb-true k at e in ap rows (sym is) ∙ sym (before_below (suc at) rows k (omega (arith, is)))
    by_row k false e = elim (cases_lt k at) [
      | inl lt ↦ before_below at rows k lt ∙ sym (before_below (suc at) rows k (omega (arith, lt)))
      | inr le ↦
          let ne : k ≡ at → ⊥ = λ is. (let clash : true ≡ false = sym (eq-eqb k at is) ∙ e in cc) in
          before_past at rows k le ∙ sym (before_past (suc at) rows k (omega (arith, le, ne)))
    ]

-- with the row at the number, or without one where there is none
pub before_with : (at : ℕ) (rows : RowsById) (row : Option StoredRow) → rows at ≡ row → with_row (rows_before at rows) at row ≡ rows_before (at + 1) rows
before_with at rows row is =
    let next : suc at ≡ at + 1 = omega arith in
    ap (with_row (rows_before at rows) at) (sym is) ∙ (before_more at rows ∙ ap (λ (n : ℕ). rows_before n rows) next)

pub before_same : (at : ℕ) (rows : RowsById) → rows at ≡ None → rows_before at rows ≡ rows_before (at + 1) rows
before_same at rows none = fun_ext (λ k. by_row k (eqb k at) refl) ∙ before_with at rows None none
  where
    by_row : (k : ℕ) (b : Bool) → eqb k at ≡ b → rows_before at rows k ≡ cond b None (rows_before at rows k)
    by_row k true e = let is = eqb-true k at e in before_past at rows k (omega (arith, is))
    by_row k false e = refl

-- all rows, where there are none past this number
pub before_all : (at : ℕ) (rows : RowsById) → ((k : ℕ) → at ≤ k → rows k ≡ None) → rows_before at rows ≡ rows
before_all at rows none = fun_ext (λ k. elim (cases_lt k at) [ inl lt ↦ before_below at rows k lt | inr le ↦ before_past at rows k le ∙ sym (none k le) ])

-- no row, where there are none below it
pub before_none : (at : ℕ) (rows : RowsById) → ((k : ℕ) → k < at → rows k ≡ None) → rows_before at rows ≡ (λ k. None)
before_none at rows none = fun_ext (λ k. elim (cases_lt k at) [ inl lt ↦ before_below at rows k lt ∙ none k lt | inr le ↦ before_past at rows k le ])

-- some of sound rows are sound
pub sound_before : (schema : SchemaData) (at : ℕ) (rows : RowsById) → AreSoundRows schema rows → AreSoundRows schema (rows_before at rows)
sound_before schema at rows sound = record { each = λ k row. one k row (nat_lt k at); apart = λ k other key. both k other key (nat_lt k at) (nat_lt other at) }
  where
    one : (k : ℕ) (row : StoredRow) (b : Bool) → cond b (rows k) None ≡ Some row → IsSoundRow schema row
    one k row true e = sound.each k row e
    one k row false e = absurd (none_is_none row e)

    both : (k other : ℕ) (key : Key) (b c : Bool) → HasKey schema (cond b (rows k) None) key → HasKey schema (cond c (rows other) None) key → k ≡ other
    both k other key true true x y = sound.apart k other key x y
    both k other key true false x y = absurd (no_row_has schema None key refl y)
    both k other key false c x y = absurd (no_row_has schema None key refl x)

-- ---- slots hold rows from 8,192 on, below 1,048,576

no_row : (schema : SchemaData) (slots : ℕ → List ℕ) (k : ℕ) → ends k ≡ true → decoded schema slots k ≡ None
no_row schema slots k e = ap (λ (r : Option StoredBytes). row_of schema r) (no_row_at slots k (not_begins (ends k) (eqb (kind_in (slots k)) 1) e))

high_is : (k : ℕ) → 1048576 ≤ k → nat_le 1048576 k ≡ true
high_is k le = grind (arith, nat_tests, le)

low_is : (k : ℕ) → k < 8192 → nat_lt k 8192 ≡ true
low_is k lt = grind (arith, nat_tests, lt)

pub decoded_past : (schema : SchemaData) (slots : ℕ → List ℕ) (k : ℕ) → 1048576 ≤ k → decoded schema slots k ≡ None
decoded_past schema slots k le = no_row schema slots k (or_true (nat_lt k 8192) (nat_le 1048576 k) (high_is k le))

pub decoded_low : (schema : SchemaData) (slots : ℕ → List ℕ) (k : ℕ) → k < 8192 → decoded schema slots k ≡ None
decoded_low schema slots k lt = no_row schema slots k (or_first (nat_lt k 8192) (nat_le 1048576 k) (low_is k lt))

-- ---- rows that are sound are read

values_read : (schema : SchemaData) (table : ℕ) (values : Option (List Value)) → IsSoundRow schema (or_no_table schema table values) → is_some values ≡ true
values_read schema table None sound = let within = sound.table in absurd (omega (arith, within))
values_read schema table (Some vs) sound = refl

row_read : (schema : SchemaData) (stored : Option StoredBytes) → ((row : StoredRow) → row_of schema stored ≡ Some row → IsSoundRow schema row) → is_read schema stored ≡ true
row_read schema None sound = refl
row_read schema (Some stored) sound = values_read schema stored.table (values_of schema stored) (sound (or_no_table schema stored.table (values_of schema stored)) refl)

pub rows_read : (schema : SchemaData) (slots : ℕ → List ℕ) → AreSoundRows schema (decoded schema slots) → AreRead schema slots
rows_read schema slots sound k = row_read schema (row_at slots k) (λ row is. sound.each k row is)
