-- What the indexes answer, said of the store.
use Rattle.std.proofs.Common.{◌≡◌, ◌≢◌, ℕ, Bool, List, Option, Some, None, Result, Ok, Err, IfOk, OnOk, IsErrOf, MatchOption, sym, subst}
use Rattle.abl_base.specs.declared.value.Value.{Value}
use Rattle.abl_base.specs.declared.row.RowId.{RowId}
use Rattle.database_protocol.specs.declared.row_order.Cursor.{Cursor}
use Rattle.abl_values.specs.Schema.{SchemaData}
use Rattle.database_meaning.specs.declared.state.StoredRow.{StoredRow}
use Rattle.std.specs.Prelude.{⊤}
use Rattle.database_meaning.specs.Search.{IsNextIn}
use Rattle.database_meaning.specs.Setting.{HasIndex}
use Rattle.row_keys.specs.Numbers.{HasOrder}
use Rattle.database_meaning.specs.declared.state.Key.{Key}
use Rattle.database_meaning.specs.Waiting.{EntersReserved, ListsAll, row_in}
use Rattle.std.proofs.Math.Path.{fun_ext}
use Rattle.row_keys.specs.Reserved.{reserved_at}
use Rattle.row_store.specs.declared.store.Duplicate.{Duplicate}
use Rattle.row_store.specs.declared.store.FoundRow.{FoundRow}
use Rattle.row_store.specs.declared.store.RowFault.{RowFault}
use Rattle.row_store.specs.declared.store.RowFault.TheVariants.{Disk}
use Rattle.row_store.specs.Changes.{RowsById}
use Rattle.row_store.specs.Questions.{FindsNoneIn, IsLeastDuplicate, ReservesAgainst, replaced_at}
use Rattle.row_store.specs.Rows.{AfterError, IsObservable, RowState}
use Rattle.key_index.specs.Index.{Keys}
use Rattle.row_indexes.specs.declared.moves.Moved.{Moved}
use Rattle.row_indexes.specs.Places.{keepers_of, places_of}
use Rattle.row_keys.specs.Entries.{AreEntries, AreFitting}
use Rattle.row_keys.specs.Questions.{IsFoundAt, IsLeastDuplicateIn, IsRead, KeepsAgainst}
use Rattle.row_moves.specs.Indexed.{IsIndexed}
use Rattle.row_moves.proofs.Fitting.{all_fitting}

-- ---- an answer that changes nothing, with no fault of the disk

pub on_any : {T P : Type 0} (result : Result T RowFault) → P → OnOk result P
on_any (Ok x) p = p
on_any (Err e) p = tt

pub memory_err : {T : Type 0} (old new : RowState) (result : Result T RowFault) → new ≡ old → (IsErrOf result Disk → ⊥) → AfterError old new result
memory_err old new result same only = record { memory = λ e. same; disk = λ e. absurd (only e) }

-- the order that a search may have
pub order_of : (schema : SchemaData) (table : ℕ) (index : Option ℕ) → MatchOption index ⊤ (λ i. HasIndex schema table i) → HasOrder schema table index
order_of schema table None h = tt
order_of schema table (Some index) h = h

-- ---- duplicates

abbrev pub FindsDuplicate : SchemaData → List Keys → Option RowId → Option StoredRow → Option Duplicate → Type 0
FindsDuplicate schema keys row new found =
    (rows : RowsById) → AreEntries schema rows (places_of keys) → AreFitting schema rows
    → MatchOption found ((index : ℕ) (other : RowId) → ¬ IsLeastDuplicateIn schema rows row new index other) (λ d. IsLeastDuplicateIn schema rows row new d.index d.row)

pub duplicate_of : (s : RowState) (moved : ℕ → List Moved) (keys : List Keys) → IsIndexed s moved keys → (schema : SchemaData) (list : List Keys) → schema ≡ s.schema → list ≡ keys
    → (row : Option RowId) (new : Option StoredRow) (result : Result (Option Duplicate) RowFault) → IfOk result (FindsDuplicate schema list row new)
    → IfOk result (λ found. IsObservable s → MatchOption found ((index : ℕ) (other : RowId) → ¬ IsLeastDuplicate s row new index other) (λ d. IsLeastDuplicate s row new d.index d.row))
duplicate_of s moved keys h schema list e f row new (Ok found) is = λ known.
    let here = subst (λ (x : SchemaData). FindsDuplicate x keys row new found) e (subst (λ (l : List Keys). FindsDuplicate schema l row new found) f is) in
    here s.rows (h.entries known) (all_fitting s.schema s.rows (h.fitting known))
duplicate_of s moved keys h schema list e f row new (Err error) is = tt

-- ---- reserved keys

abbrev pub FindsHolders : SchemaData → List Keys → ℕ → ℕ → Option (List Value) → List Value → List ℕ → Type 0
FindsHolders schema keys client table old values holders =
    (stored : Option StoredRow) → IsRead table old stored → ListsAll holders (KeepsAgainst schema (keepers_of keys) client stored (row_in table values))

pub holders_of : (s : RowState) (keys : List Keys) (known_schema schema : SchemaData) (list : List Keys) → schema ≡ known_schema → list ≡ keys → s.schema ≡ known_schema → ((d : ℕ) → (s.transaction d).reserved ≡ reserved_at known_schema (keepers_of keys) d)
    → (client table : ℕ) (old : Option (List Value)) (row : Option RowId) (values : List Value) (result : Result (List ℕ) RowFault) → (IsObservable s → IsRead table old (replaced_at s row)) → IfOk result (FindsHolders schema list client table old values)
    → IfOk result (λ holders. IsObservable s → ListsAll holders (ReservesAgainst s client (replaced_at s row) (row_in table values)))
holders_of s keys known_schema schema list e f same reserved client table old row values (Ok holders) read is = λ known.
    let here = subst (λ (x : SchemaData). FindsHolders x keys client table old values holders) e (subst (λ (l : List Keys). FindsHolders schema l client table old values holders) f is) in
    subst (λ (x : SchemaData). ListsAll holders (λ d. (d ≢ client) × EntersReserved x (s.transaction d).reserved (replaced_at s row) (row_in table values))) (sym same)
    (subst (λ (r : ℕ → Key → Bool). ListsAll holders (λ d. (d ≢ client) × EntersReserved known_schema (r d) (replaced_at s row) (row_in table values))) (sym (fun_ext reserved)) (here (replaced_at s row) (read known)))
holders_of s keys known_schema schema list e f same reserved client table old row values (Err error) read is = tt

-- ---- searches

abbrev pub FindsPlace : SchemaData → List Keys → ℕ → Option ℕ → List Value → Option Cursor → Bool → Option Cursor → Type 0
FindsPlace schema keys table index prefix cursor forward found =
    (rows : RowsById) → AreEntries schema rows (places_of keys) → AreFitting schema rows
    → MatchOption found (FindsNoneIn schema rows table index prefix cursor forward) (λ f. IsFoundAt schema rows table index prefix cursor forward f)

module _ (s : RowState) (moved : ℕ → List Moved) (keys : List Keys) (h : IsIndexed s moved keys) (schema : SchemaData) (list : List Keys) (e : schema ≡ s.schema) (f : list ≡ keys)
    (table : ℕ) (index : Option ℕ) (prefix : List Value) (cursor : Option Cursor) (forward : Bool) where
  place_there : (found : Option Cursor) → FindsPlace schema list table index prefix cursor forward found → FindsPlace s.schema keys table index prefix cursor forward found
  place_there found is =
      subst (λ (x : SchemaData). FindsPlace x keys table index prefix cursor forward found) e (subst (λ (l : List Keys). FindsPlace schema l table index prefix cursor forward found) f is)

  pub none_found : FindsPlace schema list table index prefix cursor forward None → IsObservable s → FindsNoneIn s.schema s.rows table index prefix cursor forward
  none_found is known = place_there None is s.rows (h.entries known) (all_fitting s.schema s.rows (h.fitting known))

  -- the row that was read at the place
  abbrev pub IsReadAt : Cursor → FoundRow → Type 0
  IsReadAt at f = (f.row ≡ at.row) × (f.key ≡ at.key) × (s.rows at.row.0 ≡ row_in table f.values)

  one_found : (at : Cursor) (g : FoundRow) → FindsPlace schema list table index prefix cursor forward (Some at) → IsObservable s → IsReadAt at g
      → IsNextIn s.schema s.rows table index prefix cursor forward g.row g.key g.values
  one_found at g is known read =
      subst (λ (r : RowId). IsNextIn s.schema s.rows table index prefix cursor forward r g.key g.values) (sym read.0)
      (subst (λ (k : List ℕ). IsNextIn s.schema s.rows table index prefix cursor forward at.row k g.values) (sym read.1)
      ((place_there (Some at) is s.rows (h.entries known) (all_fitting s.schema s.rows (h.fitting known))).1 g.values read.2))

  pub row_found : (at : Cursor) → FindsPlace schema list table index prefix cursor forward (Some at) → (result : Result (Option FoundRow) RowFault)
      → IfOk result (λ found. IsObservable s → MatchOption found ⊥ (IsReadAt at))
      → IfOk result (λ found. IsObservable s → MatchOption found (FindsNoneIn s.schema s.rows table index prefix cursor forward) (λ g. IsNextIn s.schema s.rows table index prefix cursor forward g.row g.key g.values))
  row_found at is (Ok None) read = λ known. absurd (read known)
  row_found at is (Ok (Some g)) read = λ known. one_found at g is known (read known)
  row_found at is (Err error) read = tt
