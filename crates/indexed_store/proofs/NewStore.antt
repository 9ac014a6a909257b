-- A new store.
use Rattle.std.proofs.Common.{◌≡◌, inl, inr, ℕ, suc, ◌&&◌, not, Bool, true, false, List, [], ◌∷◌, length, map, Option, Some, None, IsTrue, ℤ, refl, sym, ap, ◌∙◌, subst}
use Rattle.std.proofs.Math.Path.{fun_ext}
use Rattle.std.proofs.lemmas.Bool.{cases_eq}
use Rattle.storage.specs.Slots.{SlotState, IsReadable}
use Rattle.abl_values.specs.declared.schema.SequenceDef.{SequenceDef}
use Rattle.abl_values.specs.Schema.{SchemaData}
use Rattle.database_meaning.specs.declared.state.StoredRow.{StoredRow}
use Rattle.row_store.specs.declared.store.RowChange.{RowChange}
use Rattle.row_store.specs.Changes.{RowsById}
use Rattle.row_store.specs.Rows.{Begins, Commits, Durable, RowState, RowTransaction, joined}
use Rattle.key_index.specs.Index.{Keys}
use Rattle.row_indexes.specs.declared.moves.Moved.{Moved}
use Rattle.row_indexes.specs.Places.{keepers_of, places_of}
use Rattle.row_indexes.specs.Changes.{AreAllKept, AreAllWithin, CanUndoAll}
use Rattle.row_keys.specs.Entries.{AreEntriesAt}
use Rattle.row_keys.specs.Numbers.{index_count}
use Rattle.row_keys.proofs.Placed.{no_entries}
use Rattle.row_moves.specs.Indexed.{AreFit, AreOfSameRows, FitsSchema, IsIndexed, LeadBack}
use Rattle.slot_rows.specs.declared.open.Open.{Open}
use Rattle.slot_rows.specs.Decoded.{decoded}
use Rattle.slot_rows.specs.Opens.{log_in, touched_in}
use Rattle.slot_rows.specs.State.{Reserved, rows_if, state_of}
use Rattle.slot_rows.specs.Stored.{IsStored, changes_of}
use Rattle.slot_rows.proofs.Consistent.{consistent}
use Rattle.slot_rows.proofs.Errors.{and_parts}
use Rattle.row_keys.specs.Reserved.{reserved_at}
use Rattle.row_keys.proofs.Kept.{reserved_none}
use Rattle.indexed_store.specs.State.{IsNewStore, initial_values, no_reserved, store_state}

pub length_initial : (xs : List SequenceDef) → length (map (λ (x : SequenceDef). x.initial) xs) ≡ length xs
length_initial [] = refl
length_initial (x ∷ xs) = ap suc (length_initial xs)

none_if : (b : Bool) (rows : RowsById) (k : ℕ) → (IsTrue b → rows k ≡ None) → rows_if b rows k ≡ None
none_if true rows k none = none refl
none_if false rows k none = refl

-- ---- the rows of a new store

-- rows over slots that hold nothing, a transaction begun, and its commit with the initial values
module _ (schema : SchemaData) (a b c : SlotState) (first second third : List Open) (values : List ℤ) (stored : IsStored schema a (log_in first) (touched_in first))
    (begun : (k : ℕ) → (a.transaction k).begun ≡ false) (fine : a.failed ≡ false) (no_row : (k : ℕ) → IsReadable a → decoded schema a.reads k ≡ None) (none_committed : (k : ℕ) → IsReadable a → decoded schema a.committed k ≡ None)
    (begins : Begins (state_of schema no_reserved [] a first) (state_of schema no_reserved [] b second) 0) (commits : Commits (state_of schema no_reserved [] b second) (state_of schema no_reserved values c third) 0 values)
    (initial : values ≡ initial_values schema) where
  abbrev start : RowState
  start = state_of schema no_reserved [] a first

  abbrev middle : RowState
  middle = state_of schema no_reserved [] b second

  no_change : (middle.transaction 0).changes ≡ []
  no_change = ap (λ (t : RowTransaction). t.changes) begins.transaction.own

  committed_none : (k : ℕ) → start.committed k ≡ None
  committed_none k = none_if a.observable (decoded schema a.committed) k (λ is. none_committed k (is, fine))

  committed_now : IsTrue b.observable → (k : ℕ) → rows_if c.observable (decoded schema c.committed) k ≡ None
  committed_now seen k =
      ap (λ (d : Durable). d.rows k) (commits.committed (seen, begins.base.failed ∙ fine))
      ∙ (ap (λ (l : List RowChange). joined l middle.rows middle.committed k) no_change ∙ (ap (λ (f : RowsById). f k) begins.base.committed ∙ committed_none k))

  empty_now : (k : ℕ) (seen : Bool) → c.observable ≡ seen → rows_if c.observable (decoded schema c.committed) k ≡ None
  empty_now k true e = committed_now (sym commits.observable ∙ e) k
  empty_now k false e = ap (λ (v : Bool). rows_if v (decoded schema c.committed) k) e

  pub new_by_commit : IsNewStore (state_of schema no_reserved values c third) schema
  new_by_commit = record {
    schema_is = refl;
    fine = commits.failed ∙ (begins.base.failed ∙ fine);
    idle = λ k. elim (cases_eq k 0) [
      | inl is ↦ ap (state_of schema no_reserved values c third).transaction is ∙ commits.transaction.own
      | inr ne ↦ commits.transaction.others k ne ∙ (begins.transaction.others k ne ∙ (consistent schema no_reserved [] a first stored (λ d idle. refl)).idle k (begun k))
    ];
    rows = λ seen k. ap (λ (f : RowsById). f k) (commits.rows ∙ begins.rows) ∙ none_if (a.observable && not a.failed) (decoded schema a.reads) k (λ is. no_row k (and_parts a.observable a.failed is));
    empty = λ k. empty_now k c.observable refl;
    sequences = initial;
  }

-- ---- with indexes

module _ (schema other : SchemaData) (keys : List Keys) (sequences : List ℤ) (s : SlotState) (opens : List Open) (moved : ℕ → List Moved)
    (new : IsNewStore (state_of schema no_reserved sequences s opens) other)
    (count : length keys ≡ index_count schema) (no_place : (j : ℕ) (key : List ℕ) (k : ℕ) → places_of keys j key k ≡ None) (no_keeper : (j : ℕ) (key : List ℕ) → keepers_of keys j key ≡ None)
    (idle : (c : ℕ) → moved c ≡ []) where
  change_none : (c : ℕ) → changes_of (log_in opens c) ≡ []
  change_none c = ap (λ (t : RowTransaction). t.changes) (new.idle c)

  nobody : {W : Type 0} (c j : ℕ) (key : List ℕ) → keepers_of keys j key ≡ Some c → W
  nobody c j key is = let clash : None ≡ Some c = sym (no_keeper j key) ∙ is in absurd (cc clash)

  pub new_indexed : IsIndexed (store_state schema keys sequences s opens) moved keys
  new_indexed = record {
    count = count;
    entries = λ readable k.
        subst (λ (r : Option StoredRow). AreEntriesAt schema r (places_of keys) k) (sym (new.rows readable k)) (no_entries schema (places_of keys) k (λ j key. no_place j key k));
    fitting = λ readable k. subst (FitsSchema schema) (sym (new.rows readable k)) tt;
    old_fitting = λ readable c. subst (AreFit schema) (sym (change_none c)) tt;
    rows = λ c. subst (AreOfSameRows (changes_of (log_in opens c))) (sym (idle c)) (subst (λ (l : List RowChange). AreOfSameRows l []) (sym (change_none c)) tt);
    back = λ readable c.
        subst (λ (m : List Moved). LeadBack schema c (changes_of (log_in opens c)) m (places_of keys)) (sym (idle c))
        (subst (λ (l : List RowChange). LeadBack schema c l [] (places_of keys)) (sym (change_none c)) tt);
    can = λ c. subst (λ (m : List Moved). CanUndoAll c m (places_of keys)) (sym (idle c)) tt;
    reserved = λ c. subst (λ (m : List Moved). AreAllKept c m (keepers_of keys)) (sym (idle c)) tt;
    within = λ c. subst (AreAllWithin (index_count schema)) (sym (idle c)) tt;
    begun = λ c j key is. nobody c j key is;
  }

  reserved_is : reserved_at schema (keepers_of keys) ≡ no_reserved
  reserved_is = fun_ext (λ c. reserved_none schema (keepers_of keys) c (λ j key is. nobody c j key is))

  pub new_store : IsNewStore (store_state schema keys sequences s opens) other
  new_store = subst (λ (r : Reserved). IsNewStore (state_of schema r sequences s opens) other) (sym reserved_is) new
