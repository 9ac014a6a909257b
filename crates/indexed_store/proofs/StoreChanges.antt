-- A store after a change of one row, and after one that was refused.
use Rattle.std.proofs.Common.{◌≡◌, ◌≢◌, inl, inr, ℕ, true, List, [], ◌∷◌, ◌++◌, length, drop, Option, Some, Err, ℤ, sym, ap, ◌∙◌, subst}
use Rattle.std.proofs.lemmas.Bool.{cases_eq}
use Rattle.std.proofs.Math.Path.{fun_ext}
use Rattle.storage.specs.Slots.{SlotState, IsReadable}
use Rattle.abl_values.specs.Schema.{SchemaData}
use Rattle.database_meaning.specs.declared.state.StoredRow.{StoredRow}
use Rattle.row_store.specs.declared.store.RowFault.{RowFault}
use Rattle.row_store.specs.Rows.{AfterError, ChangesRow, IsConsistent, RowState, RowTransaction}
use Rattle.key_index.specs.Index.{Keys}
use Rattle.row_indexes.specs.declared.moves.Move.{Move}
use Rattle.row_indexes.specs.declared.moves.Moved.{Moved}
use Rattle.row_indexes.specs.Places.{AreWithin, Keepers, keepers_of, places_of}
use Rattle.row_indexes.specs.Changes.{AreAllKept, CanUndoAll}
use Rattle.row_indexes.specs.Making.{CanMake, kept_after, made}
use Rattle.row_indexes.specs.declared.index_changes.entering.Before.{Before}
use Rattle.row_keys.specs.Entries.{AreEntries, AreEntriesAt}
use Rattle.row_keys.specs.Moves.{AreMovesOf}
use Rattle.row_keys.specs.Reserved.{reserved_at}
use Rattle.row_keys.proofs.Kept.{reserves_for_others}
use Rattle.row_keys.proofs.Placed.{made_entries}
use Rattle.row_keys.proofs.UniqueMoves.{reserves_own}
use Rattle.row_moves.specs.Indexed.{FitsSchema, IsIndexed, LeadBack}
use Rattle.row_moves.specs.Started.{IsStarted}
use Rattle.row_moves.proofs.Changed.{changed}
use Rattle.row_moves.proofs.Keepers.{keeper_after}
use Rattle.row_moves.proofs.Kept.{refused_indexed}
use Rattle.row_moves.proofs.Starts.{all_can, all_kept, all_made, all_within}
use Rattle.slot_rows.specs.declared.open.Open.{Open}
use Rattle.slot_rows.specs.Opens.{log_in, touched_in}
use Rattle.slot_rows.specs.State.{Reserved, ReservesMoved, state_of}
use Rattle.slot_rows.specs.Stored.{IsStored}
use Rattle.indexed_store.specs.State.{store_state}
use Rattle.indexed_store.proofs.Consistent.{store_consistent}

-- ---- other indexes with the same places and keepers

pub same_places : (s : RowState) (moved : ℕ → List Moved) (was now : List Keys) → places_of now ≡ places_of was → keepers_of now ≡ keepers_of was → length now ≡ length was → IsIndexed s moved was → IsIndexed s moved now
same_places s moved was now places keepers count h = record {
  count = count ∙ h.count;
  entries = λ k. subst (AreEntries s.schema s.rows) (sym places) (h.entries k);
  fitting = h.fitting;
  old_fitting = h.old_fitting;
  rows = h.rows;
  back = λ k d. subst (LeadBack s.schema d (s.transaction d).changes (moved d)) (sym places) (h.back k d);
  can = λ d. subst (CanUndoAll d (moved d)) (sym places) (h.can d);
  reserved = λ d. subst (AreAllKept d (moved d)) (sym keepers) (h.reserved d);
  within = h.within;
  begun = λ d j key is. h.begun d j key (ap (λ (f : Keepers). f j key) (sym keepers) ∙ is);
}

-- other lists of moves, the same of each client
pub same_moved : (s : RowState) (was now : ℕ → List Moved) (keys : List Keys) → ((c : ℕ) → now c ≡ was c) → IsIndexed s was keys → IsIndexed s now keys
same_moved s was now keys same h = subst (λ (f : ℕ → List Moved). IsIndexed s f keys) (sym (fun_ext same)) h

-- ---- a row was changed

-- only a client with a transaction keeps a key after the moves of a client with one
begun_after : (old new : RowState) (client row : ℕ) (value : Option StoredRow) (moves : List Move) (keepers : Keepers) → ChangesRow old new client row value
    → ((c j : ℕ) (key : List ℕ) → keepers j key ≡ Some c → (old.transaction c).begun ≡ true) → (d j : ℕ) (key : List ℕ) → kept_after client moves keepers j key ≡ Some d → (new.transaction d).begun ≡ true
begun_after old new client row value moves keepers c begun d j key is = elim (cases_eq d client) [
  | inl e ↦ ap (λ (i : ℕ). (new.transaction i).begun) e ∙ ap (λ (t : RowTransaction). t.begun) c.transaction.own
  | inr ne ↦ elim (keeper_after client moves keepers j key d is) [
    | inl e ↦ absurd (ne e)
    | inr before ↦ ap (λ (t : RowTransaction). t.begun) (c.transaction.others d ne) ∙ begun d j key before
  ]
]

module _ (schema now_schema : SchemaData) (keys mid now : List Keys) (sequences : List ℤ) (s t : SlotState) (opens left : List Open) (was middle after : ℕ → List Moved) (client enters : ℕ) (m : Moved) (before : List Before) (old value : Option StoredRow)
    (same_schema : now_schema ≡ schema) (h : IsIndexed (store_state schema keys sequences s opens) was keys)
    (started : IsStarted client m.row (length keys) enters m.moves.items before (places_of keys) (keepers_of keys) (places_of mid) (keepers_of mid))
    (moves : AreMovesOf schema old value m.moves.items)
    (places : places_of now ≡ made client m.row (drop enters m.moves.items) (places_of mid)) (keepers : keepers_of now ≡ kept_after client (drop enters m.moves.items) (keepers_of mid))
    (count_mid : length mid ≡ length keys) (count_now : length now ≡ length mid)
    (clients : (d : ℕ) → middle d ≡ was d) (own : after client ≡ middle client ++ m ∷ []) (others : (d : ℕ) → d ≢ client → after d ≡ middle d)
    (known : IsReadable s → (store_state schema keys sequences s opens).rows m.row ≡ old) (fits : FitsSchema schema value)
    (says : (first last : Reserved) (values : List ℤ) → ReservesMoved schema first last client old value → ChangesRow (state_of schema first values s opens) (state_of schema last values t left) client m.row value)
    (stored : IsStored now_schema t (log_in left) (touched_in left)) where
  abbrev start : RowState
  start = store_state schema keys sequences s opens

  can : CanMake client m.row m.moves.items (places_of keys) (keepers_of keys)
  can = all_can client m.row (length keys) enters m.moves.items before (places_of keys) (keepers_of keys) (places_of mid) (keepers_of mid) started

  all_places : places_of now ≡ made client m.row m.moves.items (places_of keys)
  all_places = all_made client m.row (length keys) enters m.moves.items before (places_of keys) (keepers_of keys) (places_of mid) (keepers_of mid) started (places_of now) places

  all_keepers : keepers_of now ≡ kept_after client m.moves.items (keepers_of keys)
  all_keepers = all_kept client m.row (length keys) enters m.moves.items before (places_of keys) (keepers_of keys) (places_of mid) (keepers_of mid) started (keepers_of now) keepers

  reserves : ReservesMoved schema (reserved_at schema (keepers_of keys)) (reserved_at schema (keepers_of now)) client old value
  reserves = record {
    own = ap (λ (k : Keepers). reserved_at schema k client) all_keepers ∙ reserves_own schema old value m.moves.items client (keepers_of keys) moves;
    others = λ d ne.
        ap (λ (k : Keepers). reserved_at schema k d) all_keepers
        ∙ reserves_for_others schema m.moves.items client m.row d (places_of keys) (keepers_of keys) ne can;
  }

  finish_is : store_state now_schema now sequences t left ≡ store_state schema now sequences t left
  finish_is = ap (λ (x : SchemaData). store_state x now sequences t left) same_schema

  pub store_changes : ChangesRow start (store_state now_schema now sequences t left) client m.row value
  store_changes = subst (λ (x : RowState). ChangesRow start x client m.row value) (sym finish_is) (says (reserved_at schema (keepers_of keys)) (reserved_at schema (keepers_of now)) sequences reserves)

  sound : IsConsistent (store_state now_schema now sequences t left)
  sound =
      store_consistent now_schema now sequences t left stored
      (λ d j key is.
      begun_after start (store_state now_schema now sequences t left) client m.row value m.moves.items (keepers_of keys) store_changes h.begun d j key
      (ap (λ (k : Keepers). k j key) (sym all_keepers) ∙ is))

  pub store_indexed : IsIndexed (store_state now_schema now sequences t left) after now
  store_indexed =
      changed start (store_state now_schema now sequences t left) client value keys now was after m h store_changes sound can
      (subst (λ (n : ℕ). AreWithin n m.moves.items) h.count (all_within client m.row (length keys) enters m.moves.items before (places_of keys) (keepers_of keys) (places_of mid) (keepers_of mid) started))
      all_places all_keepers (count_now ∙ count_mid) (own ∙ ap (λ (l : List Moved). l ++ m ∷ []) (clients client)) (λ d ne. others d ne ∙ clients d) fits
      (λ readable here.
      made_entries schema old value m.moves.items client m.row (places_of keys) moves (subst (λ (r : Option StoredRow). AreEntriesAt schema r (places_of keys) m.row) (known readable) here))

-- the same, where the row of the moves is known as another number
module _ (schema now_schema : SchemaData) (keys mid now : List Keys) (sequences : List ℤ) (s t : SlotState) (opens left : List Open) (was middle after : ℕ → List Moved) (client enters row : ℕ) (m : Moved) (before : List Before) (old value : Option StoredRow)
    (of_row : m.row ≡ row) (same_schema : now_schema ≡ schema) (h : IsIndexed (store_state schema keys sequences s opens) was keys)
    (started : IsStarted client m.row (length keys) enters m.moves.items before (places_of keys) (keepers_of keys) (places_of mid) (keepers_of mid))
    (moves : AreMovesOf schema old value m.moves.items)
    (places : places_of now ≡ made client m.row (drop enters m.moves.items) (places_of mid)) (keepers : keepers_of now ≡ kept_after client (drop enters m.moves.items) (keepers_of mid))
    (count_mid : length mid ≡ length keys) (count_now : length now ≡ length mid)
    (clients : (d : ℕ) → middle d ≡ was d) (own : after client ≡ middle client ++ m ∷ []) (others : (d : ℕ) → d ≢ client → after d ≡ middle d)
    (known : IsReadable s → (store_state schema keys sequences s opens).rows row ≡ old) (fits : FitsSchema schema value)
    (says : (first last : Reserved) (values : List ℤ) → ReservesMoved schema first last client old value → ChangesRow (state_of schema first values s opens) (state_of schema last values t left) client row value)
    (stored : IsStored now_schema t (log_in left) (touched_in left)) where
  says_there : (first last : Reserved) (values : List ℤ) → ReservesMoved schema first last client old value → ChangesRow (state_of schema first values s opens) (state_of schema last values t left) client m.row value
  says_there first last values r = subst (λ (k : ℕ). ChangesRow (state_of schema first values s opens) (state_of schema last values t left) client k value) (sym of_row) (says first last values r)

  known_there : IsReadable s → (store_state schema keys sequences s opens).rows m.row ≡ old
  known_there readable = ap (store_state schema keys sequences s opens).rows of_row ∙ known readable

  pub row_changes : ChangesRow (store_state schema keys sequences s opens) (store_state now_schema now sequences t left) client row value
  row_changes =
      subst (λ (k : ℕ). ChangesRow (store_state schema keys sequences s opens) (store_state now_schema now sequences t left) client k value) of_row
      (store_changes schema now_schema keys mid now sequences s t opens left was middle after client enters m before old value same_schema h started moves places keepers count_mid count_now clients own others known_there fits says_there stored)

  pub row_indexed : IsIndexed (store_state now_schema now sequences t left) after now
  row_indexed = store_indexed schema now_schema keys mid now sequences s t opens left was middle after client enters m before old value same_schema h started moves places keepers count_mid count_now clients own others known_there fits says_there stored

-- ---- a change was refused

module _ {T : Type 0} (schema now_schema : SchemaData) (keys now : List Keys) (sequences : List ℤ) (s t : SlotState) (opens left : List Open) (was after : ℕ → List Moved)
    (same_schema : now_schema ≡ schema) (places : places_of now ≡ places_of keys) (keepers : keepers_of now ≡ keepers_of keys) (count : length now ≡ length keys) (clients : (d : ℕ) → after d ≡ was d)
    (error : RowFault) (err : (reserved : Reserved) (values : List ℤ) → AfterError {T = T} (state_of schema reserved values s opens) (state_of schema reserved values t left) (Err error)) where
  refused_is : store_state now_schema now sequences t left ≡ store_state schema keys sequences t left
  refused_is =
      ap (λ (x : SchemaData). store_state x now sequences t left) same_schema
      ∙ ap (λ (k : Keepers). state_of schema (reserved_at schema k) sequences t left) keepers

  pub refused_err : AfterError {T = T} (store_state schema keys sequences s opens) (store_state now_schema now sequences t left) (Err error)
  refused_err = subst (λ (x : RowState). AfterError {T = T} (store_state schema keys sequences s opens) x (Err error)) (sym refused_is) (err (reserved_at schema (keepers_of keys)) sequences)

  pub refused_store : IsIndexed (store_state schema keys sequences s opens) was keys → IsIndexed (store_state now_schema now sequences t left) after now
  refused_store h =
      same_moved (store_state now_schema now sequences t left) was after now clients
      (same_places (store_state now_schema now sequences t left) was keys now places keepers count
      (refused_indexed (store_state schema keys sequences s opens) (store_state now_schema now sequences t left) was keys error refused_err h))
