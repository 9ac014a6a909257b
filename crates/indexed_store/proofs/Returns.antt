-- A store after a client began, went back, committed or gave up.
use Rattle.std.proofs.Common.{◌≡◌, ◌≢◌, ℕ, ◌&&◌, Bool, true, false, cond, eqb, eqb-true, List, [], length, take, drop, Option, Some, None, Result, Ok, Err, OnOk, ℤ, refl, sym, ap, ◌∙◌, subst}
use Rattle.std.proofs.Math.Path.{fun_ext}
use Rattle.std.proofs.lemmas.Bool.{ne_eqb}
use Rattle.storage.specs.Slots.{SlotState}
use Rattle.abl_values.specs.Schema.{SchemaData}
use Rattle.database_meaning.specs.declared.state.Key.{Key}
use Rattle.row_store.specs.declared.store.RowFault.{RowFault}
use Rattle.row_store.specs.Rows.{Abandons, AfterError, Begins, Commits, GoesBack, IsConsistent, RowState}
use Rattle.key_index.specs.Index.{Keys}
use Rattle.key_index.specs.Places.{is_client, without_keeper}
use Rattle.row_indexes.specs.declared.moves.Moved.{Moved}
use Rattle.row_indexes.specs.Places.{Keepers, keepers_of, places_of}
use Rattle.row_indexes.specs.Changes.{all_undone}
use Rattle.row_indexes.specs.index_changes.Ending.{ended, freed}
use Rattle.row_indexes.proofs.IndexChangesLemmas.AfterEnd.{ended_can_undo_all, freed_all_kept}
use Rattle.row_keys.specs.Numbers.{number_of}
use Rattle.row_keys.specs.Reserved.{is_in_schema, reserved_at}
use Rattle.row_keys.proofs.Kept.{reserved_none}
use Rattle.row_moves.specs.Indexed.{IsIndexed}
use Rattle.row_moves.proofs.Ended.{abandoned, committed}
use Rattle.row_moves.proofs.Keepers.{ended_keeper}
use Rattle.row_moves.proofs.Kept.{begun_indexed, refused_indexed}
use Rattle.row_moves.proofs.Returned.{returned}
use Rattle.slot_rows.specs.declared.open.Open.{Open}
use Rattle.slot_rows.specs.Opens.{log_in, touched_in}
use Rattle.slot_rows.specs.State.{Reserved, state_of}
use Rattle.slot_rows.specs.Stored.{IsStored}
use Rattle.indexed_store.specs.State.{store_state}
use Rattle.indexed_store.proofs.Consistent.{none_reserved, store_consistent}

-- ---- begin

module _ (schema now_schema : SchemaData) (keys : List Keys) (sequences : List ℤ) (s t : SlotState) (opens left : List Open) (moved : ℕ → List Moved) (client : ℕ)
    (same_schema : now_schema ≡ schema) (h : IsIndexed (store_state schema keys sequences s opens) moved keys) (stored : IsStored schema s (log_in opens) (touched_in opens)) (idle : (s.transaction client).begun ≡ false) where
  begin_is : store_state now_schema keys sequences t left ≡ store_state schema keys sequences t left
  begin_is = ap (λ (x : SchemaData). store_state x keys sequences t left) same_schema

  -- what the rows say of the call
  abbrev pub BeginSays : Type 0
  BeginSays = (reserved : Reserved) (values : List ℤ) → reserved client ≡ (λ key. false) → Begins (state_of schema reserved values s opens) (state_of schema reserved values t left) client

  pub begin_ok : BeginSays → Begins (store_state schema keys sequences s opens) (store_state now_schema keys sequences t left) client
  begin_ok says =
      subst (λ (x : RowState). Begins (store_state schema keys sequences s opens) x client) (sym begin_is)
      (says (reserved_at schema (keepers_of keys)) sequences (none_reserved schema keys s h.begun client idle))

  pub begin_err : {T : Type 0} (error : RowFault) → ((reserved : Reserved) (values : List ℤ) → AfterError {T = T} (state_of schema reserved values s opens) (state_of schema reserved values t left) (Err error))
      → AfterError {T = T} (store_state schema keys sequences s opens) (store_state now_schema keys sequences t left) (Err error)
  begin_err {T} error err = subst (λ (x : RowState). AfterError {T = T} (store_state schema keys sequences s opens) x (Err error)) (sym begin_is) (err (reserved_at schema (keepers_of keys)) sequences)

  sound : IsConsistent (store_state schema keys sequences s opens)
  sound = store_consistent schema keys sequences s opens stored h.begun

  pub begin_store : (result : Result (Unit {0}) RowFault) → OnOk result BeginSays → ((reserved : Reserved) (values : List ℤ) → AfterError (state_of schema reserved values s opens) (state_of schema reserved values t left) result)
      → IsIndexed (store_state now_schema keys sequences t left) moved keys
  begin_store (Ok x) says err = begun_indexed (store_state schema keys sequences s opens) (store_state now_schema keys sequences t left) client moved keys h (begin_ok says) sound idle
  begin_store (Err e) says err = refused_indexed (store_state schema keys sequences s opens) (store_state now_schema keys sequences t left) moved keys e (begin_err {T = Unit {0}} e err) h

-- ---- back

module _ (schema now_schema : SchemaData) (keys now : List Keys) (sequences : List ℤ) (s t : SlotState) (opens left : List Open) (was after : ℕ → List Moved) (client mark : ℕ)
    (same_schema : now_schema ≡ schema) (h : IsIndexed (store_state schema keys sequences s opens) was keys) (stored : IsStored schema s (log_in opens) (touched_in opens))
    (says : (reserved : Reserved) (values : List ℤ) → GoesBack (state_of schema reserved values s opens) (state_of schema reserved values t left) client mark)
    (places : places_of now ≡ all_undone client (drop mark (was client)) (places_of keys)) (keepers : keepers_of now ≡ keepers_of keys) (count : length now ≡ length keys)
    (own : after client ≡ take mark (was client)) (others : (d : ℕ) → d ≢ client → after d ≡ was d) where
  back_is : store_state now_schema now sequences t left ≡ store_state schema keys sequences t left
  back_is =
      ap (λ (x : SchemaData). store_state x now sequences t left) same_schema
      ∙ ap (λ (k : Keepers). state_of schema (reserved_at schema k) sequences t left) keepers

  pub back_ok : GoesBack (store_state schema keys sequences s opens) (store_state now_schema now sequences t left) client mark
  back_ok = subst (λ (x : RowState). GoesBack (store_state schema keys sequences s opens) x client mark) (sym back_is) (says (reserved_at schema (keepers_of keys)) sequences)

  pub back_store : IsIndexed (store_state now_schema now sequences t left) after now
  back_store =
      returned (store_state schema keys sequences s opens) (store_state now_schema now sequences t left) client mark keys now was after h back_ok
      (store_consistent schema keys sequences s opens stored h.begun) places keepers count own others

-- ---- the end of a transaction

freed_client : (client c : ℕ) (keeper : Option ℕ) → c ≢ client → is_client c (without_keeper client keeper) ≡ is_client c keeper
freed_client client c None ne = refl
freed_client client c (Some other) ne = by_client (eqb other client) refl
  where
    by_client : (b : Bool) → eqb other client ≡ b → is_client c (cond b None (Some other)) ≡ eqb other c
    by_client true e = sym (ne_eqb other c (λ is. ne (sym is ∙ eqb-true other client e)))
    by_client false e = refl

freed_others : (schema : SchemaData) (client c : ℕ) (keepers : Keepers) → c ≢ client → reserved_at schema (freed client keepers) c ≡ reserved_at schema keepers c
freed_others schema client c keepers ne =
    fun_ext (λ (key : Key). ap (λ (b : Bool). is_in_schema schema key && b) (freed_client client c (keepers (number_of schema key.table (Some key.index)) key.bytes) ne))

freed_own : (schema : SchemaData) (client : ℕ) (keepers : Keepers) → reserved_at schema (freed client keepers) client ≡ (λ key. false)
freed_own schema client keepers = reserved_none schema (freed client keepers) client (λ j key is. (ended_keeper client client (keepers j key) is).0 refl)

module _ (schema now_schema : SchemaData) (keys now : List Keys) (sequences stored_values : List ℤ) (s t : SlotState) (opens left : List Open) (was after : ℕ → List Moved) (client : ℕ)
    (same_schema : now_schema ≡ schema) (h : IsIndexed (store_state schema keys sequences s opens) was keys)
    (keepers : keepers_of now ≡ freed client (keepers_of keys)) (count : length now ≡ length keys)
    (own : after client ≡ []) (others : (d : ℕ) → d ≢ client → after d ≡ was d) where
  abbrev start : RowState
  start = store_state schema keys sequences s opens

  abbrev finish : RowState
  finish = store_state now_schema now stored_values t left

  finish_is : finish ≡ store_state schema now stored_values t left
  finish_is = ap (λ (x : SchemaData). store_state x now stored_values t left) same_schema

  own_none : reserved_at schema (keepers_of now) client ≡ (λ key. false)
  own_none = ap (λ (k : Keepers). reserved_at schema k client) keepers ∙ freed_own schema client (keepers_of keys)

  others_same : (c : ℕ) → c ≢ client → reserved_at schema (keepers_of now) c ≡ reserved_at schema (keepers_of keys) c
  others_same c ne = ap (λ (k : Keepers). reserved_at schema k c) keepers ∙ freed_others schema client c (keepers_of keys) ne

  -- what the rows say of a commit
  abbrev pub CommitSays : Type 0
  CommitSays =
      (first last : Reserved) (before later : List ℤ) → last client ≡ (λ key. false) → ((c : ℕ) → c ≢ client → last c ≡ first c)
      → Commits (state_of schema first before s opens) (state_of schema last later t left) client later

  pub commit_ok : CommitSays → Commits start finish client stored_values
  commit_ok says =
      subst (λ (x : RowState). Commits start x client stored_values) (sym finish_is)
      (says (reserved_at schema (keepers_of keys)) (reserved_at schema (keepers_of now)) sequences stored_values own_none others_same)

  pub commit_store : CommitSays → places_of now ≡ ended client (places_of keys) → IsIndexed finish after now
  commit_store says places =
      committed start finish client stored_values keys now was after h (commit_ok says)
      (λ d changes p ne can. ended_can_undo_all client d ne changes p can) (λ d changes k ne kept. freed_all_kept client d ne changes k kept) places keepers count own others

  abbrev pub AbandonSays : Type 0
  AbandonSays =
      (first last : Reserved) (values : List ℤ) → last client ≡ (λ key. false) → ((c : ℕ) → c ≢ client → last c ≡ first c) → Abandons (state_of schema first values s opens) (state_of schema last values t left) client

  pub abandon_ok : AbandonSays → stored_values ≡ sequences → Abandons start finish client
  abandon_ok says same =
      subst (λ (x : RowState). Abandons start x client) (sym finish_is)
      (subst (λ (v : List ℤ). Abandons start (store_state schema now v t left) client) (sym same)
      (says (reserved_at schema (keepers_of keys)) (reserved_at schema (keepers_of now)) sequences own_none others_same))

  pub abandon_store : AbandonSays → stored_values ≡ sequences → IsStored schema s (log_in opens) (touched_in opens) → places_of now ≡ ended client (all_undone client (was client) (places_of keys)) → IsIndexed finish after now
  abandon_store says same stored places =
      abandoned start finish client keys now was after h (abandon_ok says same) (store_consistent schema keys sequences s opens stored h.begun)
      (λ d changes p ne can. ended_can_undo_all client d ne changes p can) (λ d changes k ne kept. freed_all_kept client d ne changes k kept) places keepers count own others
