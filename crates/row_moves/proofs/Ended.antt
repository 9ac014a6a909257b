-- The indexes of a store of rows after a transaction ended.
use Rattle.std.proofs.Common.{◌≡◌, ◌≢◌, ◌↔◌, inl, inr, ℕ, Bool, true, false, cond, eqb, List, [], ◌∷◌, length, Option, Some, None, IsTrue, ℤ, refl, sym, ap, ◌∙◌, subst}
use Rattle.std.proofs.lemmas.Bool.{cases_eq}
use Rattle.abl_values.specs.Schema.{SchemaData}
use Rattle.row_store.specs.declared.store.RowChange.{RowChange}
use Rattle.row_store.specs.Changes.{RowsById, has_change}
use Rattle.row_store.specs.Changes as rows
use Rattle.row_store.specs.Rows.{Abandons, Becomes, Commits, IsConsistent, IsObservable, RowState, RowTransaction, no_transaction}
use Rattle.key_index.specs.Index.{Keys}
use Rattle.key_index.specs.Places.{without_left}
use Rattle.row_indexes.specs.declared.moves.Moved.{Moved}
use Rattle.row_indexes.specs.Places.{Keepers, Places, keepers_of, places_of}
use Rattle.row_indexes.specs.Changes.{AreAllKept, AreAllWithin, CanUndoAll, all_undone}
use Rattle.row_indexes.proofs.Taking.{all_can_apart}
use Rattle.row_indexes.specs.index_changes.Ending.{ended, freed}
use Rattle.row_keys.specs.Entries.{AreEntries}
use Rattle.row_keys.specs.Numbers.{index_count}
use Rattle.row_moves.specs.Indexed.{AreFit, AreOfSameRows, FitsSchema, IsIndexed, LeadBack}
use Rattle.row_moves.proofs.Fitting.{undone_fits}
use Rattle.row_moves.proofs.Same.{HasSameEntries, back_entries, entries_at}
use Rattle.row_moves.proofs.Parts.{lead_apart, lead_same, row_of_change, undone_apart}
use Rattle.row_moves.proofs.Keepers.{ended_keeper, ended_other}
use Rattle.row_moves.proofs.Returned.{apart_changes}

-- an end takes no entry away
left_alone : (client : ℕ) (place : Option (Option ℕ)) → (without_left client place ≡ Some None) ↔ (place ≡ Some None)
left_alone client None = (λ e. e, λ e. e)
left_alone client (Some None) = (λ e. e, λ e. e)
left_alone client (Some (Some other)) = by_client (eqb other client)
  where
    by_client : (b : Bool) → (cond b None (Some (Some other)) ≡ Some None) ↔ (Some (Some other) ≡ Some None)
    by_client true = (λ e. absurd (cc e), λ e. absurd (cc e))
    by_client false = (λ e. e, λ e. e)

pub ended_same : (client : ℕ) (p : Places) → HasSameEntries (ended client p) p
ended_same client p = λ j key k. left_alone client (p j key k)

-- the rows that stay have their entries in these places, and those of other clients' changes are as they were
module _ (old new : RowState) (client : ℕ) (was now : List Keys) (moved left : ℕ → List Moved) (middle : Places)
    (h : IsIndexed old moved was) (schema : new.schema ≡ old.schema) (observable : new.observable ≡ old.observable) (failed : new.failed ≡ old.failed)
    (becomes : Becomes client old.transaction new.transaction no_transaction)
    (entries : IsObservable old → AreEntries old.schema new.rows middle) (fits : IsObservable old → (k : ℕ) → FitsSchema old.schema (new.rows k))
    (apart : (d : ℕ) → d ≢ client → (j : ℕ) (key : List ℕ) (i : ℕ) → has_change (old.transaction d).changes i ≡ true → middle j key i ≡ places_of was j key i)
    (can_end : (d : ℕ) (changes : List Moved) (p : Places) → d ≢ client → CanUndoAll d changes p → CanUndoAll d changes (ended client p))
    (kept_end : (d : ℕ) (changes : List Moved) (k : Keepers) → d ≢ client → AreAllKept d changes k → AreAllKept d changes (freed client k))
    (places : places_of now ≡ ended client middle) (keepers : keepers_of now ≡ freed client (keepers_of was)) (count : length now ≡ length was)
    (own : left client ≡ []) (others : (d : ℕ) → d ≢ client → left d ≡ moved d) where
  known : IsObservable new → IsObservable old
  known k = (subst IsTrue observable k.0, sym failed ∙ k.1)

  changes_own : (new.transaction client).changes ≡ []
  changes_own = ap (λ (t : RowTransaction). t.changes) becomes.own

  changes_other : (d : ℕ) → d ≢ client → (new.transaction d).changes ≡ (old.transaction d).changes
  changes_other d ne = ap (λ (t : RowTransaction). t.changes) (becomes.others d ne)

  fit_of : IsObservable old → (d : ℕ) → AreFit old.schema (new.transaction d).changes
  fit_of k d = elim (cases_eq d client) [
    | inl e ↦ subst (λ (i : ℕ). AreFit old.schema (new.transaction i).changes) (sym e) (subst (AreFit old.schema) (sym changes_own) tt)
    | inr ne ↦ subst (AreFit old.schema) (sym (changes_other d ne)) (h.old_fitting k d)
  ]

  rows_of : (d : ℕ) → AreOfSameRows (new.transaction d).changes (left d)
  rows_of d = elim (cases_eq d client) [
    | inl e ↦ subst (λ (i : ℕ). AreOfSameRows (new.transaction i).changes (left i)) (sym e)
        (subst (AreOfSameRows (new.transaction client).changes) (sym own) (subst (λ (l : List RowChange). AreOfSameRows l []) (sym changes_own) tt))
    | inr ne ↦ subst (AreOfSameRows (new.transaction d).changes) (sym (others d ne)) (subst (λ (l : List RowChange). AreOfSameRows l (moved d)) (sym (changes_other d ne)) (h.rows d))
  ]

  back_of : IsObservable old → (d : ℕ) → LeadBack old.schema d (new.transaction d).changes (left d) (ended client middle)
  back_of k d = elim (cases_eq d client) [
    | inl e ↦ subst (λ (i : ℕ). LeadBack old.schema i (new.transaction i).changes (left i) (ended client middle)) (sym e)
        (subst (λ (l : List Moved). LeadBack old.schema client (new.transaction client).changes l (ended client middle)) (sym own)
        (subst (λ (l : List RowChange). LeadBack old.schema client l [] (ended client middle)) (sym changes_own) tt))
    | inr ne ↦ subst (λ (l : List Moved). LeadBack old.schema d (new.transaction d).changes l (ended client middle)) (sym (others d ne))
        (subst (λ (l : List RowChange). LeadBack old.schema d l (moved d) (ended client middle)) (sym (changes_other d ne))
        (lead_same old.schema d (old.transaction d).changes (moved d) middle (ended client middle) (ended_same client middle)
        (lead_apart old.schema d (old.transaction d).changes (moved d) (places_of was) middle (apart d ne) (h.back k d))))
  ]

  can_of : (d : ℕ) → CanUndoAll d (left d) (ended client middle)
  can_of d = elim (cases_eq d client) [
    | inl e ↦ subst (λ (i : ℕ). CanUndoAll i (left i) (ended client middle)) (sym e) (subst (λ (l : List Moved). CanUndoAll client l (ended client middle)) (sym own) tt)
    | inr ne ↦ subst (λ (l : List Moved). CanUndoAll d l (ended client middle)) (sym (others d ne))
        (can_end d (moved d) middle ne
        (all_can_apart d (moved d) (places_of was) middle (λ j key i of. apart d ne j key i (row_of_change (old.transaction d).changes (moved d) i (h.rows d) of)) (h.can d)))
  ]

  reserved_of : (d : ℕ) → AreAllKept d (left d) (freed client (keepers_of was))
  reserved_of d = elim (cases_eq d client) [
    | inl e ↦ subst (λ (i : ℕ). AreAllKept i (left i) (freed client (keepers_of was))) (sym e) (subst (λ (l : List Moved). AreAllKept client l (freed client (keepers_of was))) (sym own) tt)
    | inr ne ↦ subst (λ (l : List Moved). AreAllKept d l (freed client (keepers_of was))) (sym (others d ne)) (kept_end d (moved d) (keepers_of was) ne (h.reserved d))
  ]

  within_of : (d : ℕ) → AreAllWithin (index_count old.schema) (left d)
  within_of d = elim (cases_eq d client) [
    | inl e ↦ subst (λ (i : ℕ). AreAllWithin (index_count old.schema) (left i)) (sym e) (subst (AreAllWithin (index_count old.schema)) (sym own) tt)
    | inr ne ↦ subst (AreAllWithin (index_count old.schema)) (sym (others d ne)) (h.within d)
  ]

  begun_of : (d j : ℕ) (key : List ℕ) → freed client (keepers_of was) j key ≡ Some d → (new.transaction d).begun ≡ true
  begun_of d j key is =
      let was_kept = ended_keeper client d (keepers_of was j key) is in
      ap (λ (t : RowTransaction). t.begun) (becomes.others d was_kept.0) ∙ h.begun d j key was_kept.1

  pub ended_indexed : IsIndexed new left now
  ended_indexed = record {
    count = count ∙ (h.count ∙ ap index_count (sym schema));
    entries = λ k.
        subst (λ (s : SchemaData). AreEntries s new.rows (places_of now)) (sym schema)
        (subst (AreEntries old.schema new.rows) (sym places)
        (λ i. entries_at old.schema (new.rows i) middle (ended client middle) i (λ j key. ended_same client middle j key i) (entries (known k) i)));
    fitting = λ k. subst (λ (s : SchemaData). (i : ℕ) → FitsSchema s (new.rows i)) (sym schema) (fits (known k));
    old_fitting = λ k d. subst (λ (s : SchemaData). AreFit s (new.transaction d).changes) (sym schema) (fit_of (known k) d);
    rows = rows_of;
    back = λ k d.
        subst (λ (s : SchemaData). LeadBack s d (new.transaction d).changes (left d) (places_of now)) (sym schema)
        (subst (LeadBack old.schema d (new.transaction d).changes (left d)) (sym places) (back_of (known k) d));
    can = λ d. subst (CanUndoAll d (left d)) (sym places) (can_of d);
    reserved = λ d. subst (AreAllKept d (left d)) (sym keepers) (reserved_of d);
    within = λ d. subst (λ (s : SchemaData). AreAllWithin (index_count s) (left d)) (sym schema) (within_of d);
    begun = λ d j key is. begun_of d j key (ap (λ (f : Keepers). f j key) (sym keepers) ∙ is);
  }

-- a transaction was committed
module _ (old new : RowState) (client : ℕ) (sequences : List ℤ) (was now : List Keys) (moved left : ℕ → List Moved)
    (h : IsIndexed old moved was) (c : Commits old new client sequences)
    (can_end : (d : ℕ) (changes : List Moved) (p : Places) → d ≢ client → CanUndoAll d changes p → CanUndoAll d changes (ended client p))
    (kept_end : (d : ℕ) (changes : List Moved) (k : Keepers) → d ≢ client → AreAllKept d changes k → AreAllKept d changes (freed client k))
    (places : places_of now ≡ ended client (places_of was)) (keepers : keepers_of now ≡ freed client (keepers_of was)) (count : length now ≡ length was)
    (own : left client ≡ []) (others : (d : ℕ) → d ≢ client → left d ≡ moved d) where
  pub committed : IsIndexed new left now
  committed =
      ended_indexed old new client was now moved left (places_of was) h c.schema c.observable c.failed c.transaction
      (λ k. subst (λ (r : RowsById). AreEntries old.schema r (places_of was)) (sym c.rows) (h.entries k))
      (λ k. subst (λ (r : RowsById). (i : ℕ) → FitsSchema old.schema (r i)) (sym c.rows) (h.fitting k)) (λ d ne j key i is. refl) can_end kept_end places keepers count own others

-- a transaction was given up
module _ (old new : RowState) (client : ℕ) (was now : List Keys) (moved left : ℕ → List Moved)
    (h : IsIndexed old moved was) (a : Abandons old new client) (sound : IsConsistent old)
    (can_end : (d : ℕ) (changes : List Moved) (p : Places) → d ≢ client → CanUndoAll d changes p → CanUndoAll d changes (ended client p))
    (kept_end : (d : ℕ) (changes : List Moved) (k : Keepers) → d ≢ client → AreAllKept d changes k → AreAllKept d changes (freed client k))
    (places : places_of now ≡ ended client (all_undone client (moved client) (places_of was))) (keepers : keepers_of now ≡ freed client (keepers_of was)) (count : length now ≡ length was)
    (own : left client ≡ []) (others : (d : ℕ) → d ≢ client → left d ≡ moved d) where
  pub abandoned : IsIndexed new left now
  abandoned =
      ended_indexed old new client was now moved left (all_undone client (moved client) (places_of was)) h a.base.schema a.base.observable a.base.failed a.transaction
      (λ k. subst (λ (r : RowsById). AreEntries old.schema r (all_undone client (moved client) (places_of was))) (sym (a.rows k))
      (back_entries old.schema client (old.transaction client).changes (moved client) old.rows (places_of was) (h.rows client) (h.back k client) (h.entries k)))
      (λ k. subst (λ (r : RowsById). (i : ℕ) → FitsSchema old.schema (r i)) (sym (a.rows k)) (undone_fits old.schema (old.transaction client).changes old.rows (h.old_fitting k client) (h.fitting k)))
      (λ d ne j key i is.
      undone_apart client (moved client) (places_of was) j key i
      (λ of. apart_changes old sound client d i (λ e. ne (sym e)) (row_of_change (old.transaction client).changes (moved client) i (h.rows client) of) is))
      can_end kept_end places keepers count own others
