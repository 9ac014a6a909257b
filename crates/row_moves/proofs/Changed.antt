-- The indexes of a store of rows after a change of one row.
use Rattle.std.proofs.Common.{◌≡◌, ◌≢◌, ◌⊎◌, inl, inr, ℕ, ◌||◌, Bool, true, false, cond, eqb, eqb-true, eq-eqb, List, [], ◌∷◌, ◌++◌, length, Option, Some, None, IsTrue, IsFalse, refl, sym, ap, ◌∙◌, subst}
use Rattle.std.proofs.lemmas.Bool.{cases_eq, or_left}
use Rattle.abl_values.specs.Schema.{SchemaData}
use Rattle.database_meaning.specs.declared.state.StoredRow.{StoredRow}
use Rattle.row_store.specs.declared.store.RowChange.{RowChange}
use Rattle.row_store.specs.Changes.{RowsById, has_change, with_row}
use Rattle.row_store.specs.Rows.{ChangesRow, IsConsistent, IsObservable, RowState, RowTransaction}
use Rattle.key_index.specs.Index.{Keys}
use Rattle.row_indexes.specs.declared.moves.Moved.{Moved}
use Rattle.row_indexes.specs.Places.{AreKept, AreWithin, Keepers, Places, keepers_of, places_of, undone}
use Rattle.row_indexes.specs.Changes.{AreAllKept, AreAllWithin, CanUndoAll, IsOfRow}
use Rattle.row_indexes.specs.Making.{CanMake, kept_after, made}
use Rattle.row_indexes.proofs.Made.{all_kept_made, made_can}
use Rattle.row_indexes.proofs.Taking.{all_can_apart}
use Rattle.row_keys.specs.Entries.{AreEntries, AreEntriesAt}
use Rattle.row_keys.specs.Numbers.{index_count}
use Rattle.row_moves.specs.Indexed.{AreFit, AreOfSameRows, FitsSchema, IsIndexed, LeadBack}
use Rattle.row_moves.proofs.Fitting.{fit_more, with_fits}
use Rattle.row_moves.proofs.Same.{HasSameEntries, entries_at, entries_on, made_apart, made_same}
use Rattle.row_moves.proofs.Parts.{kept_more, lead_apart, lead_more, row_of_change, rows_more, within_more}
use Rattle.row_moves.proofs.Keepers.{keeper_after, keeper_other, made_kept}

kept_others : (client row d : ℕ) (moved : List Moved) (m : Moved) (p : Places) (keepers : Keepers) → CanMake client row m.moves.items p keepers → d ≢ client → AreAllKept d moved keepers → AreAllKept d moved (kept_after client m.moves.items keepers)
kept_others client row d [] m p keepers can ne kept = tt
kept_others client row d (y ∷ moved) m p keepers can ne kept = (one y.moves.items kept.0, kept_others client row d moved m p keepers can ne kept.1)
  where
    one : (moves : List _) → AreKept d moves keepers → AreKept d moves (kept_after client m.moves.items keepers)
    one [] k = tt
    one (x ∷ moves) k = ((λ u. keeper_other client row m.moves.items p keepers x.index x.key d can ne (k.0 u)), one moves k.1)

module _ (old new : RowState) (client : ℕ) (value : Option StoredRow) (was now : List Keys) (moved left : ℕ → List Moved) (m : Moved)
    (h : IsIndexed old moved was) (c : ChangesRow old new client m.row value) (sound : IsConsistent new)
    (can : CanMake client m.row m.moves.items (places_of was) (keepers_of was)) (within : AreWithin (index_count old.schema) m.moves.items)
    (places : places_of now ≡ made client m.row m.moves.items (places_of was)) (keepers : keepers_of now ≡ kept_after client m.moves.items (keepers_of was)) (count : length now ≡ length was)
    (own : left client ≡ moved client ++ m ∷ []) (others : (d : ℕ) → d ≢ client → left d ≡ moved d)
    (fits : FitsSchema old.schema value)
    (entries : IsObservable old → AreEntriesAt old.schema (old.rows m.row) (places_of was) m.row → AreEntriesAt old.schema value (made client m.row m.moves.items (places_of was)) m.row) where
  abbrev after : Places
  after = made client m.row m.moves.items (places_of was)

  abbrev change : RowChange
  change = record { row = m.row; old = c.before }

  known : IsObservable new → IsObservable old
  known k = (subst IsTrue c.base.observable k.0, sym c.base.failed ∙ k.1)

  changes_own : (new.transaction client).changes ≡ (old.transaction client).changes ++ change ∷ []
  changes_own = ap (λ (t : RowTransaction). t.changes) c.transaction.own

  changes_other : (d : ℕ) → d ≢ client → (new.transaction d).changes ≡ (old.transaction d).changes
  changes_other d ne = ap (λ (t : RowTransaction). t.changes) (c.transaction.others d ne)

  -- no other client changed the row
  not_changed : (d : ℕ) → d ≢ client → (i : ℕ) → has_change (old.transaction d).changes i ≡ true → i ≡ m.row → ⊥
  not_changed d ne i is here =
      let there : has_change (new.transaction d).changes m.row ≡ true = ap (λ (l : List RowChange). has_change l m.row) (changes_other d ne) ∙ (ap (has_change (old.transaction d).changes) (sym here) ∙ is) in
      let theirs = sound.touched d m.row there in
      let ours : (new.transaction client).touched m.row ≡ true = ap (λ (t : RowTransaction). t.touched m.row) c.transaction.own ∙ or_left (eqb m.row m.row) ((old.transaction client).touched m.row) (eq-eqb m.row m.row refl) in
      let clash : true ≡ false = sym theirs ∙ sound.apart client d m.row (λ e. ne (sym e)) ours in
      cc

  entries_after : IsObservable old → AreEntries old.schema (with_row old.rows m.row value) after
  entries_after k = λ i. by_row i (eqb i m.row) refl
    where
      by_row : (i : ℕ) (b : Bool) → eqb i m.row ≡ b → AreEntriesAt old.schema (cond b value (old.rows i)) after i
      by_row i true e = subst (AreEntriesAt old.schema value after) (sym (eqb-true i m.row e)) (entries k (h.entries k m.row))
      by_row i false e =
          entries_on old.schema (old.rows i) (places_of was) after i
          (λ j key. made_apart client m.row m.moves.items (places_of was) j key i (λ is. let clash : true ≡ false = sym (eq-eqb i m.row is) ∙ e in cc)) (h.entries k i)

  fit_of : IsObservable old → (d : ℕ) → AreFit old.schema (new.transaction d).changes
  fit_of k d = elim (cases_eq d client) [
    | inl e ↦ subst (λ (i : ℕ). AreFit old.schema (new.transaction i).changes) (sym e)
        (subst (AreFit old.schema) (sym changes_own)
        (fit_more old.schema (old.transaction client).changes change (h.old_fitting k client) (subst (FitsSchema old.schema) (sym (c.before_is k)) (h.fitting k m.row))))
    | inr ne ↦ subst (AreFit old.schema) (sym (changes_other d ne)) (h.old_fitting k d)
  ]

  rows_of : (d : ℕ) → AreOfSameRows (new.transaction d).changes (left d)
  rows_of d = elim (cases_eq d client) [
    | inl e ↦ subst (λ (i : ℕ). AreOfSameRows (new.transaction i).changes (left i)) (sym e)
        (subst (AreOfSameRows (new.transaction client).changes) (sym own)
        (subst (λ (l : List RowChange). AreOfSameRows l (moved client ++ m ∷ [])) (sym changes_own) (rows_more (old.transaction client).changes (moved client) change m (h.rows client) refl)))
    | inr ne ↦ subst (AreOfSameRows (new.transaction d).changes) (sym (others d ne)) (subst (λ (l : List RowChange). AreOfSameRows l (moved d)) (sym (changes_other d ne)) (h.rows d))
  ]

  back_own : IsObservable old → LeadBack old.schema client ((old.transaction client).changes ++ change ∷ []) (moved client ++ m ∷ []) after
  back_own k =
      lead_more old.schema client (old.transaction client).changes (moved client) change m (places_of was) after same (h.back k client)
      (entries_at old.schema c.before (places_of was) (undone client m.row m.moves.items after) m.row (λ j key. same j key m.row)
      (subst (λ (r : Option StoredRow). AreEntriesAt old.schema r (places_of was) m.row) (sym (c.before_is k)) (h.entries k m.row)))
    where
      same : HasSameEntries (undone client m.row m.moves.items after) (places_of was)
      same = made_same client m.row m.moves.items (places_of was) (keepers_of was) can

  back_other : IsObservable old → (d : ℕ) → d ≢ client → LeadBack old.schema d (old.transaction d).changes (moved d) after
  back_other k d ne =
      lead_apart old.schema d (old.transaction d).changes (moved d) (places_of was) after
      (λ j key i is. made_apart client m.row m.moves.items (places_of was) j key i (λ here. not_changed d ne i is here)) (h.back k d)

  back_of : IsObservable old → (d : ℕ) → LeadBack old.schema d (new.transaction d).changes (left d) after
  back_of k d = elim (cases_eq d client) [
    | inl e ↦ subst (λ (i : ℕ). LeadBack old.schema i (new.transaction i).changes (left i) after) (sym e)
        (subst (λ (l : List Moved). LeadBack old.schema client (new.transaction client).changes l after) (sym own)
        (subst (λ (l : List RowChange). LeadBack old.schema client l (moved client ++ m ∷ []) after) (sym changes_own) (back_own k)))
    | inr ne ↦ subst (λ (l : List Moved). LeadBack old.schema d (new.transaction d).changes l after) (sym (others d ne))
        (subst (λ (l : List RowChange). LeadBack old.schema d l (moved d) after) (sym (changes_other d ne)) (back_other k d ne))
  ]

  can_of : (d : ℕ) → CanUndoAll d (left d) after
  can_of d = elim (cases_eq d client) [
    | inl e ↦ subst (λ (i : ℕ). CanUndoAll i (left i) after) (sym e)
        (subst (λ (l : List Moved). CanUndoAll client l after) (sym own) (made_can client (moved client) m (places_of was) (keepers_of was) can (h.can client)))
    | inr ne ↦ subst (λ (l : List Moved). CanUndoAll d l after) (sym (others d ne))
        (all_can_apart d (moved d) (places_of was) after
        (λ j key i of. made_apart client m.row m.moves.items (places_of was) j key i (λ here. not_changed d ne i (row_of_change (old.transaction d).changes (moved d) i (h.rows d) of) here)) (h.can d))
  ]

  reserved_of : (d : ℕ) → AreAllKept d (left d) (kept_after client m.moves.items (keepers_of was))
  reserved_of d = elim (cases_eq d client) [
    | inl e ↦ subst (λ (i : ℕ). AreAllKept i (left i) (kept_after client m.moves.items (keepers_of was))) (sym e)
        (subst (λ (l : List Moved). AreAllKept client l (kept_after client m.moves.items (keepers_of was))) (sym own)
        (kept_more client (moved client) m (kept_after client m.moves.items (keepers_of was)) (all_kept_made client (moved client) m.moves.items (keepers_of was) (h.reserved client)) (made_kept client m.moves.items (keepers_of was))))
    | inr ne ↦ subst (λ (l : List Moved). AreAllKept d l (kept_after client m.moves.items (keepers_of was))) (sym (others d ne))
        (kept_others client m.row d (moved d) m (places_of was) (keepers_of was) can ne (h.reserved d))
  ]

  within_of : (d : ℕ) → AreAllWithin (index_count old.schema) (left d)
  within_of d = elim (cases_eq d client) [
    | inl e ↦ subst (λ (i : ℕ). AreAllWithin (index_count old.schema) (left i)) (sym e)
        (subst (AreAllWithin (index_count old.schema)) (sym own) (within_more (index_count old.schema) (moved client) m (h.within client) within))
    | inr ne ↦ subst (AreAllWithin (index_count old.schema)) (sym (others d ne)) (h.within d)
  ]

  own_begun : (new.transaction client).begun ≡ true
  own_begun = ap (λ (t : RowTransaction). t.begun) c.transaction.own

  begun_of : (d j : ℕ) (key : List ℕ) → kept_after client m.moves.items (keepers_of was) j key ≡ Some d → (new.transaction d).begun ≡ true
  begun_of d j key is = elim (cases_eq d client) [
    | inl e ↦ ap (λ (i : ℕ). (new.transaction i).begun) e ∙ own_begun
    | inr ne ↦ elim (keeper_after client m.moves.items (keepers_of was) j key d is) [
      | inl e ↦ absurd (ne e)
      | inr before ↦ ap (λ (t : RowTransaction). t.begun) (c.transaction.others d ne) ∙ h.begun d j key before
    ]
  ]

  pub changed : IsIndexed new left now
  changed = record {
    count = count ∙ (h.count ∙ ap index_count (sym c.base.schema));
    entries = λ k.
        subst (λ (s : SchemaData). AreEntries s new.rows (places_of now)) (sym c.base.schema)
        (subst (λ (r : RowsById). AreEntries old.schema r (places_of now)) (sym (c.rows (known k)))
        (subst (AreEntries old.schema (with_row old.rows m.row value)) (sym places) (entries_after (known k))));
    fitting = λ k.
        subst (λ (s : SchemaData). (i : ℕ) → FitsSchema s (new.rows i)) (sym c.base.schema)
        (subst (λ (r : RowsById). (i : ℕ) → FitsSchema old.schema (r i)) (sym (c.rows (known k))) (with_fits old.schema old.rows m.row value (h.fitting (known k)) fits));
    old_fitting = λ k d. subst (λ (s : SchemaData). AreFit s (new.transaction d).changes) (sym c.base.schema) (fit_of (known k) d);
    rows = rows_of;
    back = λ k d.
        subst (λ (s : SchemaData). LeadBack s d (new.transaction d).changes (left d) (places_of now)) (sym c.base.schema)
        (subst (LeadBack old.schema d (new.transaction d).changes (left d)) (sym places) (back_of (known k) d));
    can = λ d. subst (CanUndoAll d (left d)) (sym places) (can_of d);
    reserved = λ d. subst (AreAllKept d (left d)) (sym keepers) (reserved_of d);
    within = λ d. subst (λ (s : SchemaData). AreAllWithin (index_count s) (left d)) (sym c.base.schema) (within_of d);
    begun = λ d j key is. begun_of d j key (ap (λ (f : Keepers). f j key) (sym keepers) ∙ is);
  }
