-- The indexes of a store of rows after a client went back to a mark.
use Rattle.std.proofs.Common.{◌≡◌, ◌≢◌, inl, inr, ℕ, zero, suc, ◌||◌, Bool, true, false, eqb, List, [], ◌∷◌, length, take, drop, Some, IsTrue, refl, sym, ap, ◌∙◌, subst}
use Rattle.std.proofs.lemmas.Bool.{cases_eq}
use Rattle.abl_values.specs.Schema.{SchemaData}
use Rattle.row_store.specs.declared.store.RowChange.{RowChange}
use Rattle.row_store.specs.Changes.{RowsById, has_change}
use Rattle.row_store.specs.Changes as rows
use Rattle.row_store.specs.Rows.{GoesBack, IsConsistent, IsObservable, RowState, RowTransaction}
use Rattle.key_index.specs.Index.{Keys}
use Rattle.row_indexes.specs.declared.moves.Moved.{Moved}
use Rattle.row_indexes.specs.Places.{Keepers, Places, keepers_of, places_of}
use Rattle.row_indexes.specs.Changes.{AreAllKept, AreAllWithin, CanUndoAll, IsOfRow, all_undone}
use Rattle.row_indexes.proofs.Taking.{all_can_apart}
use Rattle.row_keys.specs.Entries.{AreEntries}
use Rattle.row_keys.specs.Numbers.{index_count}
use Rattle.row_moves.specs.Indexed.{AreFit, AreOfSameRows, FitsSchema, IsIndexed, LeadBack}
use Rattle.row_moves.proofs.Fitting.{fit_first, fit_last, undone_fits}
use Rattle.row_moves.proofs.Same.{back_entries}
use Rattle.row_moves.proofs.Parts.{can_first, kept_first, lead_apart, lead_first, lead_last, or_true, row_of_change, rows_first, rows_last, undone_apart, within_first}

-- a change after a number is a change
pub changed_later : (n : ℕ) (changes : List RowChange) (k : ℕ) → has_change (drop n changes) k ≡ true → has_change changes k ≡ true
changed_later zero changes k is = is
changed_later (suc n) [] k is = is
changed_later (suc n) (x ∷ changes) k is = or_true (eqb k x.row) (has_change changes k) (changed_later n changes k is)

-- no two clients changed one row
pub apart_changes : (s : RowState) → IsConsistent s → (c d k : ℕ) → c ≢ d → has_change (s.transaction c).changes k ≡ true → has_change (s.transaction d).changes k ≡ true → ⊥
apart_changes s sound c d k ne ours theirs =
    let clash : true ≡ false = sym (sound.touched d k theirs) ∙ sound.apart c d k ne (sound.touched c k ours) in
    cc

module _ (old new : RowState) (client mark : ℕ) (was now : List Keys) (moved left : ℕ → List Moved)
    (h : IsIndexed old moved was) (b : GoesBack old new client mark) (sound : IsConsistent old)
    (places : places_of now ≡ all_undone client (drop mark (moved client)) (places_of was)) (keepers : keepers_of now ≡ keepers_of was) (count : length now ≡ length was)
    (own : left client ≡ take mark (moved client)) (others : (d : ℕ) → d ≢ client → left d ≡ moved d) where
  abbrev after : Places
  after = all_undone client (drop mark (moved client)) (places_of was)

  known : IsObservable new → IsObservable old
  known k = (subst IsTrue b.base.observable k.0, sym b.base.failed ∙ k.1)

  changes_own : (new.transaction client).changes ≡ take mark (old.transaction client).changes
  changes_own = ap (λ (t : RowTransaction). t.changes) b.transaction.own

  changes_other : (d : ℕ) → d ≢ client → (new.transaction d).changes ≡ (old.transaction d).changes
  changes_other d ne = ap (λ (t : RowTransaction). t.changes) (b.transaction.others d ne)

  -- the rows of other clients have the places that they had
  apart : (d : ℕ) → d ≢ client → (j : ℕ) (key : List ℕ) (i : ℕ) → has_change (old.transaction d).changes i ≡ true → after j key i ≡ places_of was j key i
  apart d ne j key i is =
      undone_apart client (drop mark (moved client)) (places_of was) j key i
      (λ of. apart_changes old sound client d i (λ e. ne (sym e))
      (changed_later mark (old.transaction client).changes i
      (row_of_change (drop mark (old.transaction client).changes) (drop mark (moved client)) i (rows_last mark (old.transaction client).changes (moved client) (h.rows client)) of)) is)

  fit_of : IsObservable old → (d : ℕ) → AreFit old.schema (new.transaction d).changes
  fit_of k d = elim (cases_eq d client) [
    | inl e ↦ subst (λ (i : ℕ). AreFit old.schema (new.transaction i).changes) (sym e)
        (subst (AreFit old.schema) (sym changes_own) (fit_first mark old.schema (old.transaction client).changes (h.old_fitting k client)))
    | inr ne ↦ subst (AreFit old.schema) (sym (changes_other d ne)) (h.old_fitting k d)
  ]

  rows_of : (d : ℕ) → AreOfSameRows (new.transaction d).changes (left d)
  rows_of d = elim (cases_eq d client) [
    | inl e ↦ subst (λ (i : ℕ). AreOfSameRows (new.transaction i).changes (left i)) (sym e)
        (subst (AreOfSameRows (new.transaction client).changes) (sym own)
        (subst (λ (l : List RowChange). AreOfSameRows l (take mark (moved client))) (sym changes_own) (rows_first mark (old.transaction client).changes (moved client) (h.rows client))))
    | inr ne ↦ subst (AreOfSameRows (new.transaction d).changes) (sym (others d ne)) (subst (λ (l : List RowChange). AreOfSameRows l (moved d)) (sym (changes_other d ne)) (h.rows d))
  ]

  back_of : IsObservable old → (d : ℕ) → LeadBack old.schema d (new.transaction d).changes (left d) after
  back_of k d = elim (cases_eq d client) [
    | inl e ↦ subst (λ (i : ℕ). LeadBack old.schema i (new.transaction i).changes (left i) after) (sym e)
        (subst (λ (l : List Moved). LeadBack old.schema client (new.transaction client).changes l after) (sym own)
        (subst (λ (l : List RowChange). LeadBack old.schema client l (take mark (moved client)) after) (sym changes_own)
        (lead_first mark old.schema client (old.transaction client).changes (moved client) (places_of was) (h.back k client))))
    | inr ne ↦ subst (λ (l : List Moved). LeadBack old.schema d (new.transaction d).changes l after) (sym (others d ne))
        (subst (λ (l : List RowChange). LeadBack old.schema d l (moved d) after) (sym (changes_other d ne))
        (lead_apart old.schema d (old.transaction d).changes (moved d) (places_of was) after (apart d ne) (h.back k d)))
  ]

  can_of : (d : ℕ) → CanUndoAll d (left d) after
  can_of d = elim (cases_eq d client) [
    | inl e ↦ subst (λ (i : ℕ). CanUndoAll i (left i) after) (sym e)
        (subst (λ (l : List Moved). CanUndoAll client l after) (sym own) (can_first mark client (moved client) (places_of was) (h.can client)))
    | inr ne ↦ subst (λ (l : List Moved). CanUndoAll d l after) (sym (others d ne))
        (all_can_apart d (moved d) (places_of was) after (λ j key i of. apart d ne j key i (row_of_change (old.transaction d).changes (moved d) i (h.rows d) of)) (h.can d))
  ]

  reserved_of : (d : ℕ) → AreAllKept d (left d) (keepers_of was)
  reserved_of d = elim (cases_eq d client) [
    | inl e ↦ subst (λ (i : ℕ). AreAllKept i (left i) (keepers_of was)) (sym e)
        (subst (λ (l : List Moved). AreAllKept client l (keepers_of was)) (sym own) (kept_first mark client (moved client) (keepers_of was) (h.reserved client)))
    | inr ne ↦ subst (λ (l : List Moved). AreAllKept d l (keepers_of was)) (sym (others d ne)) (h.reserved d)
  ]

  within_of : (d : ℕ) → AreAllWithin (index_count old.schema) (left d)
  within_of d = elim (cases_eq d client) [
    | inl e ↦ subst (λ (i : ℕ). AreAllWithin (index_count old.schema) (left i)) (sym e)
        (subst (AreAllWithin (index_count old.schema)) (sym own) (within_first mark (index_count old.schema) (moved client) (h.within client)))
    | inr ne ↦ subst (AreAllWithin (index_count old.schema)) (sym (others d ne)) (h.within d)
  ]

  begun_of : (d j : ℕ) (key : List ℕ) → keepers_of was j key ≡ Some d → (new.transaction d).begun ≡ true
  begun_of d j key is = elim (cases_eq d client) [
    | inl e ↦ ap (λ (i : ℕ). (new.transaction i).begun) e ∙ (ap (λ (t : RowTransaction). t.begun) b.transaction.own ∙ (ap (λ (i : ℕ). (old.transaction i).begun) (sym e) ∙ h.begun d j key is))
    | inr ne ↦ ap (λ (t : RowTransaction). t.begun) (b.transaction.others d ne) ∙ h.begun d j key is
  ]

  pub returned : IsIndexed new left now
  returned = record {
    count = count ∙ (h.count ∙ ap index_count (sym b.base.schema));
    entries = λ k.
        subst (λ (s : SchemaData). AreEntries s new.rows (places_of now)) (sym b.base.schema)
        (subst (λ (r : RowsById). AreEntries old.schema r (places_of now)) (sym (b.rows (known k)))
        (subst (AreEntries old.schema (rows.undone (drop mark (old.transaction client).changes) old.rows)) (sym places)
        (back_entries old.schema client (drop mark (old.transaction client).changes) (drop mark (moved client)) old.rows (places_of was)
        (rows_last mark (old.transaction client).changes (moved client) (h.rows client)) (lead_last mark old.schema client (old.transaction client).changes (moved client) (places_of was) (h.back (known k) client)) (h.entries (known k)))));
    fitting = λ k.
        subst (λ (s : SchemaData). (i : ℕ) → FitsSchema s (new.rows i)) (sym b.base.schema)
        (subst (λ (r : RowsById). (i : ℕ) → FitsSchema old.schema (r i)) (sym (b.rows (known k)))
        (undone_fits old.schema (drop mark (old.transaction client).changes) old.rows (fit_last mark old.schema (old.transaction client).changes (h.old_fitting (known k) client)) (h.fitting (known k))));
    old_fitting = λ k d. subst (λ (s : SchemaData). AreFit s (new.transaction d).changes) (sym b.base.schema) (fit_of (known k) d);
    rows = rows_of;
    back = λ k d.
        subst (λ (s : SchemaData). LeadBack s d (new.transaction d).changes (left d) (places_of now)) (sym b.base.schema)
        (subst (LeadBack old.schema d (new.transaction d).changes (left d)) (sym places) (back_of (known k) d));
    can = λ d. subst (CanUndoAll d (left d)) (sym places) (can_of d);
    reserved = λ d. subst (AreAllKept d (left d)) (sym keepers) (reserved_of d);
    within = λ d. subst (λ (s : SchemaData). AreAllWithin (index_count s) (left d)) (sym b.base.schema) (within_of d);
    begun = λ d j key is. begun_of d j key (ap (λ (f : Keepers). f j key) (sym keepers) ∙ is);
  }
