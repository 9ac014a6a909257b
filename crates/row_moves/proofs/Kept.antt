-- The indexes of a store of rows where its rows stay as they are.
use Rattle.std.proofs.Common.{◌≡◌, ◌≢◌, inl, inr, ℕ, Bool, true, false, List, [], ◌∷◌, Some, None, Result, Err, IsTrue, refl, sym, ap, ◌∙◌, subst}
use Rattle.std.proofs.lemmas.Bool.{cases_eq}
use Rattle.abl_values.specs.Schema.{SchemaData}
use Rattle.row_store.specs.declared.store.RowChange.{RowChange}
use Rattle.row_store.specs.declared.store.RowFault.{RowFault}
use Rattle.row_store.specs.declared.store.RowFault.TheVariants.{Disk, NoMemory}
use Rattle.row_store.specs.Changes.{RowsById}
use Rattle.row_store.specs.Rows.{AfterError, Begins, Fails, IsConsistent, IsObservable, RowState, RowTransaction, no_transaction}
use Rattle.key_index.specs.Index.{Keys}
use Rattle.row_indexes.specs.declared.moves.Moved.{Moved}
use Rattle.row_indexes.specs.Places.{keepers_of, places_of}
use Rattle.row_indexes.specs.Changes.{AreAllWithin}
use Rattle.row_keys.specs.Entries.{AreEntries}
use Rattle.row_keys.specs.Numbers.{index_count}
use Rattle.row_moves.specs.Indexed.{AreFit, AreOfSameRows, FitsSchema, IsIndexed, LeadBack}

pub same_indexed : (old new : RowState) (moved : ℕ → List Moved) (keys : List Keys) → new ≡ old → IsIndexed old moved keys → IsIndexed new moved keys
same_indexed old new moved keys e h = subst (λ (s : RowState). IsIndexed s moved keys) (sym e) h

pub failed_indexed : (old new : RowState) (moved : ℕ → List Moved) (keys : List Keys) → Fails old new → IsIndexed old moved keys → IsIndexed new moved keys
failed_indexed old new moved keys f h = record {
  count = h.count ∙ ap index_count (sym f.schema);
  entries = λ k. no k;
  fitting = λ k. no k;
  old_fitting = λ k. no k;
  rows = λ c. subst (λ (t : ℕ → RowTransaction). AreOfSameRows (t c).changes (moved c)) (sym f.transaction) (h.rows c);
  back = λ k. no k;
  can = h.can;
  reserved = h.reserved;
  within = λ c. subst (λ (s : SchemaData). AreAllWithin (index_count s) (moved c)) (sym f.schema) (h.within c);
  begun = λ c j key is. ap (λ (t : ℕ → RowTransaction). (t c).begun) f.transaction ∙ h.begun c j key is;
}
  where
    no : {W : Type 0} → IsObservable new → W
    no k = let e : true ≡ false = sym f.failed ∙ k.1 in absurd (cc e)

-- after an error
pub refused_indexed : {T : Type 0} (old new : RowState) (moved : ℕ → List Moved) (keys : List Keys) (error : RowFault) → AfterError {T = T} old new (Err error) → IsIndexed old moved keys → IsIndexed new moved keys
refused_indexed old new moved keys Disk a h = failed_indexed old new moved keys (a.disk refl) h
refused_indexed old new moved keys NoMemory a h = same_indexed old new moved keys (a.memory refl) h

no_moves : (moved : List Moved) → AreOfSameRows [] moved → moved ≡ []
no_moves [] same = refl
no_moves (m ∷ moved) same = absurd same

-- a transaction begins
module _ (old new : RowState) (client : ℕ) (moved : ℕ → List Moved) (keys : List Keys) (h : IsIndexed old moved keys) (b : Begins old new client) (sound : IsConsistent old) (idle : (old.transaction client).begun ≡ false) where
  none : moved client ≡ []
  none = no_moves (moved client) (subst (λ (l : List RowChange). AreOfSameRows l (moved client)) (ap (λ (t : RowTransaction). t.changes) (sound.idle client idle)) (h.rows client))

  known : IsObservable new → IsObservable old
  known k = (subst IsTrue b.base.observable k.0, sym b.base.failed ∙ k.1)

  changes_same : (d : ℕ) → (new.transaction d).changes ≡ (old.transaction d).changes
  changes_same d = elim (cases_eq d client) [
    | inl e ↦ ap (λ (i : ℕ). (new.transaction i).changes) e
        ∙ (ap (λ (t : RowTransaction). t.changes) b.transaction.own ∙ sym (ap (λ (i : ℕ). (old.transaction i).changes) e ∙ ap (λ (t : RowTransaction). t.changes) (sound.idle client idle)))
    | inr ne ↦ ap (λ (t : RowTransaction). t.changes) (b.transaction.others d ne)
  ]

  begun_of : (d j : ℕ) (key : List ℕ) → keepers_of keys j key ≡ Some d → (new.transaction d).begun ≡ true
  begun_of d j key is = elim (cases_eq d client) [
    | inl e ↦ ap (λ (i : ℕ). (new.transaction i).begun) e ∙ ap (λ (t : RowTransaction). t.begun) b.transaction.own
    | inr ne ↦ ap (λ (t : RowTransaction). t.begun) (b.transaction.others d ne) ∙ h.begun d j key is
  ]

  pub begun_indexed : IsIndexed new moved keys
  begun_indexed = record {
    count = h.count ∙ ap index_count (sym b.base.schema);
    entries = λ k.
        subst (λ (s : SchemaData). AreEntries s new.rows (places_of keys)) (sym b.base.schema) (subst (λ (r : RowsById). AreEntries old.schema r (places_of keys)) (sym b.rows) (h.entries (known k)));
    fitting = λ k.
        subst (λ (s : SchemaData). (i : ℕ) → FitsSchema s (new.rows i)) (sym b.base.schema) (subst (λ (r : RowsById). (i : ℕ) → FitsSchema old.schema (r i)) (sym b.rows) (h.fitting (known k)));
    old_fitting = λ k d. subst (λ (s : SchemaData). AreFit s (new.transaction d).changes) (sym b.base.schema) (subst (AreFit old.schema) (sym (changes_same d)) (h.old_fitting (known k) d));
    rows = λ d. subst (λ (l : List RowChange). AreOfSameRows l (moved d)) (sym (changes_same d)) (h.rows d);
    back = λ k d.
        subst (λ (s : SchemaData). LeadBack s d (new.transaction d).changes (moved d) (places_of keys)) (sym b.base.schema)
        (subst (λ (l : List RowChange). LeadBack old.schema d l (moved d) (places_of keys)) (sym (changes_same d)) (h.back (known k) d));
    can = h.can;
    reserved = h.reserved;
    within = λ d. subst (λ (s : SchemaData). AreAllWithin (index_count s) (moved d)) (sym b.base.schema) (h.within d);
    begun = begun_of;
  }
