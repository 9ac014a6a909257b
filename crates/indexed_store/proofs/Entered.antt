-- Rows entered in their indexes, and the end of the client that entered them.
use Rattle.std.proofs.Common.{◌≡◌, ◌≢◌, inl, inr, ℕ, Bool, true, false, cond, eqb, eqb-true, eq-eqb, List, Option, Some, None, refl, sym, ◌∙◌, subst}
use Rattle.abl_base.specs.declared.value.Value.{Value}
use Rattle.abl_values.specs.Schema.{SchemaData}
use Rattle.database_meaning.specs.declared.state.StoredRow.{StoredRow}
use Rattle.database_meaning.specs.Waiting.{row_in}
use Rattle.row_store.specs.Changes.{RowsById, with_row}
use Rattle.key_index.specs.Index.{Keys}
use Rattle.row_indexes.specs.declared.moves.Move.{Move}
use Rattle.row_indexes.specs.Places.{Keepers, Places, places_of}
use Rattle.row_indexes.specs.Making.{kept_after, made}
use Rattle.row_indexes.specs.index_changes.Ending.{ended, freed}
use Rattle.row_keys.specs.Entries.{AreEntries, AreEntriesAt}
use Rattle.row_keys.specs.Moves.{AreMovesOf}
use Rattle.row_keys.proofs.Placed.{made_entries, no_entries}
use Rattle.row_moves.proofs.Ended.{ended_same}
use Rattle.row_moves.proofs.Keepers.{ended_keeper, keeper_after}
use Rattle.row_moves.proofs.Same.{entries_at, entries_on, made_apart}
use Rattle.slot_rows.specs.Decoded.{decoded}
use Rattle.indexed_store.specs.Opened.{AreEntered, rows_before}
use Rattle.indexed_store.proofs.Sound.{none_sound}

pub entries_more : (schema : SchemaData) (rows : RowsById) (at table : ℕ) (values : List Value) (moves : List Move) (client : ℕ) (places : Places) → AreMovesOf schema None (row_in table values) moves → rows at ≡ None
    → AreEntries schema rows places → AreEntries schema (with_row rows at (row_in table values)) (made client at moves places)
entries_more schema rows at table values moves client places are empty entries = λ i. by_row i (eqb i at) refl
  where
    by_row : (i : ℕ) (b : Bool) → eqb i at ≡ b → AreEntriesAt schema (cond b (row_in table values) (rows i)) (made client at moves places) i
    by_row i true e =
        subst (AreEntriesAt schema (row_in table values) (made client at moves places)) (sym (eqb-true i at e))
        (made_entries schema None (row_in table values) moves client at places are (subst (λ (r : Option StoredRow). AreEntriesAt schema r places at) empty (entries at)))
    by_row i false e =
        entries_on schema (rows i) places (made client at moves places) i
        (λ j key. made_apart client at moves places j key i (λ is. let clash : true ≡ false = sym (eq-eqb i at is) ∙ e in cc)) (entries i)

pub keepers_more : (client : ℕ) (moves : List Move) (keepers : Keepers) (j : ℕ) (key : List ℕ) (c : ℕ) → c ≢ client → kept_after client moves keepers j key ≡ Some c → keepers j key ≡ Some c
keepers_more client moves keepers j key c ne is = elim (keeper_after client moves keepers j key c is) [ inl same ↦ absurd (ne same) | inr was ↦ was ]

-- the rows of the same slots, read with the same schema
pub entered_as : (schema other : SchemaData) (reads now : ℕ → List ℕ) (at : ℕ) (indexes : List Keys) → other ≡ schema → now ≡ reads → AreEntered schema (rows_before at (decoded schema reads)) indexes → AreEntered other (rows_before at (decoded other now)) indexes
entered_as schema other reads now at indexes same is entered =
    subst (λ (s : SchemaData). AreEntered s (rows_before at (decoded s now)) indexes) (sym same)
    (subst (λ (f : ℕ → List ℕ). AreEntered schema (rows_before at (decoded schema f)) indexes) (sym is) entered)

pub entered_on : (schema other : SchemaData) (reads now : ℕ → List ℕ) (indexes : List Keys) → other ≡ schema → now ≡ reads → AreEntered schema (decoded schema reads) indexes → AreEntered other (decoded other now) indexes
entered_on schema other reads now indexes same is entered =
    subst (λ (s : SchemaData). AreEntered s (decoded s now) indexes) (sym same) (subst (λ (f : ℕ → List ℕ). AreEntered schema (decoded schema f) indexes) (sym is) entered)

-- no row is entered in indexes with no entry
pub entered_none : (schema : SchemaData) (indexes : List Keys) → ((j : ℕ) (key : List ℕ) (row : ℕ) → places_of indexes j key row ≡ None) → AreEntered schema (λ k. None) indexes
entered_none schema indexes blank = record { entries = λ row. no_entries schema (places_of indexes) row (λ j key. blank j key row); sound = none_sound schema }

-- the end of a client takes no entry away
pub entered_ended : (schema : SchemaData) (rows : RowsById) (client : ℕ) (was now : List Keys) → places_of now ≡ ended client (places_of was) → AreEntered schema rows was → AreEntered schema rows now
entered_ended schema rows client was now places entered = record {
  entries = subst (AreEntries schema rows) (sym places) (λ i. entries_at schema (rows i) (places_of was) (ended client (places_of was)) i (λ j key. ended_same client (places_of was) j key i) (entered.entries i));
  sound = entered.sound;
}

nobody : (o : Option ℕ) → ((d : ℕ) → o ≡ Some d → ⊥) → o ≡ None
nobody None never = refl
nobody (Some d) never = absurd (never d refl)

-- after it nobody keeps a key, where no other client did
pub freed_none : (client : ℕ) (keepers : Keepers) (j : ℕ) (key : List ℕ) → ((c : ℕ) → c ≢ client → keepers j key ≡ Some c → ⊥) → freed client keepers j key ≡ None
freed_none client keepers j key none = nobody (freed client keepers j key) (λ d is. let was = ended_keeper client d (keepers j key) is in none d was.0 was.1)
