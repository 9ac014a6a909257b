-- Slots that hold rows and sequence values under a schema hold them under each one with its canonical text.
use Rattle.std.proofs.Common.{◌≡◌, ℕ, ◌<◌, ◌≤◌, List, length, Option, IsTrue, sym, subst}
use Rattle.abl_base.specs.declared.limits.TheConstants.{MAX_KEY_BYTES}
use Rattle.abl_base.specs.declared.value.Kind.{Kind}
use Rattle.abl_values.specs.Rows.{FitsFields}
use Rattle.abl_values.specs.Schema.{SchemaData, canonical_text}
use Rattle.abl_values.specs.Sound.{IsSound}
use Rattle.schema_reader.proofs.Observable.{canonical_text-tells_all}
use Rattle.row_store.specs.Changes.{RowsById}
use Rattle.database_meaning.specs.declared.state.Key.{Key}
use Rattle.database_meaning.specs.declared.state.StoredRow.{StoredRow}
use Rattle.database_meaning.specs.Setting.{has_key, unique_keys}
use Rattle.sequence_slots.specs.Values.{HoldValues, values_in}
use Rattle.slot_rows.specs.Decoded.{decoded}
use Rattle.indexed_store.specs.Opened.{AreSoundRows, HoldStore, IsSoundRow}
use Rattle.disk_database.proofs.SameTextLemmas.Alike.{DescribeAlike, describe_alike}
use Rattle.disk_database.proofs.SameTextLemmas.Rows.{as_many_indexes, decoded_alike, key_alike, unique_alike}

module _ (a b : SchemaData) (same : DescribeAlike a b) where
  sound_row : (row : StoredRow) → IsSoundRow a row → IsSoundRow b row
  sound_row row h = record {
    table = subst (λ (n : ℕ). row.table < n) same.tables h.table;
    fits = subst (λ (kinds : List (Option Kind)). FitsFields kinds row.values) (same.kinds row.table) h.fits;
    short = λ i within. subst (λ (bytes : List ℕ). length bytes ≤ MAX_KEY_BYTES) (key_alike a b same row.table i row.values) (h.short i (subst (λ (n : ℕ). i < n) (sym (as_many_indexes a b same row.table)) within));
  }

  sound_rows : (rows : RowsById) → AreSoundRows a rows → AreSoundRows b rows
  sound_rows rows h = record { each = λ k row is. sound_row row (h.each k row is); apart = λ k other key one two. h.apart k other key (has k key one) (has other key two) }
    where
      has : (k : ℕ) (key : Key) → IsTrue (has_key (unique_keys b (rows k)) key) → IsTrue (has_key (unique_keys a (rows k)) key)
      has k key = subst (λ (keys : List Key). IsTrue (has_key keys key)) (sym (unique_alike a b same (rows k)))

  held_alike : (slots : ℕ → List ℕ) → HoldStore a slots → HoldStore b slots
  held_alike slots h = record {
    values = subst (λ (n : ℕ). HoldValues slots (values_in n slots)) same.sequences h.values;
    rows = subst (AreSoundRows b) (decoded_alike a b same slots) (sound_rows (decoded a slots) h.rows);
    chains = h.chains;
  }

-- ---- the laws

text_describes : (a b : SchemaData) → IsSound a → IsSound b → canonical_text a ≡ canonical_text b → DescribeAlike a b
text_describes a b ha hb same = describe_alike a b (canonical_text-tells_all a b ha hb same)

pub text_decides_held : (a b : SchemaData) (slots : ℕ → List ℕ) → IsSound a → IsSound b → canonical_text a ≡ canonical_text b → HoldStore a slots → HoldStore b slots
text_decides_held a b slots ha hb same = held_alike a b (text_describes a b ha hb same) slots

pub text_decides_rows : (a b : SchemaData) (slots : ℕ → List ℕ) → IsSound a → IsSound b → canonical_text a ≡ canonical_text b → decoded a slots ≡ decoded b slots
text_decides_rows a b slots ha hb same = decoded_alike a b (text_describes a b ha hb same) slots
