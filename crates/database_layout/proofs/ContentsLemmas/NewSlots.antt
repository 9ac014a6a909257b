-- The slots of a new database hold a schema, the initial values of its sequences, and no rows.
use Rattle.std.proofs.Common.{◌≡◌, inl, ℕ, List, length, Option, Some, None, is_some, IsTrue, sym, ◌∙◌, ap, subst}
use Rattle.std.proofs.lemmas.Bool.{true≢false}
use Rattle.std.proofs.lemmas.List.{length-map}
use Rattle.abl_values.specs.declared.schema.SequenceDef.{SequenceDef}
use Rattle.abl_values.specs.Schema.{SchemaData}
use Rattle.abl_values.specs.Sound.{IsSound}
use Rattle.database_meaning.specs.declared.state.StoredRow.{StoredRow}
use Rattle.database_meaning.specs.declared.state.Key.{Key}
use Rattle.database_meaning.specs.Setting.{unique_keys, has_key}
use Rattle.row_fragments.specs.Fragments.{StoredBytes, kind_in, row_at}
use Rattle.byte_rows.specs.Places.{HoldNothing}
use Rattle.slot_rows.specs.Decoded.{decoded, row_of}
use Rattle.slot_rows.proofs.Opening.{holds_no_row, nothing_is_held}
use Rattle.sequence_slots.specs.Values.{HoldValues, values_in}
use Rattle.sequence_slots.proofs.Reading.{values_read}
use Rattle.database_layout.specs.contents.Contents.{AreNew, AreContents, initial_values, contents_in, new_contents}

-- no row has no unique key
no_key : (schema : SchemaData) (key : Key) → IsTrue (has_key (unique_keys schema None) key) → ⊥
unfolding unique_keys
no_key schema key h = true≢false (sym h)

module _ (schema : SchemaData) (slots : ℕ → List ℕ) (new : AreNew schema slots) where
  empty : HoldNothing slots
  empty k e = ap kind_in (new.free k e)

  values_are : values_in (length schema.sequences) slots ≡ initial_values schema
  values_are =
      ap (λ (n : ℕ). values_in n slots) (sym (length-map schema.sequences (λ (q : SequenceDef). q.initial)))
      ∙ values_read slots (initial_values schema) new.values

  no_row_begins : (row : ℕ) (stored : StoredBytes) → row_at slots row ≡ Some stored → ⊥
  no_row_begins row stored at = true≢false (sym (ap is_some (sym (holds_no_row schema slots empty row) ∙ ap (row_of schema) at)))

  no_row : (row : ℕ) (stored : StoredRow) → decoded schema slots row ≡ Some stored → ⊥
  no_row row stored at = true≢false (sym (ap is_some (sym (holds_no_row schema slots empty row) ∙ at)))

  pub new_are_contents : IsSound schema → AreContents schema slots
  new_are_contents sound = record {
    sound = sound;
    text = new.text;
    sequences = subst (HoldValues slots) (sym values_are) new.values;
    unused = new.unused;
    rows = record {
      read = (nothing_is_held schema slots empty).read;
      chains = λ row stored at. absurd (no_row_begins row stored at);
      each = λ slot e. inl (empty slot e);
    };
    keys = record {
      short = λ row stored index at has. absurd (no_row row stored at);
      apart = λ row other key here there. absurd (no_key schema key (subst (λ (r : Option StoredRow). IsTrue (has_key (unique_keys schema r) key)) (holds_no_row schema slots empty row) here));
    };
  }

  pub contents_of_new : contents_in schema slots ≡ new_contents schema
  contents_of_new = λ i. record { text = (new_contents schema).text; rows = λ row. holds_no_row schema slots empty row i; values = values_are i }
