-- Slots that are those of a new database, and the image that recovers to them.
use Rattle.std.proofs.Common.{◌≡◌, inl, inr, ⊎_elim, ℕ, ◌+◌, ◌<◌, ◌^◌, false, nat_lt, nat_le, List, [], sym, ◌∙◌, arith}
use Rattle.std.proofs.lemmas.Bool.{or_parts, leb-false}
use Rattle.storage.specs.declared.slots.Undo.{Undo}
use Rattle.storage.specs.Slots.{undone}
use Rattle.abl_values.specs.Schema.{SchemaData}
use Rattle.abl_values.specs.Sound.{IsSound}
use Rattle.log_meaning.specs.steps.Steps.{Image}
use Rattle.log_meaning.specs.Images.{Recovers, slot_of}
use Rattle.log_meaning.specs.LogState.{LogState}
use Rattle.log_meaning.proofs.LogStates.{stands_for}
use Rattle.row_fragments.specs.Fragments.{ends}
use Rattle.bi_recovery.specs.Creating.{Creates, zeros}
use Rattle.database_layout.specs.contents.Contents.{AreNew, text_slots, new_contents}
use Rattle.database_layout.specs.contents.Born.{IsBorn}
use Rattle.database_layout.proofs.ContentsLemmas.NewSlots.{new_are_contents, contents_of_new}
use Rattle.database_layout.specs.fresh.Laying.{laid}
use Rattle.database_layout.proofs.FreshLemmas.Counted.{length_counted, get_counted}
use Rattle.database_layout.specs.creation.Created.{CreatesNew}

-- slots that are the same below 2^20
pub new_same : (schema : SchemaData) (f g : ℕ → List ℕ) → ((s : ℕ) → s < 2 ^ 20 → g s ≡ f s) → AreNew schema f → AreNew schema g
new_same schema f g same new = record {
  text = record {
    few = new.text.few;
    text = record {
      count = new.text.text.count;
      each = λ i lt.
          let within : i < text_slots schema = omega (arith, lt, length_counted 1 (text_slots schema)) in
          let few = new.text.few in
          same _ (omega (arith, get_counted 1 (text_slots schema) i within, within, few)) ∙ new.text.text.each i lt;
    };
    rest = λ slot past low. same slot (omega (arith, low)) ∙ new.text.rest slot past low;
  };
  values = record {
    few = new.values.few;
    whole = new.values.whole;
    each = λ i lt. same (5000 + i) (omega (arith, lt)) ∙ new.values.each i lt;
  };
  unused = record {
    zero = same 0 (omega arith) ∙ new.unused.zero;
    between = λ slot past low. same slot (omega (arith, low)) ∙ new.unused.between slot past low;
  };
  free = λ slot e. same slot (let inside = rows slot e in omega (arith, inside)) ∙ new.free slot e;
}
  where
    rows : (slot : ℕ) → ends slot ≡ false → slot < 1048576
    rows slot e = leb-false 1048576 slot ((or_parts (nat_lt slot 8192) (nat_le 1048576 slot) e).1)

-- an image that recovers to the slots of a new database is born
pub born_new : (schema : SchemaData) (image : Image) (slots : ℕ → List ℕ) → IsSound schema → Recovers image slots → AreNew schema slots → IsBorn image (new_contents schema)
born_new schema image slots sound recovered new = record {
  slots = slots;
  recovered = recovered;
  schema = schema;
  held = new_are_contents schema slots new sound;
  are = sym (contents_of_new schema slots new);
}

pub creates_new : (schema : SchemaData) (written : List Undo) (old new : Image) → IsSound schema → AreNew schema (laid written) → Creates written old new → CreatesNew schema old new
creates_new schema written old new sound laid_new creates slots recovered = ⊎_elim
    (λ (back : Recovers old slots). inl back)
    (λ (same : (s : ℕ) → s < 2 ^ 20 → slots s ≡ undone written (λ k. zeros) s).
    let are : AreNew schema slots = new_same schema (laid written) slots same laid_new in
    inr (are, born_new schema new slots sound recovered are))
    (creates slots recovered)

-- a log without notes over these slots
pub born_of_log : (schema : SchemaData) (written : List Undo) (image : Image) → IsSound schema → AreNew schema (laid written) → LogState 1 1 0 [] (slot_of (image 0)) image → ((s : ℕ) → s < 2 ^ 20 → slot_of (image 0) s ≡ laid written s) → IsBorn image (new_contents schema)
born_of_log schema written image sound laid_new log same =
    born_new schema image (slot_of (image 0)) sound (stands_for 1 1 0 [] (slot_of (image 0)) image log) (new_same schema (laid written) (slot_of (image 0)) same laid_new)
