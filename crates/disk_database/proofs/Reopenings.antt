-- A database that was made is opened, and one that was closed is opened again.
use Rattle.std.proofs.Common.{◌≡◌, inl, inr, ℕ, ◌≤◌, ◌<◌, Bool, true, false, cond, List, [], ◌∷◌, length, map, Option, Some, None, ℤ, refl, sym, ap, ◌∙◌, subst, arith}
use Rattle.std.proofs.Math.Logic.{∥∥₁_elim, ∥∥₁_map, ∥∥₁_prop}
use Rattle.std.proofs.Math.Path.{fun_ext}
use Rattle.std.proofs.Props.{props}
use Rattle.std.proofs.lemmas.List.{length-map}
use Rattle.std.specs.Cmp.{nat_cmp_total}
use Rattle.std.specs.FinMap.{find, get, get-from_entries}
use Rattle.std.specs.Ordering.{nat_cmp}
use Rattle.std.specs.Prelude.{IsTrue}
use Rattle.abl_values.specs.declared.schema.SequenceDef.{SequenceDef}
use Rattle.abl_values.specs.Rows.{fragments_of}
use Rattle.abl_values.specs.Schema.{SchemaData, canonical_text}
use Rattle.abl_values.specs.Sound.{IsSound}
use Rattle.database_meaning.specs.declared.contents.ContentRow.{ContentRow}
use Rattle.database_meaning.specs.declared.contents.Contents.{Contents}
use Rattle.database_meaning.specs.declared.state.Key.{Key}
use Rattle.database_meaning.specs.declared.state.StoredRow.{StoredRow}
use Rattle.database_meaning.specs.Setting.{Setting, has_key, unique_keys}
use Rattle.database_meaning.specs.Traces.{IsSoundContents, IsSoundRow, IsSoundRows, identity_of, rows_of, stored_of}
use Rattle.db_core.specs.Crashes.{Holds}
use Rattle.log_meaning.specs.steps.Steps.{Image}
use Rattle.slot_txn.specs.logged.Stops.{HasSlots}
use Rattle.indexed_store.specs.Opened.{AreSoundRows, HoldStore}
use Rattle.indexed_store.proofs.Sound.{rows_read}
use Rattle.row_fragments.specs.Chains.{AreChains}
use Rattle.row_fragments.specs.Fragments.{StoredBytes, row_at}
use Rattle.schema_text.specs.Written.{IsHeld}
use Rattle.sequence_slots.proofs.ReadsLemmas.Contents.{length_values_in}
use Rattle.sequence_slots.specs.Values.{HoldValues, values_in}
use Rattle.database_layout.specs.contents.Born.{IsBorn}
use Rattle.database_layout.specs.contents.Chains.{IsChain, counted}
use Rattle.database_layout.specs.contents.Contents.{contents_in, initial_values, new_contents}
use Rattle.database_layout.specs.contents.Contents as slot
use Rattle.slot_rows.specs.Decoded.{decoded, row_of}
use Rattle.slot_rows.specs.Durable.{durable_in}
use Rattle.disk_database.proofs.Texts.{one_text}
use Rattle.disk_database.specs.Answers.{AreDatabase, IsDatabaseOf, IsRefused}
use Rattle.disk_database.specs.Images.{AreSlotsOf, IsImageOf, created, stored_contents}
use Rattle.disk_database.specs.Parts.{IsUnused}
use Rattle.disk_database.specs.declared.refusals.OpenRefusal.TheVariants.{NotCreated, SchemaDiffers}
use Rattle.disk_database.proofs.Survivals.{image_of}

-- ---- a new database

none_there : (schema : SchemaData) (o : Option StoredBytes) → row_of schema o ≡ None → o ≡ None
none_there schema None is = refl
none_there schema (Some stored) is = absurd (cc is)

module _ (schema : SchemaData) (image : Image) (born : IsBorn image (new_contents schema)) (short : length (canonical_text schema) ≤ 1048576) where
  text_is : canonical_text schema ≡ canonical_text born.schema
  text_is = ap (λ (c : slot.Contents). c.text) born.are

  values_are : initial_values schema ≡ values_in (length born.schema.sequences) born.slots
  values_are = ap (λ (c : slot.Contents). c.values) born.are

  as_many : length born.schema.sequences ≡ length schema.sequences
  as_many =
      sym (length_values_in (length born.schema.sequences) born.slots) ∙ ap (length {A = ℤ}) (sym values_are)
      ∙ length-map schema.sequences (λ (q : SequenceDef). q.initial)

  no_row : (k : ℕ) → row_at born.slots k ≡ None
  no_row k =
      let none : decoded born.schema born.slots k ≡ None = sym (ap (λ (c : slot.Contents). c.rows k) born.are) in
      none_there born.schema (row_at born.slots k) none

  new_slots_are : AreSlotsOf schema (created schema) born.slots
  new_slots_are = record {
    holds = record {
      rows = λ k. get-from_entries nat_cmp_total [] k ∙ sym (ap (row_of schema) (no_row k));
      sequences = values_are ∙ ap (λ (n : ℕ). values_in n born.slots) as_many;
    };
    text = record { short = short; chain = subst (λ (text : List ℕ). IsChain born.slots 3 3 0 (counted 1 (fragments_of (length text))) text) (sym text_is) born.held.text.text };
    values = subst (HoldValues born.slots) (sym values_are) born.held.sequences;
    chains = ∣ record { chains = born.held.rows.chains; each = born.held.rows.each } ∣₁;
    unused = unused;
  }
    where
      as_long : (k : ℕ) → slot.text_slots schema < k → slot.text_slots born.schema < k
      as_long k after = subst (λ (text : List ℕ). fragments_of (length text) < k) text_is after

      unused : (k : ℕ) → IsUnused (slot.text_slots schema) k → born.slots k ≡ slot.zeros
      unused k (inl first) = ap born.slots first ∙ born.held.unused.zero
      unused k (inr (inl text)) = born.held.text.rest k (as_long k text.0) text.1
      unused k (inr (inr between)) = born.held.unused.between k between.0 between.1

  pub new_is : IsImageOf schema (created schema) image
  new_is = image_of schema (created schema) image (record { slots = born.slots; recovers = born.recovered }) new_slots_are

-- ---- another text

pub not_another : (schema : SchemaData) (contents : Contents) (seen : Image) (stored given : List ℕ) → IsImageOf schema contents seen → IsRefused schema true seen (SchemaDiffers stored given) → ⊥
not_another schema contents seen stored given image refused =
    let found = refused.2 refl in
    let slots = found.2.slots in
    refused.1 (sym found.1 ∙ one_text slots (canonical_text found.0) (canonical_text schema) found.2.are.text (image.each slots found.2.recovered).text ∙ sym refused.0)

-- ---- a database of sound contents

abbrev RowSound : Setting → Option StoredRow → Type 0
RowSound f None = Unit {0}
RowSound f (Some row) = IsSoundRow f row

found_sound : (f : Setting) (b : Bool) (r : StoredRow) (o : Option StoredRow) → RowSound f (Some r) → RowSound f o → RowSound f (cond b (Some r) o)
found_sound f true r o here there = here
found_sound f false r o here there = there

find_sound : (f : Setting) (rows : List ContentRow) (q : ℕ) → IsSoundRows f rows → RowSound f (find nat_cmp q (map {B = ℕ × StoredRow} (λ r. (identity_of r, stored_of r)) rows))
find_sound f [] q ok = tt
find_sound f (r ∷ rows) q ok = found_sound f _ (stored_of r) _ ok.0 (find_sound f rows q ok.1)

rows_sound : (f : Setting) (contents : Contents) (slots : ℕ → List ℕ) → IsSoundContents f contents → Holds (durable_in f.schema slots) contents → AreSoundRows f.schema (decoded f.schema slots)
rows_sound f contents slots sound holds = record {
  each = λ k row is.
      let one : IsSoundRow f row = subst (RowSound f) (sym (get-from_entries nat_cmp_total _ k) ∙ (holds.rows k ∙ is)) (find_sound f contents.rows k sound.rows) in
      record { table = one.0; fits = one.1; short = one.2 };
  apart = λ k other key has also. sound.unique k other key (at k key has) (at other key also);
}
  where
    at : (k : ℕ) (key : Key) → IsTrue (has_key (unique_keys f.schema (decoded f.schema slots k)) key) → IsTrue (has_key (unique_keys f.schema (get (rows_of contents.rows) k)) key)
    at k key has = subst (λ (o : Option StoredRow). IsTrue (has_key (unique_keys f.schema o) key)) (sym (holds.rows k)) has

hold_store : (f : Setting) (contents : Contents) (slots : ℕ → List ℕ) → IsSoundContents f contents → AreSlotsOf f.schema contents slots → AreChains slots → HoldStore f.schema slots
hold_store f contents slots sound are chains = record { values = subst (HoldValues slots) are.holds.sequences are.values; rows = rows_sound f contents slots sound are.holds; chains = chains }

pub database_of : (f : Setting) (contents : Contents) (image : Image) → IsSound f.schema → IsHeld f.schema → IsSoundContents f contents → IsImageOf f.schema contents image → ∥ IsDatabaseOf image f.schema ∥₁
database_of f contents image schema_sound held sound is = ∥∥₁_elim is.some ∥∥₁_prop (λ (h : HasSlots image).
    let are : AreSlotsOf f.schema contents h.slots = is.each h.slots h.recovers in
    ∥∥₁_map are.chains (λ (chains : AreChains h.slots). record {
      sound = schema_sound;
      held = held;
      slots = h.slots;
      recovered = h.recovers;
      are = record { text = are.text; unused = are.unused; store = hold_store f contents h.slots sound are chains };
    }))

nothing : IsProp ⊥
nothing = hlevel props

pub not_missing : (f : Setting) (contents : Contents) (seen : Image) → IsSound f.schema → IsHeld f.schema → IsSoundContents f contents → IsImageOf f.schema contents seen → IsRefused f.schema true seen NotCreated → ⊥
not_missing f contents seen schema_sound held sound image refused = ∥∥₁_elim (database_of f contents seen schema_sound held sound image) nothing (λ (is : IsDatabaseOf seen f.schema). refused refl f.schema is)

-- ---- what an image is born with

-- a database in slots is contents of its schema
pub database_contents : (schema : SchemaData) (slots : ℕ → List ℕ) → IsSound schema → AreDatabase schema slots → slot.AreContents schema slots
database_contents schema slots sound held = record {
  sound = sound;
  text = record { few = (let short = held.text.short in omega (arith, short)); text = held.text.chain; rest = λ k after below. held.unused k (inr (inl (after, below))) };
  sequences = held.store.values;
  unused = record { zero = held.unused 0 (inl refl); between = λ k low high. held.unused k (inr (inr (low, high))) };
  rows = record { read = rows_read schema slots held.store.rows; chains = held.store.chains.chains; each = held.store.chains.each };
  keys = record { short = λ row stored index there has. (held.store.rows.each row stored there).short index has; apart = held.store.rows.apart };
}

pub database_born : (schema : SchemaData) (image : Image) (is : IsDatabaseOf image schema) → IsBorn image (contents_in schema is.slots)
database_born schema image is = record { slots = is.slots; recovered = is.recovered; schema = schema; held = database_contents schema is.slots is.sound is.are; are = refl }

same_contents : (schema : SchemaData) (contents : Contents) (slots : ℕ → List ℕ) → Holds (durable_in schema slots) contents → stored_contents schema contents ≡ contents_in schema slots
same_contents schema contents slots holds = λ i. record { text = canonical_text schema; rows = fun_ext holds.rows i; values = holds.sequences i }

pub born_of : (f : Setting) (contents : Contents) (image : Image) → IsSound f.schema → IsSoundContents f contents → IsImageOf f.schema contents image → ∥ IsBorn image (stored_contents f.schema contents) ∥₁
born_of f contents image schema_sound sound is = ∥∥₁_elim is.some ∥∥₁_prop (λ (h : HasSlots image).
    let are : AreSlotsOf f.schema contents h.slots = is.each h.slots h.recovers in
    ∥∥₁_map are.chains (λ (chains : AreChains h.slots). record {
      slots = h.slots;
      recovered = h.recovers;
      schema = f.schema;
      held = database_contents f.schema h.slots schema_sound (record { text = are.text; unused = are.unused; store = hold_store f contents h.slots sound are chains });
      are = same_contents f.schema contents h.slots are.holds;
    }))
