-- Whether slots, and the image that recovers to them, hold a database; and slots that come back.
use Rattle.std.proofs.Common.{◌≡◌, ◌≤◌, ℕ, List, IsTrue, Result, Ok, Err, length, refl, subst}
use Rattle.std.specs.Prelude.{IfErr, IfOk}
use Rattle.storage.specs.Slots.{IsReadable, IsStop, SlotState}
use Rattle.abl_values.specs.Rows.{fragments_of}
use Rattle.abl_values.specs.Schema.{SchemaData, canonical_text}
use Rattle.abl_values.specs.Sound.{IsSound}
use Rattle.byte_rows.specs.Still.{Still}
use Rattle.disk_database.proofs.SameTextLemmas.Held.{text_decides_held}
use Rattle.log_meaning.specs.steps.Steps.{Image}
use Rattle.log_meaning.specs.Images.{Recovers}
use Rattle.indexed_store.specs.Opened.{CanOpen, HoldStore}
use Rattle.row_fragments.specs.Chains.{AreChains}
use Rattle.row_fragments.proofs.Composes.{readable_on}
use Rattle.schema_text.specs.Written.{IsHeld}
use Rattle.database_layout.specs.contents.Contents.{text_slots}
use Rattle.slot_rows.specs.Chained.{StayChains}
use Rattle.slot_rows.proofs.Chaining.{stay_chains}
use Rattle.database_layout.specs.stored_text.Held.{HoldText}
use Rattle.disk_database.specs.Answers.{AreDatabase, IsDatabaseOf, IsNoDatabase}
use Rattle.disk_database.specs.Inside.{HoldDatabase, HoldDatabaseWith}
use Rattle.disk_database.specs.Parts.{AreUnusedLeft, LeaveUnused}
use Rattle.disk_database.proofs.Survivals.{one_array}
use Rattle.disk_database.proofs.Texts.{one_text}

-- ---- images

pub some_database : (seen : Image) (slots : ℕ → List ℕ) → Recovers seen slots → (held : HoldDatabase slots) → IsDatabaseOf seen held.schema
some_database seen slots recovers held = record { sound = held.sound; held = held.held; slots = slots; recovered = recovers; are = held.are }

pub no_database : (seen : Image) (slots : ℕ → List ℕ) → Recovers seen slots → ¬ HoldDatabase slots → IsNoDatabase seen
no_database seen slots recovers none schema is = none (record { schema = schema; sound = is.sound; held = is.held; are = subst (AreDatabase schema) (one_array seen is.slots slots is.recovered recovers) is.are })

-- ---- slots that hold none

pub none_of_text : (slots : ℕ → List ℕ) (text : List ℕ) → HoldText slots text → ((schema : SchemaData) → IsSound schema → IsHeld schema → canonical_text schema ≡ text → ⊥) → ¬ HoldDatabase slots
none_of_text slots text held none has = none has.schema has.sound has.held (one_text slots (canonical_text has.schema) text has.are.text held)

module _ (schema : SchemaData) (slots : ℕ → List ℕ) (held : HoldText slots (canonical_text schema)) where
  pub none_unused : ¬ LeaveUnused schema slots → ¬ HoldDatabase slots
  none_unused used has = used (subst (λ (text : List ℕ). AreUnusedLeft (fragments_of (length text)) slots) (one_text slots (canonical_text has.schema) (canonical_text schema) has.are.text held) has.are.unused)

  pub none_stored : IsSound schema → ¬ HoldStore schema slots → ¬ HoldDatabase slots
  none_stored sound unsound has = unsound (text_decides_held has.schema schema slots has.sound sound (one_text slots (canonical_text has.schema) (canonical_text schema) has.are.text held) has.are.store)

-- ---- slots that were looked at

module _ (a b : SlotState) (at_a at_b : ℕ → (ℕ → List ℕ) → Type 0) (f : Still a b at_a at_b) where
  pub readable_then : IsReadable a → IsReadable b
  readable_then readable = readable_on a b f.rests.keeps.observable f.failed readable

  -- what they hold
  pub held_first : (P : (ℕ → List ℕ) → Type 0) → (IsReadable b → P b.reads) → IsReadable a → P a.reads
  held_first P held readable = subst P (f.rests.reads readable) (held (readable_then readable))

  -- they may be opened as before
  pub stops_then : CanOpen a → ((m : ℕ) (slots : ℕ → List ℕ) → at_b m slots → IsStop b m) → a.since ≤ a.moment → ((IsTrue a.observable → ∥ AreChains a.committed ∥₁) → StayChains at_a a.since)
      → (IsTrue b.observable → ∥ AreChains b.committed ∥₁) → StayChains at_b b.since
  stops_then can stop past before = stay_chains a b at_a at_b stop past f.rests.keeps f.time (λ seen. can.certain (seen, can.fine)) before

  -- with a store they hold a database
  pub database_held : (schema : SchemaData) (text : ℕ) → text ≡ text_slots schema → IsSound schema → IsHeld schema → (IsReadable a → HoldText a.reads (canonical_text schema)) → (IsReadable a → AreUnusedLeft text a.reads) → (IsTrue b.observable → HoldStore schema b.reads)
      → IsReadable a → HoldDatabaseWith (canonical_text schema) a.reads
  database_held schema text same sound is_held held unused store readable = (
    record {
      schema = schema;
      sound = sound;
      held = is_held;
      are = record {
        text = held readable;
        unused = subst (λ (n : ℕ). AreUnusedLeft n a.reads) same (unused readable);
        store = subst (HoldStore schema) (f.rests.reads readable) (store (readable_then readable).0);
      };
    },
    refl,
  )

-- ---- answers

pub if_ok_map : {T E : Type 0} (r : Result T E) (P Q : T → Type 0) → ((x : T) → P x → Q x) → IfOk r P → IfOk r Q
if_ok_map (Ok x) P Q f held = f x held
if_ok_map (Err e) P Q f held = tt

pub if_err_map : {T E : Type 0} (r : Result T E) (P Q : E → Type 0) → ((e : E) → P e → Q e) → IfErr r P → IfErr r Q
if_err_map (Ok x) P Q f held = tt
if_err_map (Err e) P Q f held = f e held
