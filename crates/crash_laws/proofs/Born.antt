-- An image that is born is that of a database, and no disk whose reads give it is refused as not created. An image that is not born is that of none.
use Rattle.std.proofs.Common.{◌≡◌, inl, inr, ℕ, ◌<◌, ◌≤◌, nat_lt, Bool, true, false, cond, List, length, Option, Some, None, is_some, IfSome, refl, sym, subst, arith}
use Rattle.std.proofs.lemmas.Bool.Decides.{nat_tests}
use Rattle.abl_base.specs.declared.value.Value.{Value}
use Rattle.abl_values.specs.Rows.{FitsFields, row_in}
use Rattle.abl_values.specs.Schema.{SchemaData, canonical_text}
use Rattle.database_meaning.specs.declared.state.StoredRow.{StoredRow}
use Rattle.database_meaning.specs.Setting.{FitsTable, HasTable, kinds_of}
use Rattle.disk_database.specs.Answers.{IsBornOf, IsDatabaseOf, IsNoDatabase, IsRefused}
use Rattle.disk_database.specs.declared.refusals.OpenRefusal.TheVariants.{NotCreated}
use Rattle.disk_database.specs.Parts.{IsUnused}
use Rattle.disk_database.proofs.Reopenings.{database_contents}
use Rattle.log_meaning.specs.steps.Steps.{Image}
use Rattle.indexed_store.specs.Opened.{AreSoundRows}
use Rattle.row_fragments.specs.Fragments.{StoredBytes, row_at}
use Rattle.schema_text.specs.Written.{IsHeld}
use Rattle.database_layout.specs.contents.Born.{IsBorn}
use Rattle.database_layout.specs.contents.Contents.{AreContents, AreUnused, Contents, HoldSchema, contents_in, text_slots, zeros}
use Rattle.slot_rows.specs.Decoded.{decoded, is_read, or_no_table, row_of}
use Rattle.crash_laws.proofs.Fits.{row_fits}

-- ---- rows that are read are sound

-- the row is of a table, and its values are a row of that table
abbrev IsOfTable : SchemaData → StoredRow → Type 0
IsOfTable schema row = HasTable schema row.table × FitsTable schema row.table row.values

within : (table tables : ℕ) → nat_lt table tables ≡ true → table < tables
within table tables is = grind (arith, nat_tests, is)

module _ (schema : SchemaData) where
  values_fit : (stored : StoredBytes) (b : Bool) → (b ≡ true → HasTable schema stored.table) → (values : Option (List Value)) → IfSome values (FitsFields (kinds_of schema stored.table))
      → is_some (cond b values None) ≡ true → IsOfTable schema (or_no_table schema stored.table (cond b values None))
  values_fit stored false has values fit read = absurd (cc read)
  values_fit stored true has None fit read = absurd (cc read)
  values_fit stored true has (Some vs) fit read = (has refl, fit)

  stored_fits : (stored : Option StoredBytes) → is_read schema stored ≡ true → IfSome (row_of schema stored) (IsOfTable schema)
  stored_fits None read = tt
  stored_fits (Some stored) read =
      values_fit stored (nat_lt stored.table (length schema.tables)) (within stored.table (length schema.tables)) (row_in (kinds_of schema stored.table) stored.bytes) (row_fits (kinds_of schema stored.table) stored.bytes) read

  sound_rows : (slots : ℕ → List ℕ) → AreContents schema slots → AreSoundRows schema (decoded schema slots)
  sound_rows slots held = record {
    each = λ k row is.
        let fits : IsOfTable schema row = subst (λ (o : Option StoredRow). IfSome o (IsOfTable schema)) is (stored_fits (row_at slots k) (held.rows.read k)) in
        record { table = fits.0; fits = fits.1; short = λ index has. held.keys.short k row index is has };
    apart = held.keys.apart;
  }

-- ---- the image

no_use : (schema : SchemaData) (slots : ℕ → List ℕ) → HoldSchema slots schema → AreUnused slots → (k : ℕ) → IsUnused (text_slots schema) k → slots k ≡ zeros
no_use schema slots text unused k (inl first) = subst (λ (n : ℕ). slots n ≡ zeros) (sym first) unused.zero
no_use schema slots text unused k (inr (inl after)) = text.rest k after.0 after.1
no_use schema slots text unused k (inr (inr between)) = unused.between k between.0 between.1

pub born_database : (image : Image) (contents : Contents) (born : IsBorn image contents) → IsHeld born.schema → length (canonical_text born.schema) ≤ 1048576 → IsDatabaseOf image born.schema
born_database image contents born named short = record {
  sound = born.held.sound;
  held = named;
  slots = born.slots;
  recovered = born.recovered;
  are = record {
    text = record { short = short; chain = born.held.text.text };
    unused = no_use born.schema born.slots born.held.text born.held.unused;
    store = record {
      values = born.held.sequences;
      rows = sound_rows born.schema born.slots born.held;
      chains = record { chains = born.held.rows.chains; each = born.held.rows.each };
    };
  };
}

pub born_not_refused : (schema : SchemaData) (image : Image) (contents : Contents) (born : IsBorn image contents) → IsHeld born.schema → length (canonical_text born.schema) ≤ 1048576
    → IsRefused schema true image NotCreated → ⊥
born_not_refused schema image contents born named short refused = refused refl born.schema (born_database image contents born named short)

-- what was opened with a schema is a database of it
pub opened_database : (schema : SchemaData) (image : Image) → IsBornOf image schema → IsHeld schema → length (canonical_text schema) ≤ 1048576 → IsDatabaseOf image schema
opened_database schema image born named short =
    born_database image (contents_in schema born.0) (record { slots = born.0; recovered = born.1; schema = schema; held = born.2; are = refl }) named short

pub not_born : (image : Image) → ((contents : Contents) (born : IsBorn image contents) → IsHeld born.schema → length (canonical_text born.schema) ≤ 1048576 → ⊥) → IsNoDatabase image
not_born image none schema is =
    none (contents_in schema is.slots)
    (record { slots = is.slots; recovered = is.recovered; schema = schema; held = database_contents schema is.slots is.sound is.are; are = refl })
    is.held is.are.text.short
