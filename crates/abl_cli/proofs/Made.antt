-- A database that was made is one without rows.
use Rattle.std.proofs.Common.{◌≡◌, ◌≤◌, ℕ, false, true, [], Option, None, length, subst}
use Rattle.std.specs.Prelude.{IsTrue}
use Rattle.std.specs.Cmp.{nat_cmp_total}
use Rattle.std.specs.FinMap.{get, get-from_entries}
use Rattle.std.proofs.lemmas.List.{length-map}
use Rattle.abl_values.specs.declared.schema.SequenceDef.{SequenceDef}
use Rattle.abl_values.specs.Schema.{SchemaData, canonical_text}
use Rattle.database_meaning.specs.declared.state.Key.{Key}
use Rattle.database_meaning.specs.declared.state.StoredRow.{StoredRow}
use Rattle.database_meaning.specs.Setting.{has_key, unique_keys}
use Rattle.database_meaning.specs.Traces.{IsSoundContents, rows_of}
use Rattle.log_meaning.specs.steps.Steps.{Image}
use Rattle.database_layout.specs.contents.Born.{IsBorn}
use Rattle.database_layout.specs.contents.Contents.{new_contents}
use Rattle.disk_database.specs.Images.{created}
use Rattle.disk_database.proofs.Reopenings.{new_is}
use Rattle.run_works.specs.Disks.{DiskState}
use Rattle.abl_cli.specs.Undisturbed.{HasDatabase}

no_row : (row : ℕ) → get (rows_of []) row ≡ None
no_row row = get-from_entries nat_cmp_total [] row

-- without a row there is no key
no_key : (schema : SchemaData) (row : Option StoredRow) (key : Key) → row ≡ None → IsTrue (has_key (unique_keys schema row) key) → ⊥
unfolding unique_keys
no_key schema row key none has = let e : false ≡ true = subst (λ (r : Option StoredRow). IsTrue (has_key (unique_keys schema r) key)) none has in cc e

created_sound : (schema : SchemaData) → IsSoundContents (record { schema = schema; clients = 0 }) (created schema)
created_sound schema = record {
  ascending = tt;
  rows = tt;
  unique = λ row other key has also. absurd (no_key schema (get (rows_of []) row) key (no_row row) has);
  sequences = length-map schema.sequences (λ (s : SequenceDef). s.initial);
}

pub made_database : (schema : SchemaData) (disk : DiskState) → IsTrue disk.observable → length (canonical_text schema) ≤ 1048576 → ((image : Image) → disk.left disk.time image → IsBorn image (new_contents schema)) → HasDatabase schema disk
made_database schema disk known short born = record {
  contents = created schema;
  sound = created_sound schema;
  holds = record { seen = known; ascending = tt; all = λ image there. new_is schema image (born image there) short };
}
