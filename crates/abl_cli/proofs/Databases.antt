-- A disk that has a database of the schema is opened, unless it fails or memory is out.
use Rattle.std.proofs.Common.{◌≡◌, ◌∙◌, Bool, refl, subst}
use Rattle.storage.specs.faults.Faults.{Rose}
use Rattle.abl_values.specs.Schema.{SchemaData}
use Rattle.abl_values.specs.Sound.{IsSound}
use Rattle.schema_text.specs.Written.{IsHeld}
use Rattle.disk_database.specs.declared.refusals.OpenRefusal.{OpenRefusal}
use Rattle.disk_database.specs.declared.refusals.OpenRefusal.TheVariants as opening
use Rattle.disk_database.specs.Answers.{IsRefused}
use Rattle.disk_database.specs.Images.{IsImageOf}
use Rattle.disk_database.proofs.Reopenings.{not_another, not_missing}
use Rattle.run_report.specs.declared.refusal.Refusal.{Refusal}
use Rattle.run_report.specs.declared.refusal.Refusal.TheVariants.{NoMemory}
use Rattle.run_works.specs.Disks.{DiskState, IsNotOpened, opening_refusal}
use Rattle.abl_cli.specs.Undisturbed.{HasDatabase}

-- what the disk reads is one of its images
module _ (schema : SchemaData) (sound : IsSound schema) (named : IsHeld schema) (disk : DiskState) (has : HasDatabase schema disk) (there : disk.left disk.time disk.seen) where
  image : IsImageOf schema has.contents disk.seen
  image = has.holds.all disk.seen there

  -- only out of memory is left
  pub only_memory : (why : OpenRefusal) → IsRefused schema disk.observable disk.seen why → (why ≡ opening.Disk → ⊥) → opening_refusal why ≡ NoMemory
  only_memory opening.NotCreated cause quiet =
      absurd (not_missing (record { schema = schema; clients = 0 }) has.contents disk.seen sound named has.sound image (subst (λ (b : Bool). IsRefused schema b disk.seen opening.NotCreated) has.holds.seen cause))
  only_memory (opening.SchemaDiffers stored given) cause quiet =
      absurd (not_another schema has.contents disk.seen stored given image (subst (λ (b : Bool). IsRefused schema b disk.seen (opening.SchemaDiffers stored given)) has.holds.seen cause))
  only_memory opening.Disk cause quiet = absurd (quiet refl)
  only_memory opening.NoMemory cause quiet = refl

  pub not_opened_by : (now : DiskState) (refusal : Refusal) → (Rose disk.failures now.failures → ⊥) → IsNotOpened schema disk now refusal → refusal ≡ NoMemory
  not_opened_by now refusal quiet why = why.is ∙ only_memory why.why why.cause (λ failed. quiet (why.rose failed))
