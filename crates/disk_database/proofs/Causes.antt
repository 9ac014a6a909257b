-- Why a disk was not opened, and the disk that is given back.
use Rattle.std.proofs.Common.{◌≡◌, ◌⊎◌, ◌≤◌, ◌<◌, ℕ, Bool, List, refl, subst, arith, inl, inr}
use Rattle.std.proofs.Math.Logic.{∥∥₁_map}
use Rattle.std.proofs.lemmas.Bool.{cases_lt}
use Rattle.std.specs.Prelude.{IsTrue}
use Rattle.storage.specs.Slots.{IsReadable, SlotState}
use Rattle.abl_values.specs.Schema.{SchemaData}
use Rattle.log_meaning.specs.steps.Steps.{Image, Run}
use Rattle.log_meaning.specs.Images.{Recovers}
use Rattle.bi_recovery.specs.Reopening.{SameRecovery}
use Rattle.bi_recovery.specs.declared.open_fault.OpenFault.{OpenFault}
use Rattle.bi_recovery.specs.declared.open_fault.OpenFault.TheVariants as fault
use Rattle.bi_log.specs.Lengths.{StayShort}
use Rattle.slot_txn.specs.logged.Stops.{HasSlots, IsRecoverable, StayRecoverable}
use Rattle.disk_database.specs.Answers.{IsRefused}
use Rattle.disk_database.specs.Images.{IsGivenBack, RecoversAsBefore}
use Rattle.disk_database.specs.Inside.{IsSlotRefusal, of_fault}
use Rattle.disk_database.specs.declared.refusals.OpenRefusal.{OpenRefusal}
use Rattle.disk_database.specs.declared.refusals.OpenRefusal.TheVariants.{NotCreated, SchemaDiffers, Disk, NoMemory}
use Rattle.disk_database.proofs.Recognitions.{no_database, some_database}

-- ---- why

module _ (schema : SchemaData) (observable : Bool) (seen : Image) where
  pub refused_by_fault : (f : OpenFault) → (f ≡ fault.NotCreated → IsTrue observable → (slots : ℕ → List ℕ) → Recovers seen slots → ⊥) → IsRefused schema observable seen (of_fault f)
  refused_by_fault fault.NotCreated none = λ known other is. none refl known is.slots is.recovered
  refused_by_fault fault.Disk none = tt
  refused_by_fault fault.NoMemory none = tt

  pub refused_by_text : (s : SlotState) → (IsTrue observable → IsReadable s) → (IsTrue observable → Recovers seen s.reads) → (refusal : OpenRefusal) → IsSlotRefusal schema s refusal → IsRefused schema observable seen refusal
  refused_by_text s readable recovered NotCreated none = λ known. no_database seen s.reads (recovered known) (none (readable known))
  refused_by_text s readable recovered (SchemaDiffers stored given) differs = (
    differs.0,
    differs.1,
    λ known. let held = differs.2 (readable known) in (held.0.schema, held.1, some_database seen s.reads (recovered known) held.0),
  )
  refused_by_text s readable recovered Disk why = tt
  refused_by_text s readable recovered NoMemory why = tt

-- ---- the disk

-- after the recovery alone
pub back_by_run : (observable observable' : Bool) (was now : ℕ) (left left' : ℕ → Image → Type 0) → observable' ≡ observable → Run was now left left' SameRecovery → StayShort left' was → IsGivenBack observable observable' was now left left'
back_by_run observable observable' was now left left' same run short = record { same_observable = same; later = run.later; images = images; recoverable = recoverable; short = short }
  where
    images : RecoversAsBefore was left left'
    images m image slots from there recovers = by_time (cases_lt was m)
      where
        by_time : (was < m) ⊎ (m ≤ was) → (old : Image) × left was old × Recovers old slots
        by_time (inl later) = let h = run.here m image later there in (h.0, h.1, h.2.from slots recovers)
        by_time (inr le) = let is : m ≡ was = omega (arith, le, from) in (image, subst (λ (k : ℕ). left k image) is (run.nothing_else m image le there), recovers)

    recoverable : StayRecoverable left' was
    recoverable all m image from there = by_time (cases_lt was m)
      where
        after : (old : Image) → SameRecovery old image → HasSlots old → HasSlots image
        after old step h = record { slots = h.slots; recovers = step.to h.slots h.recovers }

        by_time : (was < m) ⊎ (m ≤ was) → IsRecoverable image
        by_time (inl later) = let h = run.here m image later there in ∥∥₁_map (all h.0 (run.stays was h.0 (omega arith) h.1)) (after h.0 h.2)
        by_time (inr le) = let is : m ≡ was = omega (arith, le, from) in all image (subst (λ (k : ℕ). left' k image) is there)
