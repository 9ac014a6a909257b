-- The schema of a file; why a database was not made, and what that leaves.
use Rattle.std.proofs.Common.{◌≡◌, ◌⊎◌, ◌∙◌, ℕ, List, None, Ok, Err, Result, ap, refl, subst, arith}
use Rattle.std.specs.Prelude.{IfOk, IsTrue, OnOk}
use Rattle.host_io.specs.Files.{FileState}
use Rattle.schema_reader.specs.Rules.{violation_of}
use Rattle.abl_values.specs.Schema.{SchemaData}
use Rattle.storage.specs.faults.Faults.{Rose}
use Rattle.bi_log.specs.Lengths.{StayShort}
use Rattle.log_meaning.specs.steps.Steps.{Image, Run}
use Rattle.disk_database.specs.declared.refusals.CreateRefusal.{CreateRefusal}
use Rattle.disk_database.specs.declared.refusals.CreateRefusal.TheVariants as create
use Rattle.disk_database.specs.Answers.{IsDatabaseOf, IsNoDatabase}
use Rattle.run_report.specs.declared.refusal.Refusal.{Refusal}
use Rattle.run_works.specs.Disks.{DiskState, IsUntouched, KeepsLogShort}
use Rattle.source_files.specs.Files.{HasText}
use Rattle.source_files.specs.Compiled.{schema_in}
use Rattle.abl_cli.specs.Stored.{HasSchema, IsNotMade, creation_refusal}

-- ---- the schema

-- the schema that a text denotes which was read from the file
pub schema_from : {files : FileState} {name df text : List ℕ} {schema : SchemaData} → HasText files name df → text ≡ df → schema ≡ schema_in text → violation_of text ≡ None → HasSchema files name schema
schema_from {df = df} has same is clean = record { df = df; has = has; clean = subst (λ (t : List ℕ). violation_of t ≡ None) same clean; is = is ∙ ap (λ (t : List ℕ). schema_in t) same }

pub is_schema : {E : Type 0} (files : FileState) (name df text : List ℕ) (result : Result SchemaData E) → HasText files name df → text ≡ df → IfOk result (λ (schema : SchemaData). schema ≡ schema_in text) → OnOk result (violation_of text ≡ None) → IfOk result (HasSchema files name)
is_schema files name df text (Ok schema) has same is clean = schema_from has same is clean
is_schema files name df text (Err e) has same is clean = tt

-- ---- the disk

unless_disk : (was now : DiskState) (why : CreateRefusal) → (why ≡ create.AlreadyCreated → IsUntouched was now) → (why ≡ create.NoMemory → IsUntouched was now) → (why ≡ create.Disk → ⊥) → IsUntouched was now
unless_disk was now create.AlreadyCreated there memory fine = there refl
unless_disk was now create.NoMemory there memory fine = memory refl
unless_disk was now create.Disk there memory fine = absurd (fine refl)

pub not_made : (was now : DiskState) (why : CreateRefusal) (refusal : Refusal) → refusal ≡ creation_refusal why →
    (why ≡ create.AlreadyCreated → IsTrue was.observable → (other : SchemaData) × IsDatabaseOf was.seen other) → (why ≡ create.AlreadyCreated → IsUntouched was now) → (why ≡ create.NoMemory → IsUntouched was now) →
    (why ≡ create.Disk → IsTrue was.observable → IsUntouched was now ⊎ IsNoDatabase was.seen) → (why ≡ create.Disk → Rose was.failures now.failures) → IsNotMade was now refusal
not_made was now why refusal is already there memory harmless rose = record { why = why; is = is; already = already; rose = rose; stays = unless_disk was now why there memory; harmless = harmless }

-- a creation keeps the log short
pub short_made : (was now : DiskState) (Step : Image → Image → Type 0) → Run was.time now.time was.left now.left Step → StayShort now.left was.time → KeepsLogShort was now
short_made was now Step run stays all m image from there = stays (λ i left. all i (run.nothing_else was.time i (omega arith) left)) m image from there
