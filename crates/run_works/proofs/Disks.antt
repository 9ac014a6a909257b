-- What images there are at the beginning of a run, at each moment of it, and after it.
use Rattle.std.proofs.Common.{◌≡◌, ◌≤◌, ◌<◌, ℕ, Bool, List, [], sym, subst, arith}
use Rattle.std.proofs.Common.{⊎_elim}
use Rattle.std.proofs.Math.Logic.{∥∥₁_elim, ∥∥₁_map, ∥∥₁_prop}
use Rattle.std.proofs.Props.{props}
use Rattle.storage.specs.Disk.{IsImage}
use Rattle.abl_values.specs.Schema.{SchemaData}
use Rattle.database_protocol.specs.declared.event.Event.{Event}
use Rattle.database_meaning.specs.declared.contents.Contents.{Contents}
use Rattle.database_meaning.specs.Setting.{Setting}
use Rattle.database_meaning.specs.Traces.{acknowledged, after_commits, commits}
use Rattle.bi_log.specs.Lengths.{IsShort, StayShort}
use Rattle.log_meaning.specs.steps.Steps.{Image}
use Rattle.slot_txn.specs.logged.Stops.{IsRecoverable, StayRecoverable}
use Rattle.disk_database.specs.Images.{AllAreOf, AllRecover, IsImageFrom, IsImageOf, RecoversAsBefore}
use Rattle.disk_database.proofs.Images.{image_prop}
use Rattle.run_works.specs.Disks.{DiskState, HoldsContents, KeepsContents, KeepsLogShort, LogStaysShort}

-- ---- a disk that was not touched

module _ (observable : Bool) (now : ℕ) (left : ℕ → Image → Type 0) (known : (m : ℕ) (image : Image) → left m image → IsImage observable now m image) where
  here : (m : ℕ) (image : Image) → now ≤ m → left m image → left now image
  here m image from there =
      let past = (known m image there).past in
      let same : m ≡ now = omega (arith, from, past) in
      subst (λ (k : ℕ). left k image) same there

  pub as_before : RecoversAsBefore now left left
  as_before m image slots from there recovers = (image, here m image from there, recovers)

  pub stays_recoverable : StayRecoverable left now
  stays_recoverable all m image from there = all image (here m image from there)

  pub stays_short : StayShort left now
  stays_short all m image from there = all image (here m image from there)

-- ---- the images of the beginning

module _ (images : Image → Type 0) (left : Image → Type 0) (still : (image : Image) → left image → ∥ images image ∥₁) where
  -- where each of them recovers, so does each image of that moment
  pub all_recover : AllRecover images → AllRecover left
  all_recover all image there = ∥∥₁_elim (still image there) ∥∥₁_prop (λ (was : images image). all image was)

  -- where each of them is of some contents, so is each image of that moment
  pub all_are : (schema : SchemaData) (contents : Contents) → AllAreOf schema contents images → AllAreOf schema contents left
  all_are schema contents all image there = ∥∥₁_elim (still image there) (image_prop schema contents image) (λ (was : images image). all image was)

short_once : (image : Image) → IsProp (IsShort image)
short_once image = hlevel props

-- likewise where none of them has a long log
pub all_short : (images : Image → Type 0) (left : Image → Type 0) → ((image : Image) → left image → ∥ images image ∥₁) → ((image : Image) → images image → IsShort image) → (image : Image) → left image → IsShort image
all_short images left still all image there = ∥∥₁_elim (still image there) (short_once image) (λ (was : images image). all image was)

-- each image of a disk with contents recovers
pub held_recover : (disk : DiskState) (schema : SchemaData) (contents : Contents) (images : Image → Type 0) → ((image : Image) → images image → disk.left disk.time image) → HoldsContents disk schema contents → AllRecover images
held_recover disk schema contents images began holds image was = (holds.all image (began image was)).some

-- ---- a run that did not begin

-- what recovers as before has the contents that it had
pub kept : (schema : SchemaData) (old new : DiskState) (images : Image → Type 0) → ((image : Image) → images image → old.left old.time image) → ((image : Image) → new.left old.time image → ∥ images image ∥₁) →
    RecoversAsBefore old.time old.left new.left → StayRecoverable new.left old.time → KeepsContents schema old new
kept schema old new images began still before stays contents holds m image from there =
    let some : IsRecoverable image = stays (all_recover images (new.left old.time) still (held_recover old schema contents images began holds)) m image from there in
    ∣ record { some = some; each = λ slots recovers. let was = before m image slots from there recovers in (holds.all was.0 was.1).each slots was.2 } ∣₁

-- without a commit each image is of the contents at opening
pub not_committed : (f : Setting) (contents : Contents) (trace : List Event) → trace ≡ [] → (m : ℕ) (image : Image) → ∥ IsImageFrom f contents trace (acknowledged m trace) image ∥₁ → ∥ IsImageOf f.schema contents image ∥₁
not_committed f contents trace none m image found =
    ∥∥₁_map (subst (λ (events : List Event). ∥ IsImageFrom f contents events (acknowledged m events) image ∥₁) none found)
    (λ (which : IsImageFrom f contents [] 0 image). ⊎_elim (λ (is : IsImageOf f.schema contents image). is) (λ (more : (0 < commits f contents []) × IsImageOf f.schema (after_commits f contents [] 1) image). let less : 0 < 0 = more.0 in absurd (omega (arith, less))) which)

-- a disk that was not touched has the contents that it had
pub untouched : (disk : DiskState) → ((m : ℕ) (image : Image) → disk.left m image → IsImage disk.observable disk.time m image) → (schema : SchemaData) → KeepsContents schema disk disk
untouched disk known schema contents holds m image from there = ∣ holds.all image (here disk.observable disk.time disk.left known m image from there) ∣₁

-- ---- the bound on the log

-- what is said of the images of the beginning is said of those of the call
pub short_since : (old new : DiskState) (images : Image → Type 0) (since : ℕ) → since ≡ old.time → ((image : Image) → images image → old.left old.time image) → LogStaysShort images since new.left → KeepsLogShort old new
short_since old new images since same began log all m image from there = log (λ i was. all i (began i was)) m image (subst (λ (n : ℕ). n ≤ m) (sym same) from) there

pub short_kept : (old new : DiskState) (images : Image → Type 0) → ((image : Image) → images image → old.left old.time image) → ((image : Image) → new.left old.time image → ∥ images image ∥₁) → StayShort new.left old.time → KeepsLogShort old new
short_kept old new images began still stays all m image from there = stays (all_short images (new.left old.time) still (λ i was. all i (began i was))) m image from there

pub short_untouched : (disk : DiskState) → ((m : ℕ) (image : Image) → disk.left m image → IsImage disk.observable disk.time m image) → KeepsLogShort disk disk
short_untouched disk known = stays_short disk.observable disk.time disk.left known
