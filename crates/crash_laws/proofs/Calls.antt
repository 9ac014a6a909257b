-- In a history of runs and of calls that keep the contents nothing acknowledged is lost.
use Rattle.std.proofs.Common.{ℕ, ◌≤◌, List, [], ◌∷◌, sym, subst}
use Rattle.std.proofs.Math.Logic.{∥∥₁_elim, ∥∥₁_map, ∥∥₁_prop}
use Rattle.abl_values.specs.Schema.{SchemaData}
use Rattle.abl_values.specs.Sound.{IsSound}
use Rattle.schema_text.specs.Written.{IsHeld}
use Rattle.database_meaning.specs.declared.contents.Contents.{Contents}
use Rattle.database_meaning.specs.Setting.{Setting}
use Rattle.database_meaning.specs.Traces.{after_commits}
use Rattle.log_meaning.specs.steps.Steps.{Image}
use Rattle.disk_database.specs.Images.{IsImageOf, created}
use Rattle.disk_database.proofs.Images.{image_prop}
use Rattle.crash_laws.specs.Disks.{ComesNext, DiskView, MayBeOpened}
use Rattle.crash_laws.specs.History.{IsLeftBy, IsOpenedAfter, setting_of}
use Rattle.crash_laws.specs.Calls.{AreCalls, CallHistory, IsCallHistory, IsKeeping, IsLeftByKept, KeptCall, Keeping, KeptCrashed, KeptEnded, NothingIsLostIn, PastCall, Running, opened_by}
use Rattle.crash_laws.proofs.Opened.{creation_opened, may_be_opened, run_opened}

-- ---- one call that keeps the contents

module _ {D : Type 0} (view : D → DiskView) (schema : SchemaData) (sound : IsSound schema) (named : IsHeld schema) (contents : Contents) (call : KeptCall D) (keeping : IsKeeping view schema call) (opened : MayBeOpened schema contents (view call.was)) where
  abbrev none : Setting
  none = record { schema = schema; clients = 0 }

  held : (m : ℕ) (image : Image) → (view call.was).time ≤ m → (view call.now).left m image → IsImageOf schema contents image
  held m image since there = ∥∥₁_elim (keeping contents opened.sound opened.holds m image since there) (image_prop schema contents image) (λ (is : IsImageOf schema contents image). is)

  pub kept_opened : (disk : D) → IsLeftByKept view call disk → MayBeOpened schema contents (view disk)
  kept_opened disk (KeptCrashed since crash) =
      let is = held call.moment (view disk).seen since crash.there in
      may_be_opened none contents (view disk) sound named crash.observable opened.sound is (λ image still. subst (IsImageOf schema contents) (sym (crash.again image still)) is)
  kept_opened disk (KeptEnded later next) =
      may_be_opened none contents (view disk) sound named next.observable opened.sound (held (view call.now).time (view disk).seen later next.there)
      (λ image still. held (view call.now).time image later (next.images image still))

-- ---- a history

module _ {D : Type 0} (view : D → DiskView) (schema : SchemaData) where
  -- the disk that comes next
  abbrev next : List (PastCall D) → D → D
  next [] last = last
  next (call ∷ calls) last = opened_by call

  first_left : (left : D → Type 0) (calls : List (PastCall D)) (last : D) → AreCalls view schema left calls last → left (next calls last)
  first_left left [] last are = are
  first_left left (Running run ∷ calls) last are = are.0
  first_left left (Keeping call ∷ calls) last are = are.0

  with_first : (left other : D → Type 0) (calls : List (PastCall D)) (last : D) → other (next calls last) → AreCalls view schema left calls last → AreCalls view schema other calls last
  with_first left other [] last first are = first
  with_first left other (Running run ∷ calls) last first are = (first, are.1)
  with_first left other (Keeping call ∷ calls) last first are = (first, are.1)

  none_lost : IsSound schema → IsHeld schema → (contents : Contents) (calls : List (PastCall D)) (last : D) → AreCalls view schema (λ disk. MayBeOpened schema contents (view disk)) calls last
      → ∥ NothingIsLostIn view schema contents calls last ∥₁
  none_lost sound named contents [] last opened = ∣ opened ∣₁
  none_lost sound named contents (Running run ∷ calls) last are =
      let durable = are.1.0 in
      let rest = are.1.1 in
      ∥∥₁_elim (run_opened view schema sound named contents run (next calls last) durable are.0.holds (first_left (IsLeftBy view run) calls last rest)) ∥∥₁_prop
      (λ (after : IsOpenedAfter view schema contents run (next calls last)).
      let then : Contents = after_commits (setting_of schema run) contents run.trace after.done in
      ∥∥₁_map (none_lost sound named then calls last (with_first (IsLeftBy view run) (λ disk. MayBeOpened schema then (view disk)) calls last after.opened rest))
      (λ later. (are.0, ((durable contents are.0.holds).0, (after.done, (after.kept, later))))))
  none_lost sound named contents (Keeping call ∷ calls) last are =
      let rest = are.1.1 in
      let opened = kept_opened view schema sound named contents call are.1.0 are.0 (next calls last) (first_left (IsLeftByKept view call) calls last rest) in
      ∥∥₁_map (none_lost sound named contents calls last (with_first (IsLeftByKept view call) (λ disk. MayBeOpened schema contents (view disk)) calls last opened rest)) (λ later. (are.0, later))

pub calls_kept : {D : Type 0} (view : D → DiskView) (history : CallHistory D) → IsCallHistory view history → ∥ NothingIsLostIn view history.schema (created history.schema) history.calls history.last ∥₁
calls_kept view history is =
    none_lost view history.schema is.made.sound is.made.held (created history.schema) history.calls history.last
    (with_first view history.schema (λ disk. ComesNext (view history.made) (view disk)) (λ disk. MayBeOpened history.schema (created history.schema) (view disk)) history.calls history.last
    (creation_opened history.schema (view history.made) (view (next view history.schema history.calls history.last)) is.made
    (first_left view history.schema (λ disk. ComesNext (view history.made) (view disk)) history.calls history.last is.calls))
    is.calls)
