-- Images of sound contents are born: after some commits of a legal trace, and in a whole history.
use Rattle.std.proofs.Common.{inl, inr, ℕ, ◌+◌, ◌≤◌, List, [], ◌∷◌}
use Rattle.std.proofs.Math.Logic.{∥∥₁_elim, ∥∥₁_map, ∥∥₁_prop}
use Rattle.abl_values.specs.Schema.{SchemaData}
use Rattle.abl_values.specs.Sound.{IsSound}
use Rattle.database_protocol.specs.declared.event.Event.{Event}
use Rattle.database_meaning.specs.declared.contents.Contents.{Contents}
use Rattle.database_meaning.specs.Setting.{Setting}
use Rattle.database_meaning.specs.Traces.{IsLegal, IsSoundContents, acknowledged, after_commits}
use Rattle.log_meaning.specs.steps.Steps.{Image}
use Rattle.database_layout.specs.contents.Born.{IsBorn}
use Rattle.crash_laws.proofs.CommitsLemmas.Commits.{commits_sound}
use Rattle.disk_database.specs.Images.{AreImagesOf, IsImageFrom, IsImageOf, SurvivesCrashes, created, stored_contents}
use Rattle.disk_database.proofs.Reopenings.{born_of}
use Rattle.crash_laws.specs.Births.{IsBornFrom, IsBornWith, LeavesBorn, RunLeavesBorn}
use Rattle.crash_laws.specs.Calls.{AreCalls, CallHistory, IsCallHistory, IsLeftByKept, Keeping, NothingIsLostIn, PastCall, Running}
use Rattle.crash_laws.specs.Disks.{ComesNext, DiskView}
use Rattle.crash_laws.specs.History.{IsDurable, IsLeftBy, PastRun, setting_of}
use Rattle.crash_laws.proofs.Calls.{calls_kept}

-- ---- one run

module _ (f : Setting) (contents : Contents) (trace : List Event) (image : Image) (schema : IsSound f.schema) (legal : IsLegal f contents trace) where
  abbrev BornAfter : ℕ → Type 0
  BornAfter n = IsBorn image (stored_contents f.schema (after_commits f contents trace n))

  after : (n : ℕ) → IsImageOf f.schema (after_commits f contents trace n) image → ∥ BornAfter n ∥₁
  after n is = born_of f (after_commits f contents trace n) image schema (commits_sound f contents trace n legal) is

  from_image : (n : ℕ) → IsImageFrom f contents trace n image → ∥ IsBornFrom f contents trace n image ∥₁
  from_image n (inl is) = ∥∥₁_map (after n is) (λ (born : BornAfter n). inl born)
  from_image n (inr more) = ∥∥₁_map (after (n + 1) more.1) (λ (born : BornAfter (n + 1)). inr (more.0, born))

  pub crash_born : (from now m : ℕ) (left : ℕ → Image → Type 0) → SurvivesCrashes from now left f contents trace → from ≤ m → left m image → ∥ IsBornFrom f contents trace (acknowledged m trace) image ∥₁
  crash_born from now m left survives past there = ∥∥₁_elim (survives.each m image past there) ∥∥₁_prop (from_image (acknowledged m trace))

-- ---- a history

-- an image of sound contents is born with them
pub born_with : (schema : SchemaData) → IsSound schema → (contents : Contents) → IsSoundContents (record { schema = schema; clients = 0 }) contents → (image : Image) → IsImageOf schema contents image → ∥ IsBornWith schema contents image ∥₁
born_with schema sound contents are image is = born_of (record { schema = schema; clients = 0 }) contents image sound are is

module _ {D : Type 0} (view : D → DiskView) (schema : SchemaData) (sound : IsSound schema) where
  pub run_born : (contents : Contents) (run : PastRun D) → IsDurable view schema run → AreImagesOf (view run.was).observable (view run.was).time (view run.was).left schema contents → RunLeavesBorn view schema contents run
  run_born contents run durable holds m image from there =
      let promised = durable contents holds in
      crash_born (setting_of schema run) contents run.trace image sound promised.0 (view run.was).time (view run.now).time m (view run.now).left promised.1 from there

  -- where nothing is lost, each call is over sound contents
  leave_born : (contents : Contents) (left : D → Type 0) (calls : List (PastCall D)) (last : D) → AreCalls view schema left calls last → NothingIsLostIn view schema contents calls last
      → LeavesBorn view schema contents calls last
  leave_born contents left [] last are opened = λ image there. born_with schema sound contents opened.sound image (opened.holds.all image there)
  leave_born contents left (Running run ∷ calls) last are lost =
      let done : ℕ = lost.1.1.0 in (
        run_born contents run are.1.0 lost.0.holds,
        (done, (lost.1.1.1.0, leave_born (after_commits (setting_of schema run) contents run.trace done) (IsLeftBy view run) calls last are.1.1 lost.1.1.1.1)),
      )
  leave_born contents left (Keeping call ∷ calls) last are lost = (
    λ m image from there. ∥∥₁_elim (are.1.0 contents lost.0.sound lost.0.holds m image from there) ∥∥₁_prop (born_with schema sound contents lost.0.sound image),
    leave_born contents (IsLeftByKept view call) calls last are.1.1 lost.1,
  )

pub history_born : {D : Type 0} (view : D → DiskView) (history : CallHistory D) → IsCallHistory view history → ∥ LeavesBorn view history.schema (created history.schema) history.calls history.last ∥₁
history_born view history is =
    ∥∥₁_map (calls_kept view history is)
    (leave_born view history.schema is.made.sound (created history.schema) (λ disk. ComesNext (view history.made) (view disk)) history.calls history.last is.calls)
