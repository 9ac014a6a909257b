-- In a history nothing acknowledged is lost.
use Rattle.std.proofs.Common.{List, [], ◌∷◌}
use Rattle.std.proofs.Math.Logic.{∥∥₁_elim, ∥∥₁_map, ∥∥₁_prop}
use Rattle.abl_values.specs.Schema.{SchemaData}
use Rattle.abl_values.specs.Sound.{IsSound}
use Rattle.schema_text.specs.Written.{IsHeld}
use Rattle.database_meaning.specs.declared.contents.Contents.{Contents}
use Rattle.database_meaning.specs.Traces.{after_commits}
use Rattle.disk_database.specs.Images.{created}
use Rattle.crash_laws.specs.Disks.{ComesNext, DiskView, MayBeOpened}
use Rattle.crash_laws.specs.History.{AreRuns, PastRun, History, IsHistory, IsLeftBy, IsOpenedAfter, NothingIsLost, setting_of}
use Rattle.crash_laws.proofs.Opened.{run_opened, creation_opened}

module _ {D : Type 0} (view : D → DiskView) (schema : SchemaData) where
  -- the disk that comes next
  abbrev next : List (PastRun D) → D → D
  next [] last = last
  next (run ∷ runs) last = run.was

  first_left : (left : D → Type 0) (runs : List (PastRun D)) (last : D) → AreRuns view schema left runs last → left (next runs last)
  first_left left [] last are = are
  first_left left (run ∷ runs) last are = are.0

  with_first : (left other : D → Type 0) (runs : List (PastRun D)) (last : D) → other (next runs last) → AreRuns view schema left runs last → AreRuns view schema other runs last
  with_first left other [] last first are = first
  with_first left other (run ∷ runs) last first are = (first, are.1)

  none_lost : IsSound schema → IsHeld schema → (contents : Contents) (runs : List (PastRun D)) (last : D) → AreRuns view schema (λ disk. MayBeOpened schema contents (view disk)) runs last → ∥ NothingIsLost view schema contents runs last ∥₁
  none_lost sound named contents [] last opened = ∣ opened ∣₁
  none_lost sound named contents (run ∷ runs) last are =
      let durable = are.1.0 in
      let rest = are.1.1 in
      ∥∥₁_elim (run_opened view schema sound named contents run (next runs last) durable are.0.holds (first_left (IsLeftBy view run) runs last rest)) ∥∥₁_prop
      (λ (after : IsOpenedAfter view schema contents run (next runs last)).
      let then : Contents = after_commits (setting_of schema run) contents run.trace after.done in
      ∥∥₁_map (none_lost sound named then runs last (with_first (IsLeftBy view run) (λ disk. MayBeOpened schema then (view disk)) runs last after.opened rest))
      (λ later. (are.0, ((durable contents are.0.holds).0, (after.done, (after.kept, later))))))

pub history_kept : {D : Type 0} (view : D → DiskView) (history : History D) → IsHistory view history → ∥ NothingIsLost view history.schema (created history.schema) history.runs history.last ∥₁
history_kept view history is =
    none_lost view history.schema is.made.sound is.made.held (created history.schema) history.runs history.last
    (with_first view history.schema (λ disk. ComesNext (view history.made) (view disk)) (λ disk. MayBeOpened history.schema (created history.schema) (view disk)) history.runs history.last
    (creation_opened history.schema (view history.made) (view (next view history.schema history.runs history.last)) is.made (first_left view history.schema (λ disk. ComesNext (view history.made) (view disk)) history.runs history.last is.runs))
    is.runs)
