-- The disk of the run tells of its beginning, so what survives since the database was opened survives since then.
use Rattle.std.proofs.Common.{ℕ, sym, subst}
use Rattle.log_meaning.specs.steps.Steps.{Image}
use Rattle.bi_log.specs.Lengths.{StayShort}
use Rattle.disk_database.specs.Images.{AllAreOf, SurvivesCrashes}
use Rattle.run_works.proofs.Disks.{all_are, all_short}
use Rattle.run_works.proofs.closing.close_timed.Goals as goal

pub returns-clause-survives : goal.returns-clause-survives
returns-clause-survives g c = λ f contents opened began of all.
    let watched = c.close-watched.result.0 in
    let left = g.D.Disk.left watched.disk in
    let since = c.args.timed.since in
    let seen = c.close-watched.ensures.observable f contents opened in
    let some = subst (λ (m : ℕ). ∥ ((image : Image) × left m image) ∥₁) (sym since) (watched.some seen) in
    let are = subst (λ (m : ℕ). AllAreOf f.schema contents (left m)) (sym since) (all_are g.K.Start.images (left g.K.Start.moment) watched.images f.schema contents began) in
    subst (λ (m : ℕ). SurvivesCrashes m (g.D.Disk.time watched.disk) left f contents c.close-watched.result.1) since (c.close-watched.ensures.survives f contents opened some are of all)

pub returns-clause-log : goal.returns-clause-log
returns-clause-log g c = λ all m image from there.
    let watched = c.close-watched.result.0 in
    let left = g.D.Disk.left watched.disk in
    subst (λ (n : ℕ). StayShort left n) c.args.timed.since c.close-watched.ensures.short (all_short g.K.Start.images (left g.K.Start.moment) watched.images all) m image from there
