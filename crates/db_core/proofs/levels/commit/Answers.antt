use Rattle.std.proofs.Common.{◌≡◌, List, refl, sym, subst}
use Rattle.std.specs.Prelude.{ℤ}
use Rattle.row_store.specs.Rows.{Commits, commit_of, durable_of}
use Rattle.row_store.specs.Times.{IsInDoubt}
use Rattle.db_core.proofs.Crashes.{commit_stands, doubt_stands, failed_by, on_err}
use Rattle.db_core.specs.declared.control.Control.{Control}
use Rattle.db_core.specs.Represents.{IsSound}
use Rattle.db_core.proofs.Commits.{commit_counted, commit_sound}
use Rattle.db_core.proofs.Sound.{sound_counted}
use Rattle.std.proofs.Common.{◌||◌}
use Rattle.db_core.proofs.StayLaws.{counts_more}
use Rattle.database_protocol.specs.declared.operation.Op.TheVariants.{Leave}
use Rattle.database_protocol.specs.declared.answer.Answer.TheVariants.{Committed}
use Rattle.database_meaning.specs.Steps.{after}
use Rattle.db_core.specs.Known.{known}
use Rattle.db_core.specs.Levels.{SameLevels}
use Rattle.db_core.proofs.LevelLaws.{levels_counted, levels_settled, levels_then}
use Rattle.db_core.proofs.levels.commit.Goals as goal

pub returns-clause-represents : goal.returns-clause-represents
returns-clause-represents g c = λ f s keep moment represents outermost right.
    let rows = g.R.RowStore.state c.args.rows.now in
    let new = g.R.RowStore.state c.commit.new.self in
    commit_counted f rows new c.args.control.now c.settle-freed.new.control c.count_frees.new.control s c.args.client keep c.args.staying.now moment
    c.requires.sound (g.met.R.RowStore.consistent c.args.rows.now) c.requires.fine (subst (λ (xs : List ℤ). Commits rows new c.args.client xs) c.as_slice.ensures.value c.in_ok-moment.ensures.ok) c.settle-freed.ensures.settles
    represents outermost right c.settle-freed.result c.has_reserved-reserved.result c.settle-freed.ensures.frees c.settle-freed.ensures.freed c.has_reserved-reserved.ensures c.count_frees.ensures

pub returns-clause-sound : goal.returns-clause-sound
returns-clause-sound g c =
    let rows = g.R.RowStore.state c.args.rows.now in
    let new = g.R.RowStore.state c.commit.new.self in
    subst (λ (k : Control). IsSound new k) (sym c.count_frees.ensures) (sound_counted new c.settle-freed.new.control _ (commit_sound rows new c.args.control.now c.settle-freed.new.control c.args.client _ c.args.staying.now c.in_ok-moment.ensures.ok c.settle-freed.ensures.settles c.requires.sound))

pub returns-clause-keeps : goal.returns-clause-keeps
returns-clause-keeps g c =
    let commits = c.in_ok-moment.ensures.ok in
    let settles = c.settle-freed.ensures.settles in
    record {
      observable = commits.observable;
      failed = commits.failed;
      schema = commits.schema;
      counts = counts_more c.args.control.now c.settle-freed.new.control c.count_frees.new.control (c.has_reserved-reserved.result || c.settle-freed.result) settles.count settles.sequences c.settle-freed.ensures.frees c.count_frees.ensures;
    }

pub returns-clause-levels : goal.returns-clause-levels
returns-clause-levels g c = λ f s keep moment same outermost.
    subst (λ (k : Control). SameLevels (known k) (after f s c.args.client (Leave keep) (Committed moment))) (sym c.count_frees.ensures)
    (levels_then _ (known c.settle-freed.new.control) (after f s c.args.client (Leave keep) (Committed moment)) (levels_counted c.settle-freed.new.control _)
    (levels_settled f c.args.control.now c.settle-freed.new.control s c.args.client keep c.args.staying.now (Committed moment) refl outermost c.settle-freed.ensures.settles same))

pub returns-clause-durable : goal.returns-clause-durable
returns-clause-durable g c = λ keep one f contents trace represents unshut h.
    let commits = c.in_ok-moment.ensures.ok in
    commit_stands (g.R.RowStore.state c.args.rows.now) (g.R.RowStore.state c.commit.new.self) (g.R.RowStore.left c.args.rows.now) (g.R.RowStore.left c.commit.new.self) (g.R.RowStore.times c.args.rows.now) (g.R.RowStore.times c.commit.new.self)
    c.in_ok-moment.ensures.time commits.observable (g.met.R.RowStore.left_known c.commit.new.self) (g.met.R.RowStore.since_past c.args.rows.now) c.requires.fine (g.met.R.RowStore.consistent c.args.rows.now)
    c.args.control.now c.args.client keep one f contents trace represents unshut
    c.in_ok-moment.moment c.in_ok-moment.ensures.moment c.in_ok-moment.ensures.acknowledged c.in_ok-moment.ensures.certain
    (λ seen. subst (λ (xs : List ℤ). durable_of (g.R.RowStore.state c.commit.new.self) ≡ commit_of (g.R.RowStore.state c.args.rows.now) c.args.client xs) c.as_slice.ensures.value (commits.committed (seen, c.requires.fine))) h

pub returns-in_err-moment-clause-unanswered : goal.returns-in_err-moment-clause-unanswered
returns-in_err-moment-clause-unanswered g c = on_err c.from_residual.result _ (λ keep one f contents trace represents unshut h.
    let old = g.R.RowStore.state c.args.rows.now in
    let new = g.R.RowStore.state c.commit.new.self in
    let kept = failed_by old new _ c.in_err-moment.ensures.err in
    doubt_stands old new (g.R.RowStore.left c.args.rows.now) (g.R.RowStore.left c.commit.new.self) (g.R.RowStore.times c.args.rows.now) (g.R.RowStore.times c.commit.new.self)
    c.in_err-moment.ensures.time kept.0 (g.met.R.RowStore.left_known c.commit.new.self) (g.met.R.RowStore.since_past c.args.rows.now) c.requires.fine (g.met.R.RowStore.consistent c.args.rows.now)
    c.args.control.now c.args.client keep one f contents trace represents unshut kept.1
    (subst (λ (xs : List ℤ). IsInDoubt old c.args.client xs (g.R.RowStore.times c.args.rows.now) (g.R.RowStore.times c.commit.new.self)) c.as_slice.ensures.value c.in_err-moment.ensures.doubt) h)
