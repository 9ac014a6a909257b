use Rattle.std.proofs.Common.{sym, ap, ◌∙◌}
use Rattle.db_core.specs.Represents.{is_open}
use Rattle.db_core.proofs.Drops.{nothing_open}
use Rattle.db_core.proofs.Ends.{idle_abandons}
use Rattle.db_core.proofs.Crashes.{based}
use Rattle.db_core.proofs.levels.abandon_open.Goals as goal

pub returns-then-depth-eq0-clause-abandoned : goal.returns-then-depth-eq0-clause-abandoned
returns-then-depth-eq0-clause-abandoned g c =
    idle_abandons (g.R.RowStore.state c.args.rows.now) c.args.client (g.met.R.RowStore.consistent c.args.rows.now)
    ((c.requires.sound.client c.args.client).begun ∙ ap is_open (nothing_open _ (sym c.depth.ensures ∙ c.if-depth-eq0.true)))

pub returns-clause-durable : goal.returns-clause-durable
returns-clause-durable g c = based (g.R.RowStore.state c.args.rows.now) (g.R.RowStore.state c.abandon.new.self) (g.R.RowStore.left c.args.rows.now) (g.R.RowStore.left c.abandon.new.self) (g.R.RowStore.times c.args.rows.now) (g.R.RowStore.times c.abandon.new.self) (g.met.R.RowStore.left_known c.abandon.new.self) (g.met.R.RowStore.since_past c.args.rows.now) c.abandon.ensures.time c.abandon.ensures.abandoned.base
