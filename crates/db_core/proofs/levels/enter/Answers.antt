use Rattle.std.proofs.Common.{sym, ◌∙◌}
use Rattle.db_core.proofs.Drops.{nothing_open}
use Rattle.db_core.proofs.LevelMoves.{some_open}
use Rattle.db_core.proofs.levels.enter.Goals as goal

pub enter_outermost-requires-clause-closed : goal.enter_outermost-requires-clause-closed
enter_outermost-requires-clause-closed g c = nothing_open _ (sym c.depth.ensures ∙ c.if-depth-eq0.true)

pub enter_inner-requires-clause-begun : goal.enter_inner-requires-clause-begun
enter_inner-requires-clause-begun g c = (c.requires.sound.client c.args.client).begun ∙ some_open _ (λ e. c.if-depth-eq0.false (c.depth.ensures ∙ e))
