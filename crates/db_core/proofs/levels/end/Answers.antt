use Rattle.std.proofs.Common.{sym, subst}
use Rattle.db_core.specs.declared.control.Control.{Control}
use Rattle.db_core.specs.Represents.{IsSound}
use Rattle.db_core.proofs.Ends.{end_counted, end_sound}
use Rattle.db_core.proofs.Sound.{sound_counted}
use Rattle.std.proofs.Common.{◌||◌}
use Rattle.db_core.proofs.StayLaws.{counts_more, keeps_based}
use Rattle.db_core.proofs.levels.end.Goals as goal

pub returns-clause-represents : goal.returns-clause-represents
returns-clause-represents g c = λ f s represents.
    end_counted f (g.R.RowStore.state c.args.rows.now) (g.R.RowStore.state c.abandon_open.new.rows) c.args.control.now c.end_client-freed.new.control c.count_frees.new.control s c.args.client
    c.requires.sound (g.met.R.RowStore.consistent c.args.rows.now) c.abandon_open.ensures.abandoned c.end_client-freed.ensures.ends represents c.end_client-freed.result c.has_reserved-reserved.result
    c.end_client-freed.ensures.frees c.end_client-freed.ensures.freed c.has_reserved-reserved.ensures c.count_frees.ensures

pub returns-clause-sound : goal.returns-clause-sound
returns-clause-sound g c =
    subst (λ (k : Control). IsSound (g.R.RowStore.state c.abandon_open.new.rows) k) (sym c.count_frees.ensures)
    (sound_counted (g.R.RowStore.state c.abandon_open.new.rows) c.end_client-freed.new.control _
    (end_sound (g.R.RowStore.state c.args.rows.now) (g.R.RowStore.state c.abandon_open.new.rows) c.args.control.now c.end_client-freed.new.control c.args.client c.requires.sound (g.met.R.RowStore.consistent c.args.rows.now) c.abandon_open.ensures.abandoned c.end_client-freed.ensures.ends))

pub returns-clause-keeps : goal.returns-clause-keeps
returns-clause-keeps g c =
    let ends = c.end_client-freed.ensures.ends in
    keeps_based (g.R.RowStore.state c.args.rows.now) (g.R.RowStore.state c.abandon_open.new.rows) c.args.control.now c.count_frees.new.control c.abandon_open.ensures.abandoned.base
    (counts_more c.args.control.now c.end_client-freed.new.control c.count_frees.new.control (c.has_reserved-reserved.result || c.end_client-freed.result) ends.client.count ends.sequences c.end_client-freed.ensures.frees c.count_frees.ensures)
