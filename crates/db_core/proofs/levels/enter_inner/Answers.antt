use Rattle.db_core.proofs.LevelMoves.{begun_opens, enter_represents, enter_sound, enters_of}
use Rattle.std.proofs.Common.{refl, ◌∙◌}
use Rattle.db_core.proofs.StayLaws.{counts_of, next_of}
use Rattle.db_core.proofs.levels.enter_inner.Goals as goal

pub returns-clause-represents : goal.returns-clause-represents
returns-clause-represents g c = λ f s represents.
    let rows = g.R.RowStore.state c.args.rows.now in
    enter_represents rows rows c.args.control.now c.end_wait.new.control c.args.client c.mark-mark.result c.requires.sound (g.met.R.RowStore.consistent c.args.rows.now) (begun_opens rows c.args.client c.requires.begun) c.mark-mark.ensures
    (enters_of c.args.control.now c.push_mark.new.control c.end_wait.new.control c.args.client c.mark-mark.result c.in-Ok.ensures.ok c.end_wait.ensures) f s represents

pub returns-clause-sound : goal.returns-clause-sound
returns-clause-sound g c =
    let rows = g.R.RowStore.state c.args.rows.now in
    enter_sound rows rows c.args.control.now c.end_wait.new.control c.args.client c.mark-mark.result c.requires.sound (g.met.R.RowStore.consistent c.args.rows.now) (begun_opens rows c.args.client c.requires.begun) c.mark-mark.ensures
    (enters_of c.args.control.now c.push_mark.new.control c.end_wait.new.control c.args.client c.mark-mark.result c.in-Ok.ensures.ok c.end_wait.ensures)

pub returns-clause-keeps : goal.returns-clause-keeps
returns-clause-keeps g c =
    let pushed = c.in-Ok.ensures.ok in
    let ends = c.end_wait.ensures in
    record {
      observable = refl;
      failed = refl;
      schema = refl;
      counts = next_of c.args.control.now c.end_wait.new.control (counts_of c.args.control.now c.end_wait.new.control (ends.client.count ∙ pushed.count) (ends.sequences ∙ pushed.sequences) (ends.frees ∙ pushed.frees));
    }
