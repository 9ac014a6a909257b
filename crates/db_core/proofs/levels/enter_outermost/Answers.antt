use Rattle.std.proofs.Common.{length, sym, ap, ◌∙◌}
use Rattle.row_store.specs.Rows.{RowTransaction}
use Rattle.db_core.specs.Represents.{is_open}
use Rattle.db_core.proofs.LevelMoves.{begins_opens, enter_represents, enter_sound, enters_of, popped_same}
use Rattle.db_core.proofs.StayLaws.{counts_of, keeps_based, next_of, stays_same}
use Rattle.db_core.proofs.Crashes.{based, failed}
use Rattle.db_core.proofs.levels.enter_outermost.Goals as goal

pub begin-requires-clause-idle : goal.begin-requires-clause-idle
begin-requires-clause-idle g c = (c.requires.sound.client c.args.client).begun ∙ ap is_open c.requires.closed

pub returns-in-Ok-begin-clause-represents : goal.returns-in-Ok-begin-clause-represents
returns-in-Ok-begin-clause-represents g c = λ f s represents.
    let rows = g.R.RowStore.state c.args.rows.now in
    let settled = g.met.R.RowStore.consistent c.args.rows.now in
    let idle = (c.requires.sound.client c.args.client).begun ∙ ap is_open c.requires.closed in
    let none = settled.idle c.args.client idle in
    enter_represents rows (g.R.RowStore.state c.begin.new.self) c.args.control.now c.end_wait.new.control c.args.client 0 c.requires.sound settled
    (begins_opens rows (g.R.RowStore.state c.begin.new.self) c.args.client settled idle c.in-Ok-begin.ensures.ok) (sym (ap (λ (t : RowTransaction). length t.changes) none))
    (enters_of c.args.control.now c.push_mark.new.control c.end_wait.new.control c.args.client 0 c.in-Ok.ensures.ok c.end_wait.ensures) f s represents

pub returns-in-Ok-begin-clause-sound : goal.returns-in-Ok-begin-clause-sound
returns-in-Ok-begin-clause-sound g c =
    let rows = g.R.RowStore.state c.args.rows.now in
    let settled = g.met.R.RowStore.consistent c.args.rows.now in
    let idle = (c.requires.sound.client c.args.client).begun ∙ ap is_open c.requires.closed in
    let none = settled.idle c.args.client idle in
    enter_sound rows (g.R.RowStore.state c.begin.new.self) c.args.control.now c.end_wait.new.control c.args.client 0 c.requires.sound settled
    (begins_opens rows (g.R.RowStore.state c.begin.new.self) c.args.client settled idle c.in-Ok-begin.ensures.ok) (sym (ap (λ (t : RowTransaction). length t.changes) none))
    (enters_of c.args.control.now c.push_mark.new.control c.end_wait.new.control c.args.client 0 c.in-Ok.ensures.ok c.end_wait.ensures)

pub returns-in-Err-begin-clause-control : goal.returns-in-Err-begin-clause-control
returns-in-Err-begin-clause-control g c = popped_same c.args.control.now c.push_mark.new.control c.pop_mark.new.control c.args.client 0 c.in-Ok.ensures.ok c.pop_mark.ensures

pub returns-in-Ok-begin-clause-keeps : goal.returns-in-Ok-begin-clause-keeps
returns-in-Ok-begin-clause-keeps g c =
    let pushed = c.in-Ok.ensures.ok in
    let ends = c.end_wait.ensures in
    keeps_based (g.R.RowStore.state c.args.rows.now) (g.R.RowStore.state c.begin.new.self) c.args.control.now c.end_wait.new.control c.in-Ok-begin.ensures.ok.base
    (next_of c.args.control.now c.end_wait.new.control (counts_of c.args.control.now c.end_wait.new.control (ends.client.count ∙ pushed.count) (ends.sequences ∙ pushed.sequences) (ends.frees ∙ pushed.frees)))

pub returns-in-Err-begin-clause-stays : goal.returns-in-Err-begin-clause-stays
returns-in-Err-begin-clause-stays g c =
    stays_same (g.R.RowStore.state c.args.rows.now) (g.R.RowStore.state c.begin.new.self) c.args.control.now c.pop_mark.new.control c.args.client c.in-Err-begin.error c.in-Err-begin.ensures.err
    (popped_same c.args.control.now c.push_mark.new.control c.pop_mark.new.control c.args.client 0 c.in-Ok.ensures.ok c.pop_mark.ensures)

pub returns-in-Ok-begin-clause-durable : goal.returns-in-Ok-begin-clause-durable
returns-in-Ok-begin-clause-durable g c = based (g.R.RowStore.state c.args.rows.now) (g.R.RowStore.state c.begin.new.self) (g.R.RowStore.left c.args.rows.now) (g.R.RowStore.left c.begin.new.self) (g.R.RowStore.times c.args.rows.now) (g.R.RowStore.times c.begin.new.self) (g.met.R.RowStore.left_known c.begin.new.self) (g.met.R.RowStore.since_past c.args.rows.now) c.begin.ensures.time c.in-Ok-begin.ensures.ok.base

pub returns-in-Err-begin-clause-durable : goal.returns-in-Err-begin-clause-durable
returns-in-Err-begin-clause-durable g c = failed (g.R.RowStore.state c.args.rows.now) (g.R.RowStore.state c.begin.new.self) (g.R.RowStore.left c.args.rows.now) (g.R.RowStore.left c.begin.new.self) (g.R.RowStore.times c.args.rows.now) (g.R.RowStore.times c.begin.new.self) (g.met.R.RowStore.left_known c.begin.new.self) (g.met.R.RowStore.since_past c.args.rows.now) _ c.begin.ensures.time c.in-Err-begin.ensures.err
