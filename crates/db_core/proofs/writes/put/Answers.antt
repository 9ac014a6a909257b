use Rattle.db_core.proofs.Sound.{change_sound, marks_stay}
use Rattle.db_core.proofs.Puts.{put_represents}
use Rattle.db_core.proofs.StayLaws.{counts_wait, keeps_based, next_of}
use Rattle.db_core.proofs.Crashes.{based, failed}
use Rattle.db_core.proofs.writes.put.Goals as goal

pub returns-clause-represents : goal.returns-clause-represents
returns-clause-represents g c = λ f s represents holds.
    put_represents (g.R.RowStore.state c.args.rows.now) (g.R.RowStore.state c.put.new.self) c.args.control.now c.end_wait.new.control c.args.client c.args.table c.args.row c.requires.sound (g.met.R.RowStore.consistent c.args.rows.now) c.requires.fine
    c.end_wait.ensures f s represents holds c.args.values.now c.in_ok-put.ensures.ok

pub returns-clause-sound : goal.returns-clause-sound
returns-clause-sound g c =
    change_sound (g.R.RowStore.state c.args.rows.now) (g.R.RowStore.state c.put.new.self) c.args.control.now c.end_wait.new.control c.args.client c.args.row.0 _ c.requires.begun c.in_ok-put.ensures.ok
    (marks_stay c.args.control.now c.end_wait.new.control c.args.client _ c.end_wait.ensures.client) c.end_wait.ensures.client.blocked c.end_wait.ensures.client.own_blocked c.requires.sound

pub returns-clause-keeps : goal.returns-clause-keeps
returns-clause-keeps g c =
    keeps_based (g.R.RowStore.state c.args.rows.now) (g.R.RowStore.state c.put.new.self) c.args.control.now c.end_wait.new.control c.in_ok-put.ensures.ok.base
    (next_of c.args.control.now c.end_wait.new.control (counts_wait c.args.control.now c.end_wait.new.control c.args.client c.end_wait.ensures))

pub returns-clause-durable : goal.returns-clause-durable
returns-clause-durable g c = based (g.R.RowStore.state c.args.rows.now) (g.R.RowStore.state c.put.new.self) (g.R.RowStore.left c.args.rows.now) (g.R.RowStore.left c.put.new.self) (g.R.RowStore.times c.args.rows.now) (g.R.RowStore.times c.put.new.self) (g.met.R.RowStore.left_known c.put.new.self) (g.met.R.RowStore.since_past c.args.rows.now) c.put.ensures.time c.in_ok-put.ensures.ok.base

pub returns-in_err-put-clause-durable : goal.returns-in_err-put-clause-durable
returns-in_err-put-clause-durable g c = failed (g.R.RowStore.state c.args.rows.now) (g.R.RowStore.state c.put.new.self) (g.R.RowStore.left c.args.rows.now) (g.R.RowStore.left c.put.new.self) (g.R.RowStore.times c.args.rows.now) (g.R.RowStore.times c.put.new.self) (g.met.R.RowStore.left_known c.put.new.self) (g.met.R.RowStore.since_past c.args.rows.now) _ c.put.ensures.time c.in_err-put.ensures.err
