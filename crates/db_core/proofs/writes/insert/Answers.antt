use Rattle.std.proofs.Common.{refl, sym, ◌∙◌}
use Rattle.db_core.proofs.Sound.{change_sound, marks_stay}
use Rattle.db_core.proofs.Inserts.{insert_represents, is_fresh}
use Rattle.db_core.proofs.StayLaws.{counts_of, insert_stays, keeps_based, next_of, no_lock}
use Rattle.db_core.proofs.Crashes.{based, failed}
use Rattle.db_core.proofs.writes.insert.Goals as goal

pub returns-in-Ok-insert-clause-represents : goal.returns-in-Ok-insert-clause-represents
returns-in-Ok-insert-clause-represents g c = λ f s represents.
    insert_represents (g.R.RowStore.state c.args.rows.now) (g.R.RowStore.state c.insert.new.self) c.args.control.now c.grant.new.control c.args.client c.args.table c.args.row c.args.values.now
    c.requires.sound (g.met.R.RowStore.consistent c.args.rows.now) c.requires.fine c.requires.free c.in-Ok-insert.ensures.ok c.in-Ok.ensures.ok f s represents

pub returns-in-Ok-insert-clause-fresh : goal.returns-in-Ok-insert-clause-fresh
returns-in-Ok-insert-clause-fresh g c = λ f s represents seen.
    is_fresh (g.R.RowStore.state c.args.rows.now) (g.R.RowStore.state c.insert.new.self) c.args.control.now c.grant.new.control c.args.client c.args.table c.args.row c.args.values.now
    c.requires.sound (g.met.R.RowStore.consistent c.args.rows.now) c.requires.fine c.requires.free c.in-Ok-insert.ensures.ok c.in-Ok.ensures.ok f s represents seen

pub returns-in-Ok-insert-clause-sound : goal.returns-in-Ok-insert-clause-sound
returns-in-Ok-insert-clause-sound g c =
    change_sound (g.R.RowStore.state c.args.rows.now) (g.R.RowStore.state c.insert.new.self) c.args.control.now c.grant.new.control c.args.client c.args.row.0 _ c.requires.begun c.in-Ok-insert.ensures.ok
    (marks_stay c.args.control.now c.grant.new.control c.args.client _ c.in-Ok.ensures.ok.client) c.in-Ok.ensures.ok.client.blocked c.in-Ok.ensures.ok.client.own_blocked c.requires.sound

pub returns-in-Ok-insert-clause-keeps : goal.returns-in-Ok-insert-clause-keeps
returns-in-Ok-insert-clause-keeps g c =
    let grants = c.in-Ok.ensures.ok in
    keeps_based (g.R.RowStore.state c.args.rows.now) (g.R.RowStore.state c.insert.new.self) c.args.control.now c.grant.new.control c.in-Ok-insert.ensures.ok.base
    (next_of c.args.control.now c.grant.new.control (counts_of c.args.control.now c.grant.new.control grants.client.count grants.sequences grants.frees))

pub returns-in-Err-insert-clause-stays : goal.returns-in-Err-insert-clause-stays
returns-in-Err-insert-clause-stays g c =
    insert_stays c.args.control.now c.grant.new.control (record c.grant.new.control { locks = c.release.new.self }) c.args.client c.args.row.0 c.in-Ok.ensures.ok c.release.ensures.left refl refl refl
    (g.R.RowStore.state c.args.rows.now) (g.R.RowStore.state c.insert.new.self) (sym c.held.ensures ∙ no_lock c.held.result (sym c.is_some.ensures ∙ c.if-is_some.false)) c.in-Err-insert.error c.in-Err-insert.ensures.err

pub returns-in-Ok-insert-clause-durable : goal.returns-in-Ok-insert-clause-durable
returns-in-Ok-insert-clause-durable g c = based (g.R.RowStore.state c.args.rows.now) (g.R.RowStore.state c.insert.new.self) (g.R.RowStore.left c.args.rows.now) (g.R.RowStore.left c.insert.new.self) (g.R.RowStore.times c.args.rows.now) (g.R.RowStore.times c.insert.new.self) (g.met.R.RowStore.left_known c.insert.new.self) (g.met.R.RowStore.since_past c.args.rows.now) c.insert.ensures.time c.in-Ok-insert.ensures.ok.base

pub returns-in-Err-insert-clause-durable : goal.returns-in-Err-insert-clause-durable
returns-in-Err-insert-clause-durable g c = failed (g.R.RowStore.state c.args.rows.now) (g.R.RowStore.state c.insert.new.self) (g.R.RowStore.left c.args.rows.now) (g.R.RowStore.left c.insert.new.self) (g.R.RowStore.times c.args.rows.now) (g.R.RowStore.times c.insert.new.self) (g.met.R.RowStore.left_known c.insert.new.self) (g.met.R.RowStore.since_past c.args.rows.now) _ c.insert.ensures.time c.in-Err-insert.ensures.err
