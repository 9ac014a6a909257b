use Rattle.std.proofs.Common.{◌≡◌, ◌-◌, get_or, arith}
use Rattle.db_core.specs.Represents.{marks_at}
use Rattle.db_core.proofs.Backs.{back_represents, back_sound, within_mark, mark_found}
use Rattle.db_core.proofs.StayLaws.{counts_of, keeps_based, next_of}
use Rattle.db_core.proofs.Crashes.{based, failed}
use Rattle.db_core.proofs.levels.back.Goals as goal

pub back-requires-clause-mark : goal.back-requires-clause-mark
back-requires-clause-mark g c =
    let is : c.index-mark.result.now ≡ get_or (marks_at c.args.control.now c.args.client) (c.args.depth - 1) 0 =
    mark_found c.args.control.now c.args.client c.from.result c.index.result.now (c.args.depth - 1) c.index-mark.result.now c.from.ensures c.requires.known c.index.ensures c.index-mark.ensures (let level = c.requires.level in let there = c.requires.open in omega arith) in
    within_mark (g.R.RowStore.state c.args.rows.now) c.args.control.now c.args.client c.args.depth c.index-mark.result.now c.requires.sound c.requires.level c.requires.open is

pub returns-clause-represents : goal.returns-clause-represents
returns-clause-represents g c = λ f s represents.
    let is : c.index-mark.result.now ≡ get_or (marks_at c.args.control.now c.args.client) (c.args.depth - 1) 0 =
    mark_found c.args.control.now c.args.client c.from.result c.index.result.now (c.args.depth - 1) c.index-mark.result.now c.from.ensures c.requires.known c.index.ensures c.index-mark.ensures (let level = c.requires.level in let there = c.requires.open in omega arith) in
    back_represents (g.R.RowStore.state c.args.rows.now) (g.R.RowStore.state c.back.new.self) c.args.control.now c.back_to_level.new.control c.args.client c.args.depth c.index-mark.result.now
    c.requires.sound (g.met.R.RowStore.consistent c.args.rows.now) c.requires.level c.requires.open is c.in_ok-back.ensures.ok c.back_to_level.ensures f s represents

pub returns-clause-sound : goal.returns-clause-sound
returns-clause-sound g c =
    let is : c.index-mark.result.now ≡ get_or (marks_at c.args.control.now c.args.client) (c.args.depth - 1) 0 =
    mark_found c.args.control.now c.args.client c.from.result c.index.result.now (c.args.depth - 1) c.index-mark.result.now c.from.ensures c.requires.known c.index.ensures c.index-mark.ensures (let level = c.requires.level in let there = c.requires.open in omega arith) in
    back_sound (g.R.RowStore.state c.args.rows.now) (g.R.RowStore.state c.back.new.self) c.args.control.now c.back_to_level.new.control c.args.client c.args.depth c.index-mark.result.now
    c.requires.sound (g.met.R.RowStore.consistent c.args.rows.now) c.requires.level c.requires.open is c.in_ok-back.ensures.ok c.back_to_level.ensures

pub returns-clause-keeps : goal.returns-clause-keeps
returns-clause-keeps g c =
    let backs = c.back_to_level.ensures in
    keeps_based (g.R.RowStore.state c.args.rows.now) (g.R.RowStore.state c.back.new.self) c.args.control.now c.back_to_level.new.control c.in_ok-back.ensures.ok.base
    (next_of c.args.control.now c.back_to_level.new.control (counts_of c.args.control.now c.back_to_level.new.control backs.client.count backs.sequences backs.frees))

pub returns-clause-durable : goal.returns-clause-durable
returns-clause-durable g c = based (g.R.RowStore.state c.args.rows.now) (g.R.RowStore.state c.back.new.self) (g.R.RowStore.left c.args.rows.now) (g.R.RowStore.left c.back.new.self) (g.R.RowStore.times c.args.rows.now) (g.R.RowStore.times c.back.new.self) (g.met.R.RowStore.left_known c.back.new.self) (g.met.R.RowStore.since_past c.args.rows.now) c.back.ensures.time c.in_ok-back.ensures.ok.base

pub returns-in_err-back-clause-durable : goal.returns-in_err-back-clause-durable
returns-in_err-back-clause-durable g c = failed (g.R.RowStore.state c.args.rows.now) (g.R.RowStore.state c.back.new.self) (g.R.RowStore.left c.args.rows.now) (g.R.RowStore.left c.back.new.self) (g.R.RowStore.times c.args.rows.now) (g.R.RowStore.times c.back.new.self) (g.met.R.RowStore.left_known c.back.new.self) (g.met.R.RowStore.since_past c.args.rows.now) _ c.back.ensures.time c.in_err-back.ensures.err
