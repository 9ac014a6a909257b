use Rattle.syntax_reader.specs.Streaming.{AreTargets}
use Rattle.syntax_reader.specs.Views.{source_of}
use Rattle.syntax_reader.proofs.Rows.{row_starts, target_more, targets_done}
use Rattle.syntax_reader.proofs.streaming.import_targets.Goals as goal

pub loop-found-init : goal.loop-found-init
loop-found-init c = row_starts (AreTargets (source_of c.args.reader.now)) c.args.begun c.new-found.result.items c.new-found.ensures.items

pub loop-found-preserved : goal.loop-found-preserved
loop-found-preserved c =
    target_more (source_of c.args.reader.now) c.args.begun c.loop-found.n c.in-Some.end c.loop-found.found.items c.push.new.self.items c.in-Some.one c.loop-found.invariant
    (rw c.in-Some.is at c.in_ok-one.ensures.is) (rw c.in-Some.is at c.in_ok-one.ensures.after) c.in_ok-push.ensures.items

pub returns-clause-is : goal.returns-clause-is
returns-clause-is c = targets_done (source_of c.args.reader.now) _ _ _ _ c.loop-found.invariant c.in_ok-k.ensures.is
