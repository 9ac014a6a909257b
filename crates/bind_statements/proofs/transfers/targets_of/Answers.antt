use Rattle.std.proofs.Common.{arith}
use Rattle.bind_statements.proofs.Alone.{one_more_field}
use Rattle.bind_statements.proofs.transfers.targets_of.Goals as goal

pub loop-i-preserved : goal.loop-i-preserved
loop-i-preserved c =
    one_more_field c.args.buffer c.args.fields.now c.loop-i.i c.loop-i.i c.index-fields-i.result c.loop-i.bound.items _ c.field_target-target.result (omega arith) c.index-fields-i.is (omega arith)
    c.field_target-target.ensures c.in_ok-push.ensures.items c.loop-i.invariant
