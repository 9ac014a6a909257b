use Rattle.std.proofs.Common.{arith}
use Rattle.bind_statements.proofs.Lists.{one_more_option}
use Rattle.bind_statements.proofs.definitions.all_options.Goals as goal

pub loop-one-preserved : goal.loop-one-preserved
loop-one-preserved c =
    one_more_option c.args.kind c.args.given.now c.loop-one.one-index c.one-item.result c.loop-one.so_far c.in_ok-so_far.so_far c.args.notes.now c.loop-one.notes c.variable_option.new.notes
    (omega arith) c.one-item.is c.in_ok-so_far.ensures c.loop-one.invariant
