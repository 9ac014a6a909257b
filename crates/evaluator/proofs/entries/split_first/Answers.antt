use Rattle.std.proofs.Common.{below_more, arith}
use Rattle.evaluator.proofs.Begins.{starts_at}
use Rattle.evaluator.proofs.Splits.{split_here, no_split, part_first}
use Rattle.evaluator.proofs.entries.split_first.Goals as goal

pub returns-then-starts_with : goal.returns-then-starts_with
returns-then-starts_with c =
    let list = c.args.list.now in
    let here = starts_at _ list c.args.delimiter.now c.loop-end.end c.if-starts_with.ensures.value in
    let split = split_here c.args.delimiter.now list c.loop-end.end c.requires c.loop-end-test.true c.loop-end.invariant here in
    record { first = part_first _ _ _ split.parts; rest = split }

pub loop-end-preserved : goal.loop-end-preserved
loop-end-preserved c =
    below_more _ _ c.loop-end.invariant (starts_at _ c.args.list.now c.args.delimiter.now c.loop-end.end c.if-starts_with.ensures.value)

pub returns : goal.returns
returns c =
    let only = no_split c.args.delimiter.now c.args.list.now (λ k l. c.loop-end.invariant k (omega arith)) in
    record { first = part_first _ _ _ only; rest = only }
