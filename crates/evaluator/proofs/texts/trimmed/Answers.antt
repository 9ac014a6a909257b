use Rattle.std.proofs.Common.{arith, ◌-◌}
use Rattle.abl_values.proofs.Trailing.{trim_more, trim_kept, trim_none}
use Rattle.evaluator.proofs.texts.trimmed.Goals as goal
use Rattle.evaluator.proofs.texts.trimmed.Goals.{then-loop-end-test+else-text-end-eq32, else-loop-end-test}

pub loop-end-preserved : goal.loop-end-preserved
loop-end-preserved c =
    (omega arith, trim_more 32 c.args.text.now c.loop-end.end (c.loop-end.end - 1) (omega arith) (omega arith) c.if-text-end-eq32.true c.loop-end.invariant.1)

pub returns : goal.returns
returns c = elim c.loop-end-test.branch [
  | then-loop-end-test+else-text-end-eq32 w ↦ trim_kept 32 c.args.text.now c.loop-end.end (c.loop-end.end - 1) (omega arith) (omega arith) w.if-text-end-eq32.false c.loop-end.invariant.1
  | else-loop-end-test w ↦ trim_none 32 c.args.text.now c.loop-end.end (omega arith) c.loop-end.invariant.1
]
