use Rattle.std.proofs.Common.{◌-◌, ◌∙◌, sym, arith}
use Rattle.schema_lines.proofs.Ends.{cut_more, cut_kept, cut_none}
use Rattle.schema_lines.proofs.lines.without_end.Goals as goal
use Rattle.schema_lines.proofs.lines.without_end.Goals.{then-loop-end-test+else-is_margin, else-loop-end-test}

pub loop-end-preserved : goal.loop-end-preserved
loop-end-preserved c =
    (omega arith, cut_more c.args.line.now c.loop-end.end (c.loop-end.end - 1) (omega arith) (omega arith) (sym c.is_margin.ensures ∙ c.if-is_margin.true) c.loop-end.invariant.1)

pub returns : goal.returns
returns c = elim c.loop-end-test.branch [
  | then-loop-end-test+else-is_margin w ↦ cut_kept c.args.line.now c.loop-end.end (c.loop-end.end - 1) (omega arith) (omega arith) (sym w.is_margin.ensures ∙ w.if-is_margin.false) c.loop-end.invariant.1
  | else-loop-end-test w ↦ cut_none c.args.line.now c.loop-end.end (omega arith) c.loop-end.invariant.1
]
