use Rattle.block_rules.specs.Around.{heads_of}
use Rattle.block_rules.proofs.Steps.{block_breaks, next_statement}
use Rattle.block_rules.proofs.rules.+rules.Goals as goal

pub statement_breaks-returns-in-Block : goal.statement_breaks-returns-in-Block
statement_breaks-returns-in-Block t c =
    block_breaks _ c.in-Block.head c.in-Block.body (heads_of c.args.around.now) _ _ _ _ _ _ c.in-Block.is c.deref.ensures c.deref-in-Block-2.ensures c.deref-in-Block.ensures.value
    c.head_breaks.ensures c.statements_break.ensures

pub statements_break-loop-statement-preserved : goal.statements_break-loop-statement-preserved
statements_break-loop-statement-preserved t c =
    next_statement (heads_of c.args.around.now) c.args.body.now c.loop-statement.statement-index c.statement-item.result _ _ _
    c.loop-statement-test.true c.statement-item.is c.loop-statement.invariant c.statement_breaks.ensures
