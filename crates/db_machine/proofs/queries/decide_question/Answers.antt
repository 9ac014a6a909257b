use Rattle.std.proofs.Common.{Option, subst}
use Rattle.database_protocol.specs.declared.row_order.Cursor.{Cursor}
use Rattle.database_protocol.specs.declared.operation.Op.TheVariants.{CurrentValue, Get, Next}
use Rattle.database_meaning.specs.Answers.{FromGone}
use Rattle.db_core.proofs.LockRows.{ok_more}
use Rattle.db_machine.proofs.Replying.{from_op}
use Rattle.db_machine.proofs.queries.decide_question.Goals as goal

pub returns-in-Next-clause-answer : goal.returns-in-Next-clause-answer
returns-in-Next-clause-answer g c =
    let n = c.in-Next in
    ok_more c.decide_next.result _ _
    (λ a h f s d represents seen. from_op f s d c.args.op.now (Next n.table n.index n.prefix n.cursor n.forward) a n.is
    (subst (λ (x : Option Cursor). FromGone f s d (Next n.table n.index n.prefix x n.forward) a) c.as_ref.ensures.value (h f s d represents seen)))
    c.decide_next.ensures.answer

pub returns-in-Get-clause-answer : goal.returns-in-Get-clause-answer
returns-in-Get-clause-answer g c =
    ok_more c.decide_get.result _ _
    (λ a h f s d represents seen. from_op f s d c.args.op.now (Get c.in-Get.table c.in-Get.row) a c.in-Get.is (h f s d represents seen))
    c.decide_get.ensures.answer

pub returns-in-CurrentValue-clause-answer : goal.returns-in-CurrentValue-clause-answer
returns-in-CurrentValue-clause-answer g c = λ f s d represents seen.
    from_op f s d c.args.op.now (CurrentValue c.in-CurrentValue.sequence) c.decide_current_value.result c.in-CurrentValue.is (c.decide_current_value.ensures.answer f (g.R.RowStore.state c.args.rows.now) s d represents)
