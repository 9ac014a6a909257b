use Rattle.std.proofs.Common.{ap, length, sym, subst}
use Rattle.database_meaning.specs.Traces.{is_leave}
use Rattle.db_core.specs.Represents.{marks_at}
use Rattle.db_machine.specs.Memory.{MayLackMemory}
use Rattle.db_machine.proofs.Crashes.{continues_by, continues_inside}
use Rattle.db_machine.proofs.steps.answer_allowed.Goals as goal

pub returns-in-Enter-clause-durable : goal.returns-in-Enter-clause-durable
returns-in-Enter-clause-durable g c =
    continues_by (g.R.RowStore.state c.args.rows.now) (g.R.RowStore.state c.answer_enter.new.rows) (g.R.RowStore.left c.args.rows.now) (g.R.RowStore.left c.answer_enter.new.rows) (g.R.RowStore.times c.args.rows.now) (g.R.RowStore.times c.answer_enter.new.rows) c.args.control.now c.args.client c.args.op.now c.answer_enter.result c.answer_enter.ensures.durable c.args.schema.now (ap is_leave c.in-Enter.is) c.answer_enter.ensures.own

pub returns-in-Back-clause-durable : goal.returns-in-Back-clause-durable
returns-in-Back-clause-durable g c =
    continues_by (g.R.RowStore.state c.args.rows.now) (g.R.RowStore.state c.answer_back.new.rows) (g.R.RowStore.left c.args.rows.now) (g.R.RowStore.left c.answer_back.new.rows) (g.R.RowStore.times c.args.rows.now) (g.R.RowStore.times c.answer_back.new.rows) c.args.control.now c.args.client c.args.op.now c.answer_back.result c.answer_back.ensures.durable c.args.schema.now (ap is_leave c.in-Back.is) c.answer_back.ensures.own

pub returns-in-Lock-clause-durable : goal.returns-in-Lock-clause-durable
returns-in-Lock-clause-durable g c =
    continues_by (g.R.RowStore.state c.args.rows.now) (g.R.RowStore.state c.answer_lock.new.rows) (g.R.RowStore.left c.args.rows.now) (g.R.RowStore.left c.answer_lock.new.rows) (g.R.RowStore.times c.args.rows.now) (g.R.RowStore.times c.answer_lock.new.rows) c.args.control.now c.args.client c.args.op.now c.answer_lock.result c.answer_lock.ensures.durable c.args.schema.now (ap is_leave c.in-Lock.is) c.answer_lock.ensures.own

pub returns-in-Insert-clause-durable : goal.returns-in-Insert-clause-durable
returns-in-Insert-clause-durable g c =
    continues_by (g.R.RowStore.state c.args.rows.now) (g.R.RowStore.state c.answer_insert.new.rows) (g.R.RowStore.left c.args.rows.now) (g.R.RowStore.left c.answer_insert.new.rows) (g.R.RowStore.times c.args.rows.now) (g.R.RowStore.times c.answer_insert.new.rows) c.args.control.now c.args.client c.args.op.now c.answer_insert.result c.answer_insert.ensures.durable c.args.schema.now (ap is_leave c.in-Insert.is) c.answer_insert.ensures.own

pub returns-in-Put-clause-durable : goal.returns-in-Put-clause-durable
returns-in-Put-clause-durable g c =
    continues_by (g.R.RowStore.state c.args.rows.now) (g.R.RowStore.state c.answer_put.new.rows) (g.R.RowStore.left c.args.rows.now) (g.R.RowStore.left c.answer_put.new.rows) (g.R.RowStore.times c.args.rows.now) (g.R.RowStore.times c.answer_put.new.rows) c.args.control.now c.args.client c.args.op.now c.answer_put.result c.answer_put.ensures.durable c.args.schema.now (ap is_leave c.in-Put.is) c.answer_put.ensures.own

pub returns-in-Delete-clause-durable : goal.returns-in-Delete-clause-durable
returns-in-Delete-clause-durable g c =
    continues_by (g.R.RowStore.state c.args.rows.now) (g.R.RowStore.state c.answer_delete.new.rows) (g.R.RowStore.left c.args.rows.now) (g.R.RowStore.left c.answer_delete.new.rows) (g.R.RowStore.times c.args.rows.now) (g.R.RowStore.times c.answer_delete.new.rows) c.args.control.now c.args.client c.args.op.now c.answer_delete.result c.answer_delete.ensures.durable c.args.schema.now (ap is_leave c.in-Delete.is) c.answer_delete.ensures.own

pub returns-in-Drop-clause-durable : goal.returns-in-Drop-clause-durable
returns-in-Drop-clause-durable g c =
    continues_by (g.R.RowStore.state c.args.rows.now) (g.R.RowStore.state c.answer_drop.new.rows) (g.R.RowStore.left c.args.rows.now) (g.R.RowStore.left c.answer_drop.new.rows) (g.R.RowStore.times c.args.rows.now) (g.R.RowStore.times c.answer_drop.new.rows) c.args.control.now c.args.client c.args.op.now c.answer_drop.result c.answer_drop.ensures.durable c.args.schema.now (ap is_leave c.in-Drop.is) c.answer_drop.ensures.own

pub returns-in-NextValue-clause-durable : goal.returns-in-NextValue-clause-durable
returns-in-NextValue-clause-durable g c =
    continues_by (g.R.RowStore.state c.args.rows.now) (g.R.RowStore.state c.answer_next_value.new.rows) (g.R.RowStore.left c.args.rows.now) (g.R.RowStore.left c.answer_next_value.new.rows) (g.R.RowStore.times c.args.rows.now) (g.R.RowStore.times c.answer_next_value.new.rows) c.args.control.now c.args.client c.args.op.now c.answer_next_value.result c.answer_next_value.ensures.durable c.args.schema.now (ap is_leave c.in-NextValue.is) c.answer_next_value.ensures.own

pub returns-else-depth-eq1-clause-durable : goal.returns-else-depth-eq1-clause-durable
returns-else-depth-eq1-clause-durable g c =
    continues_inside (g.R.RowStore.state c.args.rows.now) (g.R.RowStore.state c.answer_inner_leave.new.rows) (g.R.RowStore.left c.args.rows.now) (g.R.RowStore.left c.answer_inner_leave.new.rows) (g.R.RowStore.times c.args.rows.now) (g.R.RowStore.times c.answer_inner_leave.new.rows) c.args.control.now c.args.client c.args.op.now c.answer_inner_leave.result c.answer_inner_leave.ensures.durable c.answer_inner_leave.ensures.uncommitted

pub returns-in-Next-clause-durable : goal.returns-in-Next-clause-durable
returns-in-Next-clause-durable g c =
    continues_inside (g.R.RowStore.state c.args.rows.now) (g.R.RowStore.state c.answer_question.new.rows) (g.R.RowStore.left c.args.rows.now) (g.R.RowStore.left c.answer_question.new.rows) (g.R.RowStore.times c.args.rows.now) (g.R.RowStore.times c.answer_question.new.rows) c.args.control.now c.args.client c.args.op.now c.answer_question.result c.answer_question.ensures.durable c.answer_question.ensures.uncommitted

pub returns-in-Enter-clause-lacks : goal.returns-in-Enter-clause-lacks
returns-in-Enter-clause-lacks g c = λ e. subst (MayLackMemory (length (marks_at c.args.control.now c.args.client))) (sym c.in-Enter.is) tt

pub returns-in-Lock-clause-lacks : goal.returns-in-Lock-clause-lacks
returns-in-Lock-clause-lacks g c = λ e. subst (MayLackMemory (length (marks_at c.args.control.now c.args.client))) (sym c.in-Lock.is) tt

pub returns-in-Insert-clause-lacks : goal.returns-in-Insert-clause-lacks
returns-in-Insert-clause-lacks g c = λ e. subst (MayLackMemory (length (marks_at c.args.control.now c.args.client))) (sym c.in-Insert.is) tt

pub returns-in-Put-clause-lacks : goal.returns-in-Put-clause-lacks
returns-in-Put-clause-lacks g c = λ e. subst (MayLackMemory (length (marks_at c.args.control.now c.args.client))) (sym c.in-Put.is) tt

pub returns-in-Delete-clause-lacks : goal.returns-in-Delete-clause-lacks
returns-in-Delete-clause-lacks g c = λ e. subst (MayLackMemory (length (marks_at c.args.control.now c.args.client))) (sym c.in-Delete.is) tt

pub returns-in-NextValue-clause-lacks : goal.returns-in-NextValue-clause-lacks
returns-in-NextValue-clause-lacks g c = λ e. subst (MayLackMemory (length (marks_at c.args.control.now c.args.client))) (sym c.in-NextValue.is) tt

pub returns-in-Back-clause-lacks : goal.returns-in-Back-clause-lacks
returns-in-Back-clause-lacks g c = λ e. absurd (c.answer_back.ensures.only e)

pub returns-in-Drop-clause-lacks : goal.returns-in-Drop-clause-lacks
returns-in-Drop-clause-lacks g c = λ e. absurd (c.answer_drop.ensures.only e)

pub returns-else-depth-eq1-clause-lacks : goal.returns-else-depth-eq1-clause-lacks
returns-else-depth-eq1-clause-lacks g c = λ e. absurd (c.answer_inner_leave.ensures.only e)
