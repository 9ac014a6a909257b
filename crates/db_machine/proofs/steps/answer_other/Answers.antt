use Rattle.database_protocol.specs.declared.answer.Answer.TheVariants.{Closed, NoMemory}
use Rattle.db_machine.proofs.OwnAnswers.{not_end}
use Rattle.db_machine.proofs.Replying.{counts_then, step_failed}
use Rattle.db_machine.proofs.steps.answer_other.Goals as goal

pub returns-in-Err-NoMemory-clause-step : goal.returns-in-Err-NoMemory-clause-step
returns-in-Err-NoMemory-clause-step g c =
    let rows = g.R.RowStore.state c.args.rows.now in
    let e = c.in-Err-NoMemory.ensures in
    step_failed rows c.args.control.now c.args.schema.now c.args.size c.args.closed c.args.client c.args.op.now c.requires.schema
    (λ f s h o is. c.refusals_are_known.ensures.allowed f rows c.args.control.now s c.args.schema.now h o is c.args.client c.args.op.now)
    e.allowed (g.R.RowStore.state c.try_answer.new.rows) c.try_answer.new.control c.end_failed.new.control NoMemory c.requires.other (c.requires.fine e.unshut) tt e.stays c.requires.sound
    c.end_failed.ensures.sound (counts_then c.args.control.now c.try_answer.new.control c.end_failed.new.control e.stays.counts c.end_failed.ensures.counts)
    (λ r f s h. c.end_failed.ensures.represents f r s c.args.op.now NoMemory h tt)

pub returns-in-Err-Disk-clause-step : goal.returns-in-Err-Disk-clause-step
returns-in-Err-Disk-clause-step g c =
    let rows = g.R.RowStore.state c.args.rows.now in
    let e = c.in-Err-Disk.ensures in
    let ends = c.end_failed-in-Err-Disk in
    step_failed rows c.args.control.now c.args.schema.now c.args.size c.args.closed c.args.client c.args.op.now c.requires.schema
    (λ f s h o is. c.refusals_are_known.ensures.allowed f rows c.args.control.now s c.args.schema.now h o is c.args.client c.args.op.now)
    e.allowed (g.R.RowStore.state c.try_answer.new.rows) c.try_answer.new.control ends.new.control Closed c.requires.other (c.requires.fine e.unshut) tt e.stays c.requires.sound
    ends.ensures.sound (counts_then c.args.control.now c.try_answer.new.control ends.new.control e.stays.counts ends.ensures.counts)
    (λ r f s h. ends.ensures.represents f r s c.args.op.now Closed h tt)

pub returns-in-Err-NoMemory-clause-fits : goal.returns-in-Err-NoMemory-clause-fits
returns-in-Err-NoMemory-clause-fits g c = not_end c.args.op.now c.requires.other

pub returns-in-Err-Disk-clause-fits : goal.returns-in-Err-Disk-clause-fits
returns-in-Err-Disk-clause-fits g c = not_end c.args.op.now c.requires.other
