use Rattle.binder.proofs.statements.left.Goals as goal

pub returns : goal.returns
returns c = c.leave.ensures c.args.notes.now
