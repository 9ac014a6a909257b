use Rattle.binder.proofs.statements.continued.Goals as goal

pub returns : goal.returns
returns c = c.next.ensures c.args.notes.now
