use Rattle.binder.proofs.Choices.{choice_is}
use Rattle.binder.proofs.statements.chooses.Goals as goal

pub returns : goal.returns
returns c = choice_is c.args.test.expr c.args.then_body c.args.else_body
