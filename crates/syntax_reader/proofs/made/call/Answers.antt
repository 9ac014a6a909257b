use Rattle.syntax_tree.proofs.Chains.{call_is}
use Rattle.syntax_reader.proofs.made.call.Goals as goal

pub returns : goal.returns
returns c = call_is c.args.function c.args.at c.args.arguments
