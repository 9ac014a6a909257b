use Rattle.syntax_tree.proofs.Chains.{chain_starts}
use Rattle.syntax_tree.proofs.expression.Expression.+starts_at.Goals as goal

pub returns-in-Chain : goal.returns-in-Chain
returns-in-Chain t c = cc (chain_starts c.in-Chain.first c.in-Chain.rest)
