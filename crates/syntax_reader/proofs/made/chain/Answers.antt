use Rattle.std.proofs.Common.{ap, ◌∙◌}
use Rattle.syntax_tree.specs.declared.expression.Expression.{Expression as TypedExpression}
use Rattle.syntax_tree.specs.Typed.{expression_of, linked_of}
use Rattle.syntax_tree.proofs.Chains.{chain_is}
use Rattle.syntax_reader.proofs.made.chain.Goals as goal

pub returns : goal.returns
returns c = chain_is c.in_ok-first.first c.args.rest ∙ ap (λ (x : TypedExpression). linked_of c.args.rest.items (expression_of x)) c.in_ok-first.ensures.ok
