use Rattle.std.proofs.Common.{ap, ◌∙◌}
use Rattle.syntax_tree.specs.declared.block.Head.{Head as TypedHead}
use Rattle.syntax_tree.specs.Syntax.{Block}
use Rattle.syntax_tree.specs.Typed.{head_of, statements_of}
use Rattle.syntax_tree.proofs.Bodies.{block_is}
use Rattle.syntax_reader.proofs.made.block.Goals as goal

pub returns : goal.returns
returns c = block_is c.in_ok-head.head c.args.body ∙ ap (λ (h : TypedHead). Block (head_of h) (statements_of c.args.body.items)) c.in_ok-head.ensures.ok
