use Rattle.std.proofs.Common.{◌≡◌, drop}
use Rattle.syntax_tree.specs.Typed.{statements_of}
use Rattle.buffer_scope.specs.Blocks.{through_all}
use Rattle.buffer_scope.specs.Views.{all_of}
use Rattle.buffer_scope.proofs.blocks.+walk.Given as goal

abbrev pub invariant-through_all-loop-statement : goal.invariant-through_all-loop-statement
invariant-through_all-loop-statement l =
    through_all l.outer (all_of l.initial.blocks.items) (statements_of l.body) ≡ through_all l.outer (all_of l.blocks.items) (statements_of (drop l.statement-index l.body))
