use Rattle.std.proofs.Common.{refl}
use Rattle.bound_tree.specs.Bound.{maybe_expr_of}
use Rattle.bind_expressions.specs.Views.{typed_of}
use Rattle.bind_blocks.specs.Headers.{to_phrase}
use Rattle.bind_blocks.proofs.Joining.{four_judged}
use Rattle.bind_blocks.proofs.counters.counting.Goals as goal

pub returns : goal.returns
returns c =
    four_judged to_phrase _ _ _ _ c.in_ok-variable.variable (typed_of c.in_ok-start.start) (typed_of c.in_ok-end.end) (maybe_expr_of c.in_ok-by.by) _ _ _ _ _ _
    c.in_ok-variable.ensures c.in_ok-start.ensures c.in_ok-end.ensures c.in_ok-by.ensures (c.to_phrase.ensures (typed_of c.in_ok-start.start) (typed_of c.in_ok-end.end) refl refl)
