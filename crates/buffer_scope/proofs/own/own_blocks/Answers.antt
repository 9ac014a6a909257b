use Rattle.std.proofs.Common.{arith}
use Rattle.buffer_scope.specs.Scopes.{is_strong, is_weak}
use Rattle.buffer_scope.proofs.Sets.{none_left, own_is}
use Rattle.buffer_scope.proofs.own.own_blocks.Goals as goal

pub returns : goal.returns
returns c =
    let l = c.loop-reference in let rs = c.args.references.now in
    own_is _ rs
    (λ q. none_left is_strong rs l.reference-index q _ (omega (arith, c.loop-reference-test.false)) (l.invariant.strong q))
    (λ q. none_left is_weak rs l.reference-index q _ (omega (arith, c.loop-reference-test.false)) (l.invariant.weak q))
