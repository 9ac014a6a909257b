use Rattle.std.proofs.Common.{sym, subst}
use Rattle.key_index.specs.Search.{IsKeyBefore}
use Rattle.key_index.specs.Span.{IsBeforeEnd}
use Rattle.key_index.proofs.Spans.{past_end}
use Rattle.key_index.proofs.span.is_past.Goals as goal

pub returns-in-Some-clause-past : goal.returns-in-Some-clause-past
returns-in-Some-clause-past c past other before =
    past_end c.is_before.result c.args.key.now c.as_slice.result.now other c.is_before.ensures past
    (subst (IsKeyBefore other) (sym c.as_slice.ensures.value) (subst (λ end. IsBeforeEnd end other) c.in-Some.is before))
