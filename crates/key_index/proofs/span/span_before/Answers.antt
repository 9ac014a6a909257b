use Rattle.std.proofs.Common.{ℕ, List, false, sym, subst}
use Rattle.std.specs.Option.{option_copied}
use Rattle.std.specs.declared.ops.Bound.TheVariants.{Included}
use Rattle.key_index.specs.Span.{IsKeyUpTo}
use Rattle.key_index.proofs.Orders.{prefix_upto}
use Rattle.key_index.proofs.Spans.{span_in_order}
use Rattle.key_index.proofs.span.span_before.Goals as goal

pub returns : goal.returns
returns c =
    span_in_order (option_copied c.args.cursor) c.args.prefix.now false (Included c.in_ok-from_slice.field-0) c.in_ok-end.end c.in_order.result c.in_order.ensures
    (λ key begins far. (subst (λ (p : List ℕ). IsKeyUpTo p key) (sym c.in_ok-from_slice.ensures.items) (prefix_upto key c.args.prefix.now begins), c.in_ok-end.ensures.covers key begins far))
    (λ key from before. c.in_ok-end.ensures.beyond key before)
