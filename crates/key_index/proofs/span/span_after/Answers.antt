use Rattle.std.proofs.Common.{true}
use Rattle.std.specs.Option.{option_copied}
use Rattle.key_index.proofs.Spans.{before_after, span_in_order}
use Rattle.key_index.proofs.span.span_after.Goals as goal

pub returns : goal.returns
returns c =
    span_in_order (option_copied c.args.cursor) c.args.prefix.now true c.in_ok-start.start c.in_ok-end.end c.in_order.result c.in_order.ensures
    (λ key begins far. (c.in_ok-start.ensures.covers key begins far, before_after c.in_ok-end.end c.args.prefix.now c.in_ok-end.ensures key begins))
    (λ key from before. c.in_ok-start.ensures.beyond key from)
