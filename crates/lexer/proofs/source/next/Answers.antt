use Rattle.lexer.proofs.Runs.{comment_first, leading_broken, leading_first}
use Rattle.lexer.proofs.source.next.Goals as goal

pub returns-in-Err-clause-broken : goal.returns-in-Err-clause-broken
returns-in-Err-clause-broken c = comment_first _ _ _ _ c.rest_from.ensures c.in-Err.ensures.open.0

pub returns-in-Err-word-clause-broken : goal.returns-in-Err-word-clause-broken
returns-in-Err-word-clause-broken c =
    leading_first _ _ _ _ _ _ (leading_broken _ _ _ _ _ c.rest_from.ensures c.in-Ok.ensures.gap.0 c.in-Ok.ensures.gap.1 c.if-start-text.false c.requires c.rest_from-in-Ok.ensures) c.in-Err-word.ensures.broken
