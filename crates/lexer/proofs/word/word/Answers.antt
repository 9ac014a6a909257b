use Rattle.std.proofs.Common.{sym, ◌∙◌}
use Rattle.lexer.proofs.Closings.{quoted_longest, quoted_open}
use Rattle.lexer.proofs.word.word.Goals as goal

pub returns-in-Some-clause-found : goal.returns-in-Some-clause-found
returns-in-Some-clause-found c = quoted_longest _ _ _ c.requires c.rest_from.ensures (sym c.is_quote.ensures ∙ c.if-is_quote.true) c.in-Some.ensures.is

pub returns-in-None-clause-broken : goal.returns-in-None-clause-broken
returns-in-None-clause-broken c = quoted_open _ _ c.requires c.rest_from.ensures (sym c.is_quote.ensures ∙ c.if-is_quote.true) c.in-None.ensures.is
