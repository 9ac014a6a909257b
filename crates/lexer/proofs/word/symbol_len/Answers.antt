use Rattle.std.proofs.Common.{sym, ◌∙◌}
use Rattle.lexer.proofs.Symbols.{no_symbol, pair_longest, single_longest}
use Rattle.lexer.proofs.word.symbol_len.Goals as goal

pub returns-then-starts_pair-clause-found : goal.returns-then-starts_pair-clause-found
returns-then-starts_pair-clause-found c = pair_longest _ c.requires.no_letter c.requires.no_digit c.requires.no_quote (sym c.starts_pair.ensures ∙ c.if-starts_pair.true)

pub returns-then-is_single-clause-found : goal.returns-then-is_single-clause-found
returns-then-is_single-clause-found c =
    single_longest _ _ c.requires.some c.requires.no_letter c.requires.no_digit c.requires.no_quote (sym c.starts_pair.ensures ∙ c.if-starts_pair.false) c.rest_from.ensures (sym c.is_single.ensures ∙ c.if-is_single.true)

pub returns-else-is_single-clause-none : goal.returns-else-is_single-clause-none
returns-else-is_single-clause-none c =
    no_symbol _ _ c.requires.some c.requires.no_letter c.requires.no_digit c.requires.no_quote (sym c.starts_pair.ensures ∙ c.if-starts_pair.false) c.rest_from.ensures (sym c.is_single.ensures ∙ c.if-is_single.false)
