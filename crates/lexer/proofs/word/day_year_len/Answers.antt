use Rattle.std.proofs.Common.{sym, ◌∙◌}
use Rattle.lexer.proofs.Numbers.{found_day_year, no_slash_day, no_years}
use Rattle.lexer.proofs.word.day_year_len.Goals as goal

pub returns-then-not-ends_in_slash-clause-none : goal.returns-then-not-ends_in_slash-clause-none
returns-then-not-ends_in_slash-clause-none c = no_slash_day _ (sym c.ends_in_slash.ensures ∙ c.if-not-ends_in_slash.true)

pub returns-then-is_two_or_four-clause-found : goal.returns-then-is_two_or_four-clause-found
returns-then-is_two_or_four-clause-found c =
    found_day_year _ _ _ _ c.digits_len-n.ensures.is (sym c.ends_in_slash.ensures ∙ c.if-not-ends_in_slash.false) c.rest_from.ensures c.digits_len-years.ensures.is (sym c.is_two_or_four.ensures ∙ c.if-is_two_or_four.true)

pub returns-else-is_two_or_four-clause-none : goal.returns-else-is_two_or_four-clause-none
returns-else-is_two_or_four-clause-none c =
    no_years _ _ _ _ c.digits_len-n.ensures.is c.rest_from.ensures c.digits_len-years.ensures.is (sym c.is_two_or_four.ensures ∙ c.if-is_two_or_four.false)
