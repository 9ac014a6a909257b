use Rattle.std.proofs.Common.{sym, ◌∙◌}
use Rattle.lexer.proofs.Numbers.{found_date, no_date, no_slash_date}
use Rattle.lexer.proofs.word.dated_len.Goals as goal

pub returns-then-not-ends_in_slash-clause-none : goal.returns-then-not-ends_in_slash-clause-none
returns-then-not-ends_in_slash-clause-none c = no_slash_date _ (sym c.ends_in_slash.ensures ∙ c.if-not-ends_in_slash.true)

pub returns-in-Some-clause-found : goal.returns-in-Some-clause-found
returns-in-Some-clause-found c =
    found_date _ _ _ _ c.digits_len-n.ensures.is (sym c.ends_in_slash.ensures ∙ c.if-not-ends_in_slash.false) c.rest_from.ensures c.in-Some.ensures.found

pub returns-in-None-clause-none : goal.returns-in-None-clause-none
returns-in-None-clause-none c = no_date _ _ _ c.digits_len-n.ensures.is c.rest_from.ensures c.in-None.ensures.none
