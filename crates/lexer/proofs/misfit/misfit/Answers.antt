use Rattle.std.proofs.Common.{sym, ◌∙◌}
use Rattle.lexer.proofs.Misfits.{dated_word, false_date, long_number, long_word, true_date}
use Rattle.lexer.proofs.misfit.misfit.Goals as goal

pub date-requires : goal.date-requires
date-requires c = dated_word _ _ c.in-Dated.is c.requires

pub returns-then-word-gt-MAX_NAME_BYTES-clause-some : goal.returns-then-word-gt-MAX_NAME_BYTES-clause-some
returns-then-word-gt-MAX_NAME_BYTES-clause-some c = long_word _ _ c.in-Word.is c.if-word-gt-MAX_NAME_BYTES.true

pub returns-then-word-gt-MAX_WHOLE_DIGITS-clause-some : goal.returns-then-word-gt-MAX_WHOLE_DIGITS-clause-some
returns-then-word-gt-MAX_WHOLE_DIGITS-clause-some c = long_number _ _ c.in-Digits.is c.if-word-gt-MAX_WHOLE_DIGITS.true

pub returns-then-is_date-clause-none : goal.returns-then-is_date-clause-none
returns-then-is_date-clause-none c = true_date _ _ _ c.in-Dated.is c.date.ensures (sym c.is_date.ensures ∙ c.if-is_date.true)

pub returns-else-is_date-clause-some : goal.returns-else-is_date-clause-some
returns-else-is_date-clause-some c = false_date _ _ _ c.in-Dated.is c.date.ensures (sym c.is_date.ensures ∙ c.if-is_date.false)
