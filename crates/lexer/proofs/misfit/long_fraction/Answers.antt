use Rattle.lexer.proofs.Misfits.{long_decimals, long_digits}
use Rattle.lexer.proofs.misfit.long_fraction.Goals as goal

pub returns-then-n-gt-MAX_WHOLE_DIGITS-clause-some : goal.returns-then-n-gt-MAX_WHOLE_DIGITS-clause-some
returns-then-n-gt-MAX_WHOLE_DIGITS-clause-some c = long_digits _ _ c.digits_len-n.ensures.is c.if-n-gt-MAX_WHOLE_DIGITS.true

pub returns-then-saturating_sub-gt-MAX_DECIMALS-clause-some : goal.returns-then-saturating_sub-gt-MAX_DECIMALS-clause-some
returns-then-saturating_sub-gt-MAX_DECIMALS-clause-some c = long_decimals _ _ _ c.digits_len-n.ensures.is c.saturating_sub.ensures c.if-saturating_sub-gt-MAX_DECIMALS.true
