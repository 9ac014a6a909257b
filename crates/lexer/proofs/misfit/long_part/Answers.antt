use Rattle.lexer.proofs.Misfits.{long_name_part, long_second_part}
use Rattle.lexer.proofs.misfit.long_part.Goals as goal

pub returns-then-n-gt-MAX_NAME_BYTES-clause-some : goal.returns-then-n-gt-MAX_NAME_BYTES-clause-some
returns-then-n-gt-MAX_NAME_BYTES-clause-some c = long_name_part _ _ c.name_len-n.ensures.is c.if-n-gt-MAX_NAME_BYTES.true

pub returns-then-saturating_sub-gt-MAX_NAME_BYTES-clause-some : goal.returns-then-saturating_sub-gt-MAX_NAME_BYTES-clause-some
returns-then-saturating_sub-gt-MAX_NAME_BYTES-clause-some c = long_second_part _ _ _ c.name_len-n.ensures.is c.if-n-gt-MAX_NAME_BYTES.false c.saturating_sub.ensures c.if-saturating_sub-gt-MAX_NAME_BYTES.true
