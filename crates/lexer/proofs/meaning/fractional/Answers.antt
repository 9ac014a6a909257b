use Rattle.lexer.proofs.Values.{leading_all}
use Rattle.lexer.proofs.meaning.fractional.Goals as goal

pub scaled-requires-clause-digits_before : goal.scaled-requires-clause-digits_before
scaled-requires-clause-digits_before c = leading_all _ _ _ c.digits_len-n.ensures.is c.piece.ensures
