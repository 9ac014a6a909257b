use Rattle.lexer.proofs.Values.{date_known}
use Rattle.lexer.proofs.number.date.Goals as goal

pub returns : goal.returns
returns c =
    date_known _ _ _ _ _ _ _ _ _ _ c.digits_len-n.ensures.is c.rest_from-day_year.ensures c.digits_len-m.ensures.is c.piece.ensures c.piece-2.ensures c.rest_from.ensures c.number.ensures.value c.number-2.ensures.value c.year.ensures
