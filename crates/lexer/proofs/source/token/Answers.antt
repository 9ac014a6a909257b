use Rattle.lexer.proofs.Runs.{token_known}
use Rattle.lexer.proofs.source.token.Goals as goal

pub returns : goal.returns
returns c = token_known _ _ _ _ _ _ _ _ c.piece.ensures c.in_ok-kind.ensures.kind c.in_ok-kind.ensures.meaning c.requires.known
