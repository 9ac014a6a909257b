use Rattle.std.proofs.Common.{arith}
use Rattle.lexer.proofs.Runs.{misfit_first, misfit_inside}
use Rattle.lexer.proofs.source.fitting.Goals as goal

pub overflow_add-result : goal.overflow_add-result
overflow_add-result c = let h = misfit_inside _ _ _ _ _ _ _ _ c.requires.within c.requires.word c.piece.ensures c.in-Some.ensures.some in omega arith

pub returns-in-Some-clause-broken : goal.returns-in-Some-clause-broken
returns-in-Some-clause-broken c = misfit_first _ _ _ _ _ _ _ _ c.requires.word c.piece.ensures c.in-Some.ensures.some
