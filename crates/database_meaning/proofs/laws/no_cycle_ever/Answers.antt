use Rattle.database_meaning.proofs.Good.{good_legal}
use Rattle.database_meaning.proofs.laws.no_cycle_ever.Goals as goal

pub returns : goal.returns
returns c = λ f contents trace legal. (good_legal f contents trace legal).acyclic
