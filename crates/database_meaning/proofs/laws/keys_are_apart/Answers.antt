use Rattle.database_meaning.proofs.ReservedKeys.{keys_legal}
use Rattle.database_meaning.proofs.laws.keys_are_apart.Goals as goal

pub returns-clause-reserved_keys : goal.returns-clause-reserved_keys
returns-clause-reserved_keys c = λ f contents trace legal. (keys_legal f contents trace legal).apart

pub returns-clause-committed : goal.returns-clause-committed
returns-clause-committed c = λ f contents trace legal. (keys_legal f contents trace legal).one_each
