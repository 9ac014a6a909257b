use Rattle.client_memory.specs.Buffers.{with_locked, with_spot}
use Rattle.client_memory.proofs.FramesOut.{own_changed_is}
use Rattle.client_memory.proofs.laws.marks_are_set.Goals as goal

pub returns-clause-locked : goal.returns-clause-locked
returns-clause-locked c = λ rest ns m b is even. own_changed_is rest ns m b (with_locked is) even

pub returns-clause-spot : goal.returns-clause-spot
returns-clause-spot c = λ rest ns m b spot even. own_changed_is rest ns m b (with_spot spot) even
