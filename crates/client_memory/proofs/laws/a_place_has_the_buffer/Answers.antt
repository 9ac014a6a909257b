use Rattle.client_memory.proofs.FramesOut.{buffer_is, own_buffer_is}
use Rattle.client_memory.proofs.laws.a_place_has_the_buffer.Goals as goal

pub returns-clause-at : goal.returns-clause-at
returns-clause-at c = buffer_is

pub returns-clause-own : goal.returns-clause-own
returns-clause-own c = own_buffer_is
