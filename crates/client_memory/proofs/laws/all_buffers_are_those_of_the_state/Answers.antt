use Rattle.client_memory.proofs.FramesOut.{places_are, rows_are}
use Rattle.client_memory.proofs.laws.all_buffers_are_those_of_the_state.Goals as goal

pub returns-clause-places : goal.returns-clause-places
returns-clause-places c = places_are

pub returns-clause-rows : goal.returns-clause-rows
returns-clause-rows c = rows_are
