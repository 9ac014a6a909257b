use Rattle.client_memory.specs.Buffers.{with_content}
use Rattle.client_memory.proofs.FramesOut.{changed_is, own_changed_is}
use Rattle.client_memory.proofs.laws.a_content_is_held.Goals as goal

pub returns-clause-at : goal.returns-clause-at
returns-clause-at c = λ rest ns m at x even. changed_is rest ns m at (with_content x) even

pub returns-clause-own : goal.returns-clause-own
returns-clause-own c = λ rest ns m b x even. own_changed_is rest ns m b (with_content x) even
