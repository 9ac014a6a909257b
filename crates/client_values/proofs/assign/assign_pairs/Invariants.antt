use Rattle.std.proofs.Common.{◌≡◌, ℕ, List, drop, map}
use Rattle.bound_tree.specs.Bound.{assignment_of}
use Rattle.database_protocol.specs.declared.answer.Answer.{Answer}
use Rattle.block_meaning.specs.Program.{Program}
use Rattle.block_meaning.specs.State.{State}
use Rattle.block_meaning.specs.Changes.{assigns_each}
use Rattle.client_values.specs.Reads.{Reads}
use Rattle.client_values.specs.Variables.{HasSameShape, state_with}
use Rattle.client_values.proofs.assign.assign_pairs.Given as goal

abbrev pub invariant-loop-pair : goal.invariant-loop-pair
invariant-loop-pair l =
    HasSameShape l.fn.memory l.memory
    × ((p : Program) (rest : State) (ns : List ℕ) (ans : List Answer) → Reads p rest ns l.fn.memory l.status.error l.status.returned.now →
    assigns_each p (map assignment_of l.pairs) l.status.retry (state_with rest ns l.fn.memory) ans ≡ assigns_each p (map assignment_of (drop l.pair-index l.pairs)) l.status.retry (state_with rest ns l.memory) ans)
