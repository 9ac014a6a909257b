use Rattle.std.proofs.Common.{◌≡◌, ℕ, List, Bool, drop}
use Rattle.std.specs.Prelude.{reverse}
use Rattle.database_protocol.specs.declared.answer.Answer.{Answer}
use Rattle.block_meaning.specs.Program.{Program}
use Rattle.block_meaning.specs.State.{State}
use Rattle.block_meaning.specs.Changes.{assigns_each}
use Rattle.block_meaning.specs.Streams.{pairs_of}
use Rattle.client_values.specs.Variables.{AreEven, HasSameShape, state_with}
use Rattle.client_values.proofs.assign.assign_values.Given as goal

abbrev pub invariant-loop-target : goal.invariant-loop-target
invariant-loop-target l =
    HasSameShape l.fn.memory l.memory
    × ((p : Program) (rest : State) (ns : List ℕ) (retry : Bool) (ans : List Answer) → AreEven ns l.fn.memory →
    assigns_each p (pairs_of l.targets (reverse l.initial.values.items)) retry (state_with rest ns l.fn.memory) ans ≡ assigns_each p (pairs_of (drop l.target-index l.targets) (reverse l.values.items)) retry (state_with rest ns l.memory) ans)
