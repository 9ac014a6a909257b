use Rattle.std.proofs.Common.{◌≡◌, ℕ, List, length}
use Rattle.block_meaning.specs.Program.{Program}
use Rattle.block_meaning.specs.State.{State}
use Rattle.client_values.specs.Reads.{Reads}
use Rattle.client_values.specs.Variables.{state_with}
use Rattle.client_calls.proofs.Passed.{before_them, values_from}
use Rattle.client_calls.proofs.arguments.argument_values.Given as goal

abbrev pub invariant-loop-argument : goal.invariant-loop-argument
invariant-loop-argument l =
    (goal.iterator-loop-argument).can_next l.argument-iterator
    × (goal.iterator-loop-argument).is_finite l.argument-iterator
    × ((p : Program) (rest : State) (ns : List ℕ) → Reads p rest ns l.memory l.status.error l.status.returned.now →
    values_from p l.arguments l.parameters l.status.retry (state_with rest ns l.memory) 0 ≡ before_them l.values.items (values_from p l.arguments l.parameters l.status.retry (state_with rest ns l.memory) (length l.yielded)))
