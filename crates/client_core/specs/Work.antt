-- The remaining work of a client, and what it waits for.
use Rattle.std.specs.Prelude.{◌≡◌, ◌+◌, ℕ, List, [], ◌∷◌}
use Rattle.database_protocol.specs.declared.operation.Op.TheVariants.{End}
use Rattle.database_protocol.specs.declared.next_step.NextStep.{NextStep}
use Rattle.database_protocol.specs.declared.next_step.NextStep.TheVariants.{Ask}
use Rattle.client_machine.specs.declared.mode.Mode.{Mode}
use Rattle.client_machine.specs.declared.mode.Mode.TheVariants as mode
use Rattle.client_machine.specs.declared.mode.StackEntry.{StackEntry}
use Rattle.client_machine.specs.Shows.{Shows}
use Rattle.client_core.specs.declared.client.Phase.{Phase}
use Rattle.client_core.specs.declared.client.Phase.TheVariants as phase
use Rattle.client_core.specs.ClientView.{ClientView}
use Rattle.client_machine.specs.Step.{IsAwaiting}
use Rattle.client_core.specs.NextStep.{IsEnded}

-- an upper bound on further operations, the current one included; repeats after Blocked do not count. Each operation but
-- End costs a unit
abbrev pub operations_in : Phase → Mode → List StackEntry → ℕ → ℕ
operations_in phase.Running (mode.Execute t) ks units = units + 2
operations_in phase.Running (mode.Await o k) ks units = units + 2
operations_in phase.Running (mode.Unwind w) [] units = 1
operations_in phase.Running (mode.Unwind w) (k ∷ ks) units = units + 2
operations_in phase.GivingUp m ks units = 1
operations_in phase.Ended m ks units = 0

abbrev pub most_operations : ClientView → ℕ
most_operations c = operations_in c.phase c.machine.mode c.machine.stack.items c.machine.units

-- it waits for an answer
abbrev pub WaitsIn : Phase → Mode → List StackEntry → Type 0
WaitsIn phase.Running (mode.Execute t) ks = ⊥
WaitsIn phase.Running (mode.Await o k) ks = Unit {0}
WaitsIn phase.Running (mode.Unwind w) [] = Unit {0}
WaitsIn phase.Running (mode.Unwind w) (k ∷ ks) = ⊥
WaitsIn phase.GivingUp m ks = Unit {0}
WaitsIn phase.Ended m ks = ⊥

abbrev pub IsWaiting : ClientView → Type 0
IsWaiting c = WaitsIn c.phase c.machine.mode c.machine.stack.items

-- it waits for the answer to End
abbrev pub EndsIn : Phase → Mode → List StackEntry → Type 0
EndsIn phase.Running (mode.Execute t) ks = ⊥
EndsIn phase.Running (mode.Await o k) ks = ⊥
EndsIn phase.Running (mode.Unwind w) [] = Unit {0}
EndsIn phase.Running (mode.Unwind w) (k ∷ ks) = ⊥
EndsIn phase.GivingUp m ks = Unit {0}
EndsIn phase.Ended m ks = ⊥

abbrev pub IsEnding : ClientView → Type 0
IsEnding c = EndsIn c.phase c.machine.mode c.machine.stack.items

-- it does not request End while the machine awaits an answer
abbrev pub AsksNoEnd : Mode → NextStep → Type 0
AsksNoEnd m wants = wants ≡ Ask End → IsAwaiting m → ⊥

-- its next step
abbrev pub ShowsIn : Phase → Mode → List StackEntry → NextStep → Type 0
ShowsIn phase.Running m ks wants = Shows m ks wants × AsksNoEnd m wants
ShowsIn phase.GivingUp m ks wants = wants ≡ Ask End
ShowsIn phase.Ended m ks wants = IsEnded wants

abbrev pub ShowsNextStep : ClientView → NextStep → Type 0
ShowsNextStep c wants = ShowsIn c.phase c.machine.mode c.machine.stack.items wants
