-- What a machine asks for.
use Rattle.std.specs.Prelude.{◌≡◌, List, [], ◌∷◌}
use Rattle.database_protocol.specs.declared.operation.Op.TheVariants.{End}
use Rattle.database_protocol.specs.declared.next_step.NextStep.{NextStep}
use Rattle.database_protocol.specs.declared.next_step.NextStep.TheVariants.{Ask}
use Rattle.client_machine.specs.declared.mode.StackEntry.{StackEntry}
use Rattle.client_machine.specs.declared.mode.Mode.{Mode}
use Rattle.client_machine.specs.declared.mode.Mode.TheVariants as mode

-- what a mode with this stack requests: the operation that it awaits, or End when it unwinds an empty stack
abbrev pub Shows : Mode → List StackEntry → NextStep → Type 0
Shows (mode.Execute t) ks wants = ⊥
Shows (mode.Await o k) ks wants = wants ≡ Ask o
Shows (mode.Unwind w) [] wants = wants ≡ Ask End
Shows (mode.Unwind w) (k ∷ ks) wants = ⊥
