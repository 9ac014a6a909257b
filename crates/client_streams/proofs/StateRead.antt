-- A statement reads the state of its machine.
use Rattle.std.proofs.Common.{◌≡◌, Bool, List, ℕ, length, sym, ap, ◌∙◌}
use Rattle.block_meaning.specs.Program.{Program}
use Rattle.block_meaning.specs.State.{State}
use Rattle.client_streams.specs.lines.Reads.{IsReadIn}
use Rattle.client_machine.specs.declared.machine.Machine.{Machine}
use Rattle.client_machine.specs.declared.mode.Mode.TheVariants as mode
use Rattle.client_machine.specs.declared.mode.Completion.TheVariants as completion
use Rattle.client_machine.specs.Machine.{state_in}
use Rattle.client_values.specs.Scope.{env_in}
use Rattle.client_machine.specs.Step.{FitsIn}
use Rattle.client_values.proofs.Scopes.{sees_the_state}

pub is_read : (p : Program) (rest : State) (m : Machine) (retry : Bool) (returned : List ℕ) → returned ≡ m.returned → FitsIn p rest (mode.Unwind completion.Normal) m → IsReadIn p retry (state_in rest m) (env_in m.memory retry m.status returned)
is_read p rest m retry returned e f = record {
  forms = f.program.forms;
  env_is = sym (sees_the_state (record rest { level = length m.memory.copies; units = m.units }) m.procedures.items m.memory retry f.even) ∙ ap (λ b. env_in m.memory retry b rest.returned) f.state.status_is ∙ ap (λ t. env_in m.memory retry m.status t) (f.state.returned_is ∙ sym e);
}
