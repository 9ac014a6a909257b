-- The configurations that a client reaches with its own events, and which operations need a level.
use Rattle.std.specs.Prelude.{◌≢◌, ◌<◌, ◌≤◌, ℕ, List, [], ◌∷◌, ◌++◌}
use Rattle.abl_values.specs.Schema.{SchemaData}
use Rattle.database_protocol.specs.declared.answer.Answer.TheVariants.{Refused}
use Rattle.database_protocol.specs.declared.event.Event.{Event}
use Rattle.database_protocol.specs.declared.operation.Op.{Op}
use Rattle.database_protocol.specs.declared.operation.Op.TheVariants.{Back, Delete, Leave, Put}
use Rattle.database_meaning.specs.Fits.{Fits}
use Rattle.block_meaning.specs.Program.{Program}
use Rattle.block_meaning.specs.State.{State}
use Rattle.flat_machine.specs.Code.{Code}
use Rattle.flat_machine.specs.Config.{Await, Config, OnAnswer, StackEntry}
use Rattle.flat_machine.specs.Machine.{answered, first_config, step}
use Rattle.flat_machine.specs.Steps.{config}

-- WITH THESE OWN EVENTS A CLIENT REACHES THIS CONFIGURATION: the first one, and each that follows by a step, or by an answer that fits the
-- operation and is not Refused
pub data Reached (code : Code) (p : Program) (schema : SchemaData) (units : ℕ) : List Event → Config → Type 0 where
  begins : Reached code p schema units [] (first_config code p units)
  steps : (own : List Event) (c : Config) → Reached code p schema units own c → Reached code p schema units own (step code p c)
  answers : (own : List Event) (e : Event) (on : OnAnswer) (ks : List StackEntry) (s : State) → Fits schema e.op e.answer → e.answer ≢ Refused
      → Reached code p schema units own (config (Await e.op on) ks s) → Reached code p schema units (own ++ e ∷ []) (answered p e.answer e.op on ks s)

-- with this number of open levels: a Leave has one to leave, a Back names one of them, and a Put or Delete is inside one
abbrev pub IsInside : ℕ → Op → Type 0
IsInside levels (Leave keep) = 0 < levels
IsInside levels (Back depth) = (0 < depth) × (depth ≤ levels)
IsInside levels (Put table row values) = 0 < levels
IsInside levels (Delete table row) = 0 < levels
IsInside levels _ = Unit {0}
