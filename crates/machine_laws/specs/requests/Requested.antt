-- What a run requests after the client's own events, and the configuration that asks it.
use Rattle.std.specs.Prelude.{◌≡◌, ◌≢◌, ℕ, List, map}
use Rattle.std.specs.List.{All}
use Rattle.abl_values.specs.Schema.{SchemaData}
use Rattle.database_protocol.specs.declared.answer.Answer.{Answer}
use Rattle.database_protocol.specs.declared.answer.Answer.TheVariants.{Refused}
use Rattle.database_protocol.specs.declared.event.Event.{Event}
use Rattle.database_protocol.specs.declared.next_step.NextStep.TheVariants.{Ask}
use Rattle.database_protocol.specs.declared.operation.Op.{Op}
use Rattle.database_meaning.specs.Fits.{Fits}
use Rattle.block_meaning.specs.Meaning.{asked}
use Rattle.block_meaning.specs.Program.{Program}
use Rattle.block_meaning.specs.State.{Progress, State}
use Rattle.flat_machine.specs.Code.{Code}
use Rattle.flat_machine.specs.Config.{Await, OnAnswer, StackEntry}
use Rattle.flat_machine.specs.Steps.{config}
use Rattle.machine_laws.specs.levels.Reached.{Reached}

abbrev pub answers_in : List Event → List Answer
answers_in own = map (λ (e : Event). e.answer) own

abbrev pub operations_in : List Event → List Op
operations_in own = map (λ (e : Event). e.op) own

-- A RUN REQUESTS THIS OPERATION after these events: their operations are those that it requested under their answers, which fit them, and none
-- is Refused
pub record Requests (m : List Answer → Progress) (schema : SchemaData) (own : List Event) (op : Op) : Type 0 where
  pub asked_so : operations_in own ≡ asked m (answers_in own)
  pub fits : All (λ (e : Event). Fits schema e.op e.answer) own
  pub unrefused : All (λ (e : Event). e.answer ≢ Refused) own
  pub wants : (m (answers_in own)).wants ≡ Ask op

-- the client reaches a configuration that asks it
pub record IsReached (code : Code) (p : Program) (schema : SchemaData) (units : ℕ) (own : List Event) (op : Op) : Type 0 where
  pub on : OnAnswer
  pub ks : List StackEntry
  pub s : State
  pub reached : Reached code p schema units own (config (Await op on) ks s)
