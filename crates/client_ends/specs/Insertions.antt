-- What becomes of the record in a buffer that is entered.
use Rattle.std.specs.Prelude.{◌≡◌, ℕ, List}
use Rattle.abl_base.specs.declared.value.Value.{Value}
use Rattle.database_protocol.specs.declared.operation.Op.TheVariants as op
use Rattle.block_meaning.specs.Program.{Program, table_at}
use Rattle.block_meaning.specs.State.{State, Buffer, Normal}
use Rattle.block_meaning.specs.Buffers.{Place, missing_field}
use Rattle.flat_machine.specs.Config.{Config, StackEntry, Unwind, WasInserted}
use Rattle.flat_machine.specs.Steps.{ask, config, fault, enter_step, insert_unless}
use Rattle.record_rules.specs.lines.Complaints.{complaint_in}
use Rattle.client_ends.specs.declared.insertion.Insertion.{Insertion}
use Rattle.client_ends.specs.declared.insertion.Insertion.TheVariants as insertion

-- the step: nothing, a fault, or Insert is asked
abbrev pub insertion_step : Insertion → Place → List StackEntry → State → Config
insertion_step insertion.Nothing at ks s = config (Unwind Normal) ks s
insertion_step (insertion.Fails c) at ks s = fault (complaint_in c) ks s
insertion_step (insertion.Inserts t values made) at ks s = ask (op.Insert t values) (WasInserted at t values made) ks s

-- this buffer is entered so, wherever it is
abbrev pub EntersAs : Insertion → Program → Buffer → Type 0
EntersAs x p b = (at : Place) (ks : List StackEntry) (s : State) → enter_step p at b.table b.content ks s ≡ insertion_step x at ks s

-- a pending record of table t with these values is inserted so
abbrev pub InsertsAs : Insertion → Program → ℕ → List Value → ℕ → Type 0
InsertsAs x p t vs made = (at : Place) (ks : List StackEntry) (s : State) → insert_unless (missing_field 0 (table_at p t).fields vs) p at t vs made ks s ≡ insertion_step x at ks s
