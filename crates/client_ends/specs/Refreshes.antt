-- What becomes of the record in a buffer after an UNDO.
use Rattle.std.specs.Prelude.{◌≡◌, ℕ, List}
use Rattle.database_protocol.specs.declared.operation.Op.TheVariants as op
use Rattle.block_meaning.specs.State.{State, Buffer, Empty, Normal}
use Rattle.block_meaning.specs.Buffers.{Place, holding_in}
use Rattle.flat_machine.specs.Config.{Config, StackEntry, Unwind, WasGot}
use Rattle.flat_machine.specs.Steps.{ask, config, update_step}
use Rattle.client_memory.specs.Buffers.{denoted_held}
use Rattle.client_ends.specs.declared.refresh.Refresh.{Refresh}
use Rattle.client_ends.specs.declared.refresh.Refresh.TheVariants as refresh

-- the step: the buffer stays, is emptied, or Get is asked
abbrev pub refresh_step : Refresh → Place → List StackEntry → State → Config
refresh_step refresh.Stays at ks s = config (Unwind Normal) ks s
refresh_step refresh.Empties at ks s = config (Unwind Normal) ks (holding_in at Empty s)
refresh_step (refresh.Reads t row held made) at ks s = ask (op.Get t row) (WasGot at row (denoted_held held) made) ks s

-- this buffer is refreshed so, wherever it is
abbrev pub UpdatesAs : Refresh → ℕ → Buffer → Type 0
UpdatesAs x mark b = (at : Place) (ks : List StackEntry) (s : State) → update_step mark at b.table b.content ks s ≡ refresh_step x at ks s
