-- What FIND CURRENT finds in a buffer.
use Rattle.std.specs.Prelude.{◌≡◌, ℕ, List}
use Rattle.abl_base.specs.declared.value.Value.{Value}
use Rattle.block_meaning.specs.State.{Content, Empty, Record, Pending, Held}
use Rattle.buffer_steps.specs.declared.reads.buffers.Current.{Current}
use Rattle.buffer_steps.specs.declared.reads.buffers.Current.TheVariants as current

-- the buffer holds this
abbrev pub IsCurrent : Current → Content → Type 0
IsCurrent current.Empty c = c ≡ Empty
IsCurrent current.Pending c = (values : List Value) × (since : List ℕ) × (made : ℕ) × (c ≡ Pending values since made)
IsCurrent (current.Record row made) c = (values : List Value) × (held : Held) × (c ≡ Record row values held made)
