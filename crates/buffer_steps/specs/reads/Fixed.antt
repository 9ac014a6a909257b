-- What no reading changes.
use Rattle.std.specs.Prelude.{ℕ, List}
use Rattle.block_meaning.specs.State.{Copy}

-- the numbers of the open procedures, the outermost first, the copies of the open levels, and the name of the reference to the
-- memory, if the buffers hold one
pub record Fixed : Type 0 where
  pub procedures : List ℕ
  pub copies : List Copy
  pub reference : ℕ
