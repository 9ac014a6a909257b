-- Bytes in a chain of slots, byte for byte.
use Rattle.std.specs.Prelude.{ℕ, zero, suc, List, [], ◌∷◌}
pub use Rattle.row_fragments.specs.Chains.{part, chain_slot, IsChain}

-- this many numbers from one on
abbrev pub counted : ℕ → ℕ → List ℕ
counted at zero = []
counted at (suc n) = at ∷ counted (suc at) n
