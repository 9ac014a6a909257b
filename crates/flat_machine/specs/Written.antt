-- Code that is written instruction by instruction: each instruction names places that are already written.
use Rattle.std.specs.Prelude.{◌≡◌, ◌<◌, ℕ, List, length, slice_index_or}
use Rattle.bound_tree.specs.Tree.{Body, Nothing}
use Rattle.flat_machine.specs.Code.{Instr, Ends, Opens, Tests, Plain, DenotesAt}

-- the instruction at a place
abbrev pub instr_at : List Instr → ℕ → Instr
instr_at is k = slice_index_or is k Ends

abbrev pub tree_at : List Body → ℕ → Body
tree_at ts k = slice_index_or ts k Nothing

-- it names places before this one alone
abbrev pub NamesBelow : ℕ → Instr → Type 0
NamesBelow k Ends = Unit {0}
NamesBelow k (Opens b body next) = (body < k) × (next < k)
NamesBelow k (Tests test one other) = (one < k) × (other < k)
NamesBelow k (Plain t next) = next < k

-- the instructions denote these bodies, place by place
pub record Encodes (is : List Instr) (ts : List Body) : Type 0 where
  pub same_length : length is ≡ length ts
  pub below : (k : ℕ) → k < length is → NamesBelow k (instr_at is k)
  pub denotes : (k : ℕ) → k < length is → DenotesAt (tree_at ts) k (instr_at is k)

-- one more instruction denotes this body, where those before it denote these bodies
abbrev pub DenotesNext : List Body → Body → Instr → Type 0
DenotesNext ts t i = (tree : ℕ → Body) → (tree (length ts) ≡ t) → ((k : ℕ) → k < length ts → tree k ≡ tree_at ts k) → DenotesAt tree (length ts) i
