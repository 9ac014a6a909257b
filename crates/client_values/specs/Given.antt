-- The assignments of an IMPORT, one by one.
use Rattle.std.specs.Prelude.{ℕ, List, [], ◌∷◌, Option, Some, None}
use Rattle.abl_base.specs.declared.value.Value.{Value}
use Rattle.bound_tree.specs.declared.statement.Target.{Target}
use Rattle.bound_tree.specs.Tree.{Given, Assignment}
use Rattle.block_meaning.specs.Changes.{buffer_first}

-- the assignment of a target and a value, if there are both
abbrev pub pair_of : Option Target → Option Value → List Assignment
pair_of None v = []
pair_of (Some t) None = []
pair_of (Some t) (Some v) = (record { target = t; right = Given v }) ∷ []

-- the buffer of a target before the others, if it has one
abbrev pub first_buffer : Option Target → List ℕ → List ℕ
first_buffer None bs = bs
first_buffer (Some t) bs = buffer_first t bs
