use Rattle.std.proofs.Common.{◌≡◌, ℕ, List, Some}
use Rattle.key_index.specs.Chain.{items_of}
use Rattle.key_index.specs.Touched.{ListsKey, keeper_at}
use Rattle.key_index.proofs.touched.keeps_one.Given as goal

-- the client keeps none of the keys so far
abbrev pub invariant-loop-rest : goal.invariant-loop-rest
invariant-loop-rest l = (key : List ℕ) → ListsKey l.touched key → keeper_at l.nodes key ≡ Some l.client → ListsKey (items_of l.rest) key
