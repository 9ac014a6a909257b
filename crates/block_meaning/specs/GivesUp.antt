-- How what is written grows, and where a client may stop because it is out of memory.
use Rattle.std.specs.Prelude.{◌≡◌, ℕ, zero, suc, Bool, true, false, List, [], ◌∷◌, ◌++◌}
use Rattle.database_protocol.specs.declared.answer.Answer.{Answer}
use Rattle.database_protocol.specs.declared.answer.Answer.TheVariants as answer
use Rattle.block_meaning.specs.declared.wants.Piece.{Piece}
use Rattle.database_protocol.specs.declared.next_step.NextStep.{NextStep}
use Rattle.database_protocol.specs.declared.next_step.NextStep.TheVariants.{Ask, Ended}
use Rattle.block_meaning.specs.State.{Progress}

-- the first list of pieces is a prefix of the second
abbrev pub Begins : List Piece → List Piece → Type 0
Begins first all = (more : List Piece) × (first ++ more ≡ all)

-- an operation is asked
abbrev pub IsAsked : NextStep → Type 0
IsAsked (Ask o) = Unit {0}
IsAsked (Ended e) = ⊥

-- Blocked, after which the same operation is asked again
abbrev pub is_blocked : Answer → Bool
is_blocked (answer.Blocked holders) = true
is_blocked a = false

-- one more, except for Blocked
abbrev pub units_used_if : Bool → ℕ → ℕ
units_used_if true n = n
units_used_if false n = suc n

-- the number of units that the operations so answered have cost
abbrev pub units_used : List Answer → ℕ
units_used [] = zero
units_used (a ∷ ans) = units_used_if (is_blocked a) (units_used ans)

-- these answers without the last
abbrev pub before_last : Answer → List Answer → List Answer
before_last a [] = []
before_last a (b ∷ ans) = a ∷ before_last b ans

-- what was written when the last of these answers came; nothing before the first one
abbrev pub written_at : (List Answer → Progress) → List Answer → List Piece
written_at m [] = []
written_at m (a ∷ ans) = (m (before_last a ans)).written

-- what a client that gives up after these answers has written: at least what the meaning had written when the last of them
-- came, and at most what the meaning has written when it asks for its next operation
pub record GaveUp (m : List Answer → Progress) (ans : List Answer) (written : List Piece) : Type 0 where
  pub asked : IsAsked (m ans).wants
  pub from : Begins (written_at m ans) written
  pub to : Begins written (m ans).written
