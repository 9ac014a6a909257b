-- The operations on levels: Leave and Back need a level that the client's own Enter opened.
use Rattle.std.specs.Prelude.{ℕ, ◌+◌, ◌-◌, ◌≤◌, Bool, true, false, List, [], ◌∷◌, ◌++◌}
use Rattle.database_protocol.specs.declared.operation.Op.{Op}
use Rattle.database_protocol.specs.declared.operation.Op.TheVariants as op
use Rattle.database_protocol.specs.declared.answer.Answer.{Answer}
use Rattle.block_meaning.specs.State.{Progress}
use Rattle.block_meaning.specs.Meaning.{op_of}
use Rattle.block_meaning.specs.GivesUp.{is_blocked}

-- with k open levels the operation may be asked: Leave needs one, and Back names one of them
abbrev pub CanAsk : ℕ → Op → Type 0
CanAsk k (op.Leave keep) = 1 ≤ k
CanAsk k (op.Back depth) = (1 ≤ depth) × (depth ≤ k)
CanAsk k o = Unit {0}

-- the number of open levels after it
abbrev pub levels_after : ℕ → Op → ℕ
levels_after k op.Enter = k + 1
levels_after k (op.Leave keep) = k - 1
levels_after k (op.Back depth) = depth
levels_after k o = k

-- these operations may be asked in this order
abbrev pub CanAskAll : ℕ → List Op → Type 0
CanAskAll k [] = Unit {0}
CanAskAll k (o ∷ os) = CanAsk k o × CanAskAll (levels_after k o) os

-- the operation, unless it was answered Blocked
abbrev pub unless_blocked : Bool → List Op → List Op
unless_blocked true os = []
unless_blocked false os = os

-- the operations asked so far, including the one asked now. One that is asked again after Blocked counts once
abbrev pub asked_once : (List Answer → Progress) → List Answer → List Op
asked_once m [] = op_of (m []).wants
asked_once m (a ∷ ans) = unless_blocked (is_blocked a) (op_of (m []).wants) ++ asked_once (λ more. m (a ∷ more)) ans
