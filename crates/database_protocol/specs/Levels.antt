-- The operations of levels, which are all that a client without records asks.
use Rattle.std.specs.Prelude.{[], ◌≡◌}
use Rattle.database_protocol.specs.declared.operation.Op.{Op}
use Rattle.database_protocol.specs.declared.operation.Op.TheVariants as op
use Rattle.database_protocol.specs.declared.next_step.NextStep.{NextStep}
use Rattle.database_protocol.specs.declared.next_step.NextStep.TheVariants.{Ask, Ended}

-- Enter, Leave without rows to keep, Back or End
abbrev pub IsLevelOp : Op → Type 0
IsLevelOp op.Enter = Unit {0}
IsLevelOp (op.Leave keep) = keep ≡ []
IsLevelOp (op.Back depth) = Unit {0}
IsLevelOp op.End = Unit {0}
IsLevelOp other = ⊥

-- the client asks such an operation, or has ended
abbrev pub AsksLevelOp : NextStep → Type 0
AsksLevelOp (Ask o) = IsLevelOp o
AsksLevelOp (Ended end) = Unit {0}
