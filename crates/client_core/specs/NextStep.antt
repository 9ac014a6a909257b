-- The next step of a client, and the answers that it receives.
use Rattle.database_protocol.specs.declared.answer.Answer.{Answer}
use Rattle.database_protocol.specs.declared.answer.Answer.TheVariants.{Blocked}
use Rattle.database_protocol.specs.declared.next_step.NextStep.{NextStep}
use Rattle.database_protocol.specs.declared.next_step.NextStep.TheVariants.{Ask, Ended}

-- it requests an operation
abbrev pub IsAsking : NextStep → Type 0
IsAsking (Ask op) = Unit {0}
IsAsking (Ended end) = ⊥

-- it has ended
abbrev pub IsEnded : NextStep → Type 0
IsEnded (Ask op) = ⊥
IsEnded (Ended end) = Unit {0}

-- an answer other than Blocked: the client continues or ends
abbrev pub IsPlain : Answer → Type 0
IsPlain (Blocked holders) = ⊥
IsPlain answer = Unit {0}
