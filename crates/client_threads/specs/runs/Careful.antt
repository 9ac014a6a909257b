-- Answers after which a client is to request nothing but End.
use Rattle.database_protocol.specs.declared.answer.Answer.{Answer}
use Rattle.database_protocol.specs.declared.answer.Answer.TheVariants as answer

-- out of memory, the database closed, a cycle of waiting clients, the transaction full, or the trace full: the client stops
abbrev pub IsStop : Answer → Type 0
IsStop answer.NoMemory = Unit {0}
IsStop answer.Closed = Unit {0}
IsStop (answer.Deadlock cycle) = Unit {0}
IsStop answer.TxFull = Unit {0}
IsStop answer.TraceFull = Unit {0}
IsStop a = ⊥
