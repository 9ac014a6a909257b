-- Which answers an operation can have at all.
use Rattle.std.specs.Prelude.{IsTrue, IsFalse}
use Rattle.database_protocol.specs.declared.operation.Op.{Op}
use Rattle.database_protocol.specs.declared.operation.Op.TheVariants.{Enter, Leave, Back, Next, Get, Lock, Insert, Put, Delete, Drop as DropLock, NextValue, CurrentValue, End}
use Rattle.database_protocol.specs.declared.answer.Answer.{Answer}
use Rattle.database_protocol.specs.declared.answer.Answer.TheVariants.{Refused, Closed, TraceFull, Gone, KeyTooLong, Busy, Blocked, Deadlock, Duplicate, Full, TxFull, SequenceEnd, AtEnd, NoMemory, Done, Committed, Found, Row as RowAnswer, Granted, Inserted, Value as ValueAnswer}
use Rattle.abl_values.specs.Schema.{SchemaData}
use Rattle.database_meaning.specs.Setting.{HasIndex, FitsTable}

-- the answers of an operation's own
abbrev pub IsOwnAnswer : SchemaData → Op → Answer → Type 0
IsOwnAnswer schema Enter Done = Unit {0}
IsOwnAnswer schema Enter _ = ⊥
IsOwnAnswer schema (Leave keep) (Committed moment) = Unit {0}
IsOwnAnswer schema (Leave keep) Done = Unit {0}
IsOwnAnswer schema (Leave keep) _ = ⊥
IsOwnAnswer schema (Back depth) Done = Unit {0}
IsOwnAnswer schema (Back depth) _ = ⊥
IsOwnAnswer schema (Next table index prefix cursor forward) (Found row key values) = FitsTable schema table values
IsOwnAnswer schema (Next table index prefix cursor forward) AtEnd = Unit {0}
IsOwnAnswer schema (Next table index prefix cursor forward) _ = ⊥
IsOwnAnswer schema (Get table row) (RowAnswer values) = FitsTable schema table values
IsOwnAnswer schema (Get table row) Gone = Unit {0}
IsOwnAnswer schema (Get table row) _ = ⊥
IsOwnAnswer schema (Lock table row exclusive wait) Granted = Unit {0}
IsOwnAnswer schema (Lock table row exclusive wait) Gone = Unit {0}
IsOwnAnswer schema (Lock table row exclusive wait) (Busy holders) = IsFalse wait
IsOwnAnswer schema (Lock table row exclusive wait) (Blocked holders) = IsTrue wait
IsOwnAnswer schema (Lock table row exclusive wait) (Deadlock cycle) = IsTrue wait
IsOwnAnswer schema (Lock table row exclusive wait) _ = ⊥
IsOwnAnswer schema (Insert table values) (Inserted row) = Unit {0}
IsOwnAnswer schema (Insert table values) (KeyTooLong index) = HasIndex schema table index
IsOwnAnswer schema (Insert table values) (Blocked holders) = Unit {0}
IsOwnAnswer schema (Insert table values) (Deadlock cycle) = Unit {0}
IsOwnAnswer schema (Insert table values) (Duplicate index row) = HasIndex schema table index
IsOwnAnswer schema (Insert table values) Full = Unit {0}
IsOwnAnswer schema (Insert table values) TxFull = Unit {0}
IsOwnAnswer schema (Insert table values) _ = ⊥
IsOwnAnswer schema (Put table row values) Done = Unit {0}
IsOwnAnswer schema (Put table row values) Gone = Unit {0}
IsOwnAnswer schema (Put table row values) (KeyTooLong index) = HasIndex schema table index
IsOwnAnswer schema (Put table row values) (Blocked holders) = Unit {0}
IsOwnAnswer schema (Put table row values) (Deadlock cycle) = Unit {0}
IsOwnAnswer schema (Put table row values) (Duplicate index other) = HasIndex schema table index
IsOwnAnswer schema (Put table row values) Full = Unit {0}
IsOwnAnswer schema (Put table row values) TxFull = Unit {0}
IsOwnAnswer schema (Put table row values) _ = ⊥
IsOwnAnswer schema (Delete table row) Done = Unit {0}
IsOwnAnswer schema (Delete table row) Gone = Unit {0}
IsOwnAnswer schema (Delete table row) TxFull = Unit {0}
IsOwnAnswer schema (Delete table row) _ = ⊥
IsOwnAnswer schema (DropLock row) Done = Unit {0}
IsOwnAnswer schema (DropLock row) _ = ⊥
IsOwnAnswer schema (NextValue sequence) (ValueAnswer value) = Unit {0}
IsOwnAnswer schema (NextValue sequence) SequenceEnd = Unit {0}
IsOwnAnswer schema (NextValue sequence) _ = ⊥
IsOwnAnswer schema (CurrentValue sequence) (ValueAnswer value) = Unit {0}
IsOwnAnswer schema (CurrentValue sequence) _ = ⊥
IsOwnAnswer schema End Done = Unit {0}
IsOwnAnswer schema End _ = ⊥

abbrev pub IsNoEnd : Op → Type 0
IsNoEnd End = ⊥
IsNoEnd _ = Unit {0}

-- the answer is one that the operation can have: each may be refused, and each but End may find the database
-- closed, the trace full or memory exhausted
abbrev pub Fits : SchemaData → Op → Answer → Type 0
Fits schema op Refused = Unit {0}
Fits schema op Closed = IsNoEnd op
Fits schema op TraceFull = IsNoEnd op
Fits schema op NoMemory = IsNoEnd op
Fits schema op a = IsOwnAnswer schema op a
