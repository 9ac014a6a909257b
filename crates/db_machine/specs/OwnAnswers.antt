-- The answers that an operation can have where it is not refused and the database is open.
use Rattle.std.specs.Prelude.{◌≡◌, ◌⊎◌, ℕ}
use Rattle.database_protocol.specs.declared.operation.Op.{Op}
use Rattle.database_protocol.specs.declared.answer.Answer.{Answer}
use Rattle.database_protocol.specs.declared.answer.Answer.TheVariants.{KeyTooLong, Blocked, Deadlock, Duplicate, Full, TraceFull, TxFull}
use Rattle.abl_values.specs.Schema.{SchemaData}
use Rattle.database_meaning.specs.Fits.{IsNoEnd, IsOwnAnswer}
use Rattle.database_meaning.specs.Setting.{HasIndex}

-- an answer to an Insert or Put into the table, success and Gone aside
abbrev pub IsEntryAnswer : SchemaData → ℕ → Answer → Type 0
IsEntryAnswer schema table (KeyTooLong index) = HasIndex schema table index
IsEntryAnswer schema table (Duplicate index row) = HasIndex schema table index
IsEntryAnswer schema table (Blocked holders) = Unit {0}
IsEntryAnswer schema table (Deadlock cycle) = Unit {0}
IsEntryAnswer schema table Full = Unit {0}
IsEntryAnswer schema table TxFull = Unit {0}
IsEntryAnswer schema table _ = ⊥

-- the operation is no End, and the answer is TraceFull or one of the operation's own
abbrev pub IsOpenAnswer : SchemaData → Op → Answer → Type 0
IsOpenAnswer schema op a = IsNoEnd op × ((a ≡ TraceFull) ⊎ IsOwnAnswer schema op a)
