-- The table of answers from some row on.
use Rattle.std.specs.Prelude.{◌≡◌, ℕ, List}
use Rattle.abl_base.specs.declared.row.RowId.{RowId}
use Rattle.database_protocol.specs.declared.operation.Op.{Op}
use Rattle.database_protocol.specs.declared.answer.Answer.{Answer}
use Rattle.database_protocol.specs.declared.answer.Answer.TheVariants.{Busy, Blocked, Deadlock, Duplicate, Full, TxFull, SequenceEnd, AtEnd}
use Rattle.database_meaning.specs.Setting.{Setting}
use Rattle.database_meaning.specs.State.{State}
use Rattle.database_meaning.specs.Waiting.{HasConflict, IsHolders, Closes, IsCycle}
use Rattle.database_meaning.specs.Search.{FindsNone}
use Rattle.database_meaning.specs.Answers.{when◌comes◌otherwise◌, MayWait, HasDuplicates, IsFirstDuplicate, DrawsTooMany, WritesTooMany, PassesEnd, IsNextOp, Succeeds}

-- from SequenceEnd on
abbrev pub FromSequenceEnd : Setting → State → ℕ → Op → Answer → Type 0
FromSequenceEnd f s c op a =
    when PassesEnd f s op comes a ≡ SequenceEnd otherwise
    when IsNextOp op × FindsNone f s op comes a ≡ AtEnd otherwise
    Succeeds f s c op a

-- from Full on
abbrev pub FromFull : Setting → State → ℕ → Op → Answer → Type 0
FromFull f s c op a =
    when DrawsTooMany f s op comes a ≡ Full otherwise
    when WritesTooMany f s c op comes a ≡ TxFull otherwise
    FromSequenceEnd f s c op a

-- from Duplicate on
abbrev pub FromDuplicate : Setting → State → ℕ → Op → Answer → Type 0
FromDuplicate f s c op a =
    when HasDuplicates f s op comes ((index : ℕ) × (row : RowId) × IsFirstDuplicate f s op index row × (a ≡ Duplicate index row)) otherwise
    FromFull f s c op a

-- from Busy on
abbrev pub FromBusy : Setting → State → ℕ → Op → Answer → Type 0
FromBusy f s c op a =
    when HasConflict f s c op × ¬ MayWait op comes ((holders : List ℕ) × IsHolders f s c op holders × (a ≡ Busy holders)) otherwise
    when HasConflict f s c op × ¬ Closes f s c op comes ((holders : List ℕ) × IsHolders f s c op holders × (a ≡ Blocked holders)) otherwise
    when HasConflict f s c op comes ((cycle : List ℕ) × IsCycle f s c op cycle × (a ≡ Deadlock cycle)) otherwise
    FromDuplicate f s c op a
