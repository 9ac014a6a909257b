-- The answers to an operation that enters a row, by the rows of the table from KeyTooLong to TxFull.
use Rattle.std.specs.Prelude.{◌≡◌, ◌⊎◌, ℕ, Option, Some, None}
use Rattle.abl_base.specs.declared.row.RowId.{RowId}
use Rattle.database_protocol.specs.declared.operation.Op.{Op}
use Rattle.database_protocol.specs.declared.answer.Answer.{Answer}
use Rattle.database_protocol.specs.declared.answer.Answer.TheVariants.{KeyTooLong, Duplicate, Full, TxFull}
use Rattle.database_meaning.specs.Setting.{Setting}
use Rattle.database_meaning.specs.State.{State}
use Rattle.database_meaning.specs.Waiting.{HasConflict}
use Rattle.database_meaning.specs.Answers.{DrawsTooMany, HasDuplicates, HasTooLongKey, IsFirstDuplicate, IsFirstLongKey, WritesTooMany, entered}
use Rattle.db_core.specs.Waits.{AnswersConflict}

-- the answer KeyTooLong with the least index
abbrev pub AnswersLongKey : Setting → Op → Answer → Type 0
AnswersLongKey f op a = (index : ℕ) × IsFirstLongKey f (entered op) index × (a ≡ KeyTooLong index)

-- the answer Duplicate with the least index and a row that has the key
abbrev pub AnswersDuplicate : Setting → State → Op → Answer → Type 0
AnswersDuplicate f s op a = (index : ℕ) × (row : RowId) × IsFirstDuplicate f s op index row × (a ≡ Duplicate index row)

-- the first of the rows KeyTooLong, Blocked, Deadlock and Duplicate that applies, if one does
abbrev pub AnswersKeys : Setting → State → ℕ → Op → Option Answer → Type 0
AnswersKeys f s c op None = ¬ HasTooLongKey f op × ¬ HasConflict f s c op × ¬ HasDuplicates f s op
AnswersKeys f s c op (Some a) =
    AnswersLongKey f op a
    ⊎ (¬ HasTooLongKey f op × AnswersConflict f s c op a)
    ⊎ (¬ HasTooLongKey f op × ¬ HasConflict f s c op × AnswersDuplicate f s op a)

-- the first of the rows Full and TxFull that applies, if one does
abbrev pub AnswersRoom : Setting → State → ℕ → Op → Option Answer → Type 0
AnswersRoom f s c op None = ¬ DrawsTooMany f s op × ¬ WritesTooMany f s c op
AnswersRoom f s c op (Some a) = (DrawsTooMany f s op × (a ≡ Full)) ⊎ (¬ DrawsTooMany f s op × WritesTooMany f s c op × (a ≡ TxFull))
