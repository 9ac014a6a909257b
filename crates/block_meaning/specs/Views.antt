-- What an answer carries. An answer that does not fit its operation never comes: these functions give it the simplest reading.
use Rattle.std.specs.Prelude.{ℕ, Bool, true, false, List, Option, Some, None, ℤ}
use Rattle.abl_base.specs.declared.row.RowId.{RowId}
use Rattle.database_protocol.specs.declared.row_order.Cursor.{Cursor}
use Rattle.abl_base.specs.declared.value.Value.{Value}
use Rattle.database_protocol.specs.declared.answer.Answer.{Answer}
use Rattle.database_protocol.specs.declared.answer.Answer.TheVariants as answer
use Rattle.block_meaning.specs.Lines.{Complaint, IsDuplicate, KeyIsTooLong, DatabaseFull, RecordIsGone}

-- a record that a search found
pub record FoundRow : Type 0 where
  pub cursor : Cursor
  pub values : List Value

-- the record that a Next found
abbrev pub found_in : Answer → Option FoundRow
found_in (answer.Found row key values) = Some (record { cursor = record { key = key; row = row }; values = values })
found_in a = None

-- the values that a Get read
abbrev pub values_in : Answer → Option (List Value)
values_in (answer.Row values) = Some values
values_in a = None

-- the row that an Insert made
abbrev pub row_in : Answer → Option RowId
row_in (answer.Inserted row) = Some row
row_in a = None

-- the value of a sequence
abbrev pub number_in : Answer → Option ℤ
number_in (answer.Value n) = Some n
number_in a = None

-- the result of a request for a lock
pub data Grant : Type 0 where
  IsGranted : Grant
  IsBusy : Grant
  IsGone : Grant

-- in the answer to Lock
abbrev pub grant_in : Answer → Grant
grant_in answer.Granted = IsGranted
grant_in (answer.Busy holders) = IsBusy
grant_in a = IsGone

-- Gone
abbrev pub is_gone : Answer → Bool
is_gone answer.Gone = true
is_gone a = false

-- why an Insert or Put of the record in buffer b, of table t, was refused, if it was
abbrev pub refusal_in : ℕ → ℕ → Answer → Option Complaint
refusal_in b t (answer.KeyTooLong i) = Some (KeyIsTooLong t i)
refusal_in b t (answer.Duplicate i row) = Some (IsDuplicate t i)
refusal_in b t answer.Full = Some DatabaseFull
refusal_in b t answer.Gone = Some (RecordIsGone b)
refusal_in b t a = None
