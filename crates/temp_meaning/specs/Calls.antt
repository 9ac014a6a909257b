-- The changes of temporary tables with their log, and what calls one after the other leave.
use Rattle.std.specs.Prelude.{◌≡◌, ◌≤◌, ◌<◌, ℕ, suc, ◌+◌, nat_le, Bool, true, false, if◌then◌else◌, List, [], ◌∷◌, length, is_some}
use Rattle.abl_base.specs.declared.value.Value.{Value}
use Rattle.temp_meaning.specs.Rows.{AscendAbove, row_of}
use Rattle.temp_meaning.specs.Tables.{TempTable, Temps, table_of}
use Rattle.temp_meaning.specs.Undo.{Undone, taken_back, temps_restored}
use Rattle.temp_meaning.specs.Answers.{deleted, inserted, with_values}

-- the tables, and the changes that may be taken back: the latest one is first
pub record TempView : Type 0 where
  pub now : Temps
  pub log : List Undone

-- a change is noted, unless the table is NO-UNDO
abbrev pub noted_unless : Bool → Undone → List Undone → List Undone
noted_unless true u us = us
noted_unless false u us = u ∷ us

-- the log with a change of a row of the table, and what the row had before
abbrev pub noted : ℕ → ℕ → TempView → List Undone
noted t n v = noted_unless (table_of v.now t).no_undo (record { table = t; row = n; had = row_of (table_of v.now t).rows n }) v.log

-- ---- changes

abbrev pub next_number : Temps → ℕ → ℕ
next_number ts t = (table_of ts t).given + 1

abbrev pub with_inserted : ℕ → List Value → TempView → TempView
with_inserted t values v = record { now = inserted t values v.now; log = noted t (next_number v.now t) v }

abbrev pub with_put : ℕ → ℕ → List Value → TempView → TempView
with_put t n values v = record { now = with_values t n values v.now; log = noted t n v }

abbrev pub with_deleted : ℕ → ℕ → TempView → TempView
with_deleted t n v = record { now = deleted t n v.now; log = noted t n v }

-- the oldest n changes
abbrev pub oldest : ℕ → List Undone → List Undone
oldest n [] = []
oldest n (u ∷ us) = if nat_le (suc (length us)) n then u ∷ us else oldest n us

-- back to a mark, which is the length of the log when it was made
abbrev pub back_to : ℕ → TempView → TempView
back_to mark v = record { now = taken_back mark v.log v.now; log = oldest mark v.log }

-- ---- calls one after the other

-- a call that changes a table. One that is refused changes nothing, and is no call here
pub data TempCall : Type 0 where
  Insert : ℕ → List Value → TempCall
  Put : ℕ → ℕ → List Value → TempCall
  Delete : ℕ → ℕ → TempCall
  Back : ℕ → TempCall

abbrev pub if_there : Bool → TempView → TempView → TempView
if_there true changed v = changed
if_there false changed v = v

-- what a call leaves; a row that is not there is neither changed nor deleted
abbrev pub after_call : TempCall → TempView → TempView
after_call (Insert t values) v = with_inserted t values v
after_call (Put t n values) v = if_there (is_some (row_of (table_of v.now t).rows n)) (with_put t n values v) v
after_call (Delete t n) v = if_there (is_some (row_of (table_of v.now t).rows n)) (with_deleted t n v) v
after_call (Back mark) v = back_to mark v

abbrev pub after_calls : List TempCall → TempView → TempView
after_calls [] v = v
after_calls (c ∷ cs) v = after_calls cs (after_call c v)

-- it goes back to no mark before this one
abbrev pub StaysAfter : ℕ → TempCall → Type 0
StaysAfter mark (Back other) = mark ≤ other
StaysAfter mark c = Unit {0}

abbrev pub StayAfter : ℕ → List TempCall → Type 0
StayAfter mark [] = Unit {0}
StayAfter mark (c ∷ cs) = StaysAfter mark c × StayAfter mark cs

-- ---- tables as they are kept

-- the rows of each table stand by their numbers, which begin at 1
abbrev pub AreKept : List TempTable → Type 0
AreKept [] = Unit {0}
AreKept (t ∷ ts) = AscendAbove 0 t.rows × AreKept ts

-- each change in the log is of a row with a number
abbrev pub AreOfRows : List Undone → Type 0
AreOfRows [] = Unit {0}
AreOfRows (u ∷ us) = (0 < u.row) × AreOfRows us

-- BACK TO A MARK, over every list of calls: each table without NO-UNDO has the rows of the mark, and with them its orders; each other table is
-- as before the call, and the log is that of the mark. No number is given a second time
abbrev pub RestoresEachTable : Type 0
RestoresEachTable =
    (v : TempView) (calls : List TempCall) → AreKept v.now.tables → AreOfRows v.log → StayAfter (length v.log) calls
    → back_to (length v.log) (after_calls calls v) ≡ record { now = temps_restored v.now (after_calls calls v).now; log = v.log }

-- tables stay kept, and the changes of rows
abbrev pub StayKept : Type 0
StayKept = (v : TempView) (calls : List TempCall) → AreKept v.now.tables → AreOfRows v.log → AreKept (after_calls calls v).now.tables × AreOfRows (after_calls calls v).log
