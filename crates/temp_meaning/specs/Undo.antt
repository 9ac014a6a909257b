-- Taking changes of temporary tables back.
use Rattle.std.specs.Prelude.{ℕ, suc, nat_le, if◌then◌else◌, List, [], ◌∷◌, length, Option, Some, None}
use Rattle.abl_base.specs.declared.value.Value.{Value}
use Rattle.temp_meaning.specs.Rows.{TempRow, with_row, without_row}
use Rattle.temp_meaning.specs.Tables.{TempTable, Temps, table_of, with_table}

-- a change as it is taken back: the row had these values, or was not there
pub record Undone : Type 0 where
  pub table : ℕ
  pub row : ℕ
  pub had : Option (List Value)

abbrev pub rows_back : ℕ → Option (List Value) → List TempRow → List TempRow
rows_back n None rs = without_row n rs
rows_back n (Some vs) rs = with_row n vs rs

-- takes one change back. The greatest number that was given stays
abbrev pub taken_back_one : Undone → Temps → Temps
taken_back_one u ts = with_table u.table (record (table_of ts u.table) { rows = rows_back u.row u.had (table_of ts u.table).rows }) ts

-- takes changes back until n are left; the latest one is first
abbrev pub taken_back : ℕ → List Undone → Temps → Temps
taken_back n [] ts = ts
taken_back n (u ∷ us) ts = if nat_le (suc (length us)) n then ts else taken_back n us (taken_back_one u ts)

-- ---- copies

-- what an UNDO gives a table from a copy: its rows, unless it is NO-UNDO
abbrev pub table_restored : TempTable → TempTable → TempTable
table_restored copied now = if now.no_undo then now else record now { rows = copied.rows }

abbrev pub tables_restored : List TempTable → List TempTable → List TempTable
tables_restored [] now = now
tables_restored (c ∷ cs) [] = []
tables_restored (c ∷ cs) (t ∷ ts) = table_restored c t ∷ tables_restored cs ts

abbrev pub temps_restored : Temps → Temps → Temps
temps_restored copied now = record now { tables = tables_restored copied.tables now.tables }
