-- Which lock is dropped when a buffer is emptied.
use Rattle.std.specs.Prelude.{◌==◌, [], ◌∷◌, Bool, true, false, not, ◌&&◌, Option, Some, None, length}
use Rattle.std.specs.Prelude.{ℕ}
use Rattle.abl_base.specs.declared.row.RowId.{RowId}
use Rattle.block_meaning.specs.Frames.{locked_row}
use Rattle.block_meaning.specs.Buffers.{own, is_row_in}
use Rattle.client_memory.specs.Buffers.{rows_kept}
use Rattle.client_memory.specs.Memory.{Remembered, buffer_at}

-- a row, if the condition holds
abbrev pub row_where : Bool → RowId → Option RowId
row_where true row = Some row
row_where false row = None

-- of a row that buffer b holds with a lock: outside a transaction, where no other buffer holds it
abbrev pub dropped_of : Option RowId → ℕ → Remembered → Option RowId
dropped_of None b m = None
dropped_of (Some row) b m = row_where ((length m.copies == 0) && not (is_row_in row (rows_kept (b ∷ []) m.buffers))) row

-- the row whose lock is dropped with buffer b, if one is
abbrev pub dropped_row : ℕ → Remembered → Option RowId
dropped_row b m = dropped_of (locked_row (buffer_at (own b) m).content) b m
