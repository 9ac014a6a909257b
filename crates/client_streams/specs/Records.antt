-- The text of EXPORT of a buffer.
use Rattle.std.specs.Prelude.{ℕ}
use Rattle.block_meaning.specs.Lines.{NoRecordIn}
use Rattle.block_meaning.specs.State.{Content, Empty, Record, Pending}
use Rattle.block_meaning.specs.Values.{Text, IsText, HasFault, export_line}

-- by what the buffer holds: the line of the values of its record, or its fault
abbrev pub record_text : ℕ → Content → Text
record_text b Empty = HasFault (NoRecordIn b)
record_text b (Record row values held made) = IsText (export_line values)
record_text b (Pending values since made) = IsText (export_line values)
