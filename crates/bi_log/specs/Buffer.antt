-- The notes that are in no batch yet, as bytes.
use Rattle.std.specs.Prelude.{ℕ, List, take, drop}
use Rattle.bi_log.specs.declared.note_buffer.NoteBuffer.{NoteBuffer}

abbrev pub content : NoteBuffer → List ℕ
content buffer = take buffer.used (drop 4 buffer.bytes.items)
