-- Whether a client holds a row exclusively, by its own events alone.
use Rattle.std.specs.Prelude.{ℕ, Bool, false, not, ◌==◌, ◌&&◌, ◌||◌, if◌then◌else◌, List, [], ◌∷◌}
use Rattle.database_protocol.specs.declared.operation.Op.{Op}
use Rattle.database_protocol.specs.declared.operation.Op.TheVariants.{Leave, Lock, Insert, Drop as DropLock, End}
use Rattle.database_protocol.specs.declared.answer.Answer.{Answer}
use Rattle.database_protocol.specs.declared.event.Event.{Event}
use Rattle.database_meaning.specs.Steps.{is_success, row_of_answer}
use Rattle.client_runner.specs.Levels.{levels_after}

-- after an operation succeeded with this answer, where `levels` were open: an exclusive Lock and an Insert give the row; the Leave of level 1
-- and End take all rows, and Drop outside of a transaction takes one
abbrev pub holds_after : ℕ → ℕ → Op → Answer → Bool → Bool
holds_after row levels (Lock table at exclusive wait) a held = if at.0 == row then held || exclusive else held
holds_after row levels (Insert table values) a held = (row_of_answer a == row) || held
holds_after row levels (Leave keep) a held = not (levels == 1) && held
holds_after row levels (DropLock at) a held = not ((levels == 0) && (at.0 == row)) && held
holds_after row levels End a held = false
holds_after row levels _ a held = held

-- after these events of the client, where `levels` were open and it held the row exclusively, or not
abbrev pub holds_left : ℕ → ℕ → Bool → List Event → Bool
holds_left row levels held [] = held
holds_left row levels held (e ∷ own) =
    holds_left row (if is_success e.answer then levels_after levels e.op else levels) (if is_success e.answer then holds_after row levels e.op e.answer held else held) own

-- the rows that it holds exclusively after these events, from the first one on
abbrev pub holds : List Event → ℕ → Bool
holds own row = holds_left row 0 false own
