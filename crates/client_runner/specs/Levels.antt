-- The levels that a client has open, by its own events alone.
use Rattle.std.specs.Prelude.{ℕ, ◌+◌, ◌-◌, if◌then◌else◌, List, [], ◌∷◌, min}
use Rattle.database_protocol.specs.declared.operation.Op.{Op}
use Rattle.database_protocol.specs.declared.operation.Op.TheVariants.{Enter, Leave, Back, End}
use Rattle.database_protocol.specs.declared.event.Event.{Event}
use Rattle.database_meaning.specs.Steps.{is_success}

-- the number of open levels after an operation succeeded
abbrev pub levels_after : ℕ → Op → ℕ
levels_after open_levels Enter = open_levels + 1
levels_after open_levels (Leave keep) = open_levels - 1
levels_after open_levels (Back depth) = min depth open_levels
levels_after open_levels End = 0
levels_after open_levels _ = open_levels

-- and after these events of a client
abbrev pub levels_left : ℕ → List Event → ℕ
levels_left open_levels [] = open_levels
levels_left open_levels (e ∷ own) = levels_left (if is_success e.answer then levels_after open_levels e.op else open_levels) own
