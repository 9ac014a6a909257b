use Rattle.std.proofs.Common.{◌≡◌, ◌+◌, map}
use Rattle.std.specs.Option.{option_copied}
use Rattle.schema_lines.specs.Lines.{before_period, lines_of, trimmed}
use Rattle.schema_lines.specs.Forms.{said}
use Rattle.schema_lines.specs.Files.{gathered}
use Rattle.schema_lines.specs.Walk.{followed_by}
use Rattle.schema_lines.proofs.Gathers.{left_of, room_of}
use Rattle.schema_lines.proofs.files.items_of.Given as goal

abbrev pub invariant-loop-rest : goal.invariant-loop-rest
invariant-loop-rest l = followed_by l.items.items (gathered (l.number + 1) (map said (before_period (map trimmed (left_of (option_copied l.rest)))))) ≡ (gathered 1 (map said (lines_of l.text))).items

abbrev pub decreases-loop-rest : goal.decreases-loop-rest
decreases-loop-rest l = room_of (option_copied l.rest)
