use Rattle.std.proofs.Common.{◌≡◌, ◌++◌, take}
use Rattle.std.specs.List.{flat_map}
use Rattle.stored_schema.specs.Text.{stored_line}
use Rattle.stored_schema.proofs.text.push_stored.Given as goal

abbrev pub invariant-loop-field : goal.invariant-loop-field
invariant-loop-field l =
    l.text.items ≡ l.initial.text.items ++ flat_map (stored_line l.fields) (take l.field-index l.stored)
