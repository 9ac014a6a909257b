use Rattle.std.proofs.Common.{◌≡◌, take}
use Rattle.block_meaning.specs.Changes.{initial_values}
use Rattle.record_rules.proofs.stored.initial_row.Given as goal

abbrev pub invariant-loop-field : goal.invariant-loop-field
invariant-loop-field l = l.values.items ≡ initial_values (take l.field-index l.fields)
