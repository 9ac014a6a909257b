use Rattle.std.proofs.Common.{◌≡◌, take}
use Rattle.std.specs.Prelude.{option_map}
use Rattle.stored_fields.specs.Changes.{relived}
use Rattle.stored_schema.specs.Seen.{number_in}
use Rattle.stored_schema.proofs.seeing.seen_fields.Given as goal

abbrev pub invariant-loop-field : goal.invariant-loop-field
invariant-loop-field l = l.seen ≡ relived (option_map (number_in l.given l.own)) (take l.field-index l.fields)
