use Rattle.std.proofs.Common.{◌≡◌, take}
use Rattle.std.specs.List.{flat_map}
use Rattle.row_fragments.specs.Fragments.{content_in}
use Rattle.database_layout.proofs.stored_text.texts.contents.Given as goal

abbrev pub invariant-loop-slot : goal.invariant-loop-slot
invariant-loop-slot l = l.bytes.items ≡ flat_map content_in (take l.slot-index l.slots)
