use Rattle.std.proofs.Common.{drop, min}
use Rattle.row_fragments.specs.Fragments.{used_in}
use Rattle.row_fragments.proofs.Lengths.{bytes_all, bytes_drop, bytes_take}
use Rattle.row_fragments.proofs.measure.content_length.Goals as goal

pub returns-clause-bytes : goal.returns-clause-bytes
returns-clause-bytes c = bytes_take (min (used_in c.args.slot.now) 240) (drop 16 c.args.slot.now) (bytes_drop 16 c.args.slot.now (bytes_all c.args.slot.now c.fits-slot))
