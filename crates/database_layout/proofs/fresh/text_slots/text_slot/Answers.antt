use Rattle.std.proofs.Common.{◌*◌, ℕ, length, drop, ap, arith}
use Rattle.std.proofs.lemmas.List.{length-take}
use Rattle.database_layout.proofs.fresh.text_slots.text_slot.Goals as goal

pub fragment-requires : goal.fragment-requires
fragment-requires c = omega (arith, ap (length {A = ℕ}) c.part_of-content.ensures, length-take 240 (drop (240 * c.args.i) c.args.text.now))
