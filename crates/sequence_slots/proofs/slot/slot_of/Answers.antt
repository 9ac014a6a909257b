use Rattle.std.proofs.Common.{◌<◌, ◌∙◌, ◌*◌, length, sym, arith}
use Rattle.std.proofs.lemmas.Bool.Decides.{nat_tests}
use Rattle.sequence_slots.specs.Values.{bytes_of}
use Rattle.sequence_slots.proofs.Laid.{filled, laid, length_bytes}
use Rattle.sequence_slots.proofs.slot.slot_of.Goals as goal

pub returns : goal.returns
returns c =
    let values = c.args.values.now in
    let some : 0 < length values = grind (arith, nat_tests, c.if-is_empty.false, c.is_empty.ensures) in
    laid (8 * length values) (bytes_of values) c.put_head.new.out c.put_values.new.out (length_bytes values) c.put_head.ensures c.put_values.ensures ∙ sym (filled values some)
