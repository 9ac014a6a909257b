use Rattle.std.proofs.Common.{◌*◌, take, sym, ap}
use Rattle.std.proofs.lemmas.List.{drop_all}
use Rattle.database_layout.proofs.FreshLemmas.Counted.{short_part, whole_part}
use Rattle.database_layout.proofs.fresh.text_slots.part_of.Goals as goal

pub returns-then-text-from : goal.returns-then-text-from
returns-then-text-from c = sym (ap (take 240) (drop_all (240 * c.args.i) c.args.text.now c.if-text-from.true))

pub returns-then-text-from-le240 : goal.returns-then-text-from-le240
returns-then-text-from-le240 c = short_part 240 (240 * c.args.i) c.args.text.now c.if-text-from-le240.true

pub returns : goal.returns
returns c = whole_part 240 (240 * c.args.i) c.args.text.now
