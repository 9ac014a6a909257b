use Rattle.std.proofs.Common.{◌*◌}
use Rattle.database_layout.proofs.FreshLemmas.Counted.{short_part}
use Rattle.database_layout.proofs.fresh.value_slots.part_of.Goals as goal

pub returns-then-values-from-le30 : goal.returns-then-values-from-le30
returns-then-values-from-le30 c = short_part 30 (30 * c.args.i) c.args.values.now c.if-values-from-le30.true
