use Rattle.std.proofs.Common.{◌∙◌, ap, arith}
use Rattle.slot_area.specs.Area.{below, bytes_or}
use Rattle.slot_area.proofs.AreaRuns.{below_out}
use Rattle.slot_area.proofs.slot_area.SlotArea.bound.Goals as goal

pub returns-clause-blank : goal.returns-clause-blank
returns-clause-blank c = λ stored slot le lt.
    ap (bytes_or (below c.args.self.now.end stored slot)) (c.bound.ensures.none slot le lt)
    ∙ below_out c.args.self.now.end stored slot (let above = c.bound.ensures.above in omega (arith, above, le))
