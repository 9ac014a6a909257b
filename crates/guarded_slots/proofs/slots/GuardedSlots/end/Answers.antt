-- The slots below read zeros from there on.
use Rattle.guarded_slots.proofs.Keeping.{readable_below}
use Rattle.guarded_slots.proofs.slots.GuardedSlots.end.Goals as goal

pub returns-clause-blank : goal.returns-clause-blank
returns-clause-blank g c = λ readable. c.end.ensures.blank (readable_below c.args.self.now.refused (g.S.Slots.state c.args.self.now.slots) readable)
