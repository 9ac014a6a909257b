use Rattle.std.proofs.Common.{List, ap, ◌∙◌, arith}
use Rattle.storage.specs.Slots.{undone}
use Rattle.storage.specs.declared.slots.Undo.{Undo}
use Rattle.slot_area.specs.Area.{view}
use Rattle.open_transactions.proofs.Changed.{nothing_due}
use Rattle.slot_txn.proofs.slots.SlotTxnSlots.end.Goals as goal

pub returns-in-Some-clause-blank : goal.returns-in-Some-clause-blank
returns-in-Some-clause-blank g c = λ readable k le lt. absurd (omega (arith, le, lt))

-- nothing is due, so reads are what the frames and area 0 have
pub returns-in-None-clause-blank : goal.returns-in-None-clause-blank
returns-in-None-clause-blank g c = λ readable k le lt.
    let s = c.args.self.now.slots in
    let stored = g.D.Disk.seen s.disk 0 in
    ap (λ (writes : List Undo). undone writes (view s.slots stored) k) (nothing_due s.transactions.clients.items c.in-None.ensures.none) ∙ c.bound.ensures.blank stored k le lt
