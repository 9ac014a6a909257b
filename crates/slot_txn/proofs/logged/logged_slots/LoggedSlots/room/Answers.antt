use Rattle.slot_area.specs.Area.{view, unwritten}
use Rattle.slot_txn.proofs.LoggedLemmas.States.{same_log}
use Rattle.slot_txn.proofs.logged.logged_slots.LoggedSlots.room.Goals as goal

pub invariant_of-self-clause-sound : goal.invariant_of-self-clause-sound
invariant_of-self-clause-sound g c = λ known fine.
    same_log (view c.args.self.now.slots (g.D.Disk.seen c.args.self.now.disk 0)) (g.D.Disk.left c.args.self.now.disk (g.D.Disk.time c.args.self.now.disk)) c.args.self.now.log (unwritten c.args.self.now.slots) c.args.self.now.transactions.clients.items c.make_room.new.self.clients.items _ _ _ _
    c.make_room.ensures.lists.all c.make_room.ensures.lists.numbers c.make_room.ensures.lists.list (c.args.self.now.sound known fine)
