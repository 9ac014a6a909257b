use Rattle.std.proofs.Common.{◌+◌, ◌*◌, refl}
use Rattle.slot_area.specs.Area.{view, unwritten}
use Rattle.open_transactions.proofs.Changed.{idle_list}
use Rattle.slot_txn.proofs.LoggedLemmas.States.{same_log, began_keeps}
use Rattle.slot_txn.proofs.logged.logged_slots.LoggedSlots.begin.Goals as goal

pub begin-requires-clause-none : goal.begin-requires-clause-none
begin-requires-clause-none g c = idle_list c.args.self.now.transactions.clients.items c.args.client c.requires.none_due c.requires.idle

pub invariant_of-self-clause-sound : goal.invariant_of-self-clause-sound
invariant_of-self-clause-sound g c = λ known fine.
    same_log (view c.args.self.now.slots (g.D.Disk.seen c.args.self.now.disk 0)) (g.D.Disk.left c.args.self.now.disk (g.D.Disk.time c.args.self.now.disk)) c.args.self.now.log (unwritten c.args.self.now.slots) c.args.self.now.transactions.clients.items c.begin.new.self.clients.items _ _ _ _
    (c.begin.ensures.lists.1) ((c.begin.ensures.no c.if-not-begin.true).1) (c.begin.ensures.lists.0) (c.args.self.now.sound known fine)

pub invariant_of-self-2-clause-sound : goal.invariant_of-self-2-clause-sound
invariant_of-self-2-clause-sound g c = λ known fine.
    began_keeps (view c.args.self.now.slots (g.D.Disk.seen c.args.self.now.disk 0)) (g.D.Disk.left c.args.self.now.disk (g.D.Disk.time c.args.self.now.disk)) c.args.self.now.log (unwritten c.args.self.now.slots) c.args.self.now.transactions.clients.items c.begin.new.self.clients.items _ _ _ c.args.self.now.serial c.args.client (16 * c.args.self.now.serial + c.args.client)
    (c.begin.ensures.number c.if-not-begin.false) c.begin.ensures.others.numbers (c.begin.ensures.lists.1) (c.begin.ensures.lists.0) (idle_list c.args.self.now.transactions.clients.items c.args.client c.requires.none_due c.requires.idle) refl c.requires.client (c.args.self.now.sound known fine)
