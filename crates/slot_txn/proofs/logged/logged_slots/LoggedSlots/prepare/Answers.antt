use Rattle.std.proofs.Common.{◌≡◌, true, false, is_ok, rules, sym, subst}
use Rattle.storage.specs.Slots.{undone}
use Rattle.open_transactions.specs.Clients.{lists}
use Rattle.slot_area.specs.declared.slot_area.SlotArea.{SlotArea}
use Rattle.slot_area.specs.Area.{view, is_ready}
use Rattle.slot_txn.proofs.LoggedLemmas.Calming.{calm_as, calm_twice}
use Rattle.slot_txn.proofs.LoggedLemmas.Composing.{committed_same}
use Rattle.slot_txn.proofs.logged.logged_slots.LoggedSlots.prepare.Goals as goal

pub returns-in_err-make_note_room-clause-calm : goal.returns-in_err-make_note_room-clause-calm
returns-in_err-make_note_room-clause-calm g c =
    let r = c.read_slot.new.self in
    let one = c.in_ok-read_slot.ensures.calm in
    let failed : is_ok c.from_residual-in_err-make_note_room.result ≡ false = search rules in
    calm_as _ _ _ _ _ _ _ _ _ _ _ _ false _ failed (calm_twice _ _ _ _ _ _ _ _ _ _ _ _ _ (undone (lists r.transactions.clients.items) (view r.slots (g.D.Disk.seen r.disk 0))) _ _ _ _ _ _ one c.in_err-make_note_room.ensures.calm
    (λ known. committed_same c.args.self.now.transactions r.transactions _ _ (c.read_slot.ensures.book.0) (one.same_reads known)))

pub returns-clause-calm : goal.returns-clause-calm
returns-clause-calm g c =
    let r = c.read_slot.new.self in
    let one = c.in_ok-read_slot.ensures.calm in
    calm_twice _ _ _ _ _ _ _ _ _ _ _ _ _ (undone (lists r.transactions.clients.items) (view r.slots (g.D.Disk.seen r.disk 0))) _ _ _ _ _ _ one c.in_ok-make_note_room.ensures.calm
    (λ known. committed_same c.args.self.now.transactions r.transactions _ _ (c.read_slot.ensures.book.0) (one.same_reads known))

pub returns-clause-ready : goal.returns-clause-ready
returns-clause-ready g c = subst (λ (x : SlotArea). is_ready x c.make_note_room.new.self.log.settled c.args.slot ≡ true) (sym (c.make_note_room.ensures.same.0)) (c.in_ok-read_slot.ensures.ready c.make_note_room.new.self.log.settled)
