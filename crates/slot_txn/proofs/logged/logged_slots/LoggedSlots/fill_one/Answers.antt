use Rattle.std.proofs.Common.{◌<◌, ◌+◌, ◌^◌, Bool, IsTrue, refl, sym, ◌∙◌, ap, subst}
use Rattle.storage.specs.Slots.{undone}
use Rattle.open_transactions.specs.Clients.{lists}
use Rattle.slot_area.specs.Area.{view}
use Rattle.slot_txn.specs.declared.logged.generation.Generation.{Generation}
use Rattle.slot_txn.proofs.LoggedLemmas.Calming.{calm_twice}
use Rattle.slot_txn.proofs.LoggedLemmas.Composing.{committed_same}
use Rattle.slot_txn.proofs.logged.logged_slots.LoggedSlots.fill_one.Goals as goal

pub note_as_read-requires-clause-usable : goal.note_as_read-requires-clause-usable
note_as_read-requires-clause-usable g c = (c.in_ok-prepare.ensures.calm.stays refl).0

pub note_as_read-requires-clause-small : goal.note_as_read-requires-clause-small
note_as_read-requires-clause-small g c = subst (λ (x : Generation). x.filled < 2 ^ 20) (sym c.prepare.ensures.same) c.requires.small

pub note_as_read-requires-clause-read : goal.note_as_read-requires-clause-read
note_as_read-requires-clause-read g c = λ known'.
    let p = c.prepare.new.self in
    let one = c.in_ok-prepare.ensures.calm in
    let known : IsTrue (g.D.Disk.observable c.args.self.now.disk) = subst (λ (b : Bool). IsTrue b) one.same_observable known' in
    c.in_ok-prepare.ensures.bytes known ∙ sym (one.same_reads known c.args.self.now.generation.filled) ∙ ap (λ (x : Generation). view p.slots (g.D.Disk.seen p.disk 0) x.filled) (sym c.prepare.ensures.same)

pub returns-clause-calm : goal.returns-clause-calm
returns-clause-calm g c =
    let p = c.prepare.new.self in
    let one = c.in_ok-prepare.ensures.calm in
    calm_twice _ _ _ _ _ _ _ _ _ _ _ _ _ (undone (lists p.transactions.clients.items) (view p.slots (g.D.Disk.seen p.disk 0))) _ _ _ _ _ _ one c.note_as_read.ensures.calm
    (λ known. committed_same c.args.self.now.transactions p.transactions _ _ (c.prepare.ensures.book.0) (one.same_reads known))

pub returns-clause-filled : goal.returns-clause-filled
returns-clause-filled g c = c.note_as_read.ensures.filled ∙ ap (λ (x : Generation). x.filled + 1) c.prepare.ensures.same
