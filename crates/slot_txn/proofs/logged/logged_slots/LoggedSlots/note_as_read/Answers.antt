use Rattle.std.proofs.Common.{refl, arith}
use Rattle.log_meaning.specs.declared.note.Change.{Change}
use Rattle.log_meaning.specs.declared.note.Note.TheVariants.{Change as Changed}
use Rattle.log_meaning.specs.Bytes.{IsNote}
use Rattle.open_transactions.specs.Clients.{number_in, list_in}
use Rattle.slot_area.specs.Area.{view, unwritten}
use Rattle.slot_txn.proofs.LoggedLemmas.Calming.{calm_none}
use Rattle.slot_txn.proofs.LoggedLemmas.Fills.{filled_keeps}
use Rattle.slot_txn.proofs.logged.logged_slots.LoggedSlots.note_as_read.Goals as goal

pub returns-clause-calm : goal.returns-clause-calm
returns-clause-calm g c = calm_none _ _ _ _ _ _ c.args.self.now.failed c.requires.usable (λ m image l. (g.met.D.Disk.image_known c.args.self.now.disk m image l).past)

pub invariant_of-self-clause-place : goal.invariant_of-self-clause-place
invariant_of-self-clause-place g c = let same = c.append.ensures.place.0 in let place = c.args.self.now.place in let a = place.0 in let b = place.1 in (omega (arith, same, a), omega (arith, same, b))

pub invariant_of-self-clause-extents : goal.invariant_of-self-clause-extents
invariant_of-self-clause-extents g c = let e = c.args.self.now.extents in let small = c.requires.small in (e.0, omega (arith, small))

pub invariant_of-self-clause-counts : goal.invariant_of-self-clause-counts
invariant_of-self-clause-counts g c = λ fine. let had = c.args.self.now.counts c.requires.usable in let a = c.append.ensures.counts.0 in let b = c.append.ensures.counts.1 in omega (arith, had, a, b)

pub invariant_of-self-clause-emptied : goal.invariant_of-self-clause-emptied
invariant_of-self-clause-emptied g c = λ fine none. let some = c.append.ensures.some in absurd (omega (arith, some, none))

pub invariant_of-self-clause-changes : goal.invariant_of-self-clause-changes
invariant_of-self-clause-changes g c = λ fine s note is. let had = c.args.self.now.changes c.requires.usable s note is in let a = c.append.ensures.counts.0 in omega (arith, had, a)

pub invariant_of-self-clause-sound : goal.invariant_of-self-clause-sound
invariant_of-self-clause-sound g c = λ known fine.
    let s = c.args.self.now in
    let ch : Change = record { tx = 0; slot = s.generation.filled; old = c.args.now.now; new = c.args.now.now } in
    let sound : IsNote (Changed ch) = (omega arith, c.requires.small, omega arith, omega arith) in
    filled_keeps _ (view s.slots (g.D.Disk.seen s.disk 0)) _ s.log c.append.new.self (unwritten s.slots) (number_in s.transactions.clients.items) (list_in s.transactions.clients.items) _ _ _ _ ch (s.sound known fine)
    (c.append.ensures.place.0) (c.append.ensures.place.1) (c.append.ensures.counts.1) (λ ns h. c.append.ensures.notes ns h sound) refl (c.requires.read known) refl (let some = s.serials in omega (arith, some))
