use Rattle.std.proofs.Common.{inl, List, true, false, refl, sym, ◌∙◌, ap, rules}
use Rattle.storage.specs.declared.slots.Undo.{Undo}
use Rattle.storage.specs.Slots.{undone}
use Rattle.open_transactions.proofs.Changed.{nothing_due}
use Rattle.slot_area.specs.Area.{view}
use Rattle.slot_txn.specs.logged.State.{state_of, faults_of}
use Rattle.slot_txn.proofs.LoggedLemmas.States.{goes_still}
use Rattle.slot_txn.proofs.LoggedLemmas.Composing.{calm_rests, calm_goes, rests_none}
use Rattle.slot_txn.proofs.logged.logged_slots.LoggedSlots.read.Goals as goal

pub returns-in-Ok-clause-bytes : goal.returns-in-Ok-clause-bytes
returns-in-Ok-clause-bytes g c = λ h. c.in-Ok.ensures.bytes (h.0) ∙ ap (λ (us : List Undo). undone us (view c.args.self.now.slots (g.D.Disk.seen c.args.self.now.disk 0)) c.args.slot) (sym (nothing_due c.args.self.now.transactions.clients.items c.requires.none_due))

pub returns-in-Ok-clause-rest : goal.returns-in-Ok-clause-rest
returns-in-Ok-clause-rest g c =
    let s = c.args.self.now in
    let p = c.read_slot.new.self in
    let b = c.read_slot.ensures.book in
    calm_rests _ _ _ _ _ _ (g.D.Disk.left s.disk) (g.D.Disk.left p.disk) _ _ s.transactions p.transactions s.failed p.failed true s.doubtful p.doubtful s.since p.since s.short p.short c.in-Ok.ensures.calm (b.0) (b.1) (b.3) (b.4)

pub returns-in-Ok-clause-time : goal.returns-in-Ok-clause-time
returns-in-Ok-clause-time g c =
    let s = c.args.self.now in
    let p = c.read_slot.new.self in
    let b = c.read_slot.ensures.book in
    calm_goes _ _ _ _ _ _ (g.D.Disk.left s.disk) (g.D.Disk.left p.disk) _ _ s.transactions p.transactions s.failed p.failed true s.doubtful p.doubtful s.since p.since s.short p.short c.in-Ok.ensures.calm (b.0) (b.1) (b.3) (b.4) s.past

pub returns-in-Err-clause-rest : goal.returns-in-Err-clause-rest
returns-in-Err-clause-rest g c =
    let s = c.args.self.now in
    let p = c.read_slot.new.self in
    let b = c.read_slot.ensures.book in
    calm_rests _ _ _ _ _ _ (g.D.Disk.left s.disk) (g.D.Disk.left p.disk) _ _ s.transactions p.transactions s.failed p.failed false s.doubtful p.doubtful s.since p.since s.short p.short c.in-Err.ensures.calm (b.0) (b.1) (b.3) (b.4)

pub returns-in-Err-clause-time : goal.returns-in-Err-clause-time
returns-in-Err-clause-time g c =
    let s = c.args.self.now in
    let p = c.read_slot.new.self in
    let b = c.read_slot.ensures.book in
    calm_goes _ _ _ _ _ _ (g.D.Disk.left s.disk) (g.D.Disk.left p.disk) _ _ s.transactions p.transactions s.failed p.failed false s.doubtful p.doubtful s.since p.since s.short p.short c.in-Err.ensures.calm (b.0) (b.1) (b.3) (b.4) s.past

pub returns-in-Err-clause-cause : goal.returns-in-Err-clause-cause
returns-in-Err-clause-cause g c = let one = c.in-Err.ensures.calm in record { later = one.later; disk = λ e. inl (one.rose refl); failed = λ e. one.broke refl; stays = λ none. absurd (none (search rules)) }

pub returns-in-Ok-clause-cause : goal.returns-in-Ok-clause-cause
returns-in-Ok-clause-cause g c = let one = c.in-Ok.ensures.calm in record { later = one.later; disk = search rules; failed = search rules; stays = λ none. (one.stays refl).0 ∙ sym c.requires.usable }

pub returns-then-is_blank-clause-bytes : goal.returns-then-is_blank-clause-bytes
returns-then-is_blank-clause-bytes g c = λ h. sym (c.is_blank.ensures.zeros c.if-is_blank.true (g.D.Disk.seen c.args.self.now.disk 0)) ∙ ap (λ (us : List Undo). undone us (view c.args.self.now.slots (g.D.Disk.seen c.args.self.now.disk 0)) c.args.slot) (sym (nothing_due c.args.self.now.transactions.clients.items c.requires.none_due))

pub returns-then-is_blank-clause-time : goal.returns-then-is_blank-clause-time
returns-then-is_blank-clause-time g c =
    let s = c.args.self.now in
    goes_still (state_of (g.D.Disk.observable s.disk) (view s.slots (g.D.Disk.seen s.disk 0)) (g.D.Disk.time s.disk) (faults_of s.exhausted (g.D.Disk.failures s.disk)) s.transactions.clients.items s.failed s.doubtful s.since s.short) (state_of (g.D.Disk.observable s.disk) (view s.slots (g.D.Disk.seen s.disk 0)) (g.D.Disk.time s.disk) (faults_of s.exhausted (g.D.Disk.failures s.disk)) s.transactions.clients.items s.failed s.doubtful s.since s.short) (g.D.Disk.observable s.disk) s.since (g.D.Disk.time s.disk) (g.D.Disk.left s.disk) refl refl refl refl

pub returns-then-is_blank-clause-rest : goal.returns-then-is_blank-clause-rest
returns-then-is_blank-clause-rest g c =
    let s = c.args.self.now in
    rests_none (state_of (g.D.Disk.observable s.disk) (view s.slots (g.D.Disk.seen s.disk 0)) (g.D.Disk.time s.disk) (faults_of s.exhausted (g.D.Disk.failures s.disk)) s.transactions.clients.items s.failed s.doubtful s.since s.short)
