use Rattle.std.proofs.Common.{◌≡◌, inl, ◌<◌, ℕ, Bool, IsTrue, List, length, Option, true, false, refl, sym, ◌∙◌, ap, subst, arith, rules}
use Rattle.storage.specs.declared.slots.Undo.{Undo}
use Rattle.storage.specs.Slots.{undone}
use Rattle.open_transactions.specs.declared.transactions.Transactions.{Transactions}
use Rattle.open_transactions.specs.Clients.{list_in, number_in, transaction_in}
use Rattle.slot_area.specs.Area.{view, is_ready}
use Rattle.slot_txn.specs.logged.State.{state_of, faults_of, in_doubt}
use Rattle.slot_txn.proofs.LoggedLemmas.Composing.{rests_twice, goes_twice, calm_rests, calm_goes, cause_after}
use Rattle.slot_txn.proofs.logged.logged_slots.LoggedSlots.undo_one.Goals as goal

some_write : (l : List Undo) (n : ℕ) → n < length l → 0 < length l
some_write l n lt = omega (arith, lt)

pub put_back-requires-clause-due : goal.put_back-requires-clause-due
put_back-requires-clause-due g c = subst (λ (t : Transactions). length (transaction_in t.clients.items c.args.client).undo < length (list_in t.clients.items c.args.client)) (sym (c.prepare.ensures.book.0)) c.requires.due

pub put_back-requires-clause-number : goal.put_back-requires-clause-number
put_back-requires-clause-number g c = ap (λ (t : Transactions). number_in t.clients.items c.args.client) (c.prepare.ensures.book.0) ∙ c.requires.number

pub put_back-requires-clause-usable : goal.put_back-requires-clause-usable
put_back-requires-clause-usable g c = (c.in-Ok.ensures.calm.stays refl).0

pub put_back-requires-clause-read : goal.put_back-requires-clause-read
put_back-requires-clause-read g c = λ us u is known'.
    let one = c.in-Ok.ensures.calm in
    let known : IsTrue (g.D.Disk.observable c.args.self.now.disk) = subst (λ (b : Bool). IsTrue b) one.same_observable known' in
    let same = c.last-write.ensures.last us u (ap (λ (t : Transactions). list_in t.clients.items c.args.client) (sym (c.prepare.ensures.book.0)) ∙ is) in
    c.in-Ok.ensures.bytes known ∙ ap (λ (x : Undo). view c.args.self.now.slots (g.D.Disk.seen c.args.self.now.disk 0) x.slot) same ∙ sym (one.same_reads known u.slot)

pub put_back-requires-clause-ready : goal.put_back-requires-clause-ready
put_back-requires-clause-ready g c = λ us u is.
    let same = c.last-write.ensures.last us u (ap (λ (t : Transactions). list_in t.clients.items c.args.client) (sym (c.prepare.ensures.book.0)) ∙ is) in
    subst (λ (x : Undo). is_ready c.prepare.new.self.slots c.prepare.new.self.log.settled x.slot ≡ true) same c.in-Ok.ensures.ready

pub returns-in-Ok-clause-rest : goal.returns-in-Ok-clause-rest
returns-in-Ok-clause-rest g c =
    let s = c.args.self.now in
    let p = c.prepare.new.self in
    let q = c.put_back.new.self in
    let one = c.in-Ok.ensures.calm in
    let b = c.prepare.ensures.book in
    rests_twice (state_of (g.D.Disk.observable s.disk) (view s.slots (g.D.Disk.seen s.disk 0)) (g.D.Disk.time s.disk) (faults_of s.exhausted (g.D.Disk.failures s.disk)) s.transactions.clients.items s.failed s.doubtful s.since s.short) (state_of (g.D.Disk.observable p.disk) (view p.slots (g.D.Disk.seen p.disk 0)) (g.D.Disk.time p.disk) (faults_of p.exhausted (g.D.Disk.failures p.disk)) p.transactions.clients.items p.failed p.doubtful p.since p.short) (state_of (g.D.Disk.observable q.disk) (view q.slots (g.D.Disk.seen q.disk 0)) (g.D.Disk.time q.disk) (faults_of q.exhausted (g.D.Disk.failures q.disk)) q.transactions.clients.items q.failed q.doubtful q.since q.short) ((one.stays refl).0 ∙ sym c.requires.usable)
    (calm_rests _ _ _ _ _ _ (g.D.Disk.left s.disk) (g.D.Disk.left p.disk) _ _ s.transactions p.transactions s.failed p.failed true s.doubtful p.doubtful s.since p.since s.short p.short one (b.0) (b.1) (b.3) (b.4)) c.put_back.ensures.rest

pub returns-in-Ok-clause-time : goal.returns-in-Ok-clause-time
returns-in-Ok-clause-time g c =
    let s = c.args.self.now in
    let p = c.prepare.new.self in
    let q = c.put_back.new.self in
    let one = c.in-Ok.ensures.calm in
    let b = c.prepare.ensures.book in
    let rests = calm_rests _ _ _ _ _ _ (g.D.Disk.left s.disk) (g.D.Disk.left p.disk) _ _ s.transactions p.transactions s.failed p.failed true s.doubtful p.doubtful s.since p.since s.short p.short one (b.0) (b.1) (b.3) (b.4) in
    goes_twice (state_of (g.D.Disk.observable s.disk) (view s.slots (g.D.Disk.seen s.disk 0)) (g.D.Disk.time s.disk) (faults_of s.exhausted (g.D.Disk.failures s.disk)) s.transactions.clients.items s.failed s.doubtful s.since s.short) (state_of (g.D.Disk.observable p.disk) (view p.slots (g.D.Disk.seen p.disk 0)) (g.D.Disk.time p.disk) (faults_of p.exhausted (g.D.Disk.failures p.disk)) p.transactions.clients.items p.failed p.doubtful p.since p.short) (state_of (g.D.Disk.observable q.disk) (view q.slots (g.D.Disk.seen q.disk 0)) (g.D.Disk.time q.disk) (faults_of q.exhausted (g.D.Disk.failures q.disk)) q.transactions.clients.items q.failed q.doubtful q.since q.short) _ _ _
    (calm_goes _ _ _ _ _ _ (g.D.Disk.left s.disk) (g.D.Disk.left p.disk) _ _ s.transactions p.transactions s.failed p.failed true s.doubtful p.doubtful s.since p.since s.short p.short one (b.0) (b.1) (b.3) (b.4) s.past) c.put_back.ensures.time
    rests.keeps.committed
    (λ known. rests.keeps.doubt known ∙ ap (λ (d : Option ℕ). undone (in_doubt d s.transactions.clients.items) (view s.slots (g.D.Disk.seen s.disk 0))) ((s.sure c.requires.usable).0))
    (λ m slots st. subst (λ (x : Bool). IsTrue x) one.same_observable (subst (λ (x : Bool). IsTrue x) c.put_back.ensures.rest.keeps.observable (st.0)))

pub returns-in-Ok-clause-cause : goal.returns-in-Ok-clause-cause
returns-in-Ok-clause-cause g c =
    let s = c.args.self.now in
    let p = c.prepare.new.self in
    let q = c.put_back.new.self in
    let one = c.in-Ok.ensures.calm in
    cause_after (state_of (g.D.Disk.observable s.disk) (view s.slots (g.D.Disk.seen s.disk 0)) (g.D.Disk.time s.disk) (faults_of s.exhausted (g.D.Disk.failures s.disk)) s.transactions.clients.items s.failed s.doubtful s.since s.short) (state_of (g.D.Disk.observable p.disk) (view p.slots (g.D.Disk.seen p.disk 0)) (g.D.Disk.time p.disk) (faults_of p.exhausted (g.D.Disk.failures p.disk)) p.transactions.clients.items p.failed p.doubtful p.since p.short) (state_of (g.D.Disk.observable q.disk) (view q.slots (g.D.Disk.seen q.disk 0)) (g.D.Disk.time q.disk) (faults_of q.exhausted (g.D.Disk.failures q.disk)) q.transactions.clients.items q.failed q.doubtful q.since q.short) c.put_back.result ((one.stays refl).1) ((one.stays refl).0 ∙ sym c.requires.usable) c.put_back.ensures.cause

pub returns-in-Err-clause-rest : goal.returns-in-Err-clause-rest
returns-in-Err-clause-rest g c =
    let s = c.args.self.now in
    let p = c.prepare.new.self in
    let b = c.prepare.ensures.book in
    calm_rests _ _ _ _ _ _ (g.D.Disk.left s.disk) (g.D.Disk.left p.disk) _ _ s.transactions p.transactions s.failed p.failed false s.doubtful p.doubtful s.since p.since s.short p.short c.in-Err.ensures.calm (b.0) (b.1) (b.3) (b.4)

pub returns-in-Err-clause-time : goal.returns-in-Err-clause-time
returns-in-Err-clause-time g c =
    let s = c.args.self.now in
    let p = c.prepare.new.self in
    let b = c.prepare.ensures.book in
    calm_goes _ _ _ _ _ _ (g.D.Disk.left s.disk) (g.D.Disk.left p.disk) _ _ s.transactions p.transactions s.failed p.failed false s.doubtful p.doubtful s.since p.since s.short p.short c.in-Err.ensures.calm (b.0) (b.1) (b.3) (b.4) s.past

pub returns-in-Err-clause-cause : goal.returns-in-Err-clause-cause
returns-in-Err-clause-cause g c =
    let one = c.in-Err.ensures.calm in
    record {
      later = one.later;
      disk = λ e. inl (one.rose refl);
      failed = λ e. one.broke refl;
      stays = λ none. absurd (none (search rules));
    }
