use Rattle.std.proofs.Common.{inl, ℕ, Bool, IsTrue, Option, true, false, refl, sym, ◌∙◌, ap, subst, rules}
use Rattle.std.proofs.lemmas.Result.{on_ok_weaker, on_err_weaker}
use Rattle.storage.specs.Slots.{undone}
use Rattle.open_transactions.specs.declared.transactions.Transactions.{Transactions}
use Rattle.open_transactions.specs.Clients.{number_in, transaction_in, NothingDue}
use Rattle.slot_area.specs.Area.{view}
use Rattle.slot_txn.specs.logged.State.{state_of, faults_of, in_doubt}
use Rattle.slot_txn.proofs.LoggedLemmas.Composing.{goes_twice, calm_rests, calm_goes, cause_twice}
use Rattle.slot_txn.proofs.LoggedLemmas.Afterwards.{then_commits, then_fails, fails_resting}
use Rattle.slot_txn.proofs.logged.logged_slots.LoggedSlots.commit_with.Goals as goal

pub commit-requires-clause-begun : goal.commit-requires-clause-begun
commit-requires-clause-begun g c = ap (λ (t : Transactions). (transaction_in t.clients.items c.args.client).begun) (c.make_note_room.ensures.book.0) ∙ c.requires.begun

pub commit-requires-clause-number : goal.commit-requires-clause-number
commit-requires-clause-number g c = ap (λ (t : Transactions). number_in t.clients.items c.args.client) (c.make_note_room.ensures.book.0) ∙ c.requires.number

pub commit-requires-clause-none_due : goal.commit-requires-clause-none_due
commit-requires-clause-none_due g c = subst (λ (t : Transactions). NothingDue t.clients.items) (sym (c.make_note_room.ensures.book.0)) c.requires.none_due

pub commit-requires-clause-usable : goal.commit-requires-clause-usable
commit-requires-clause-usable g c = (c.in-Ok.ensures.calm.stays refl).0

pub returns-in-Ok-clause-ok : goal.returns-in-Ok-clause-ok
returns-in-Ok-clause-ok g c =
    let s = c.args.self.now in
    let p = c.make_note_room.new.self in
    let q = c.commit.new.self in
    let one = c.in-Ok.ensures.calm in
    let b = c.make_note_room.ensures.book in
    on_ok_weaker c.commit.result (then_commits (state_of (g.D.Disk.observable s.disk) (view s.slots (g.D.Disk.seen s.disk 0)) (g.D.Disk.time s.disk) (faults_of s.exhausted (g.D.Disk.failures s.disk)) s.transactions.clients.items s.failed s.doubtful s.since s.short) (state_of (g.D.Disk.observable p.disk) (view p.slots (g.D.Disk.seen p.disk 0)) (g.D.Disk.time p.disk) (faults_of p.exhausted (g.D.Disk.failures p.disk)) p.transactions.clients.items p.failed p.doubtful p.since p.short) (state_of (g.D.Disk.observable q.disk) (view q.slots (g.D.Disk.seen q.disk 0)) (g.D.Disk.time q.disk) (faults_of q.exhausted (g.D.Disk.failures q.disk)) q.transactions.clients.items q.failed q.doubtful q.since q.short) ((one.stays refl).0 ∙ sym c.requires.usable) (calm_rests _ _ _ _ _ _ (g.D.Disk.left s.disk) (g.D.Disk.left p.disk) _ _ s.transactions p.transactions s.failed p.failed true s.doubtful p.doubtful s.since p.since s.short p.short one (b.0) (b.1) (b.3) (b.4)) c.args.client) c.commit.ensures.ok

pub returns-in-Ok-clause-err : goal.returns-in-Ok-clause-err
returns-in-Ok-clause-err g c =
    let s = c.args.self.now in
    let p = c.make_note_room.new.self in
    let q = c.commit.new.self in
    let one = c.in-Ok.ensures.calm in
    let b = c.make_note_room.ensures.book in
    on_err_weaker c.commit.result (then_fails (state_of (g.D.Disk.observable s.disk) (view s.slots (g.D.Disk.seen s.disk 0)) (g.D.Disk.time s.disk) (faults_of s.exhausted (g.D.Disk.failures s.disk)) s.transactions.clients.items s.failed s.doubtful s.since s.short) (state_of (g.D.Disk.observable p.disk) (view p.slots (g.D.Disk.seen p.disk 0)) (g.D.Disk.time p.disk) (faults_of p.exhausted (g.D.Disk.failures p.disk)) p.transactions.clients.items p.failed p.doubtful p.since p.short) (state_of (g.D.Disk.observable q.disk) (view q.slots (g.D.Disk.seen q.disk 0)) (g.D.Disk.time q.disk) (faults_of q.exhausted (g.D.Disk.failures q.disk)) q.transactions.clients.items q.failed q.doubtful q.since q.short) ((one.stays refl).0 ∙ sym c.requires.usable) (calm_rests _ _ _ _ _ _ (g.D.Disk.left s.disk) (g.D.Disk.left p.disk) _ _ s.transactions p.transactions s.failed p.failed true s.doubtful p.doubtful s.since p.since s.short p.short one (b.0) (b.1) (b.3) (b.4)) c.args.client) c.commit.ensures.err

pub returns-in-Ok-clause-time : goal.returns-in-Ok-clause-time
returns-in-Ok-clause-time g c =
    let s = c.args.self.now in
    let p = c.make_note_room.new.self in
    let q = c.commit.new.self in
    let one = c.in-Ok.ensures.calm in
    let b = c.make_note_room.ensures.book in
    let rests = calm_rests _ _ _ _ _ _ (g.D.Disk.left s.disk) (g.D.Disk.left p.disk) _ _ s.transactions p.transactions s.failed p.failed true s.doubtful p.doubtful s.since p.since s.short p.short one (b.0) (b.1) (b.3) (b.4) in
    goes_twice (state_of (g.D.Disk.observable s.disk) (view s.slots (g.D.Disk.seen s.disk 0)) (g.D.Disk.time s.disk) (faults_of s.exhausted (g.D.Disk.failures s.disk)) s.transactions.clients.items s.failed s.doubtful s.since s.short) (state_of (g.D.Disk.observable p.disk) (view p.slots (g.D.Disk.seen p.disk 0)) (g.D.Disk.time p.disk) (faults_of p.exhausted (g.D.Disk.failures p.disk)) p.transactions.clients.items p.failed p.doubtful p.since p.short) (state_of (g.D.Disk.observable q.disk) (view q.slots (g.D.Disk.seen q.disk 0)) (g.D.Disk.time q.disk) (faults_of q.exhausted (g.D.Disk.failures q.disk)) q.transactions.clients.items q.failed q.doubtful q.since q.short) _ _ _ (calm_goes _ _ _ _ _ _ (g.D.Disk.left s.disk) (g.D.Disk.left p.disk) _ _ s.transactions p.transactions s.failed p.failed true s.doubtful p.doubtful s.since p.since s.short p.short one (b.0) (b.1) (b.3) (b.4) s.past) c.commit.ensures.time rests.keeps.committed
    (λ known. rests.keeps.doubt known ∙ ap (λ (d : Option ℕ). undone (in_doubt d s.transactions.clients.items) (view s.slots (g.D.Disk.seen s.disk 0))) ((s.sure c.requires.usable).0))
    (λ m slots st. subst (λ (x : Bool). IsTrue x) one.same_observable (subst (λ (x : Bool). IsTrue x) c.commit.ensures.same_observable (st.0)))

pub returns-in-Ok-clause-cause : goal.returns-in-Ok-clause-cause
returns-in-Ok-clause-cause g c =
    let s = c.args.self.now in
    let p = c.make_note_room.new.self in
    let q = c.commit.new.self in
    let one = c.in-Ok.ensures.calm in
    cause_twice (state_of (g.D.Disk.observable s.disk) (view s.slots (g.D.Disk.seen s.disk 0)) (g.D.Disk.time s.disk) (faults_of s.exhausted (g.D.Disk.failures s.disk)) s.transactions.clients.items s.failed s.doubtful s.since s.short) (state_of (g.D.Disk.observable p.disk) (view p.slots (g.D.Disk.seen p.disk 0)) (g.D.Disk.time p.disk) (faults_of p.exhausted (g.D.Disk.failures p.disk)) p.transactions.clients.items p.failed p.doubtful p.since p.short) (state_of (g.D.Disk.observable q.disk) (view q.slots (g.D.Disk.seen q.disk 0)) (g.D.Disk.time q.disk) (faults_of q.exhausted (g.D.Disk.failures q.disk)) q.transactions.clients.items q.failed q.doubtful q.since q.short) c.commit.result one.later ((one.stays refl).0 ∙ sym c.requires.usable) c.commit.ensures.cause

pub returns-in-Err-clause-err : goal.returns-in-Err-clause-err
returns-in-Err-clause-err g c =
    let s = c.args.self.now in
    let p = c.make_note_room.new.self in
    let b = c.make_note_room.ensures.book in
    fails_resting (state_of (g.D.Disk.observable s.disk) (view s.slots (g.D.Disk.seen s.disk 0)) (g.D.Disk.time s.disk) (faults_of s.exhausted (g.D.Disk.failures s.disk)) s.transactions.clients.items s.failed s.doubtful s.since s.short) (state_of (g.D.Disk.observable p.disk) (view p.slots (g.D.Disk.seen p.disk 0)) (g.D.Disk.time p.disk) (faults_of p.exhausted (g.D.Disk.failures p.disk)) p.transactions.clients.items p.failed p.doubtful p.since p.short) c.args.client (calm_rests _ _ _ _ _ _ (g.D.Disk.left s.disk) (g.D.Disk.left p.disk) _ _ s.transactions p.transactions s.failed p.failed false s.doubtful p.doubtful s.since p.since s.short p.short c.in-Err.ensures.calm (b.0) (b.1) (b.3) (b.4))

pub returns-in-Err-clause-time : goal.returns-in-Err-clause-time
returns-in-Err-clause-time g c =
    let s = c.args.self.now in
    let p = c.make_note_room.new.self in
    let b = c.make_note_room.ensures.book in
    calm_goes _ _ _ _ _ _ (g.D.Disk.left s.disk) (g.D.Disk.left p.disk) _ _ s.transactions p.transactions s.failed p.failed false s.doubtful p.doubtful s.since p.since s.short p.short c.in-Err.ensures.calm (b.0) (b.1) (b.3) (b.4) s.past

pub returns-in-Err-clause-cause : goal.returns-in-Err-clause-cause
returns-in-Err-clause-cause g c = let one = c.in-Err.ensures.calm in record { later = one.later; disk = λ e. inl (one.rose refl); failed = λ e. one.broke refl; stays = λ none. absurd (none (search rules)) }
