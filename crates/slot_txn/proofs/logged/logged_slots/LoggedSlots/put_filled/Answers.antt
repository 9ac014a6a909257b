use Rattle.std.proofs.Common.{inl, ◌<◌, ◌≤◌, ℕ, Bool, IsTrue, Option, true, false, refl, sym, ◌∙◌, ap, subst, rules}
use Rattle.std.proofs.lemmas.Result.{on_ok_weaker, on_err_weaker}
use Rattle.storage.specs.Slots.{undone, wrote}
use Rattle.open_transactions.specs.declared.transactions.Transactions.{Transactions}
use Rattle.open_transactions.specs.Clients.{list_in, transaction_in, NothingDue}
use Rattle.slot_area.specs.Area.{view}
use Rattle.slot_txn.specs.declared.logged.generation.Generation.{Generation}
use Rattle.slot_txn.specs.logged.State.{state_of, faults_of, in_doubt}
use Rattle.slot_txn.proofs.LoggedLemmas.Composing.{rests_twice, goes_twice, calm_rests, calm_goes, cause_twice}
use Rattle.slot_txn.proofs.LoggedLemmas.Afterwards.{then_writes}
use Rattle.slot_txn.proofs.logged.logged_slots.LoggedSlots.put_filled.Goals as goal

pub put_prepared-requires-clause-begun : goal.put_prepared-requires-clause-begun
put_prepared-requires-clause-begun g c = ap (λ (t : Transactions). (transaction_in t.clients.items c.args.client).begun) (c.prepare.ensures.book.0) ∙ c.requires.begun

pub put_prepared-requires-clause-none_due : goal.put_prepared-requires-clause-none_due
put_prepared-requires-clause-none_due g c = subst (λ (t : Transactions). NothingDue t.clients.items) (sym (c.prepare.ensures.book.0)) c.requires.none_due

pub put_prepared-requires-clause-alone : goal.put_prepared-requires-clause-alone
put_prepared-requires-clause-alone g c = λ d ne. ap (λ (t : Transactions). wrote (list_in t.clients.items d) c.args.slot) (c.prepare.ensures.book.0) ∙ c.requires.alone d ne

pub put_prepared-requires-clause-counted : goal.put_prepared-requires-clause-counted
put_prepared-requires-clause-counted g c = λ high. subst (λ (t : Transactions). (transaction_in t.clients.items c.args.client).counted < 7989) (sym (c.prepare.ensures.book.0)) (c.requires.counted high)

pub put_prepared-requires-clause-low : goal.put_prepared-requires-clause-low
put_prepared-requires-clause-low g c = λ low. subst (λ (t : Transactions). (transaction_in t.clients.items c.args.client).low < 10) (sym (c.prepare.ensures.book.0)) (c.requires.low low)

pub put_prepared-requires-clause-usable : goal.put_prepared-requires-clause-usable
put_prepared-requires-clause-usable g c = (c.in-Ok.ensures.calm.stays refl).0

pub put_prepared-requires-clause-filled : goal.put_prepared-requires-clause-filled
put_prepared-requires-clause-filled g c = subst (λ (x : Generation). c.args.slot ≤ x.filled) (sym c.prepare.ensures.same) c.requires.filled

pub put_prepared-requires-clause-read : goal.put_prepared-requires-clause-read
put_prepared-requires-clause-read g c = λ known'. let one = c.in-Ok.ensures.calm in let known : IsTrue (g.D.Disk.observable c.args.self.now.disk) = subst (λ (b : Bool). IsTrue b) one.same_observable known' in c.in-Ok.ensures.bytes known ∙ sym (one.same_reads known c.args.slot)

pub returns-in-Ok-clause-ok : goal.returns-in-Ok-clause-ok
returns-in-Ok-clause-ok g c =
    let s = c.args.self.now in
    let p = c.prepare.new.self in
    let b = c.prepare.ensures.book in
    let q = c.put_prepared.new.self in
    let one = c.in-Ok.ensures.calm in
    on_ok_weaker c.put_prepared.result (then_writes (state_of (g.D.Disk.observable s.disk) (view s.slots (g.D.Disk.seen s.disk 0)) (g.D.Disk.time s.disk) (faults_of s.exhausted (g.D.Disk.failures s.disk)) s.transactions.clients.items s.failed s.doubtful s.since s.short) (state_of (g.D.Disk.observable p.disk) (view p.slots (g.D.Disk.seen p.disk 0)) (g.D.Disk.time p.disk) (faults_of p.exhausted (g.D.Disk.failures p.disk)) p.transactions.clients.items p.failed p.doubtful p.since p.short) (state_of (g.D.Disk.observable q.disk) (view q.slots (g.D.Disk.seen q.disk 0)) (g.D.Disk.time q.disk) (faults_of q.exhausted (g.D.Disk.failures q.disk)) q.transactions.clients.items q.failed q.doubtful q.since q.short) ((one.stays refl).0 ∙ sym c.requires.usable) (calm_rests _ _ _ _ _ _ (g.D.Disk.left s.disk) (g.D.Disk.left p.disk) _ _ s.transactions p.transactions s.failed p.failed true s.doubtful p.doubtful s.since p.since s.short p.short one (b.0) (b.1) (b.3) (b.4)) c.args.client c.args.slot c.args.bytes.now) c.put_prepared.ensures.ok

pub returns-in-Ok-clause-err : goal.returns-in-Ok-clause-err
returns-in-Ok-clause-err g c =
    let s = c.args.self.now in
    let p = c.prepare.new.self in
    let b = c.prepare.ensures.book in
    let q = c.put_prepared.new.self in
    let one = c.in-Ok.ensures.calm in
    on_err_weaker c.put_prepared.result (rests_twice (state_of (g.D.Disk.observable s.disk) (view s.slots (g.D.Disk.seen s.disk 0)) (g.D.Disk.time s.disk) (faults_of s.exhausted (g.D.Disk.failures s.disk)) s.transactions.clients.items s.failed s.doubtful s.since s.short) (state_of (g.D.Disk.observable p.disk) (view p.slots (g.D.Disk.seen p.disk 0)) (g.D.Disk.time p.disk) (faults_of p.exhausted (g.D.Disk.failures p.disk)) p.transactions.clients.items p.failed p.doubtful p.since p.short) (state_of (g.D.Disk.observable q.disk) (view q.slots (g.D.Disk.seen q.disk 0)) (g.D.Disk.time q.disk) (faults_of q.exhausted (g.D.Disk.failures q.disk)) q.transactions.clients.items q.failed q.doubtful q.since q.short) ((one.stays refl).0 ∙ sym c.requires.usable) (calm_rests _ _ _ _ _ _ (g.D.Disk.left s.disk) (g.D.Disk.left p.disk) _ _ s.transactions p.transactions s.failed p.failed true s.doubtful p.doubtful s.since p.since s.short p.short one (b.0) (b.1) (b.3) (b.4))) c.put_prepared.ensures.err

pub returns-in-Ok-clause-time : goal.returns-in-Ok-clause-time
returns-in-Ok-clause-time g c =
    let s = c.args.self.now in
    let p = c.prepare.new.self in
    let b = c.prepare.ensures.book in
    let q = c.put_prepared.new.self in
    let one = c.in-Ok.ensures.calm in
    let r = calm_rests _ _ _ _ _ _ (g.D.Disk.left s.disk) (g.D.Disk.left p.disk) _ _ s.transactions p.transactions s.failed p.failed true s.doubtful p.doubtful s.since p.since s.short p.short one (b.0) (b.1) (b.3) (b.4) in
    goes_twice (state_of (g.D.Disk.observable s.disk) (view s.slots (g.D.Disk.seen s.disk 0)) (g.D.Disk.time s.disk) (faults_of s.exhausted (g.D.Disk.failures s.disk)) s.transactions.clients.items s.failed s.doubtful s.since s.short) (state_of (g.D.Disk.observable p.disk) (view p.slots (g.D.Disk.seen p.disk 0)) (g.D.Disk.time p.disk) (faults_of p.exhausted (g.D.Disk.failures p.disk)) p.transactions.clients.items p.failed p.doubtful p.since p.short) (state_of (g.D.Disk.observable q.disk) (view q.slots (g.D.Disk.seen q.disk 0)) (g.D.Disk.time q.disk) (faults_of q.exhausted (g.D.Disk.failures q.disk)) q.transactions.clients.items q.failed q.doubtful q.since q.short) _ _ _ (calm_goes _ _ _ _ _ _ (g.D.Disk.left s.disk) (g.D.Disk.left p.disk) _ _ s.transactions p.transactions s.failed p.failed true s.doubtful p.doubtful s.since p.since s.short p.short one (b.0) (b.1) (b.3) (b.4) s.past) c.put_prepared.ensures.time r.keeps.committed
    (λ known. r.keeps.doubt known ∙ ap (λ (d : Option ℕ). undone (in_doubt d s.transactions.clients.items) (view s.slots (g.D.Disk.seen s.disk 0))) ((s.sure c.requires.usable).0))
    (λ m slots st. subst (λ (x : Bool). IsTrue x) one.same_observable (subst (λ (x : Bool). IsTrue x) c.put_prepared.ensures.same_observable (st.0)))

pub returns-in-Ok-clause-cause : goal.returns-in-Ok-clause-cause
returns-in-Ok-clause-cause g c =
    let s = c.args.self.now in
    let p = c.prepare.new.self in
    let b = c.prepare.ensures.book in
    let q = c.put_prepared.new.self in
    let one = c.in-Ok.ensures.calm in
    cause_twice (state_of (g.D.Disk.observable s.disk) (view s.slots (g.D.Disk.seen s.disk 0)) (g.D.Disk.time s.disk) (faults_of s.exhausted (g.D.Disk.failures s.disk)) s.transactions.clients.items s.failed s.doubtful s.since s.short) (state_of (g.D.Disk.observable p.disk) (view p.slots (g.D.Disk.seen p.disk 0)) (g.D.Disk.time p.disk) (faults_of p.exhausted (g.D.Disk.failures p.disk)) p.transactions.clients.items p.failed p.doubtful p.since p.short) (state_of (g.D.Disk.observable q.disk) (view q.slots (g.D.Disk.seen q.disk 0)) (g.D.Disk.time q.disk) (faults_of q.exhausted (g.D.Disk.failures q.disk)) q.transactions.clients.items q.failed q.doubtful q.since q.short) c.put_prepared.result one.later ((one.stays refl).0 ∙ sym c.requires.usable) c.put_prepared.ensures.cause

pub returns-in-Ok-clause-room : goal.returns-in-Ok-clause-room
returns-in-Ok-clause-room g c = λ some. c.put_prepared.ensures.room (subst (λ (t : Transactions). 0 < (transaction_in t.clients.items c.args.client).room) (sym (c.prepare.ensures.book.0)) some)

pub returns-in-Ok-clause-same_observable : goal.returns-in-Ok-clause-same_observable
returns-in-Ok-clause-same_observable g c = c.put_prepared.ensures.same_observable ∙ c.in-Ok.ensures.calm.same_observable

pub returns-in-Err-clause-same_observable : goal.returns-in-Err-clause-same_observable
returns-in-Err-clause-same_observable g c = c.in-Err.ensures.calm.same_observable

pub returns-in-Err-clause-err : goal.returns-in-Err-clause-err
returns-in-Err-clause-err g c =
    let s = c.args.self.now in
    let p = c.prepare.new.self in
    let b = c.prepare.ensures.book in
    calm_rests _ _ _ _ _ _ (g.D.Disk.left s.disk) (g.D.Disk.left p.disk) _ _ s.transactions p.transactions s.failed p.failed false s.doubtful p.doubtful s.since p.since s.short p.short c.in-Err.ensures.calm (b.0) (b.1) (b.3) (b.4)

pub returns-in-Err-clause-time : goal.returns-in-Err-clause-time
returns-in-Err-clause-time g c =
    let s = c.args.self.now in
    let p = c.prepare.new.self in
    let b = c.prepare.ensures.book in
    calm_goes _ _ _ _ _ _ (g.D.Disk.left s.disk) (g.D.Disk.left p.disk) _ _ s.transactions p.transactions s.failed p.failed false s.doubtful p.doubtful s.since p.since s.short p.short c.in-Err.ensures.calm (b.0) (b.1) (b.3) (b.4) s.past

pub returns-in-Err-clause-cause : goal.returns-in-Err-clause-cause
returns-in-Err-clause-cause g c = let one = c.in-Err.ensures.calm in record { later = one.later; disk = λ e. inl (one.rose refl); failed = λ e. one.broke refl; stays = λ none. absurd (none (search rules)) }
