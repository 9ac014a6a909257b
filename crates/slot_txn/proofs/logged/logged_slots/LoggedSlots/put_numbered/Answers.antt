use Rattle.std.proofs.Common.{◌<◌, ℕ, Bool, IsTrue, List, Option, refl, sym, ◌∙◌, ap, subst, arith}
use Rattle.std.proofs.lemmas.Bool.{true≢false}
use Rattle.std.proofs.lemmas.Result.{on_ok_weaker, on_err_weaker}
use Rattle.storage.specs.declared.slots.Undo.{Undo}
use Rattle.storage.specs.Slots.{Transaction, undone, wrote}
use Rattle.slot_area.specs.Area.{view, unwritten}
use Rattle.slot_txn.specs.logged.State.{state_of, faults_of, in_doubt}
use Rattle.slot_txn.proofs.LoggedLemmas.States.{goes_still, rests, same_log}
use Rattle.slot_txn.proofs.LoggedLemmas.Composing.{rests_twice, goes_twice, cause_twice}
use Rattle.slot_txn.proofs.LoggedLemmas.Afterwards.{then_writes}
use Rattle.slot_txn.proofs.logged.logged_slots.LoggedSlots.put_numbered.Goals as goal

pub invariant_of-self-clause-sound : goal.invariant_of-self-clause-sound
invariant_of-self-clause-sound g c = λ known fine.
    same_log (view c.args.self.now.slots (g.D.Disk.seen c.args.self.now.disk 0)) (g.D.Disk.left c.args.self.now.disk (g.D.Disk.time c.args.self.now.disk)) c.args.self.now.log (unwritten c.args.self.now.slots) c.args.self.now.transactions.clients.items c.reserve_for.new.self.clients.items _ _ _ _
    c.reserve_for.ensures.lists.all c.reserve_for.ensures.lists.numbers c.reserve_for.ensures.lists.list (c.args.self.now.sound known fine)

pub write-requires-clause-begun : goal.write-requires-clause-begun
write-requires-clause-begun g c = ap (λ (f : ℕ → Transaction). (f c.args.client).begun) c.reserve_for.ensures.transactions ∙ c.requires.begun

pub write-requires-clause-number : goal.write-requires-clause-number
write-requires-clause-number g c = ap (λ (f : ℕ → Option ℕ). f c.args.client) c.reserve_for.ensures.lists.numbers ∙ c.requires.number

pub write-requires-clause-none_due : goal.write-requires-clause-none_due
write-requires-clause-none_due g c = λ k. ap (λ (f : ℕ → List Undo). f k) (c.reserve_for.ensures.due.1) ∙ c.requires.none_due k

pub write-requires-clause-alone : goal.write-requires-clause-alone
write-requires-clause-alone g c = λ d ne. ap (λ (f : ℕ → List Undo). wrote (f d) c.args.slot) c.reserve_for.ensures.lists.list ∙ c.requires.alone d ne

pub write-requires-clause-counted : goal.write-requires-clause-counted
write-requires-clause-counted g c = λ high. subst (λ (f : ℕ → Transaction). (f c.args.client).counted < 7989) (sym c.reserve_for.ensures.transactions) (c.requires.counted high)

pub write-requires-clause-low : goal.write-requires-clause-low
write-requires-clause-low g c = λ low. subst (λ (f : ℕ → Transaction). (f c.args.client).low < 10) (sym c.reserve_for.ensures.transactions) (c.requires.low low)

pub write-requires-clause-memory : goal.write-requires-clause-memory
write-requires-clause-memory g c = c.reserve_for.ensures.yes c.if-not-reserve_for.false

pub returns-then-not-reserve_for-clause-err : goal.returns-then-not-reserve_for-clause-err
returns-then-not-reserve_for-clause-err g c =
    let s = c.args.self.now in
    let t = c.reserve_for.new.self.clients.items in
    let kept = c.reserve_for.ensures.lists in
    let one = rests (g.D.Disk.observable s.disk) (view s.slots (g.D.Disk.seen s.disk 0)) (g.D.Disk.time s.disk) (faults_of s.exhausted (g.D.Disk.failures s.disk)) s.transactions.clients.items t s.failed s.doubtful s.since s.short kept.all kept.but (c.reserve_for.ensures.due.0) c.reserve_for.ensures.transactions in
    one

pub returns-then-not-reserve_for-clause-time : goal.returns-then-not-reserve_for-clause-time
returns-then-not-reserve_for-clause-time g c =
    let s = c.args.self.now in
    let t = c.reserve_for.new.self.clients.items in
    goes_still (state_of (g.D.Disk.observable s.disk) (view s.slots (g.D.Disk.seen s.disk 0)) (g.D.Disk.time s.disk) (faults_of s.exhausted (g.D.Disk.failures s.disk)) s.transactions.clients.items s.failed s.doubtful s.since s.short) (state_of (g.D.Disk.observable s.disk) (view s.slots (g.D.Disk.seen s.disk 0)) (g.D.Disk.time s.disk) (faults_of s.exhausted (g.D.Disk.failures s.disk)) t s.failed s.doubtful s.since s.short) (g.D.Disk.observable s.disk) s.since (g.D.Disk.time s.disk) (g.D.Disk.left s.disk) refl refl refl refl

pub returns-then-not-reserve_for-clause-room : goal.returns-then-not-reserve_for-clause-room
returns-then-not-reserve_for-clause-room g c = λ some e. true≢false (sym (c.reserve_for.ensures.promised some) ∙ c.if-not-reserve_for.true)

pub returns-then-not-reserve_for-clause-low_room : goal.returns-then-not-reserve_for-clause-low_room
returns-then-not-reserve_for-clause-low_room g c = λ low e. true≢false (sym (c.reserve_for.ensures.low low) ∙ c.if-not-reserve_for.true)

pub returns-clause-ok : goal.returns-clause-ok
returns-clause-ok g c =
    let s = c.args.self.now in
    let t = c.reserve_for.new.self.clients.items in
    let q = c.write.new.self in
    let kept = c.reserve_for.ensures.lists in
    let one = rests (g.D.Disk.observable s.disk) (view s.slots (g.D.Disk.seen s.disk 0)) (g.D.Disk.time s.disk) (faults_of s.exhausted (g.D.Disk.failures s.disk)) s.transactions.clients.items t s.failed s.doubtful s.since s.short kept.all kept.but (c.reserve_for.ensures.due.0) c.reserve_for.ensures.transactions in
    on_ok_weaker c.write.result (then_writes (state_of (g.D.Disk.observable s.disk) (view s.slots (g.D.Disk.seen s.disk 0)) (g.D.Disk.time s.disk) (faults_of s.exhausted (g.D.Disk.failures s.disk)) s.transactions.clients.items s.failed s.doubtful s.since s.short) (state_of (g.D.Disk.observable s.disk) (view s.slots (g.D.Disk.seen s.disk 0)) (g.D.Disk.time s.disk) (faults_of s.exhausted (g.D.Disk.failures s.disk)) t s.failed s.doubtful s.since s.short) (state_of (g.D.Disk.observable q.disk) (view q.slots (g.D.Disk.seen q.disk 0)) (g.D.Disk.time q.disk) (faults_of q.exhausted (g.D.Disk.failures q.disk)) q.transactions.clients.items q.failed q.doubtful q.since q.short) refl one c.args.client c.args.slot c.args.bytes.now) c.write.ensures.ok

pub returns-clause-err : goal.returns-clause-err
returns-clause-err g c =
    let s = c.args.self.now in
    let t = c.reserve_for.new.self.clients.items in
    let q = c.write.new.self in
    let kept = c.reserve_for.ensures.lists in
    let one = rests (g.D.Disk.observable s.disk) (view s.slots (g.D.Disk.seen s.disk 0)) (g.D.Disk.time s.disk) (faults_of s.exhausted (g.D.Disk.failures s.disk)) s.transactions.clients.items t s.failed s.doubtful s.since s.short kept.all kept.but (c.reserve_for.ensures.due.0) c.reserve_for.ensures.transactions in
    on_err_weaker c.write.result (rests_twice (state_of (g.D.Disk.observable s.disk) (view s.slots (g.D.Disk.seen s.disk 0)) (g.D.Disk.time s.disk) (faults_of s.exhausted (g.D.Disk.failures s.disk)) s.transactions.clients.items s.failed s.doubtful s.since s.short) (state_of (g.D.Disk.observable s.disk) (view s.slots (g.D.Disk.seen s.disk 0)) (g.D.Disk.time s.disk) (faults_of s.exhausted (g.D.Disk.failures s.disk)) t s.failed s.doubtful s.since s.short) (state_of (g.D.Disk.observable q.disk) (view q.slots (g.D.Disk.seen q.disk 0)) (g.D.Disk.time q.disk) (faults_of q.exhausted (g.D.Disk.failures q.disk)) q.transactions.clients.items q.failed q.doubtful q.since q.short) refl one) c.write.ensures.err

pub returns-clause-time : goal.returns-clause-time
returns-clause-time g c =
    let s = c.args.self.now in
    let t = c.reserve_for.new.self.clients.items in
    let q = c.write.new.self in
    let kept = c.reserve_for.ensures.lists in
    let one = rests (g.D.Disk.observable s.disk) (view s.slots (g.D.Disk.seen s.disk 0)) (g.D.Disk.time s.disk) (faults_of s.exhausted (g.D.Disk.failures s.disk)) s.transactions.clients.items t s.failed s.doubtful s.since s.short kept.all kept.but (c.reserve_for.ensures.due.0) c.reserve_for.ensures.transactions in
    goes_twice (state_of (g.D.Disk.observable s.disk) (view s.slots (g.D.Disk.seen s.disk 0)) (g.D.Disk.time s.disk) (faults_of s.exhausted (g.D.Disk.failures s.disk)) s.transactions.clients.items s.failed s.doubtful s.since s.short) (state_of (g.D.Disk.observable s.disk) (view s.slots (g.D.Disk.seen s.disk 0)) (g.D.Disk.time s.disk) (faults_of s.exhausted (g.D.Disk.failures s.disk)) t s.failed s.doubtful s.since s.short) (state_of (g.D.Disk.observable q.disk) (view q.slots (g.D.Disk.seen q.disk 0)) (g.D.Disk.time q.disk) (faults_of q.exhausted (g.D.Disk.failures q.disk)) q.transactions.clients.items q.failed q.doubtful q.since q.short) _ _ _ (goes_still (state_of (g.D.Disk.observable s.disk) (view s.slots (g.D.Disk.seen s.disk 0)) (g.D.Disk.time s.disk) (faults_of s.exhausted (g.D.Disk.failures s.disk)) s.transactions.clients.items s.failed s.doubtful s.since s.short) (state_of (g.D.Disk.observable s.disk) (view s.slots (g.D.Disk.seen s.disk 0)) (g.D.Disk.time s.disk) (faults_of s.exhausted (g.D.Disk.failures s.disk)) t s.failed s.doubtful s.since s.short) (g.D.Disk.observable s.disk) s.since (g.D.Disk.time s.disk) (g.D.Disk.left s.disk) refl refl refl refl) c.write.ensures.time one.keeps.committed
    (λ known. one.keeps.doubt known ∙ ap (λ (d : Option ℕ). undone (in_doubt d s.transactions.clients.items) (view s.slots (g.D.Disk.seen s.disk 0))) ((s.sure c.requires.usable).0))
    (λ m slots st. subst (λ (x : Bool). IsTrue x) c.write.ensures.same_observable (st.0))

pub returns-clause-cause : goal.returns-clause-cause
returns-clause-cause g c =
    let s = c.args.self.now in
    let t = c.reserve_for.new.self.clients.items in
    let q = c.write.new.self in
    cause_twice (state_of (g.D.Disk.observable s.disk) (view s.slots (g.D.Disk.seen s.disk 0)) (g.D.Disk.time s.disk) (faults_of s.exhausted (g.D.Disk.failures s.disk)) s.transactions.clients.items s.failed s.doubtful s.since s.short) (state_of (g.D.Disk.observable s.disk) (view s.slots (g.D.Disk.seen s.disk 0)) (g.D.Disk.time s.disk) (faults_of s.exhausted (g.D.Disk.failures s.disk)) t s.failed s.doubtful s.since s.short) (state_of (g.D.Disk.observable q.disk) (view q.slots (g.D.Disk.seen q.disk 0)) (g.D.Disk.time q.disk) (faults_of q.exhausted (g.D.Disk.failures q.disk)) q.transactions.clients.items q.failed q.doubtful q.since q.short) c.write.result (omega arith) refl c.write.ensures.cause

pub returns-clause-full : goal.returns-clause-full
returns-clause-full g c = c.write.ensures.only.1

pub returns-clause-room : goal.returns-clause-room
returns-clause-room g c = λ some e. c.write.ensures.only.0 e

pub returns-clause-low_room : goal.returns-clause-low_room
returns-clause-low_room g c = λ low e. c.write.ensures.only.0 e
