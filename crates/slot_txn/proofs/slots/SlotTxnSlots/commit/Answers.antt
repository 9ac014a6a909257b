use Rattle.std.proofs.Common.{ℕ, Bool, IsTrue, Option, sym, ◌∙◌, ap, subst, rules}
use Rattle.std.proofs.lemmas.Result.{on_ok_weaker, on_err_weaker}
use Rattle.storage.specs.Slots.{Transaction, undone}
use Rattle.slot_area.specs.Area.{view}
use Rattle.slot_txn.specs.logged.State.{state_of, faults_of, in_doubt}
use Rattle.slot_txn.proofs.LoggedLemmas.Composing.{goes_twice, cause_twice}
use Rattle.slot_txn.proofs.LoggedLemmas.Afterwards.{then_commits, then_fails, fails_resting}
use Rattle.slot_txn.proofs.slots.SlotTxnSlots.commit.Goals as goal

pub settle_commit-requires-clause-begun : goal.settle_commit-requires-clause-begun
settle_commit-requires-clause-begun g c = ap (λ (f : ℕ → Transaction). (f c.args.client).begun) c.ready.ensures.rest.transaction ∙ c.requires.begun

pub returns-in-Ok-clause-ok : goal.returns-in-Ok-clause-ok
returns-in-Ok-clause-ok g c =
    let s = c.args.self.now.slots in
    let p = c.ready.new.self in
    let r = c.ready.ensures.rest in
    let q = c.settle_commit.new.self in
    let same = c.in-Ok.ensures.cause.stays (search rules) in
    on_ok_weaker c.settle_commit.result (then_commits (state_of (g.D.Disk.observable s.disk) (view s.slots (g.D.Disk.seen s.disk 0)) (g.D.Disk.time s.disk) (faults_of s.exhausted (g.D.Disk.failures s.disk)) s.transactions.clients.items s.failed s.doubtful s.since s.short) (state_of (g.D.Disk.observable p.disk) (view p.slots (g.D.Disk.seen p.disk 0)) (g.D.Disk.time p.disk) (faults_of p.exhausted (g.D.Disk.failures p.disk)) p.transactions.clients.items p.failed p.doubtful p.since p.short) (state_of (g.D.Disk.observable q.disk) (view q.slots (g.D.Disk.seen q.disk 0)) (g.D.Disk.time q.disk) (faults_of q.exhausted (g.D.Disk.failures q.disk)) q.transactions.clients.items q.failed q.doubtful q.since q.short) same r c.args.client) c.settle_commit.ensures.ok

pub returns-in-Ok-clause-err : goal.returns-in-Ok-clause-err
returns-in-Ok-clause-err g c =
    let s = c.args.self.now.slots in
    let p = c.ready.new.self in
    let r = c.ready.ensures.rest in
    let q = c.settle_commit.new.self in
    let same = c.in-Ok.ensures.cause.stays (search rules) in
    on_err_weaker c.settle_commit.result (then_fails (state_of (g.D.Disk.observable s.disk) (view s.slots (g.D.Disk.seen s.disk 0)) (g.D.Disk.time s.disk) (faults_of s.exhausted (g.D.Disk.failures s.disk)) s.transactions.clients.items s.failed s.doubtful s.since s.short) (state_of (g.D.Disk.observable p.disk) (view p.slots (g.D.Disk.seen p.disk 0)) (g.D.Disk.time p.disk) (faults_of p.exhausted (g.D.Disk.failures p.disk)) p.transactions.clients.items p.failed p.doubtful p.since p.short) (state_of (g.D.Disk.observable q.disk) (view q.slots (g.D.Disk.seen q.disk 0)) (g.D.Disk.time q.disk) (faults_of q.exhausted (g.D.Disk.failures q.disk)) q.transactions.clients.items q.failed q.doubtful q.since q.short) same r c.args.client) c.settle_commit.ensures.err

pub returns-in-Err-clause-err : goal.returns-in-Err-clause-err
returns-in-Err-clause-err g c =
    let s = c.args.self.now.slots in
    let p = c.ready.new.self in
    let r = c.ready.ensures.rest in
    fails_resting (state_of (g.D.Disk.observable s.disk) (view s.slots (g.D.Disk.seen s.disk 0)) (g.D.Disk.time s.disk) (faults_of s.exhausted (g.D.Disk.failures s.disk)) s.transactions.clients.items s.failed s.doubtful s.since s.short) (state_of (g.D.Disk.observable p.disk) (view p.slots (g.D.Disk.seen p.disk 0)) (g.D.Disk.time p.disk) (faults_of p.exhausted (g.D.Disk.failures p.disk)) p.transactions.clients.items p.failed p.doubtful p.since p.short) c.args.client r

pub returns-in-Ok-clause-time : goal.returns-in-Ok-clause-time
returns-in-Ok-clause-time g c =
    let s = c.args.self.now.slots in
    let p = c.ready.new.self in
    let r = c.ready.ensures.rest in
    let q = c.settle_commit.new.self in
    let same = c.in-Ok.ensures.cause.stays (search rules) in
    goes_twice (state_of (g.D.Disk.observable s.disk) (view s.slots (g.D.Disk.seen s.disk 0)) (g.D.Disk.time s.disk) (faults_of s.exhausted (g.D.Disk.failures s.disk)) s.transactions.clients.items s.failed s.doubtful s.since s.short) (state_of (g.D.Disk.observable p.disk) (view p.slots (g.D.Disk.seen p.disk 0)) (g.D.Disk.time p.disk) (faults_of p.exhausted (g.D.Disk.failures p.disk)) p.transactions.clients.items p.failed p.doubtful p.since p.short) (state_of (g.D.Disk.observable q.disk) (view q.slots (g.D.Disk.seen q.disk 0)) (g.D.Disk.time q.disk) (faults_of q.exhausted (g.D.Disk.failures q.disk)) q.transactions.clients.items q.failed q.doubtful q.since q.short) _ _ _ c.ready.ensures.time c.settle_commit.ensures.time r.keeps.committed
    (λ known. r.keeps.doubt known ∙ ap (λ (d : Option ℕ). undone (in_doubt d s.transactions.clients.items) (view s.slots (g.D.Disk.seen s.disk 0))) ((s.sure (sym same ∙ c.in-Ok.ensures.ready.0)).0))
    (λ m slots st. subst (λ (x : Bool). IsTrue x) r.keeps.observable (subst (λ (x : Bool). IsTrue x) c.settle_commit.ensures.same_observable (st.0)))

pub returns-in-Ok-clause-cause : goal.returns-in-Ok-clause-cause
returns-in-Ok-clause-cause g c =
    let s = c.args.self.now.slots in
    let p = c.ready.new.self in
    let r = c.ready.ensures.rest in
    let q = c.settle_commit.new.self in
    let same = c.in-Ok.ensures.cause.stays (search rules) in
    cause_twice (state_of (g.D.Disk.observable s.disk) (view s.slots (g.D.Disk.seen s.disk 0)) (g.D.Disk.time s.disk) (faults_of s.exhausted (g.D.Disk.failures s.disk)) s.transactions.clients.items s.failed s.doubtful s.since s.short) (state_of (g.D.Disk.observable p.disk) (view p.slots (g.D.Disk.seen p.disk 0)) (g.D.Disk.time p.disk) (faults_of p.exhausted (g.D.Disk.failures p.disk)) p.transactions.clients.items p.failed p.doubtful p.since p.short) (state_of (g.D.Disk.observable q.disk) (view q.slots (g.D.Disk.seen q.disk 0)) (g.D.Disk.time q.disk) (faults_of q.exhausted (g.D.Disk.failures q.disk)) q.transactions.clients.items q.failed q.doubtful q.since q.short) c.settle_commit.result c.in-Ok.ensures.cause.later same c.settle_commit.ensures.cause
