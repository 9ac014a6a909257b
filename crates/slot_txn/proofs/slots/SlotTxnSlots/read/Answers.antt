use Rattle.std.proofs.Common.{ℕ, Bool, IsTrue, List, Option, sym, ◌∙◌, ap, subst, rules}
use Rattle.std.proofs.lemmas.Result.{on_ok_weaker}
use Rattle.storage.specs.Slots.{undone}
use Rattle.slot_area.specs.Area.{view}
use Rattle.slot_txn.specs.logged.State.{state_of, faults_of, in_doubt}
use Rattle.slot_txn.proofs.LoggedLemmas.Composing.{rests_twice, goes_twice, cause_twice}
use Rattle.slot_txn.proofs.slots.SlotTxnSlots.read.Goals as goal

pub returns-in-Ok-clause-bytes : goal.returns-in-Ok-clause-bytes
returns-in-Ok-clause-bytes g c =
    let s = c.args.self.now.slots in
    let p = c.ready.new.self in
    let r = c.ready.ensures.rest in
    let q = c.read.new.self in
    let same = c.in-Ok.ensures.cause.stays (search rules) in
    on_ok_weaker c.read.result (λ f h. f (subst (λ (x : Bool). IsTrue x) (sym r.keeps.observable) (h.0), c.in-Ok.ensures.ready.0) ∙ ap (λ (z : ℕ → List ℕ). z c.args.slot) (r.reads h)) c.read.ensures.bytes

pub returns-in-Ok-clause-rest : goal.returns-in-Ok-clause-rest
returns-in-Ok-clause-rest g c =
    let s = c.args.self.now.slots in
    let p = c.ready.new.self in
    let r = c.ready.ensures.rest in
    let q = c.read.new.self in
    let same = c.in-Ok.ensures.cause.stays (search rules) in
    rests_twice (state_of (g.D.Disk.observable s.disk) (view s.slots (g.D.Disk.seen s.disk 0)) (g.D.Disk.time s.disk) (faults_of s.exhausted (g.D.Disk.failures s.disk)) s.transactions.clients.items s.failed s.doubtful s.since s.short) (state_of (g.D.Disk.observable p.disk) (view p.slots (g.D.Disk.seen p.disk 0)) (g.D.Disk.time p.disk) (faults_of p.exhausted (g.D.Disk.failures p.disk)) p.transactions.clients.items p.failed p.doubtful p.since p.short) (state_of (g.D.Disk.observable q.disk) (view q.slots (g.D.Disk.seen q.disk 0)) (g.D.Disk.time q.disk) (faults_of q.exhausted (g.D.Disk.failures q.disk)) q.transactions.clients.items q.failed q.doubtful q.since q.short) same r c.read.ensures.rest

pub returns-in-Ok-clause-time : goal.returns-in-Ok-clause-time
returns-in-Ok-clause-time g c =
    let s = c.args.self.now.slots in
    let p = c.ready.new.self in
    let r = c.ready.ensures.rest in
    let q = c.read.new.self in
    let same = c.in-Ok.ensures.cause.stays (search rules) in
    goes_twice (state_of (g.D.Disk.observable s.disk) (view s.slots (g.D.Disk.seen s.disk 0)) (g.D.Disk.time s.disk) (faults_of s.exhausted (g.D.Disk.failures s.disk)) s.transactions.clients.items s.failed s.doubtful s.since s.short) (state_of (g.D.Disk.observable p.disk) (view p.slots (g.D.Disk.seen p.disk 0)) (g.D.Disk.time p.disk) (faults_of p.exhausted (g.D.Disk.failures p.disk)) p.transactions.clients.items p.failed p.doubtful p.since p.short) (state_of (g.D.Disk.observable q.disk) (view q.slots (g.D.Disk.seen q.disk 0)) (g.D.Disk.time q.disk) (faults_of q.exhausted (g.D.Disk.failures q.disk)) q.transactions.clients.items q.failed q.doubtful q.since q.short) _ _ _ c.ready.ensures.time c.read.ensures.time r.keeps.committed
    (λ known. r.keeps.doubt known ∙ ap (λ (d : Option ℕ). undone (in_doubt d s.transactions.clients.items) (view s.slots (g.D.Disk.seen s.disk 0))) ((s.sure (sym same ∙ c.in-Ok.ensures.ready.0)).0))
    (λ m slots st. subst (λ (x : Bool). IsTrue x) r.keeps.observable (subst (λ (x : Bool). IsTrue x) c.read.ensures.rest.keeps.observable (st.0)))

pub returns-in-Ok-clause-cause : goal.returns-in-Ok-clause-cause
returns-in-Ok-clause-cause g c =
    let s = c.args.self.now.slots in
    let p = c.ready.new.self in
    let r = c.ready.ensures.rest in
    let q = c.read.new.self in
    let same = c.in-Ok.ensures.cause.stays (search rules) in
    cause_twice (state_of (g.D.Disk.observable s.disk) (view s.slots (g.D.Disk.seen s.disk 0)) (g.D.Disk.time s.disk) (faults_of s.exhausted (g.D.Disk.failures s.disk)) s.transactions.clients.items s.failed s.doubtful s.since s.short) (state_of (g.D.Disk.observable p.disk) (view p.slots (g.D.Disk.seen p.disk 0)) (g.D.Disk.time p.disk) (faults_of p.exhausted (g.D.Disk.failures p.disk)) p.transactions.clients.items p.failed p.doubtful p.since p.short) (state_of (g.D.Disk.observable q.disk) (view q.slots (g.D.Disk.seen q.disk 0)) (g.D.Disk.time q.disk) (faults_of q.exhausted (g.D.Disk.failures q.disk)) q.transactions.clients.items q.failed q.doubtful q.since q.short) c.read.result c.in-Ok.ensures.cause.later same c.read.ensures.cause
