use Rattle.std.proofs.Common.{ℕ, Bool, IsTrue, Option, refl, sym, ◌∙◌, ap, subst, arith, rules}
use Rattle.storage.specs.Slots.{undone}
use Rattle.slot_area.specs.Area.{view}
use Rattle.slot_txn.specs.logged.State.{state_of, faults_of, in_doubt}
use Rattle.slot_txn.proofs.LoggedLemmas.States.{goes_still}
use Rattle.slot_txn.proofs.LoggedLemmas.Composing.{rests_none, rests_twice, goes_twice}
use Rattle.slot_txn.proofs.logged.logged_slots.LoggedSlots.undo_due.Goals as goal

pub due-init : goal.due-init
due-init g c =
    let s = c.args.self.now in
    record {
      usable = c.requires.usable;
      faults = omega arith;
      rest = rests_none (state_of (g.D.Disk.observable s.disk) (view s.slots (g.D.Disk.seen s.disk 0)) (g.D.Disk.time s.disk) (faults_of s.exhausted (g.D.Disk.failures s.disk)) s.transactions.clients.items s.failed s.doubtful s.since s.short);
      time = goes_still (state_of (g.D.Disk.observable s.disk) (view s.slots (g.D.Disk.seen s.disk 0)) (g.D.Disk.time s.disk) (faults_of s.exhausted (g.D.Disk.failures s.disk)) s.transactions.clients.items s.failed s.doubtful s.since s.short) (state_of (g.D.Disk.observable s.disk) (view s.slots (g.D.Disk.seen s.disk 0)) (g.D.Disk.time s.disk) (faults_of s.exhausted (g.D.Disk.failures s.disk)) s.transactions.clients.items s.failed s.doubtful s.since s.short) (g.D.Disk.observable s.disk) s.since (g.D.Disk.time s.disk) (g.D.Disk.left s.disk) refl refl refl refl;
    }

pub undo_of-requires-clause-usable : goal.undo_of-requires-clause-usable
undo_of-requires-clause-usable g c = c.due.invariant.usable

pub due-preserved : goal.due-preserved
due-preserved g c =
    let s = c.args.self.now in
    let l = c.due.self in
    let n = c.undo_of.new.self in
    let i = c.due.invariant in
    let stays = c.in_ok-undo_of-in-Some.ensures.cause.stays (search rules) in
    record {
      usable = stays ∙ i.usable;
      faults = (let up = c.in_ok-undo_of-in-Some.ensures.cause.later in let had = i.faults in omega (arith, up, had));
      rest = rests_twice (state_of (g.D.Disk.observable s.disk) (view s.slots (g.D.Disk.seen s.disk 0)) (g.D.Disk.time s.disk) (faults_of s.exhausted (g.D.Disk.failures s.disk)) s.transactions.clients.items s.failed s.doubtful s.since s.short) (state_of (g.D.Disk.observable l.disk) (view l.slots (g.D.Disk.seen l.disk 0)) (g.D.Disk.time l.disk) (faults_of l.exhausted (g.D.Disk.failures l.disk)) l.transactions.clients.items l.failed l.doubtful l.since l.short) (state_of (g.D.Disk.observable n.disk) (view n.slots (g.D.Disk.seen n.disk 0)) (g.D.Disk.time n.disk) (faults_of n.exhausted (g.D.Disk.failures n.disk)) n.transactions.clients.items n.failed n.doubtful n.since n.short) (i.usable ∙ sym c.requires.usable) i.rest c.undo_of.ensures.rest;
      time = goes_twice (state_of (g.D.Disk.observable s.disk) (view s.slots (g.D.Disk.seen s.disk 0)) (g.D.Disk.time s.disk) (faults_of s.exhausted (g.D.Disk.failures s.disk)) s.transactions.clients.items s.failed s.doubtful s.since s.short) (state_of (g.D.Disk.observable l.disk) (view l.slots (g.D.Disk.seen l.disk 0)) (g.D.Disk.time l.disk) (faults_of l.exhausted (g.D.Disk.failures l.disk)) l.transactions.clients.items l.failed l.doubtful l.since l.short) (state_of (g.D.Disk.observable n.disk) (view n.slots (g.D.Disk.seen n.disk 0)) (g.D.Disk.time n.disk) (faults_of n.exhausted (g.D.Disk.failures n.disk)) n.transactions.clients.items n.failed n.doubtful n.since n.short) _ _ _ i.time c.undo_of.ensures.time i.rest.keeps.committed
          (λ known. i.rest.keeps.doubt known ∙ ap (λ (d : Option ℕ). undone (in_doubt d s.transactions.clients.items) (view s.slots (g.D.Disk.seen s.disk 0))) ((s.sure c.requires.usable).0))
          (λ m slots st. subst (λ (x : Bool). IsTrue x) i.rest.keeps.observable (subst (λ (x : Bool). IsTrue x) c.undo_of.ensures.rest.keeps.observable (st.0)));
    }

pub returns-in_err-undo_of-in-Some-clause-time : goal.returns-in_err-undo_of-in-Some-clause-time
returns-in_err-undo_of-in-Some-clause-time g c =
    let s = c.args.self.now in
    let l = c.due.self in
    let n = c.undo_of.new.self in
    let i = c.due.invariant in
    goes_twice (state_of (g.D.Disk.observable s.disk) (view s.slots (g.D.Disk.seen s.disk 0)) (g.D.Disk.time s.disk) (faults_of s.exhausted (g.D.Disk.failures s.disk)) s.transactions.clients.items s.failed s.doubtful s.since s.short) (state_of (g.D.Disk.observable l.disk) (view l.slots (g.D.Disk.seen l.disk 0)) (g.D.Disk.time l.disk) (faults_of l.exhausted (g.D.Disk.failures l.disk)) l.transactions.clients.items l.failed l.doubtful l.since l.short) (state_of (g.D.Disk.observable n.disk) (view n.slots (g.D.Disk.seen n.disk 0)) (g.D.Disk.time n.disk) (faults_of n.exhausted (g.D.Disk.failures n.disk)) n.transactions.clients.items n.failed n.doubtful n.since n.short) _ _ _ i.time c.undo_of.ensures.time i.rest.keeps.committed
    (λ known. i.rest.keeps.doubt known ∙ ap (λ (d : Option ℕ). undone (in_doubt d s.transactions.clients.items) (view s.slots (g.D.Disk.seen s.disk 0))) ((s.sure c.requires.usable).0))
    (λ m slots st. subst (λ (x : Bool). IsTrue x) i.rest.keeps.observable (subst (λ (x : Bool). IsTrue x) c.undo_of.ensures.rest.keeps.observable (st.0)))
