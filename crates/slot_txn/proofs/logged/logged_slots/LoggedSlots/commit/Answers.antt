use Rattle.std.proofs.Common.{◌≡◌, ◌≢◌, ◌⊎◌, inl, inr, ⊎_elim, ℕ, Bool, IsTrue, List, Option, refl, sym, ◌∙◌, ap, subst, arith, rules}
use Rattle.std.proofs.Math.Logic.{∥∥₁_map}
use Rattle.storage.specs.Slots.{undone, joined}
use Rattle.open_transactions.specs.Clients.{lists, due, number_in, list_in}
use Rattle.slot_area.specs.Area.{view, unwritten, IsKept, IsWhole}
use Rattle.slot_txn.specs.logged.State.{in_doubt}
use Rattle.checkpoint.specs.kept.KeptLog.{KeptLog}
use Rattle.slot_txn.proofs.LoggedLemmas.Calming.{exhausted_later, exhausted_rose}
use Rattle.slot_txn.proofs.LoggedLemmas.Recoverable.{recoverable_run}
use Rattle.slot_txn.proofs.LoggedLemmas.Commits.{commit_stops, commit_recovers, commit_keeps, kept_recovers, goes_on}
use Rattle.slot_txn.proofs.LoggedLemmas.States.{reads_stay, committed_is, joined_are, in_doubt_is}
use Rattle.slot_txn.proofs.LoggedLemmas.Bounded.{short_flush}
use Rattle.slot_txn.proofs.logged.logged_slots.LoggedSlots.commit.Goals as goal

pub returns-then-not-has_room-clause-cause : goal.returns-then-not-has_room-clause-cause
returns-then-not-has_room-clause-cause g c = record {
  later = exhausted_later c.args.self.now.exhausted (g.D.Disk.failures c.args.self.now.disk) ((c.args.self.now.sure c.requires.usable).1);
  disk = λ e. inl (exhausted_rose c.args.self.now.exhausted (g.D.Disk.failures c.args.self.now.disk) ((c.args.self.now.sure c.requires.usable).1));
  failed = λ e. refl;
  stays = λ not. absurd (not (search rules));
}

pub returns-in-Ok-clause-ok : goal.returns-in-Ok-clause-ok
returns-in-Ok-clause-ok g c =
    let cs = c.args.self.now.transactions.clients.items in
    let cs' = c.commit.new.self.clients.items in
    let v = view c.args.self.now.slots (g.D.Disk.seen c.args.self.now.disk 0) in
    let v' = view c.args.self.now.slots (g.D.Disk.seen c.flush.new.disk 0) in
    let other : 0 ≢ c.append_commit.new.self.area = (λ is. let place = c.args.self.now.place.0 in let same = c.append_commit.ensures.place.0 in omega (arith, is, place, same)) in
    let none' = c.commit.ensures.none_due c.requires.none_due in
    record {
      observable = c.flush.ensures.same_observable;
      reads = λ h. reads_stay cs c.args.client v v' c.requires.none_due (ap (view c.args.self.now.slots) (c.flush.ensures.seen (h.0) 0 other)) cs' none' c.commit.ensures.joined;
      committed = λ known. let same = ap (view c.args.self.now.slots) (c.flush.ensures.seen known 0 other) in committed_is cs c.args.client v v' c.requires.none_due same cs' none' c.commit.ensures.joined ∙ joined_are cs c.args.client v v' c.requires.none_due same;
      doubt = λ known. ap (λ (d : Option ℕ). undone (in_doubt d cs') v') ((c.args.self.now.sure c.requires.usable).0);
      transaction = c.commit.ensures.ended;
      before = c.requires.usable;
    }

pub returns-in-Ok-clause-acknowledged : goal.returns-in-Ok-clause-acknowledged
returns-in-Ok-clause-acknowledged g c = λ slots st.
    let known : IsTrue (g.D.Disk.observable c.args.self.now.disk) = subst (λ (b : Bool). IsTrue b) c.flush.ensures.same_observable (st.0) in
    let other : 0 ≢ c.append_commit.new.self.area = (λ is. let place = c.args.self.now.place.0 in let same = c.append_commit.ensures.place.0 in omega (arith, is, place, same)) in
    let cs = c.args.self.now.transactions.clients.items in
    let cs' = c.commit.new.self.clients.items in
    let v = view c.args.self.now.slots (g.D.Disk.seen c.args.self.now.disk 0) in
    let v' = view c.args.self.now.slots (g.D.Disk.seen c.flush.new.disk 0) in
    let same : v' ≡ v = ap (view c.args.self.now.slots) (c.flush.ensures.seen known 0 other) in
    kept_recovers (joined (list_in cs c.args.client) v (undone (lists cs) v)) v (g.D.Disk.left c.flush.new.disk (g.D.Disk.time c.flush.new.disk)) c.flush.new.self (unwritten c.args.self.now.slots) (number_in cs') (list_in cs') _ _ _ _
    (commit_keeps _ v _ _ _ (g.D.Disk.left c.flush.new.disk) c.args.self.now.log c.append_commit.new.self c.flush.new.self (unwritten c.args.self.now.slots) (number_in cs) (list_in cs) _ _ _ _ c.args.client c.args.number (c.args.self.now.sound known c.requires.usable) c.requires.number
    (c.append_commit.ensures.place.0) (c.append_commit.ensures.place.1) c.append_commit.ensures.notes c.flush.ensures.time
    (number_in cs') (list_in cs') c.commit.ensures.number c.commit.ensures.others.numbers c.commit.ensures.list c.commit.ensures.others.lists c.in-Ok.ensures.ok c.flush.ensures.area)
    (st.3.0) slots (st.3.1) (st.3.2) ∙ sym (committed_is cs c.args.client v v' c.requires.none_due same cs' (c.commit.ensures.none_due c.requires.none_due) c.commit.ensures.joined)

pub returns-in-Ok-clause-time : goal.returns-in-Ok-clause-time
returns-in-Ok-clause-time g c =
    let cs = c.args.self.now.transactions.clients.items in
    let cs' = c.commit.new.self.clients.items in
    let v = view c.args.self.now.slots (g.D.Disk.seen c.args.self.now.disk 0) in
    let v' = view c.args.self.now.slots (g.D.Disk.seen c.flush.new.disk 0) in
    let other : 0 ≢ c.append_commit.new.self.area = (λ is. let place = c.args.self.now.place.0 in let same = c.append_commit.ensures.place.0 in omega (arith, is, place, same)) in
    goes_on _ _ (g.D.Disk.left c.args.self.now.disk) (g.D.Disk.left c.flush.new.disk) c.flush.ensures.past refl refl c.flush.ensures.same_observable c.args.self.now.past
    (λ m slots later st.
    let known : IsTrue (g.D.Disk.observable c.args.self.now.disk) = subst (λ (b : Bool). IsTrue b) c.flush.ensures.same_observable (st.0) in
    let same = ap (view c.args.self.now.slots) (c.flush.ensures.seen known 0 other) in
    ∥∥₁_map (commit_stops _ v _ _ _ _ c.args.self.now.log c.append_commit.new.self c.flush.new.self (unwritten c.args.self.now.slots) (number_in cs) (list_in cs) _ _ _ _ c.args.client c.args.number (c.args.self.now.sound known c.requires.usable) c.requires.number
    (c.append_commit.ensures.place.0) (c.append_commit.ensures.place.1) c.append_commit.ensures.notes c.flush.ensures.time m (st.3.0) slots later (st.3.1) (st.3.2))
    (λ (either : (slots ≡ undone (lists cs) v) ⊎ (slots ≡ joined (list_in cs c.args.client) v (undone (lists cs) v))). ⊎_elim
    (λ (before : slots ≡ undone (lists cs) v). inl before)
    (λ (after : slots ≡ joined (list_in cs c.args.client) v (undone (lists cs) v)). inr (after ∙ sym (ap (λ (d : Option ℕ). undone (in_doubt d cs') v') ((c.args.self.now.sure c.requires.usable).0) ∙ committed_is cs c.args.client v v' c.requires.none_due same cs' (c.commit.ensures.none_due c.requires.none_due) c.commit.ensures.joined)))
    either))

pub returns-in-Err-clause-err : goal.returns-in-Err-clause-err
returns-in-Err-clause-err g c =
    let cs = c.args.self.now.transactions.clients.items in
    let v = view c.args.self.now.slots (g.D.Disk.seen c.args.self.now.disk 0) in
    let v' = view c.args.self.now.slots (g.D.Disk.seen c.flush.new.disk 0) in
    let other : 0 ≢ c.append_commit.new.self.area = (λ is. let place = c.args.self.now.place.0 in let same = c.append_commit.ensures.place.0 in omega (arith, is, place, same)) in
    record {
      observable = c.flush.ensures.same_observable;
      reads = λ h. ap (λ (z : List ℕ). undone (due cs) (view c.args.self.now.slots z)) (c.flush.ensures.seen (h.0) 0 other);
      committed = λ known. ap (λ (z : List ℕ). undone (lists cs) (view c.args.self.now.slots z)) (c.flush.ensures.seen known 0 other);
      doubt = λ known. let same = ap (view c.args.self.now.slots) (c.flush.ensures.seen known 0 other) in inr (c.requires.usable, in_doubt_is cs c.args.client v v' c.requires.none_due same c.args.self.now.transactions.apart ∙ joined_are cs c.args.client v v' c.requires.none_due same);
      transaction = refl;
    }

pub returns-in-Err-clause-time : goal.returns-in-Err-clause-time
returns-in-Err-clause-time g c =
    let cs = c.args.self.now.transactions.clients.items in
    let v = view c.args.self.now.slots (g.D.Disk.seen c.args.self.now.disk 0) in
    let v' = view c.args.self.now.slots (g.D.Disk.seen c.flush.new.disk 0) in
    let other : 0 ≢ c.append_commit.new.self.area = (λ is. let place = c.args.self.now.place.0 in let same = c.append_commit.ensures.place.0 in omega (arith, is, place, same)) in
    goes_on _ _ (g.D.Disk.left c.args.self.now.disk) (g.D.Disk.left c.flush.new.disk) c.flush.ensures.past refl refl c.flush.ensures.same_observable c.args.self.now.past
    (λ m slots later st.
    let known : IsTrue (g.D.Disk.observable c.args.self.now.disk) = subst (λ (b : Bool). IsTrue b) c.flush.ensures.same_observable (st.0) in
    let same = ap (view c.args.self.now.slots) (c.flush.ensures.seen known 0 other) in
    ∥∥₁_map (commit_stops _ v _ _ _ _ c.args.self.now.log c.append_commit.new.self c.flush.new.self (unwritten c.args.self.now.slots) (number_in cs) (list_in cs) _ _ _ _ c.args.client c.args.number (c.args.self.now.sound known c.requires.usable) c.requires.number
    (c.append_commit.ensures.place.0) (c.append_commit.ensures.place.1) c.append_commit.ensures.notes c.flush.ensures.time m (st.3.0) slots later (st.3.1) (st.3.2))
    (λ (either : (slots ≡ undone (lists cs) v) ⊎ (slots ≡ joined (list_in cs c.args.client) v (undone (lists cs) v))). ⊎_elim
    (λ (before : slots ≡ undone (lists cs) v). inl before)
    (λ (after : slots ≡ joined (list_in cs c.args.client) v (undone (lists cs) v)). inr (after ∙ sym (in_doubt_is cs c.args.client v v' c.requires.none_due same c.args.self.now.transactions.apart)))
    either))

pub invariant_of-self-in-Ok-clause-past : goal.invariant_of-self-in-Ok-clause-past
invariant_of-self-in-Ok-clause-past g c = let later = c.flush.ensures.later in let past = c.args.self.now.past in omega (arith, later, past)

pub invariant_of-self-in-Ok-clause-place : goal.invariant_of-self-in-Ok-clause-place
invariant_of-self-in-Ok-clause-place g c = let area = c.flush.ensures.area in let place = c.args.self.now.place in let a = place.0 in let b = place.1 in let same = c.append_commit.ensures.place.0 in (omega (arith, area, a, same), omega (arith, area, b, same))

pub invariant_of-self-in-Ok-clause-kept : goal.invariant_of-self-in-Ok-clause-kept
invariant_of-self-in-Ok-clause-kept g c = λ known'.
    let known : IsTrue (g.D.Disk.observable c.args.self.now.disk) = subst (λ (b : Bool). IsTrue b) c.flush.ensures.same_observable known' in
    let other : 0 ≢ c.append_commit.new.self.area = (λ is. let place = c.args.self.now.place.0 in let same = c.append_commit.ensures.place.0 in omega (arith, is, place, same)) in
    subst (λ (z : List ℕ). IsKept c.args.self.now.slots z) (sym (c.flush.ensures.seen known 0 other)) (c.args.self.now.kept known)

pub invariant_of-self-in-Ok-clause-whole : goal.invariant_of-self-in-Ok-clause-whole
invariant_of-self-in-Ok-clause-whole g c = λ known' fine.
    let known : IsTrue (g.D.Disk.observable c.args.self.now.disk) = subst (λ (b : Bool). IsTrue b) c.flush.ensures.same_observable known' in
    let other : 0 ≢ c.append_commit.new.self.area = (λ is. let place = c.args.self.now.place.0 in let same = c.append_commit.ensures.place.0 in omega (arith, is, place, same)) in
    subst (λ (z : List ℕ). IsWhole c.args.self.now.slots.end z) (sym (c.flush.ensures.seen known 0 other)) (c.args.self.now.whole known c.requires.usable)

pub invariant_of-self-in-Ok-clause-sound : goal.invariant_of-self-in-Ok-clause-sound
invariant_of-self-in-Ok-clause-sound g c = λ known' fine.
    let known : IsTrue (g.D.Disk.observable c.args.self.now.disk) = subst (λ (b : Bool). IsTrue b) c.flush.ensures.same_observable known' in
    let other : 0 ≢ c.append_commit.new.self.area = (λ is. let place = c.args.self.now.place.0 in let same = c.append_commit.ensures.place.0 in omega (arith, is, place, same)) in
    let cs = c.args.self.now.transactions.clients.items in
    let cs' = c.commit.new.self.clients.items in
    let v = view c.args.self.now.slots (g.D.Disk.seen c.args.self.now.disk 0) in
    let v' = view c.args.self.now.slots (g.D.Disk.seen c.flush.new.disk 0) in
    let same : v' ≡ v = ap (view c.args.self.now.slots) (c.flush.ensures.seen known 0 other) in
    let left' = g.D.Disk.left c.flush.new.disk (g.D.Disk.time c.flush.new.disk) in
    subst (λ (w : ℕ → List ℕ). ∥ KeptLog (undone (lists cs') v') w left' c.flush.new.self (unwritten c.args.self.now.slots) (number_in cs') (list_in cs') c.args.self.now.generation.number c.args.self.now.generation.extent c.args.self.now.generation.filled c.args.self.now.serial ∥₁) (sym same)
    (subst (λ (w : ℕ → List ℕ). ∥ KeptLog w v left' c.flush.new.self (unwritten c.args.self.now.slots) (number_in cs') (list_in cs') c.args.self.now.generation.number c.args.self.now.generation.extent c.args.self.now.generation.filled c.args.self.now.serial ∥₁)
    (sym (committed_is cs c.args.client v v' c.requires.none_due same cs' (c.commit.ensures.none_due c.requires.none_due) c.commit.ensures.joined))
    (commit_keeps _ v _ _ _ (g.D.Disk.left c.flush.new.disk) c.args.self.now.log c.append_commit.new.self c.flush.new.self (unwritten c.args.self.now.slots) (number_in cs) (list_in cs) _ _ _ _ c.args.client c.args.number (c.args.self.now.sound known c.requires.usable) c.requires.number
    (c.append_commit.ensures.place.0) (c.append_commit.ensures.place.1) c.append_commit.ensures.notes c.flush.ensures.time
    (number_in cs') (list_in cs') c.commit.ensures.number c.commit.ensures.others.numbers c.commit.ensures.list c.commit.ensures.others.lists c.in-Ok.ensures.ok c.flush.ensures.area))

pub invariant_of-self-in-Err-clause-past : goal.invariant_of-self-in-Err-clause-past
invariant_of-self-in-Err-clause-past g c = let later = c.flush.ensures.later in let past = c.args.self.now.past in omega (arith, later, past)

pub invariant_of-self-in-Err-clause-place : goal.invariant_of-self-in-Err-clause-place
invariant_of-self-in-Err-clause-place g c = let area = c.flush.ensures.area in let place = c.args.self.now.place in let a = place.0 in let b = place.1 in let same = c.append_commit.ensures.place.0 in (omega (arith, area, a, same), omega (arith, area, b, same))

pub invariant_of-self-in-Err-clause-kept : goal.invariant_of-self-in-Err-clause-kept
invariant_of-self-in-Err-clause-kept g c = λ known'.
    let known : IsTrue (g.D.Disk.observable c.args.self.now.disk) = subst (λ (b : Bool). IsTrue b) c.flush.ensures.same_observable known' in
    let other : 0 ≢ c.append_commit.new.self.area = (λ is. let place = c.args.self.now.place.0 in let same = c.append_commit.ensures.place.0 in omega (arith, is, place, same)) in
    subst (λ (z : List ℕ). IsKept c.args.self.now.slots z) (sym (c.flush.ensures.seen known 0 other)) (c.args.self.now.kept known)

pub invariant_of-self-in-Ok-clause-counts : goal.invariant_of-self-in-Ok-clause-counts
invariant_of-self-in-Ok-clause-counts g c = λ fine. let s = c.in-Ok.ensures.settled.0 in let a = c.in-Ok.ensures.settled.1 in omega (arith, s, a)

pub invariant_of-self-in-Ok-clause-emptied : goal.invariant_of-self-in-Ok-clause-emptied
invariant_of-self-in-Ok-clause-emptied g c = λ fine none. c.in-Ok.ensures.settled.0 ∙ sym (c.in-Ok.ensures.settled.1)

pub invariant_of-self-in-Ok-clause-changes : goal.invariant_of-self-in-Ok-clause-changes
invariant_of-self-in-Ok-clause-changes g c = λ fine slot note is. let had = c.args.self.now.changes c.requires.usable slot note is in let now = c.in-Ok.ensures.settled.1 in let more = c.append_commit.ensures.counts.0 in omega (arith, had, now, more)

pub invariant_of-self-in-Ok-clause-recoverable : goal.invariant_of-self-in-Ok-clause-recoverable
invariant_of-self-in-Ok-clause-recoverable g c =
    let cs = c.args.self.now.transactions.clients.items in
    let v = view c.args.self.now.slots (g.D.Disk.seen c.args.self.now.disk 0) in
    recoverable_run (g.D.Disk.observable c.args.self.now.disk) c.args.self.now.since _ _ (g.D.Disk.left c.args.self.now.disk) (g.D.Disk.left c.flush.new.disk) c.flush.ensures.past c.args.self.now.past
    (λ m image left. subst (λ (b : Bool). IsTrue b) c.flush.ensures.same_observable (g.met.D.Disk.image_known c.flush.new.disk m image left).same_observable)
    (λ known. commit_recovers _ v _ _ _ _ c.args.self.now.log c.append_commit.new.self c.flush.new.self (unwritten c.args.self.now.slots) (number_in cs) (list_in cs) _ _ _ _ c.args.client c.args.number (c.args.self.now.sound known c.requires.usable) c.requires.number
    (c.append_commit.ensures.place.0) (c.append_commit.ensures.place.1) c.append_commit.ensures.notes c.flush.ensures.time)
    c.args.self.now.recoverable

pub invariant_of-self-in-Err-clause-recoverable : goal.invariant_of-self-in-Err-clause-recoverable
invariant_of-self-in-Err-clause-recoverable g c =
    let cs = c.args.self.now.transactions.clients.items in
    let v = view c.args.self.now.slots (g.D.Disk.seen c.args.self.now.disk 0) in
    recoverable_run (g.D.Disk.observable c.args.self.now.disk) c.args.self.now.since _ _ (g.D.Disk.left c.args.self.now.disk) (g.D.Disk.left c.flush.new.disk) c.flush.ensures.past c.args.self.now.past
    (λ m image left. subst (λ (b : Bool). IsTrue b) c.flush.ensures.same_observable (g.met.D.Disk.image_known c.flush.new.disk m image left).same_observable)
    (λ known. commit_recovers _ v _ _ _ _ c.args.self.now.log c.append_commit.new.self c.flush.new.self (unwritten c.args.self.now.slots) (number_in cs) (list_in cs) _ _ _ _ c.args.client c.args.number (c.args.self.now.sound known c.requires.usable) c.requires.number
    (c.append_commit.ensures.place.0) (c.append_commit.ensures.place.1) c.append_commit.ensures.notes c.flush.ensures.time)
    c.args.self.now.recoverable

pub invariant_of-self-in-Ok-clause-stays_short : goal.invariant_of-self-in-Ok-clause-stays_short
invariant_of-self-in-Ok-clause-stays_short g c = short_flush c.args.self.now.since _ _ (g.D.Disk.left c.args.self.now.disk) (g.D.Disk.left c.flush.new.disk) c.args.self.now.past c.args.self.now.stays_short c.args.self.now.log.gate c.append_commit.new.self.gate c.append_commit.new.self.buffer (c.append_commit.ensures.place.1) (c.has_room.ensures c.if-not-has_room.false) c.flush.ensures.within

pub invariant_of-self-in-Err-clause-stays_short : goal.invariant_of-self-in-Err-clause-stays_short
invariant_of-self-in-Err-clause-stays_short g c = short_flush c.args.self.now.since _ _ (g.D.Disk.left c.args.self.now.disk) (g.D.Disk.left c.flush.new.disk) c.args.self.now.past c.args.self.now.stays_short c.args.self.now.log.gate c.append_commit.new.self.gate c.append_commit.new.self.buffer (c.append_commit.ensures.place.1) (c.has_room.ensures c.if-not-has_room.false) c.flush.ensures.within
