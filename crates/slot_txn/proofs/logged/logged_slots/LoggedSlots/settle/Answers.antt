use Rattle.std.proofs.Common.{◌≢◌, ℕ, Bool, IsTrue, List, true, false, refl, sym, ◌∙◌, ap, subst, arith}
use Rattle.std.proofs.lemmas.Bool.{iff_false, true≢false}
use Rattle.storage.specs.Slots.{undone}
use Rattle.open_transactions.specs.Clients.{lists, number_in, list_in}
use Rattle.slot_area.specs.Area.{view, unwritten, IsKept, IsWhole}
use Rattle.checkpoint.specs.kept.KeptLog.{KeptLog}
use Rattle.slot_txn.proofs.LoggedLemmas.Recoverable.{recoverable_on}
use Rattle.slot_txn.proofs.LoggedLemmas.Calming.{calm_none, calm_exhausted, calm_call, flush_leaves, flush_keeps}
use Rattle.slot_txn.proofs.LoggedLemmas.Bounded.{short_flush}
use Rattle.slot_txn.proofs.logged.logged_slots.LoggedSlots.settle.Goals as goal

pub returns-then-is_empty-clause-calm : goal.returns-then-is_empty-clause-calm
returns-then-is_empty-clause-calm g c = calm_none _ _ _ _ _ _ c.args.self.now.failed c.requires.usable (λ m image l. (g.met.D.Disk.image_known c.args.self.now.disk m image l).past)

pub returns-then-not-has_room-clause-calm : goal.returns-then-not-has_room-clause-calm
returns-then-not-has_room-clause-calm g c = calm_exhausted _ _ _ _ _ c.args.self.now.exhausted (g.D.Disk.failures c.args.self.now.disk) ((c.args.self.now.sure c.requires.usable).1) (λ m image l. (g.met.D.Disk.image_known c.args.self.now.disk m image l).past)

pub returns-in-Ok-clause-calm : goal.returns-in-Ok-clause-calm
returns-in-Ok-clause-calm g c =
    let other : 0 ≢ c.args.self.now.log.area = (λ is. let place = c.args.self.now.place.0 in omega (arith, is, place)) in
    calm_call _ _ _ _ _ _ _ _ _ c.args.self.now.exhausted (g.D.Disk.failures c.args.self.now.disk) (g.D.Disk.failures c.flush.new.disk) c.args.self.now.failed true ((c.args.self.now.sure c.requires.usable).1) c.flush.ensures.same_observable c.flush.ensures.past
    (λ known. flush_leaves _ (view c.args.self.now.slots (g.D.Disk.seen c.args.self.now.disk 0)) _ _ _ _ c.args.self.now.log c.flush.new.self (unwritten c.args.self.now.slots) _ _ _ _ _ _ (c.args.self.now.sound known c.requires.usable) (iff_false c.is_empty.ensures c.if-is_empty.false) c.flush.ensures.time)
    (λ known s. ap (λ (z : List ℕ). view c.args.self.now.slots z s) (c.flush.ensures.seen known 0 other)) c.in-Ok.ensures.cause (λ e. absurd (true≢false e)) (λ e. c.requires.usable)

pub returns-in-Err-clause-calm : goal.returns-in-Err-clause-calm
returns-in-Err-clause-calm g c =
    let other : 0 ≢ c.args.self.now.log.area = (λ is. let place = c.args.self.now.place.0 in omega (arith, is, place)) in
    calm_call _ _ _ _ _ _ _ _ _ c.args.self.now.exhausted (g.D.Disk.failures c.args.self.now.disk) (g.D.Disk.failures c.flush.new.disk) true false ((c.args.self.now.sure c.requires.usable).1) c.flush.ensures.same_observable c.flush.ensures.past
    (λ known. flush_leaves _ (view c.args.self.now.slots (g.D.Disk.seen c.args.self.now.disk 0)) _ _ _ _ c.args.self.now.log c.flush.new.self (unwritten c.args.self.now.slots) _ _ _ _ _ _ (c.args.self.now.sound known c.requires.usable) (iff_false c.is_empty.ensures c.if-is_empty.false) c.flush.ensures.time)
    (λ known s. ap (λ (z : List ℕ). view c.args.self.now.slots z s) (c.flush.ensures.seen known 0 other)) c.in-Err.ensures.cause (λ e. refl) (λ e. absurd (true≢false (sym e)))

pub invariant_of-self-in-Ok-clause-past : goal.invariant_of-self-in-Ok-clause-past
invariant_of-self-in-Ok-clause-past g c = let later = c.flush.ensures.later in let past = c.args.self.now.past in omega (arith, later, past)

pub invariant_of-self-in-Ok-clause-place : goal.invariant_of-self-in-Ok-clause-place
invariant_of-self-in-Ok-clause-place g c = let area = c.flush.ensures.area in let place = c.args.self.now.place in let a = place.0 in let b = place.1 in (omega (arith, area, a), omega (arith, area, b))

pub invariant_of-self-in-Ok-clause-kept : goal.invariant_of-self-in-Ok-clause-kept
invariant_of-self-in-Ok-clause-kept g c = λ known'.
    let known : IsTrue (g.D.Disk.observable c.args.self.now.disk) = subst (λ (b : Bool). IsTrue b) c.flush.ensures.same_observable known' in
    let other : 0 ≢ c.args.self.now.log.area = (λ is. let place = c.args.self.now.place.0 in omega (arith, is, place)) in
    subst (λ (z : List ℕ). IsKept c.args.self.now.slots z) (sym (c.flush.ensures.seen known 0 other)) (c.args.self.now.kept known)

pub invariant_of-self-in-Ok-clause-whole : goal.invariant_of-self-in-Ok-clause-whole
invariant_of-self-in-Ok-clause-whole g c = λ known' fine.
    let known : IsTrue (g.D.Disk.observable c.args.self.now.disk) = subst (λ (b : Bool). IsTrue b) c.flush.ensures.same_observable known' in
    let other : 0 ≢ c.args.self.now.log.area = (λ is. let place = c.args.self.now.place.0 in omega (arith, is, place)) in
    subst (λ (z : List ℕ). IsWhole c.args.self.now.slots.end z) (sym (c.flush.ensures.seen known 0 other)) (c.args.self.now.whole known c.requires.usable)

pub invariant_of-self-in-Ok-clause-sound : goal.invariant_of-self-in-Ok-clause-sound
invariant_of-self-in-Ok-clause-sound g c = λ known' fine.
    let known : IsTrue (g.D.Disk.observable c.args.self.now.disk) = subst (λ (b : Bool). IsTrue b) c.flush.ensures.same_observable known' in
    let other : 0 ≢ c.args.self.now.log.area = (λ is. let place = c.args.self.now.place.0 in omega (arith, is, place)) in
    let cs = c.args.self.now.transactions.clients.items in
    let left' = g.D.Disk.left c.flush.new.disk (g.D.Disk.time c.flush.new.disk) in
    subst (λ (z : List ℕ). ∥ KeptLog (undone (lists cs) (view c.args.self.now.slots z)) (view c.args.self.now.slots z) left' c.flush.new.self (unwritten c.args.self.now.slots) (number_in cs) (list_in cs) c.args.self.now.generation.number c.args.self.now.generation.extent c.args.self.now.generation.filled c.args.self.now.serial ∥₁) (sym (c.flush.ensures.seen known 0 other))
    (flush_keeps _ _ _ _ _ (g.D.Disk.left c.flush.new.disk) c.args.self.now.log c.flush.new.self (unwritten c.args.self.now.slots) (number_in cs) (list_in cs) _ _ _ _ (c.args.self.now.sound known c.requires.usable) (iff_false c.is_empty.ensures c.if-is_empty.false) c.flush.ensures.time c.in-Ok.ensures.ok c.flush.ensures.area)

pub invariant_of-self-in-Err-clause-past : goal.invariant_of-self-in-Err-clause-past
invariant_of-self-in-Err-clause-past g c = let later = c.flush.ensures.later in let past = c.args.self.now.past in omega (arith, later, past)

pub invariant_of-self-in-Err-clause-place : goal.invariant_of-self-in-Err-clause-place
invariant_of-self-in-Err-clause-place g c = let area = c.flush.ensures.area in let place = c.args.self.now.place in let a = place.0 in let b = place.1 in (omega (arith, area, a), omega (arith, area, b))

pub invariant_of-self-in-Err-clause-kept : goal.invariant_of-self-in-Err-clause-kept
invariant_of-self-in-Err-clause-kept g c = λ known'.
    let known : IsTrue (g.D.Disk.observable c.args.self.now.disk) = subst (λ (b : Bool). IsTrue b) c.flush.ensures.same_observable known' in
    let other : 0 ≢ c.args.self.now.log.area = (λ is. let place = c.args.self.now.place.0 in omega (arith, is, place)) in
    subst (λ (z : List ℕ). IsKept c.args.self.now.slots z) (sym (c.flush.ensures.seen known 0 other)) (c.args.self.now.kept known)

pub invariant_of-self-in-Ok-clause-counts : goal.invariant_of-self-in-Ok-clause-counts
invariant_of-self-in-Ok-clause-counts g c = λ fine. let s = c.in-Ok.ensures.settled.0 in let a = c.in-Ok.ensures.settled.1 in omega (arith, s, a)

pub invariant_of-self-in-Ok-clause-emptied : goal.invariant_of-self-in-Ok-clause-emptied
invariant_of-self-in-Ok-clause-emptied g c = λ fine none. c.in-Ok.ensures.settled.0 ∙ sym (c.in-Ok.ensures.settled.1)

pub invariant_of-self-in-Ok-clause-changes : goal.invariant_of-self-in-Ok-clause-changes
invariant_of-self-in-Ok-clause-changes g c = λ fine slot note is. let had = c.args.self.now.changes c.requires.usable slot note is in let now = c.in-Ok.ensures.settled.1 in omega (arith, had, now)

pub invariant_of-self-in-Ok-clause-recoverable : goal.invariant_of-self-in-Ok-clause-recoverable
invariant_of-self-in-Ok-clause-recoverable g c = recoverable_on (g.D.Disk.observable c.args.self.now.disk) c.args.self.now.since _ _ (g.D.Disk.left c.args.self.now.disk) (g.D.Disk.left c.flush.new.disk) _ c.flush.ensures.past c.args.self.now.past
    (λ m image left. subst (λ (b : Bool). IsTrue b) c.flush.ensures.same_observable (g.met.D.Disk.image_known c.flush.new.disk m image left).same_observable)
    (λ known. flush_leaves _ (view c.args.self.now.slots (g.D.Disk.seen c.args.self.now.disk 0)) _ _ _ _ c.args.self.now.log c.flush.new.self (unwritten c.args.self.now.slots) _ _ _ _ _ _ (c.args.self.now.sound known c.requires.usable) (iff_false c.is_empty.ensures c.if-is_empty.false) c.flush.ensures.time)
    c.args.self.now.recoverable

pub invariant_of-self-in-Err-clause-recoverable : goal.invariant_of-self-in-Err-clause-recoverable
invariant_of-self-in-Err-clause-recoverable g c = recoverable_on (g.D.Disk.observable c.args.self.now.disk) c.args.self.now.since _ _ (g.D.Disk.left c.args.self.now.disk) (g.D.Disk.left c.flush.new.disk) _ c.flush.ensures.past c.args.self.now.past
    (λ m image left. subst (λ (b : Bool). IsTrue b) c.flush.ensures.same_observable (g.met.D.Disk.image_known c.flush.new.disk m image left).same_observable)
    (λ known. flush_leaves _ (view c.args.self.now.slots (g.D.Disk.seen c.args.self.now.disk 0)) _ _ _ _ c.args.self.now.log c.flush.new.self (unwritten c.args.self.now.slots) _ _ _ _ _ _ (c.args.self.now.sound known c.requires.usable) (iff_false c.is_empty.ensures c.if-is_empty.false) c.flush.ensures.time)
    c.args.self.now.recoverable

pub invariant_of-self-in-Ok-clause-stays_short : goal.invariant_of-self-in-Ok-clause-stays_short
invariant_of-self-in-Ok-clause-stays_short g c = short_flush c.args.self.now.since _ _ (g.D.Disk.left c.args.self.now.disk) (g.D.Disk.left c.flush.new.disk) c.args.self.now.past c.args.self.now.stays_short c.args.self.now.log.gate c.args.self.now.log.gate c.args.self.now.log.buffer refl (c.has_room.ensures c.if-not-has_room.false) c.flush.ensures.within

pub invariant_of-self-in-Err-clause-stays_short : goal.invariant_of-self-in-Err-clause-stays_short
invariant_of-self-in-Err-clause-stays_short g c = short_flush c.args.self.now.since _ _ (g.D.Disk.left c.args.self.now.disk) (g.D.Disk.left c.flush.new.disk) c.args.self.now.past c.args.self.now.stays_short c.args.self.now.log.gate c.args.self.now.log.gate c.args.self.now.log.buffer refl (c.has_room.ensures c.if-not-has_room.false) c.flush.ensures.within
