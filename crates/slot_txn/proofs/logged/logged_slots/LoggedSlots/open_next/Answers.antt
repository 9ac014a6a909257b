use Rattle.std.proofs.Common.{◌≢◌, ℕ, ◌+◌, ◌-◌, Bool, IsTrue, List, true, false, refl, sym, ap, subst, arith}
use Rattle.std.proofs.lemmas.Bool.{true≢false}
use Rattle.storage.specs.Slots.{undone}
use Rattle.storage.specs.Disk.{Others}
use Rattle.log_meaning.specs.steps.Steps.{Image, Run, Any}
use Rattle.log_meaning.proofs.StepsLemmas.Runs.{wider}
use Rattle.open_transactions.specs.Clients.{lists, number_in, list_in}
use Rattle.slot_area.specs.Area.{view, unwritten, IsKept, IsWhole}
use Rattle.checkpoint.specs.kept.KeptLog.{KeptLog}
use Rattle.slot_txn.proofs.LoggedLemmas.Recoverable.{recoverable_on}
use Rattle.slot_txn.proofs.LoggedLemmas.Calming.{calm_call}
use Rattle.slot_txn.proofs.LoggedLemmas.Turning.{none_long, turn_leaves, turn_keeps}
use Rattle.slot_txn.proofs.LoggedLemmas.Bounded.{short_turn}
use Rattle.slot_txn.proofs.logged.logged_slots.LoggedSlots.open_next.Goals as goal

any_run : (was now : ℕ) (left left' : ℕ → Image → Type 0) (a : ℕ) → Run was now left left' (Others a) → Run was now left left' Any
any_run was now left left' a run = wider was now left left' (Others a) Any run (λ d image there s. tt)

pub turn-requires : goal.turn-requires
turn-requires g c =
    let place = c.args.self.now.place in
    let low = place.0 in
    let high = place.1 in
    record { area = (omega (arith, low, high), omega (arith, low)); fits = c.requires.number; few = c.requires.few; empty = none_long _ c.requires.empty; synced = c.requires.other }

pub invariant_of-self-clause-past : goal.invariant_of-self-clause-past
invariant_of-self-clause-past g c = let later = c.turn.ensures.past.later in let past = c.args.self.now.past in omega (arith, later, past)

pub invariant_of-self-clause-place : goal.invariant_of-self-clause-place
invariant_of-self-clause-place g c = let place = c.args.self.now.place in let low = place.0 in let high = place.1 in (omega (arith, low, high), omega (arith, low))

pub invariant_of-self-clause-kept : goal.invariant_of-self-clause-kept
invariant_of-self-clause-kept g c = λ known'.
    let known : IsTrue (g.D.Disk.observable c.args.self.now.disk) = subst (λ (b : Bool). IsTrue b) c.turn.ensures.same_observable known' in
    let other : 0 ≢ 3 - c.args.self.now.log.area = (λ is. let high = c.args.self.now.place.1 in omega (arith, is, high)) in
    subst (λ (z : List ℕ). IsKept c.args.self.now.slots z) (sym (c.turn.ensures.seen known 0 other)) (c.args.self.now.kept known)

pub invariant_of-self-clause-whole : goal.invariant_of-self-clause-whole
invariant_of-self-clause-whole g c = λ known' fine.
    let known : IsTrue (g.D.Disk.observable c.args.self.now.disk) = subst (λ (b : Bool). IsTrue b) c.turn.ensures.same_observable known' in
    let other : 0 ≢ 3 - c.args.self.now.log.area = (λ is. let high = c.args.self.now.place.1 in omega (arith, is, high)) in
    subst (λ (z : List ℕ). IsWhole c.args.self.now.slots.end z) (sym (c.turn.ensures.seen known 0 other)) (c.args.self.now.whole known c.requires.usable)

pub invariant_of-self-clause-emptied : goal.invariant_of-self-clause-emptied
invariant_of-self-clause-emptied g c = λ fine empty. c.args.self.now.emptied c.requires.usable c.requires.empty

pub invariant_of-self-clause-sound : goal.invariant_of-self-clause-sound
invariant_of-self-clause-sound g c = λ known' fine.
    let s = c.args.self.now in
    let known : IsTrue (g.D.Disk.observable s.disk) = subst (λ (b : Bool). IsTrue b) c.turn.ensures.same_observable known' in
    let other : 0 ≢ 3 - s.log.area = (λ is. let high = s.place.1 in omega (arith, is, high)) in
    let cs = s.transactions.clients.items in
    let seen = g.D.Disk.seen s.disk 0 in
    let log' = record s.log { area = 3 - s.log.area; gate = c.in-Ok.gate; buffer = c.turn.new.buffer } in
    subst (λ (n : ℕ). ∥ KeptLog (undone (lists cs) (view s.slots (g.D.Disk.seen c.turn.new.disk 0))) (view s.slots (g.D.Disk.seen c.turn.new.disk 0)) (g.D.Disk.left c.turn.new.disk (g.D.Disk.time c.turn.new.disk)) log' (unwritten s.slots) (number_in cs) (list_in cs) (s.generation.number + 1) n n s.serial ∥₁) (sym c.end-end.ensures.end)
    (subst (λ (z : List ℕ). ∥ KeptLog (undone (lists cs) (view s.slots z)) (view s.slots z) (g.D.Disk.left c.turn.new.disk (g.D.Disk.time c.turn.new.disk)) log' (unwritten s.slots) (number_in cs) (list_in cs) (s.generation.number + 1) s.slots.end s.slots.end s.serial ∥₁) (sym (c.turn.ensures.seen known 0 other))
    (turn_keeps seen _ _ (g.D.Disk.left s.disk) (g.D.Disk.left c.turn.new.disk) s.log log' s.slots cs s.generation.number s.generation.extent s.generation.filled s.serial c.in-Ok.gate (s.sound known c.requires.usable) (s.kept known) (s.whole known c.requires.usable) c.requires.written c.requires.zero s.transactions.sixteen c.requires.below
    c.turn.ensures.past (c.in-Ok.ensures.ok known) c.in-Ok.ensures.empty refl refl))

pub invariant_of-self-in-Err-clause-past : goal.invariant_of-self-in-Err-clause-past
invariant_of-self-in-Err-clause-past g c = let later = c.turn.ensures.past.later in let past = c.args.self.now.past in omega (arith, later, past)

pub invariant_of-self-in-Err-clause-kept : goal.invariant_of-self-in-Err-clause-kept
invariant_of-self-in-Err-clause-kept g c = λ known'.
    let known : IsTrue (g.D.Disk.observable c.args.self.now.disk) = subst (λ (b : Bool). IsTrue b) c.turn.ensures.same_observable known' in
    let other : 0 ≢ 3 - c.args.self.now.log.area = (λ is. let high = c.args.self.now.place.1 in omega (arith, is, high)) in
    subst (λ (z : List ℕ). IsKept c.args.self.now.slots z) (sym (c.turn.ensures.seen known 0 other)) (c.args.self.now.kept known)

pub invariant_of-self-clause-recoverable : goal.invariant_of-self-clause-recoverable
invariant_of-self-clause-recoverable g c =
    let s = c.args.self.now in
    let cs = s.transactions.clients.items in
    recoverable_on (g.D.Disk.observable s.disk) s.since _ _ (g.D.Disk.left s.disk) (g.D.Disk.left c.turn.new.disk) (undone (lists cs) (view s.slots (g.D.Disk.seen s.disk 0))) (any_run _ _ _ _ (3 - s.log.area) c.turn.ensures.past) s.past
    (λ m image left. subst (λ (b : Bool). IsTrue b) c.turn.ensures.same_observable (g.met.D.Disk.image_known c.turn.new.disk m image left).same_observable)
    (λ known. turn_leaves (g.D.Disk.seen s.disk 0) _ _ (g.D.Disk.left s.disk) (g.D.Disk.left c.turn.new.disk) s.log s.log s.slots cs s.generation.number s.generation.extent s.generation.filled s.serial 0 (s.sound known c.requires.usable) (s.kept known) (s.whole known c.requires.usable) c.requires.written c.requires.zero s.transactions.sixteen c.requires.below (c.turn.ensures.time known))
    s.recoverable

pub invariant_of-self-in-Err-clause-recoverable : goal.invariant_of-self-in-Err-clause-recoverable
invariant_of-self-in-Err-clause-recoverable g c =
    let s = c.args.self.now in
    let cs = s.transactions.clients.items in
    recoverable_on (g.D.Disk.observable s.disk) s.since _ _ (g.D.Disk.left s.disk) (g.D.Disk.left c.turn.new.disk) (undone (lists cs) (view s.slots (g.D.Disk.seen s.disk 0))) (any_run _ _ _ _ (3 - s.log.area) c.turn.ensures.past) s.past
    (λ m image left. subst (λ (b : Bool). IsTrue b) c.turn.ensures.same_observable (g.met.D.Disk.image_known c.turn.new.disk m image left).same_observable)
    (λ known. turn_leaves (g.D.Disk.seen s.disk 0) _ _ (g.D.Disk.left s.disk) (g.D.Disk.left c.turn.new.disk) s.log s.log s.slots cs s.generation.number s.generation.extent s.generation.filled s.serial 0 (s.sound known c.requires.usable) (s.kept known) (s.whole known c.requires.usable) c.requires.written c.requires.zero s.transactions.sixteen c.requires.below (c.turn.ensures.time known))
    s.recoverable

pub returns-in-Ok-clause-calm : goal.returns-in-Ok-clause-calm
returns-in-Ok-clause-calm g c =
    let s = c.args.self.now in
    let usable = c.requires.usable in
    let cs = s.transactions.clients.items in
    let other : 0 ≢ 3 - s.log.area = (λ is. let high = s.place.1 in omega (arith, is, high)) in
    calm_call _ _ _ _ _ _ _ _ _ s.exhausted (g.D.Disk.failures s.disk) (g.D.Disk.failures c.turn.new.disk) s.failed true ((s.sure usable).1) c.turn.ensures.same_observable (any_run _ _ _ _ (3 - s.log.area) c.turn.ensures.past)
    (λ known. turn_leaves (g.D.Disk.seen s.disk 0) _ _ (g.D.Disk.left s.disk) (g.D.Disk.left c.turn.new.disk) s.log s.log s.slots cs s.generation.number s.generation.extent s.generation.filled s.serial 0 (s.sound known usable) (s.kept known) (s.whole known usable) c.requires.written c.requires.zero s.transactions.sixteen c.requires.below (c.turn.ensures.time known))
    (λ known k. ap (λ (z : List ℕ). view s.slots z k) (c.turn.ensures.seen known 0 other)) c.in-Ok.ensures.cause (λ e. absurd (true≢false e)) (λ e. usable)

pub returns-in-Err-clause-calm : goal.returns-in-Err-clause-calm
returns-in-Err-clause-calm g c =
    let s = c.args.self.now in
    let usable = c.requires.usable in
    let cs = s.transactions.clients.items in
    let other : 0 ≢ 3 - s.log.area = (λ is. let high = s.place.1 in omega (arith, is, high)) in
    calm_call _ _ _ _ _ _ _ _ _ s.exhausted (g.D.Disk.failures s.disk) (g.D.Disk.failures c.turn.new.disk) true false ((s.sure usable).1) c.turn.ensures.same_observable (any_run _ _ _ _ (3 - s.log.area) c.turn.ensures.past)
    (λ known. turn_leaves (g.D.Disk.seen s.disk 0) _ _ (g.D.Disk.left s.disk) (g.D.Disk.left c.turn.new.disk) s.log s.log s.slots cs s.generation.number s.generation.extent s.generation.filled s.serial 0 (s.sound known usable) (s.kept known) (s.whole known usable) c.requires.written c.requires.zero s.transactions.sixteen c.requires.below (c.turn.ensures.time known))
    (λ known k. ap (λ (z : List ℕ). view s.slots z k) (c.turn.ensures.seen known 0 other)) c.in-Err.ensures.cause (λ e. refl) (λ e. absurd (true≢false (sym e)))

pub invariant_of-self-clause-stays_short : goal.invariant_of-self-clause-stays_short
invariant_of-self-clause-stays_short g c = short_turn c.args.self.now.since _ _ (g.D.Disk.left c.args.self.now.disk) (g.D.Disk.left c.turn.new.disk) c.args.self.now.past c.args.self.now.stays_short c.turn.ensures.within

pub invariant_of-self-in-Err-clause-stays_short : goal.invariant_of-self-in-Err-clause-stays_short
invariant_of-self-in-Err-clause-stays_short g c = short_turn c.args.self.now.since _ _ (g.D.Disk.left c.args.self.now.disk) (g.D.Disk.left c.turn.new.disk) c.args.self.now.past c.args.self.now.stays_short c.turn.ensures.within
