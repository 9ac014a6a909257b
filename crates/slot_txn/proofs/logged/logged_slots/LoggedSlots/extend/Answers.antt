use Rattle.std.proofs.Common.{◌≡◌, inr, ℕ, Bool, IsTrue, List, Some, None, true, false, refl, sym, ◌∙◌, subst, arith}
use Rattle.std.proofs.lemmas.Bool.{true≢false}
use Rattle.storage.specs.Slots.{undone}
use Rattle.open_transactions.specs.Clients.{lists, number_in, list_in}
use Rattle.slot_area.specs.Area.{view, unwritten}
use Rattle.checkpoint.specs.kept.KeptLog.{KeptLog}
use Rattle.slot_txn.proofs.LoggedLemmas.Recoverable.{recoverable_on}
use Rattle.slot_txn.proofs.LoggedLemmas.Calming.{calm_call}
use Rattle.slot_txn.proofs.LoggedLemmas.States.{as_one}
use Rattle.slot_txn.proofs.LoggedLemmas.Framing.{to_any}
use Rattle.slot_txn.proofs.LoggedLemmas.Extending.{extend_leaves, extend_keeps}
use Rattle.slot_txn.proofs.LoggedLemmas.Bounded.{short_others}
use Rattle.slot_txn.proofs.logged.logged_slots.LoggedSlots.extend.Goals as goal

no_number : (n : ℕ) → None ≡ Some n → ⊥
no_number n is = cc

pub invariant_of-self-clause-past : goal.invariant_of-self-clause-past
invariant_of-self-clause-past g c = let later = c.extend_to.ensures.past.later in let past = c.args.self.now.past in omega (arith, later, past)

pub invariant_of-self-clause-changes : goal.invariant_of-self-clause-changes
invariant_of-self-clause-changes g c = λ fine slot note is. absurd (no_number note (sym (c.extend_to.ensures.written slot) ∙ is))

pub invariant_of-self-clause-extents : goal.invariant_of-self-clause-extents
invariant_of-self-clause-extents g c = let e = c.args.self.now.extents in let within = e.0 in let up = c.extend_to.ensures.end in (omega (arith, within, up), e.1)

pub invariant_of-self-clause-kept : goal.invariant_of-self-clause-kept
invariant_of-self-clause-kept g c = λ known. c.extend_to.ensures.kept (subst (λ (b : Bool). IsTrue b) c.extend_to.ensures.same_observable known)

pub invariant_of-self-clause-whole : goal.invariant_of-self-clause-whole
invariant_of-self-clause-whole g c = λ known fine.
    let before : IsTrue (g.D.Disk.observable c.args.self.now.disk) = subst (λ (b : Bool). IsTrue b) c.extend_to.ensures.same_observable known in
    c.in-Ok.ensures.whole before (c.args.self.now.whole before fine)

pub invariant_of-self-clause-sound : goal.invariant_of-self-clause-sound
invariant_of-self-clause-sound g c = λ known fine.
    let s = c.args.self.now in
    let before : IsTrue (g.D.Disk.observable s.disk) = subst (λ (b : Bool). IsTrue b) c.extend_to.ensures.same_observable known in
    let cs = s.transactions.clients.items in
    let same : view c.extend_to.new.self (g.D.Disk.seen c.extend_to.new.disk 0) ≡ view s.slots (g.D.Disk.seen s.disk 0) = as_one (c.extend_to.ensures.view before) in
    subst (λ (v : ℕ → List ℕ). ∥ KeptLog (undone (lists cs) v) v (g.D.Disk.left c.extend_to.new.disk (g.D.Disk.time c.extend_to.new.disk)) s.log (unwritten c.extend_to.new.self) (number_in cs) (list_in cs) s.generation.number s.generation.extent s.generation.filled s.serial ∥₁) (sym same)
    (extend_keeps _ _ _ _ (g.D.Disk.left s.disk) (g.D.Disk.left c.extend_to.new.disk) s.log s.slots (number_in cs) (list_in cs) _ _ _ _ (s.sound before fine) (s.extents.0) c.requires.empty c.extend_to.ensures.time (unwritten c.extend_to.new.self) (λ slot. inr (c.extend_to.ensures.written slot)))

pub invariant_of-self-clause-recoverable : goal.invariant_of-self-clause-recoverable
invariant_of-self-clause-recoverable g c =
    let s = c.args.self.now in
    recoverable_on (g.D.Disk.observable s.disk) s.since _ _ (g.D.Disk.left s.disk) (g.D.Disk.left c.extend_to.new.disk) _ (to_any _ _ _ _ c.extend_to.ensures.past) s.past
    (λ m image left. subst (λ (b : Bool). IsTrue b) c.extend_to.ensures.same_observable (g.met.D.Disk.image_known c.extend_to.new.disk m image left).same_observable)
    (λ known. extend_leaves _ _ _ _ (g.D.Disk.left s.disk) (g.D.Disk.left c.extend_to.new.disk) s.log s.slots (number_in s.transactions.clients.items) (list_in s.transactions.clients.items) _ _ _ _ (s.sound known c.requires.usable) (s.extents.0) c.requires.empty c.extend_to.ensures.time)
    s.recoverable

pub invariant_of-self-in-Err-clause-recoverable : goal.invariant_of-self-in-Err-clause-recoverable
invariant_of-self-in-Err-clause-recoverable g c =
    let s = c.args.self.now in
    recoverable_on (g.D.Disk.observable s.disk) s.since _ _ (g.D.Disk.left s.disk) (g.D.Disk.left c.extend_to.new.disk) _ (to_any _ _ _ _ c.extend_to.ensures.past) s.past
    (λ m image left. subst (λ (b : Bool). IsTrue b) c.extend_to.ensures.same_observable (g.met.D.Disk.image_known c.extend_to.new.disk m image left).same_observable)
    (λ known. extend_leaves _ _ _ _ (g.D.Disk.left s.disk) (g.D.Disk.left c.extend_to.new.disk) s.log s.slots (number_in s.transactions.clients.items) (list_in s.transactions.clients.items) _ _ _ _ (s.sound known c.requires.usable) (s.extents.0) c.requires.empty c.extend_to.ensures.time)
    s.recoverable

pub returns-in-Ok-clause-calm : goal.returns-in-Ok-clause-calm
returns-in-Ok-clause-calm g c =
    let s = c.args.self.now in
    let usable = c.requires.usable in
    calm_call _ _ _ _ _ _ _ _ _ s.exhausted (g.D.Disk.failures s.disk) (g.D.Disk.failures c.extend_to.new.disk) s.failed true ((s.sure usable).1) c.extend_to.ensures.same_observable (to_any _ _ _ _ c.extend_to.ensures.past)
    (λ known. extend_leaves _ _ _ _ (g.D.Disk.left s.disk) (g.D.Disk.left c.extend_to.new.disk) s.log s.slots (number_in s.transactions.clients.items) (list_in s.transactions.clients.items) _ _ _ _ (s.sound known usable) (s.extents.0) c.requires.empty c.extend_to.ensures.time)
    c.extend_to.ensures.view c.in-Ok.ensures.cause (λ e. absurd (true≢false e)) (λ e. usable)

pub returns-in-Err-clause-calm : goal.returns-in-Err-clause-calm
returns-in-Err-clause-calm g c =
    let s = c.args.self.now in
    let usable = c.requires.usable in
    calm_call _ _ _ _ _ _ _ _ _ s.exhausted (g.D.Disk.failures s.disk) (g.D.Disk.failures c.extend_to.new.disk) true false ((s.sure usable).1) c.extend_to.ensures.same_observable (to_any _ _ _ _ c.extend_to.ensures.past)
    (λ known. extend_leaves _ _ _ _ (g.D.Disk.left s.disk) (g.D.Disk.left c.extend_to.new.disk) s.log s.slots (number_in s.transactions.clients.items) (list_in s.transactions.clients.items) _ _ _ _ (s.sound known usable) (s.extents.0) c.requires.empty c.extend_to.ensures.time)
    c.extend_to.ensures.view c.in-Err.ensures.cause (λ e. refl) (λ e. absurd (true≢false (sym e)))

pub invariant_of-self-clause-stays_short : goal.invariant_of-self-clause-stays_short
invariant_of-self-clause-stays_short g c = short_others c.args.self.now.since _ _ (g.D.Disk.left c.args.self.now.disk) (g.D.Disk.left c.extend_to.new.disk) c.args.self.now.past c.args.self.now.stays_short c.extend_to.ensures.past

pub invariant_of-self-in-Err-clause-stays_short : goal.invariant_of-self-in-Err-clause-stays_short
invariant_of-self-in-Err-clause-stays_short g c = short_others c.args.self.now.since _ _ (g.D.Disk.left c.args.self.now.disk) (g.D.Disk.left c.extend_to.new.disk) c.args.self.now.past c.args.self.now.stays_short c.extend_to.ensures.past
