use Rattle.std.proofs.Common.{◌≡◌, ⊎_elim, ℕ, Bool, IsTrue, List, Some, None, true, false, refl, sym, ◌∙◌, ap, subst, arith}
use Rattle.std.proofs.lemmas.Bool.{true≢false}
use Rattle.storage.specs.Slots.{undone}
use Rattle.open_transactions.specs.declared.transactions.Transactions.{Transactions}
use Rattle.open_transactions.specs.Clients.{lists, number_in, list_in}
use Rattle.slot_area.specs.Area.{view, unwritten}
use Rattle.checkpoint.specs.kept.KeptLog.{KeptLog}
use Rattle.slot_txn.proofs.LoggedLemmas.Recoverable.{recoverable_on}
use Rattle.slot_txn.proofs.LoggedLemmas.Calming.{calm_call, calm_twice}
use Rattle.slot_txn.proofs.LoggedLemmas.States.{as_one}
use Rattle.slot_txn.proofs.LoggedLemmas.Framing.{area_leaves, area_keeps, to_any}
use Rattle.slot_txn.proofs.LoggedLemmas.Bounded.{short_others}
use Rattle.slot_txn.proofs.logged.logged_slots.LoggedSlots.read_slot.Goals as goal

no_number : (n : ℕ) → None ≡ Some n → ⊥
no_number n is = cc

pub invariant_of-self-clause-past : goal.invariant_of-self-clause-past
invariant_of-self-clause-past g c = let later = c.read_slot.ensures.past.later in let past = c.make_frame.new.self.past in omega (arith, later, past)

pub invariant_of-self-clause-changes : goal.invariant_of-self-clause-changes
invariant_of-self-clause-changes g c = λ fine slot note is. ⊎_elim
    (λ (same : unwritten c.read_slot.new.self slot ≡ unwritten c.make_frame.new.self.slots slot). c.make_frame.new.self.changes fine slot note (sym same ∙ is))
    (λ (gone : unwritten c.read_slot.new.self slot ≡ None). absurd (no_number note (sym gone ∙ is)))
    (c.read_slot.ensures.unwritten slot)

pub invariant_of-self-clause-extents : goal.invariant_of-self-clause-extents
invariant_of-self-clause-extents g c = let e = c.make_frame.new.self.extents in let within = e.0 in let up = c.read_slot.ensures.end in (omega (arith, within, up), e.1)

pub invariant_of-self-clause-kept : goal.invariant_of-self-clause-kept
invariant_of-self-clause-kept g c = λ known. c.read_slot.ensures.kept (subst (λ (b : Bool). IsTrue b) c.read_slot.ensures.same_observable known)

pub invariant_of-self-clause-whole : goal.invariant_of-self-clause-whole
invariant_of-self-clause-whole g c = λ known fine.
    let before : IsTrue (g.D.Disk.observable c.make_frame.new.self.disk) = subst (λ (b : Bool). IsTrue b) c.read_slot.ensures.same_observable known in
    c.in-Ok.ensures.whole before (c.make_frame.new.self.whole before fine)

pub invariant_of-self-clause-sound : goal.invariant_of-self-clause-sound
invariant_of-self-clause-sound g c = λ known fine.
    let s = c.make_frame.new.self in
    let before : IsTrue (g.D.Disk.observable s.disk) = subst (λ (b : Bool). IsTrue b) c.read_slot.ensures.same_observable known in
    let cs = s.transactions.clients.items in
    let same : view c.read_slot.new.self (g.D.Disk.seen c.read_slot.new.disk 0) ≡ view s.slots (g.D.Disk.seen s.disk 0) = as_one (c.read_slot.ensures.view before) in
    subst (λ (v : ℕ → List ℕ). ∥ KeptLog (undone (lists cs) v) v (g.D.Disk.left c.read_slot.new.disk (g.D.Disk.time c.read_slot.new.disk)) s.log (unwritten c.read_slot.new.self) (number_in cs) (list_in cs) s.generation.number s.generation.extent s.generation.filled s.serial ∥₁) (sym same)
    (area_keeps _ _ _ _ (g.D.Disk.left s.disk) (g.D.Disk.left c.read_slot.new.disk) s.log s.slots (number_in cs) (list_in cs) _ _ _ _ (s.sound before fine) (s.extents.0) c.read_slot.ensures.time (unwritten c.read_slot.new.self) c.read_slot.ensures.unwritten)

pub returns-in-Ok-clause-calm : goal.returns-in-Ok-clause-calm
returns-in-Ok-clause-calm g c =
    let s = c.make_frame.new.self in
    let one = c.in_ok-make_frame.ensures.calm in
    let usable = (one.stays refl).0 in
    calm_twice _ _ _ _ _ _ _ _ _ _ _ _ _ (undone (lists s.transactions.clients.items) (view s.slots (g.D.Disk.seen s.disk 0))) _ _ _ _ _ _ one
    (calm_call _ _ _ _ _ _ _ _ _ s.exhausted (g.D.Disk.failures s.disk) (g.D.Disk.failures c.read_slot.new.disk) s.failed true ((s.sure usable).1) c.read_slot.ensures.same_observable (to_any _ _ _ _ c.read_slot.ensures.past)
    (λ known. area_leaves _ _ _ _ (g.D.Disk.left s.disk) (g.D.Disk.left c.read_slot.new.disk) s.log s.slots (number_in s.transactions.clients.items) (list_in s.transactions.clients.items) _ _ _ _ (s.sound known usable) (s.extents.0) c.read_slot.ensures.time)
    c.read_slot.ensures.view c.in-Ok.ensures.cause (λ e. absurd (true≢false e)) (λ e. usable))
    (λ known. ap (λ (t : Transactions). undone (lists t.clients.items) (view s.slots (g.D.Disk.seen s.disk 0))) (c.make_frame.ensures.book.0) ∙ ap (undone (lists c.args.self.now.transactions.clients.items)) (as_one (one.same_reads known)))

pub returns-in-Err-clause-calm : goal.returns-in-Err-clause-calm
returns-in-Err-clause-calm g c =
    let s = c.make_frame.new.self in
    let one = c.in_ok-make_frame.ensures.calm in
    let usable = (one.stays refl).0 in
    calm_twice _ _ _ _ _ _ _ _ _ _ _ _ _ (undone (lists s.transactions.clients.items) (view s.slots (g.D.Disk.seen s.disk 0))) _ _ _ _ _ _ one
    (calm_call _ _ _ _ _ _ _ _ _ s.exhausted (g.D.Disk.failures s.disk) (g.D.Disk.failures c.read_slot.new.disk) true false ((s.sure usable).1) c.read_slot.ensures.same_observable (to_any _ _ _ _ c.read_slot.ensures.past)
    (λ known. area_leaves _ _ _ _ (g.D.Disk.left s.disk) (g.D.Disk.left c.read_slot.new.disk) s.log s.slots (number_in s.transactions.clients.items) (list_in s.transactions.clients.items) _ _ _ _ (s.sound known usable) (s.extents.0) c.read_slot.ensures.time)
    c.read_slot.ensures.view c.in-Err.ensures.cause (λ e. refl) (λ e. absurd (true≢false (sym e))))
    (λ known. ap (λ (t : Transactions). undone (lists t.clients.items) (view s.slots (g.D.Disk.seen s.disk 0))) (c.make_frame.ensures.book.0) ∙ ap (undone (lists c.args.self.now.transactions.clients.items)) (as_one (one.same_reads known)))

pub invariant_of-self-clause-recoverable : goal.invariant_of-self-clause-recoverable
invariant_of-self-clause-recoverable g c =
    let s = c.make_frame.new.self in
    let one = c.in_ok-make_frame.ensures.calm in
    let usable = (one.stays refl).0 in
    recoverable_on (g.D.Disk.observable s.disk) s.since _ _ (g.D.Disk.left s.disk) (g.D.Disk.left c.read_slot.new.disk) _ (to_any _ _ _ _ c.read_slot.ensures.past) s.past
    (λ m image left. subst (λ (b : Bool). IsTrue b) c.read_slot.ensures.same_observable (g.met.D.Disk.image_known c.read_slot.new.disk m image left).same_observable)
    (λ known. area_leaves _ _ _ _ (g.D.Disk.left s.disk) (g.D.Disk.left c.read_slot.new.disk) s.log s.slots (number_in s.transactions.clients.items) (list_in s.transactions.clients.items) _ _ _ _ (s.sound known usable) (s.extents.0) c.read_slot.ensures.time)
    s.recoverable

pub invariant_of-self-in-Err-clause-recoverable : goal.invariant_of-self-in-Err-clause-recoverable
invariant_of-self-in-Err-clause-recoverable g c =
    let s = c.make_frame.new.self in
    let one = c.in_ok-make_frame.ensures.calm in
    let usable = (one.stays refl).0 in
    recoverable_on (g.D.Disk.observable s.disk) s.since _ _ (g.D.Disk.left s.disk) (g.D.Disk.left c.read_slot.new.disk) _ (to_any _ _ _ _ c.read_slot.ensures.past) s.past
    (λ m image left. subst (λ (b : Bool). IsTrue b) c.read_slot.ensures.same_observable (g.met.D.Disk.image_known c.read_slot.new.disk m image left).same_observable)
    (λ known. area_leaves _ _ _ _ (g.D.Disk.left s.disk) (g.D.Disk.left c.read_slot.new.disk) s.log s.slots (number_in s.transactions.clients.items) (list_in s.transactions.clients.items) _ _ _ _ (s.sound known usable) (s.extents.0) c.read_slot.ensures.time)
    s.recoverable

pub invariant_of-self-clause-stays_short : goal.invariant_of-self-clause-stays_short
invariant_of-self-clause-stays_short g c = short_others c.make_frame.new.self.since _ _ (g.D.Disk.left c.make_frame.new.self.disk) (g.D.Disk.left c.read_slot.new.disk) c.make_frame.new.self.past c.make_frame.new.self.stays_short c.read_slot.ensures.past

pub invariant_of-self-in-Err-clause-stays_short : goal.invariant_of-self-in-Err-clause-stays_short
invariant_of-self-in-Err-clause-stays_short g c = short_others c.make_frame.new.self.since _ _ (g.D.Disk.left c.make_frame.new.self.disk) (g.D.Disk.left c.read_slot.new.disk) c.make_frame.new.self.past c.make_frame.new.self.stays_short c.read_slot.ensures.past
