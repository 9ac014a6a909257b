use Rattle.std.proofs.Common.{◌≡◌, Bool, IsTrue, true, false, inl, refl, sym, ap, subst, arith}
use Rattle.std.proofs.lemmas.Bool.{true≢false}
use Rattle.storage.specs.Slots.{undone}
use Rattle.log_meaning.specs.steps.Steps.{Image}
use Rattle.log_meaning.proofs.StepsLemmas.Runs.{call}
use Rattle.open_transactions.specs.Clients.{lists, number_in, list_in}
use Rattle.slot_area.specs.Area.{view, unwritten, IsKept, IsWhole}
use Rattle.checkpoint.specs.kept.KeptLog.{KeptLog}
use Rattle.slot_txn.proofs.LoggedLemmas.Recoverable.{recoverable_on}
use Rattle.slot_txn.proofs.LoggedLemmas.Calming.{calm_call}
use Rattle.slot_txn.proofs.LoggedLemmas.Framing.{area_leaves, area_keeps, unchanged_run, unchanged_any}
use Rattle.slot_txn.proofs.LoggedLemmas.Bounded.{short_same}
use Rattle.slot_txn.proofs.logged.logged_slots.LoggedSlots.sync.Goals as goal

pub invariant_of-self-clause-past : goal.invariant_of-self-clause-past
invariant_of-self-clause-past g c = let run = call _ _ _ _ _ (λ old new. new ≡ old) c.sync.ensures.time (λ m image left. (g.met.D.Disk.image_known c.sync.new.self m image left).past) in let later = run.later in let past = c.args.self.now.past in omega (arith, later, past)

pub invariant_of-self-clause-kept : goal.invariant_of-self-clause-kept
invariant_of-self-clause-kept g c = λ known'.
    let known : IsTrue (g.D.Disk.observable c.args.self.now.disk) = subst (λ (b : Bool). IsTrue b) c.sync.ensures.same_observable known' in
    subst (λ (i : Image). IsKept c.args.self.now.slots (i 0)) (sym (c.sync.ensures.seen known)) (c.args.self.now.kept known)

pub invariant_of-self-clause-whole : goal.invariant_of-self-clause-whole
invariant_of-self-clause-whole g c = λ known' fine.
    let known : IsTrue (g.D.Disk.observable c.args.self.now.disk) = subst (λ (b : Bool). IsTrue b) c.sync.ensures.same_observable known' in
    subst (λ (i : Image). IsWhole c.args.self.now.slots.end (i 0)) (sym (c.sync.ensures.seen known)) (c.args.self.now.whole known fine)

pub invariant_of-self-clause-sound : goal.invariant_of-self-clause-sound
invariant_of-self-clause-sound g c = λ known' fine.
    let s = c.args.self.now in
    let known : IsTrue (g.D.Disk.observable s.disk) = subst (λ (b : Bool). IsTrue b) c.sync.ensures.same_observable known' in
    let run = call _ _ _ _ _ (λ old new. new ≡ old) c.sync.ensures.time (λ m image left. (g.met.D.Disk.image_known c.sync.new.self m image left).past) in
    let cs = s.transactions.clients.items in
    subst (λ (i : Image). ∥ KeptLog (undone (lists cs) (view s.slots (i 0))) (view s.slots (i 0)) (g.D.Disk.left c.sync.new.self (g.D.Disk.time c.sync.new.self)) s.log (unwritten s.slots) (number_in cs) (list_in cs) s.generation.number s.generation.extent s.generation.filled s.serial ∥₁) (sym (c.sync.ensures.seen known))
    (area_keeps _ _ _ _ (g.D.Disk.left s.disk) (g.D.Disk.left c.sync.new.self) s.log s.slots (number_in cs) (list_in cs) _ _ _ _ (s.sound known fine) (s.extents.0)
    (λ extent batches within images noted. unchanged_run _ _ (g.D.Disk.left s.disk) (g.D.Disk.left c.sync.new.self) run batches) (unwritten s.slots) (λ slot. inl refl))

pub invariant_of-self-clause-recoverable : goal.invariant_of-self-clause-recoverable
invariant_of-self-clause-recoverable g c =
    let s = c.args.self.now in
    let run = call _ _ _ _ _ (λ old new. new ≡ old) c.sync.ensures.time (λ m image left. (g.met.D.Disk.image_known c.sync.new.self m image left).past) in
    recoverable_on (g.D.Disk.observable s.disk) s.since _ _ (g.D.Disk.left s.disk) (g.D.Disk.left c.sync.new.self) _ (unchanged_any _ _ _ _ run) s.past
    (λ m image left. subst (λ (b : Bool). IsTrue b) c.sync.ensures.same_observable (g.met.D.Disk.image_known c.sync.new.self m image left).same_observable)
    (λ known. area_leaves _ _ _ _ (g.D.Disk.left s.disk) (g.D.Disk.left c.sync.new.self) s.log s.slots (number_in s.transactions.clients.items) (list_in s.transactions.clients.items) _ _ _ _ (s.sound known c.requires.usable) (s.extents.0)
    (λ extent batches within images noted. unchanged_run _ _ (g.D.Disk.left s.disk) (g.D.Disk.left c.sync.new.self) run batches))
    s.recoverable

pub returns-in-Ok-clause-calm : goal.returns-in-Ok-clause-calm
returns-in-Ok-clause-calm g c =
    let s = c.args.self.now in
    let usable = c.requires.usable in
    let run = call _ _ _ _ _ (λ old new. new ≡ old) c.sync.ensures.time (λ m image left. (g.met.D.Disk.image_known c.sync.new.self m image left).past) in
    calm_call _ _ _ _ _ _ _ _ _ s.exhausted (g.D.Disk.failures s.disk) (g.D.Disk.failures c.sync.new.self) s.failed true ((s.sure usable).1) c.sync.ensures.same_observable (unchanged_any _ _ _ _ run)
    (λ known. area_leaves _ _ _ _ (g.D.Disk.left s.disk) (g.D.Disk.left c.sync.new.self) s.log s.slots (number_in s.transactions.clients.items) (list_in s.transactions.clients.items) _ _ _ _ (s.sound known usable) (s.extents.0)
    (λ extent batches within images noted. unchanged_run _ _ (g.D.Disk.left s.disk) (g.D.Disk.left c.sync.new.self) run batches))
    (λ known slot. ap (λ (i : Image). view s.slots (i 0) slot) (c.sync.ensures.seen known)) c.in-Ok.ensures.cause (λ e. absurd (true≢false e)) (λ e. usable)

pub returns-in-Err-clause-calm : goal.returns-in-Err-clause-calm
returns-in-Err-clause-calm g c =
    let s = c.args.self.now in
    let usable = c.requires.usable in
    let run = call _ _ _ _ _ (λ old new. new ≡ old) c.sync.ensures.time (λ m image left. (g.met.D.Disk.image_known c.sync.new.self m image left).past) in
    calm_call _ _ _ _ _ _ _ _ _ s.exhausted (g.D.Disk.failures s.disk) (g.D.Disk.failures c.sync.new.self) true false ((s.sure usable).1) c.sync.ensures.same_observable (unchanged_any _ _ _ _ run)
    (λ known. area_leaves _ _ _ _ (g.D.Disk.left s.disk) (g.D.Disk.left c.sync.new.self) s.log s.slots (number_in s.transactions.clients.items) (list_in s.transactions.clients.items) _ _ _ _ (s.sound known usable) (s.extents.0)
    (λ extent batches within images noted. unchanged_run _ _ (g.D.Disk.left s.disk) (g.D.Disk.left c.sync.new.self) run batches))
    (λ known slot. ap (λ (i : Image). view s.slots (i 0) slot) (c.sync.ensures.seen known)) c.in-Err.ensures.cause (λ e. refl) (λ e. absurd (true≢false (sym e)))

pub invariant_of-self-clause-stays_short : goal.invariant_of-self-clause-stays_short
invariant_of-self-clause-stays_short g c = short_same c.args.self.now.since _ _ (g.D.Disk.left c.args.self.now.disk) (g.D.Disk.left c.sync.new.self) c.args.self.now.past c.args.self.now.stays_short (call _ _ _ _ _ (λ old new. new ≡ old) c.sync.ensures.time (λ m image left. (g.met.D.Disk.image_known c.sync.new.self m image left).past))
