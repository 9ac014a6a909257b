use Rattle.std.proofs.Common.{◌≡◌, inl, inr, ⊎_elim, ◌<◌, ◌≤◌, ◌+◌, ℕ, Bool, IsTrue, List, [], Option, Some, None, true, refl, sym, ◌∙◌, ap, subst, arith}
use Rattle.std.proofs.lemmas.Bool.{cases_eq}
use Rattle.storage.specs.declared.slots.Undo.{Undo}
use Rattle.storage.specs.Slots.{put, undone}
use Rattle.log_meaning.specs.declared.note.Change.{Change}
use Rattle.log_meaning.specs.declared.note.Note.TheVariants.{Change as Changed}
use Rattle.log_meaning.specs.Bytes.{IsNote}
use Rattle.open_transactions.specs.Clients.{lists, due, number_in, list_in}
use Rattle.open_transactions.proofs.Changed.{nothing_due}
use Rattle.slot_area.specs.Area.{view, unwritten, is_ready}
use Rattle.checkpoint.specs.kept.KeptLog.{KeptLog}
use Rattle.slot_txn.specs.logged.State.{in_doubt}
use Rattle.slot_txn.proofs.LoggedLemmas.Recoverable.{left_only, recoverable_on}
use Rattle.slot_txn.proofs.LoggedLemmas.Commits.{goes_on}
use Rattle.slot_txn.proofs.LoggedLemmas.States.{as_one}
use Rattle.slot_txn.proofs.LoggedLemmas.Framing.{to_any}
use Rattle.slot_txn.proofs.LoggedLemmas.Changing.{change_leaves, wrote_keeps}
use Rattle.slot_txn.proofs.LoggedLemmas.Bounded.{short_others}
use Rattle.slot_txn.proofs.logged.logged_slots.LoggedSlots.write.Goals as goal

pub put_slot-requires-clause-ready : goal.put_slot-requires-clause-ready
put_slot-requires-clause-ready g c = subst (λ (n : ℕ). is_ready c.args.self.now.slots n c.args.slot ≡ true) (sym (c.append.ensures.counts.1)) c.requires.ready

pub invariant_of-self-clause-past : goal.invariant_of-self-clause-past
invariant_of-self-clause-past g c = let later = c.put_slot.ensures.past.later in let past = c.args.self.now.past in omega (arith, later, past)

pub invariant_of-self-clause-place : goal.invariant_of-self-clause-place
invariant_of-self-clause-place g c = let same = c.append.ensures.place.0 in let place = c.args.self.now.place in let a = place.0 in let b = place.1 in (omega (arith, same, a), omega (arith, same, b))

pub invariant_of-self-clause-kept : goal.invariant_of-self-clause-kept
invariant_of-self-clause-kept g c = λ known. c.put_slot.ensures.kept (subst (λ (b : Bool). IsTrue b) c.put_slot.ensures.same_observable known)

pub invariant_of-self-clause-extents : goal.invariant_of-self-clause-extents
invariant_of-self-clause-extents g c =
    let e = c.args.self.now.extents in let within = e.0 in let few = e.1 in let up = c.put_slot.ensures.end in let small = c.requires.slot in
    (omega (arith, within, up), ⊎_elim (λ (a : (c.args.self.now.generation.filled ≤ c.args.slot) × (c.filled_after-self.result ≡ c.args.slot + 1)). let is = a.1 in omega (arith, is, small)) (λ (a : (c.args.slot < c.args.self.now.generation.filled) × (c.filled_after-self.result ≡ c.args.self.now.generation.filled)). let is = a.1 in omega (arith, is, few)) c.filled_after-self.ensures)

pub invariant_of-self-clause-counts : goal.invariant_of-self-clause-counts
invariant_of-self-clause-counts g c = λ fine. let had = c.args.self.now.counts c.requires.usable in let a = c.append.ensures.counts.0 in let b = c.append.ensures.counts.1 in omega (arith, had, a, b)

pub invariant_of-self-clause-emptied : goal.invariant_of-self-clause-emptied
invariant_of-self-clause-emptied g c = λ fine none. let some = c.append.ensures.some in absurd (omega (arith, some, none))

some_one : (a b : ℕ) → Some a ≡ Some b → a ≡ b
some_one a b is = ap (value_or 0) is
  where
    value_or : ℕ → Option ℕ → ℕ
    value_or d None = d
    value_or d (Some x) = x

no_number : (n : ℕ) → None ≡ Some n → ⊥
no_number n is = cc

pub invariant_of-self-clause-changes : goal.invariant_of-self-clause-changes
invariant_of-self-clause-changes g c = λ fine s note is. elim (cases_eq s c.args.slot) [
  | inl here ↦ let same = some_one c.append.new.self.appended note (sym c.in-Ok.ensures.note ∙ sym (ap (unwritten c.put_slot.new.self) here) ∙ is) in omega (arith, same)
  | inr far ↦ ⊎_elim
      (λ (stays : unwritten c.put_slot.new.self s ≡ unwritten c.args.self.now.slots s). let had = c.args.self.now.changes c.requires.usable s note (sym stays ∙ is) in let a = c.append.ensures.counts.0 in omega (arith, had, a))
      (λ (gone : unwritten c.put_slot.new.self s ≡ None). absurd (no_number note (sym gone ∙ is)))
      (c.in-Ok.ensures.unwritten s far)
]

pub invariant_of-self-clause-whole : goal.invariant_of-self-clause-whole
invariant_of-self-clause-whole g c = λ known' fine.
    let known : IsTrue (g.D.Disk.observable c.args.self.now.disk) = subst (λ (b : Bool). IsTrue b) c.put_slot.ensures.same_observable known' in
    c.in-Ok.ensures.whole known (c.args.self.now.whole known c.requires.usable)

pub invariant_of-self-in-Err-clause-past : goal.invariant_of-self-in-Err-clause-past
invariant_of-self-in-Err-clause-past g c = let later = c.put_slot.ensures.past.later in let past = c.args.self.now.past in omega (arith, later, past)

pub invariant_of-self-in-Err-clause-place : goal.invariant_of-self-in-Err-clause-place
invariant_of-self-in-Err-clause-place g c = let same = c.append.ensures.place.0 in let place = c.args.self.now.place in let a = place.0 in let b = place.1 in (omega (arith, same, a), omega (arith, same, b))

pub invariant_of-self-in-Err-clause-kept : goal.invariant_of-self-in-Err-clause-kept
invariant_of-self-in-Err-clause-kept g c = λ known. c.put_slot.ensures.kept (subst (λ (b : Bool). IsTrue b) c.put_slot.ensures.same_observable known)

pub invariant_of-self-in-Err-clause-extents : goal.invariant_of-self-in-Err-clause-extents
invariant_of-self-in-Err-clause-extents g c =
    let e = c.args.self.now.extents in let within = e.0 in let few = e.1 in let up = c.put_slot.ensures.end in let small = c.requires.slot in
    (omega (arith, within, up), ⊎_elim (λ (a : (c.args.self.now.generation.filled ≤ c.args.slot) × (c.filled_after-self.result ≡ c.args.slot + 1)). let is = a.1 in omega (arith, is, small)) (λ (a : (c.args.slot < c.args.self.now.generation.filled) × (c.filled_after-self.result ≡ c.args.self.now.generation.filled)). let is = a.1 in omega (arith, is, few)) c.filled_after-self.ensures)

pub invariant_of-self-clause-sound : goal.invariant_of-self-clause-sound
invariant_of-self-clause-sound g c = λ known' fine.
    let known : IsTrue (g.D.Disk.observable c.args.self.now.disk) = subst (λ (b : Bool). IsTrue b) c.put_slot.ensures.same_observable known' in
    let cs = c.args.self.now.transactions.clients.items in
    let cs' = c.add.new.self.clients.items in
    let v = view c.args.self.now.slots (g.D.Disk.seen c.args.self.now.disk 0) in
    let ch : Change = record { tx = c.args.number; slot = c.args.slot; old = c.args.old.now; new = c.args.bytes.now } in
    let sound : IsNote (Changed ch) = (omega arith, c.requires.slot, omega arith, omega arith) in
    let left' = g.D.Disk.left c.put_slot.new.disk (g.D.Disk.time c.put_slot.new.disk) in
    let had = c.args.self.now.counts c.requires.usable in
    let one = c.append.ensures.counts.0 in
    subst (λ (w : ℕ → List ℕ). ∥ KeptLog (undone (lists cs') w) w left' c.append.new.self (unwritten c.put_slot.new.self) (number_in cs') (list_in cs') c.args.self.now.generation.number c.args.self.now.generation.extent c.filled_after-self.result c.args.self.now.serial ∥₁) (sym (as_one (c.in-Ok.ensures.view known)))
    (subst (λ (k : ℕ → List ℕ). ∥ KeptLog k (put v c.args.slot c.args.bytes.now) left' c.append.new.self (unwritten c.put_slot.new.self) (number_in cs') (list_in cs') c.args.self.now.generation.number c.args.self.now.generation.extent c.filled_after-self.result c.args.self.now.serial ∥₁) (sym (as_one (c.add.ensures.undone v c.args.bytes.now (sym (c.requires.read known)))))
    (subst (λ (f : ℕ → Option ℕ). ∥ KeptLog (undone (lists cs) v) (put v c.args.slot c.args.bytes.now) left' c.append.new.self (unwritten c.put_slot.new.self) f (list_in cs') c.args.self.now.generation.number c.args.self.now.generation.extent c.filled_after-self.result c.args.self.now.serial ∥₁) (sym c.add.ensures.number)
    (wrote_keeps (undone (lists cs) v) v _ _ (g.D.Disk.left c.args.self.now.disk) (g.D.Disk.left c.put_slot.new.disk) c.args.self.now.log c.append.new.self c.args.self.now.slots c.put_slot.new.self (number_in cs) (list_in cs) _ _ _ c.filled_after-self.result _ (c.args.self.now.sound known c.requires.usable) (c.args.self.now.extents.0) c.put_slot.ensures.time (c.append.ensures.counts.1)
    ch c.append.new.self.appended (c.append.ensures.place.0) (c.append.ensures.place.1) (λ ns h. c.append.ensures.notes ns h sound) c.filled_after-self.ensures c.in-Ok.ensures.unwritten c.in-Ok.ensures.note (omega (arith, had, one))
    (list_in cs') c.args.client (record { slot = c.args.slot; old = c.args.old.now }) c.requires.number c.requires.filled (c.requires.read known) refl (c.requires.read known) c.requires.alone c.add.ensures.list c.add.ensures.others.lists)))

pub returns-in-Ok-clause-ok : goal.returns-in-Ok-clause-ok
returns-in-Ok-clause-ok g c =
    let cs = c.args.self.now.transactions.clients.items in
    let cs' = c.add.new.self.clients.items in
    let v = view c.args.self.now.slots (g.D.Disk.seen c.args.self.now.disk 0) in
    let none : due cs ≡ [] = nothing_due cs c.requires.none_due in
    let doubtless = (c.args.self.now.sure c.requires.usable).0 in
    record {
      keeps = record {
        observable = c.put_slot.ensures.same_observable;
        committed = λ known. ap (undone (lists cs')) (as_one (c.in-Ok.ensures.view known)) ∙ as_one (c.add.ensures.undone v c.args.bytes.now (sym (c.requires.read known)));
        doubt = λ known. ap (λ (d : Option ℕ). undone (in_doubt d cs') (view c.put_slot.new.self (g.D.Disk.seen c.put_slot.new.disk 0))) doubtless ∙ ap (undone (lists cs')) (as_one (c.in-Ok.ensures.view known)) ∙ as_one (c.add.ensures.undone v c.args.bytes.now (sym (c.requires.read known))) ∙ sym (ap (λ (d : Option ℕ). undone (in_doubt d cs) v) doubtless);
      };
      reads = λ h. ap (λ (us : List Undo). undone us (view c.put_slot.new.self (g.D.Disk.seen c.put_slot.new.disk 0))) (nothing_due cs' c.add.ensures.none_due) ∙ as_one (c.in-Ok.ensures.view (h.0)) ∙ ap (λ (us : List Undo). put (undone us v) c.args.slot c.args.bytes.now) (sym none);
      before = c.args.old.now;
      before_is = λ h. c.requires.read (h.0) ∙ ap (λ (us : List Undo). undone us v c.args.slot) (sym none);
      transaction = c.add.ensures.becomes;
    }

pub returns-in-Err-clause-err : goal.returns-in-Err-clause-err
returns-in-Err-clause-err g c =
    let cs = c.args.self.now.transactions.clients.items in
    record {
      keeps = record {
        observable = c.put_slot.ensures.same_observable;
        committed = λ known. ap (undone (lists cs)) (as_one (c.in-Err.ensures.err_view known));
        doubt = λ known. ap (undone (in_doubt c.args.self.now.doubtful cs)) (as_one (c.in-Err.ensures.err_view known));
      };
      reads = λ h. ap (undone (due cs)) (as_one (c.in-Err.ensures.err_view (h.0)));
      transaction = refl;
    }

pub returns-in-Ok-clause-time : goal.returns-in-Ok-clause-time
returns-in-Ok-clause-time g c =
    let cs = c.args.self.now.transactions.clients.items in
    let v = view c.args.self.now.slots (g.D.Disk.seen c.args.self.now.disk 0) in
    goes_on _ _ (g.D.Disk.left c.args.self.now.disk) (g.D.Disk.left c.put_slot.new.disk) (to_any _ _ _ _ c.put_slot.ensures.past) refl refl c.put_slot.ensures.same_observable c.args.self.now.past
    (λ m slots later st.
    let known : IsTrue (g.D.Disk.observable c.args.self.now.disk) = subst (λ (b : Bool). IsTrue b) c.put_slot.ensures.same_observable (st.0) in
    ∣ inl (left_only (st.3.0) (undone (lists cs) v) slots (change_leaves (undone (lists cs) v) v _ _ (g.D.Disk.left c.args.self.now.disk) (g.D.Disk.left c.put_slot.new.disk) c.args.self.now.log c.append.new.self c.args.self.now.slots c.put_slot.new.self (number_in cs) (list_in cs) _ _ _ c.filled_after-self.result _ (c.args.self.now.sound known c.requires.usable) (c.args.self.now.extents.0) c.put_slot.ensures.time (c.append.ensures.counts.1) m (st.3.0) later (st.3.1)) (st.3.2)) ∣₁)

pub returns-in-Err-clause-time : goal.returns-in-Err-clause-time
returns-in-Err-clause-time g c =
    let cs = c.args.self.now.transactions.clients.items in
    let v = view c.args.self.now.slots (g.D.Disk.seen c.args.self.now.disk 0) in
    goes_on _ _ (g.D.Disk.left c.args.self.now.disk) (g.D.Disk.left c.put_slot.new.disk) (to_any _ _ _ _ c.put_slot.ensures.past) refl refl c.put_slot.ensures.same_observable c.args.self.now.past
    (λ m slots later st.
    let known : IsTrue (g.D.Disk.observable c.args.self.now.disk) = subst (λ (b : Bool). IsTrue b) c.put_slot.ensures.same_observable (st.0) in
    ∣ inl (left_only (st.3.0) (undone (lists cs) v) slots (change_leaves (undone (lists cs) v) v _ _ (g.D.Disk.left c.args.self.now.disk) (g.D.Disk.left c.put_slot.new.disk) c.args.self.now.log c.append.new.self c.args.self.now.slots c.put_slot.new.self (number_in cs) (list_in cs) _ _ _ c.filled_after-self.result _ (c.args.self.now.sound known c.requires.usable) (c.args.self.now.extents.0) c.put_slot.ensures.time (c.append.ensures.counts.1) m (st.3.0) later (st.3.1)) (st.3.2)) ∣₁)

pub invariant_of-self-clause-recoverable : goal.invariant_of-self-clause-recoverable
invariant_of-self-clause-recoverable g c =
    let cs = c.args.self.now.transactions.clients.items in
    let v = view c.args.self.now.slots (g.D.Disk.seen c.args.self.now.disk 0) in
    recoverable_on (g.D.Disk.observable c.args.self.now.disk) c.args.self.now.since _ _ (g.D.Disk.left c.args.self.now.disk) (g.D.Disk.left c.put_slot.new.disk) (undone (lists cs) v) (to_any _ _ _ _ c.put_slot.ensures.past) c.args.self.now.past
    (λ m image left. subst (λ (b : Bool). IsTrue b) c.put_slot.ensures.same_observable (g.met.D.Disk.image_known c.put_slot.new.disk m image left).same_observable)
    (λ known. change_leaves (undone (lists cs) v) v _ _ (g.D.Disk.left c.args.self.now.disk) (g.D.Disk.left c.put_slot.new.disk) c.args.self.now.log c.append.new.self c.args.self.now.slots c.put_slot.new.self (number_in cs) (list_in cs) _ _ _ c.filled_after-self.result _ (c.args.self.now.sound known c.requires.usable) (c.args.self.now.extents.0) c.put_slot.ensures.time (c.append.ensures.counts.1))
    c.args.self.now.recoverable

pub invariant_of-self-in-Err-clause-recoverable : goal.invariant_of-self-in-Err-clause-recoverable
invariant_of-self-in-Err-clause-recoverable g c =
    let cs = c.args.self.now.transactions.clients.items in
    let v = view c.args.self.now.slots (g.D.Disk.seen c.args.self.now.disk 0) in
    recoverable_on (g.D.Disk.observable c.args.self.now.disk) c.args.self.now.since _ _ (g.D.Disk.left c.args.self.now.disk) (g.D.Disk.left c.put_slot.new.disk) (undone (lists cs) v) (to_any _ _ _ _ c.put_slot.ensures.past) c.args.self.now.past
    (λ m image left. subst (λ (b : Bool). IsTrue b) c.put_slot.ensures.same_observable (g.met.D.Disk.image_known c.put_slot.new.disk m image left).same_observable)
    (λ known. change_leaves (undone (lists cs) v) v _ _ (g.D.Disk.left c.args.self.now.disk) (g.D.Disk.left c.put_slot.new.disk) c.args.self.now.log c.append.new.self c.args.self.now.slots c.put_slot.new.self (number_in cs) (list_in cs) _ _ _ c.filled_after-self.result _ (c.args.self.now.sound known c.requires.usable) (c.args.self.now.extents.0) c.put_slot.ensures.time (c.append.ensures.counts.1))
    c.args.self.now.recoverable

pub invariant_of-self-clause-stays_short : goal.invariant_of-self-clause-stays_short
invariant_of-self-clause-stays_short g c = short_others c.args.self.now.since _ _ (g.D.Disk.left c.args.self.now.disk) (g.D.Disk.left c.put_slot.new.disk) c.args.self.now.past c.args.self.now.stays_short c.put_slot.ensures.past

pub invariant_of-self-in-Err-clause-stays_short : goal.invariant_of-self-in-Err-clause-stays_short
invariant_of-self-in-Err-clause-stays_short g c = short_others c.args.self.now.since _ _ (g.D.Disk.left c.args.self.now.disk) (g.D.Disk.left c.put_slot.new.disk) c.args.self.now.past c.args.self.now.stays_short c.put_slot.ensures.past
