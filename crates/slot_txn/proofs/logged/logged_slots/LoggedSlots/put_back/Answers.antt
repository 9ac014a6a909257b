use Rattle.std.proofs.Common.{◌≡◌, inl, inr, ⊎_elim, ◌<◌, ◌≤◌, ◌+◌, ℕ, Bool, IsTrue, List, [], ◌∷◌, ◌++◌, length, Option, Some, None, true, refl, sym, ◌∙◌, ap, subst, arith}
use Rattle.std.proofs.lemmas.Bool.{cases_eq}
use Rattle.storage.specs.declared.slots.Undo.{Undo}
use Rattle.storage.specs.Slots.{put, undone}
use Rattle.log_meaning.specs.declared.note.Change.{Change}
use Rattle.log_meaning.specs.declared.note.Note.TheVariants.{Change as Changed}
use Rattle.log_meaning.specs.Bytes.{IsNote}
use Rattle.open_transactions.specs.Clients.{lists, due, number_in, list_in}
use Rattle.slot_area.specs.Area.{view, unwritten, is_ready}
use Rattle.checkpoint.specs.kept.KeptLog.{KeptLog}
use Rattle.slot_txn.specs.logged.State.{in_doubt}
use Rattle.slot_txn.proofs.LoggedLemmas.Recoverable.{left_only, recoverable_on}
use Rattle.slot_txn.proofs.LoggedLemmas.Commits.{goes_on}
use Rattle.slot_txn.proofs.LoggedLemmas.States.{as_one}
use Rattle.slot_txn.proofs.LoggedLemmas.Framing.{to_any}
use Rattle.slot_txn.proofs.LoggedLemmas.Changing.{change_leaves, put_back_keeps}
use Rattle.slot_txn.proofs.LoggedLemmas.Bounded.{short_others}
use Rattle.slot_txn.proofs.logged.logged_slots.LoggedSlots.put_back.Goals as goal

-- a list that is not empty has a last write
split_last : (l : List Undo) → 0 < length l → (us : List Undo) × (u : Undo) × (l ≡ us ++ u ∷ [])
split_last [] lt = absurd (omega (arith, lt))
split_last (x ∷ []) lt = ([], x, refl)
split_last (x ∷ y ∷ l) lt = let h = split_last (y ∷ l) (omega arith) in (x ∷ h.0, h.1, ap (λ (m : List Undo). x ∷ m) (h.2))

some_write : (l : List Undo) (n : ℕ) → n < length l → 0 < length l
some_write l n lt = omega (arith, lt)

pub put_slot-requires-clause-ready : goal.put_slot-requires-clause-ready
put_slot-requires-clause-ready g c =
    let h = split_last (list_in c.args.self.now.transactions.clients.items c.args.client) (some_write _ _ c.requires.due) in
    subst (λ (n : ℕ). is_ready c.args.self.now.slots n c.last-write.result.slot ≡ true) (sym (c.append.ensures.counts.1))
    (subst (λ (u : Undo). is_ready c.args.self.now.slots c.args.self.now.log.settled u.slot ≡ true) (sym (c.last-write.ensures.last (h.0) (h.1) (h.2))) (c.requires.ready (h.0) (h.1) (h.2)))

pub invariant_of-self-clause-past : goal.invariant_of-self-clause-past
invariant_of-self-clause-past g c = let later = c.put_slot.ensures.past.later in let past = c.args.self.now.past in omega (arith, later, past)

pub invariant_of-self-clause-place : goal.invariant_of-self-clause-place
invariant_of-self-clause-place g c = let same = c.append.ensures.place.0 in let place = c.args.self.now.place in let a = place.0 in let b = place.1 in (omega (arith, same, a), omega (arith, same, b))

pub invariant_of-self-clause-kept : goal.invariant_of-self-clause-kept
invariant_of-self-clause-kept g c = λ known. c.put_slot.ensures.kept (subst (λ (b : Bool). IsTrue b) c.put_slot.ensures.same_observable known)

pub invariant_of-self-clause-extents : goal.invariant_of-self-clause-extents
invariant_of-self-clause-extents g c =
    let e = c.args.self.now.extents in let within = e.0 in let few = e.1 in let up = c.put_slot.ensures.end in let small = c.last-write.ensures.small in
    (omega (arith, within, up), ⊎_elim (λ (a : (c.args.self.now.generation.filled ≤ c.last-write.result.slot) × (c.filled_after-self.result ≡ c.last-write.result.slot + 1)). let is = a.1 in omega (arith, is, small)) (λ (a : (c.last-write.result.slot < c.args.self.now.generation.filled) × (c.filled_after-self.result ≡ c.args.self.now.generation.filled)). let is = a.1 in omega (arith, is, few)) c.filled_after-self.ensures)

pub invariant_of-self-clause-counts : goal.invariant_of-self-clause-counts
invariant_of-self-clause-counts g c = λ fine. let had = c.args.self.now.counts c.requires.usable in let a = c.append.ensures.counts.0 in let b = c.append.ensures.counts.1 in omega (arith, had, a, b)

pub invariant_of-self-clause-emptied : goal.invariant_of-self-clause-emptied
invariant_of-self-clause-emptied g c = λ fine none. let some = c.append.ensures.some in absurd (omega (arith, some, none))

some_one : (a b : ℕ) → Some a ≡ Some b → a ≡ b
some_one a b is = ap (value_or 0) is
  where
    value_or : ℕ → Option ℕ → ℕ
    value_or d None = d
    value_or d (Some x) = x

no_number : (n : ℕ) → None ≡ Some n → ⊥
no_number n is = cc

pub invariant_of-self-clause-changes : goal.invariant_of-self-clause-changes
invariant_of-self-clause-changes g c = λ fine s note is. elim (cases_eq s c.last-write.result.slot) [
  | inl here ↦ let same = some_one c.append.new.self.appended note (sym c.in-Ok.ensures.note ∙ sym (ap (unwritten c.put_slot.new.self) here) ∙ is) in omega (arith, same)
  | inr far ↦ ⊎_elim
      (λ (stays : unwritten c.put_slot.new.self s ≡ unwritten c.args.self.now.slots s). let had = c.args.self.now.changes c.requires.usable s note (sym stays ∙ is) in let a = c.append.ensures.counts.0 in omega (arith, had, a))
      (λ (gone : unwritten c.put_slot.new.self s ≡ None). absurd (no_number note (sym gone ∙ is)))
      (c.in-Ok.ensures.unwritten s far)
]

pub invariant_of-self-clause-whole : goal.invariant_of-self-clause-whole
invariant_of-self-clause-whole g c = λ known' fine.
    let known : IsTrue (g.D.Disk.observable c.args.self.now.disk) = subst (λ (b : Bool). IsTrue b) c.put_slot.ensures.same_observable known' in
    c.in-Ok.ensures.whole known (c.args.self.now.whole known c.requires.usable)

pub invariant_of-self-in-Err-clause-past : goal.invariant_of-self-in-Err-clause-past
invariant_of-self-in-Err-clause-past g c = let later = c.put_slot.ensures.past.later in let past = c.args.self.now.past in omega (arith, later, past)

pub invariant_of-self-in-Err-clause-place : goal.invariant_of-self-in-Err-clause-place
invariant_of-self-in-Err-clause-place g c = let same = c.append.ensures.place.0 in let place = c.args.self.now.place in let a = place.0 in let b = place.1 in (omega (arith, same, a), omega (arith, same, b))

pub invariant_of-self-in-Err-clause-kept : goal.invariant_of-self-in-Err-clause-kept
invariant_of-self-in-Err-clause-kept g c = λ known. c.put_slot.ensures.kept (subst (λ (b : Bool). IsTrue b) c.put_slot.ensures.same_observable known)

pub invariant_of-self-in-Err-clause-extents : goal.invariant_of-self-in-Err-clause-extents
invariant_of-self-in-Err-clause-extents g c =
    let e = c.args.self.now.extents in let within = e.0 in let few = e.1 in let up = c.put_slot.ensures.end in let small = c.last-write.ensures.small in
    (omega (arith, within, up), ⊎_elim (λ (a : (c.args.self.now.generation.filled ≤ c.last-write.result.slot) × (c.filled_after-self.result ≡ c.last-write.result.slot + 1)). let is = a.1 in omega (arith, is, small)) (λ (a : (c.last-write.result.slot < c.args.self.now.generation.filled) × (c.filled_after-self.result ≡ c.args.self.now.generation.filled)). let is = a.1 in omega (arith, is, few)) c.filled_after-self.ensures)

-- what the slot reads
read_now : (read : List ℕ) (v : ℕ → List ℕ) (l us : List Undo) (u last : Undo) → l ≡ us ++ u ∷ [] → last ≡ u → ((us : List Undo) (u : Undo) → l ≡ us ++ u ∷ [] → read ≡ v u.slot) → read ≡ v last.slot
read_now read v l us u last is same f = f us u is ∙ ap (λ (x : Undo). v x.slot) (sym same)

pub invariant_of-self-clause-sound : goal.invariant_of-self-clause-sound
invariant_of-self-clause-sound g c = λ known' fine.
    let known : IsTrue (g.D.Disk.observable c.args.self.now.disk) = subst (λ (b : Bool). IsTrue b) c.put_slot.ensures.same_observable known' in
    let cs = c.args.self.now.transactions.clients.items in
    let cs' = c.pop-undone.new.self.clients.items in
    let v = view c.args.self.now.slots (g.D.Disk.seen c.args.self.now.disk 0) in
    let popped : c.last-write.result ≡ c.pop-undone.result = c.last-write.ensures.last (list_in cs' c.args.client) c.pop-undone.result c.pop-undone.ensures.list in
    let ch : Change = record { tx = c.args.number; slot = c.last-write.result.slot; old = c.args.now.now; new = c.last-write.result.old } in
    let sound : IsNote (Changed ch) = (omega arith, c.last-write.ensures.small, omega arith, omega arith) in
    let left' = g.D.Disk.left c.put_slot.new.disk (g.D.Disk.time c.put_slot.new.disk) in
    let had = c.args.self.now.counts c.requires.usable in
    let one = c.append.ensures.counts.0 in
    let read = read_now c.args.now.now v (list_in cs c.args.client) (list_in cs' c.args.client) c.pop-undone.result c.last-write.result c.pop-undone.ensures.list popped (λ us u is. c.requires.read us u is known) in
    subst (λ (w : ℕ → List ℕ). ∥ KeptLog (undone (lists cs') w) w left' c.append.new.self (unwritten c.put_slot.new.self) (number_in cs') (list_in cs') c.args.self.now.generation.number c.args.self.now.generation.extent c.filled_after-self.result c.args.self.now.serial ∥₁) (sym (as_one (c.in-Ok.ensures.view known)))
    (subst (λ (k : ℕ → List ℕ). ∥ KeptLog k (put v c.last-write.result.slot c.last-write.result.old) left' c.append.new.self (unwritten c.put_slot.new.self) (number_in cs') (list_in cs') c.args.self.now.generation.number c.args.self.now.generation.extent c.filled_after-self.result c.args.self.now.serial ∥₁)
    (sym (ap (λ (u : Undo). undone (lists cs') (put v u.slot u.old)) popped ∙ as_one (c.pop-undone.ensures.undone v)))
    (subst (λ (f : ℕ → Option ℕ). ∥ KeptLog (undone (lists cs) v) (put v c.last-write.result.slot c.last-write.result.old) left' c.append.new.self (unwritten c.put_slot.new.self) f (list_in cs') c.args.self.now.generation.number c.args.self.now.generation.extent c.filled_after-self.result c.args.self.now.serial ∥₁) (sym c.pop-undone.ensures.number)
    (put_back_keeps (undone (lists cs) v) v _ _ (g.D.Disk.left c.args.self.now.disk) (g.D.Disk.left c.put_slot.new.disk) c.args.self.now.log c.append.new.self c.args.self.now.slots c.put_slot.new.self (number_in cs) (list_in cs) _ _ _ c.filled_after-self.result _ (c.args.self.now.sound known c.requires.usable) (c.args.self.now.extents.0) c.put_slot.ensures.time (c.append.ensures.counts.1)
    ch c.append.new.self.appended (c.append.ensures.place.0) (c.append.ensures.place.1) (λ ns h. c.append.ensures.notes ns h sound) c.filled_after-self.ensures c.in-Ok.ensures.unwritten c.in-Ok.ensures.note (omega (arith, had, one))
    (list_in cs') c.args.client c.pop-undone.result c.requires.number read (ap (λ (u : Undo). u.slot) (sym popped)) (ap (λ (u : Undo). u.old) (sym popped)) c.pop-undone.ensures.list c.pop-undone.ensures.others.lists)))

pub returns-in-Ok-clause-rest : goal.returns-in-Ok-clause-rest
returns-in-Ok-clause-rest g c =
    let cs = c.args.self.now.transactions.clients.items in
    let cs' = c.pop-undone.new.self.clients.items in
    let v = view c.args.self.now.slots (g.D.Disk.seen c.args.self.now.disk 0) in
    let popped : c.last-write.result ≡ c.pop-undone.result = c.last-write.ensures.last (list_in cs' c.args.client) c.pop-undone.result c.pop-undone.ensures.list in
    let doubtless = (c.args.self.now.sure c.requires.usable).0 in
    let same : IsTrue (g.D.Disk.observable c.args.self.now.disk) → undone (lists cs') (view c.put_slot.new.self (g.D.Disk.seen c.put_slot.new.disk 0)) ≡ undone (lists cs) v =
    (λ known. ap (undone (lists cs')) (as_one (c.in-Ok.ensures.view known)) ∙ ap (λ (u : Undo). undone (lists cs') (put v u.slot u.old)) popped ∙ as_one (c.pop-undone.ensures.undone v)) in
    record {
      keeps = record {
        observable = c.put_slot.ensures.same_observable;
        committed = same;
        doubt = λ known. ap (λ (d : Option ℕ). undone (in_doubt d cs') (view c.put_slot.new.self (g.D.Disk.seen c.put_slot.new.disk 0))) doubtless ∙ same known ∙ sym (ap (λ (d : Option ℕ). undone (in_doubt d cs) v) doubtless);
      };
      reads = λ h. ap (undone (due cs')) (as_one (c.in-Ok.ensures.view (h.0))) ∙ ap (λ (u : Undo). undone (due cs') (put v u.slot u.old)) popped ∙ as_one (c.pop-undone.ensures.due_undone v);
      transaction = c.pop-undone.ensures.transactions;
    }

pub returns-in-Err-clause-rest : goal.returns-in-Err-clause-rest
returns-in-Err-clause-rest g c =
    let cs = c.args.self.now.transactions.clients.items in
    record {
      keeps = record {
        observable = c.put_slot.ensures.same_observable;
        committed = λ known. ap (undone (lists cs)) (as_one (c.in-Err.ensures.err_view known));
        doubt = λ known. ap (undone (in_doubt c.args.self.now.doubtful cs)) (as_one (c.in-Err.ensures.err_view known));
      };
      reads = λ h. ap (undone (due cs)) (as_one (c.in-Err.ensures.err_view (h.0)));
      transaction = refl;
    }

pub returns-in-Ok-clause-time : goal.returns-in-Ok-clause-time
returns-in-Ok-clause-time g c =
    let cs = c.args.self.now.transactions.clients.items in
    let v = view c.args.self.now.slots (g.D.Disk.seen c.args.self.now.disk 0) in
    goes_on _ _ (g.D.Disk.left c.args.self.now.disk) (g.D.Disk.left c.put_slot.new.disk) (to_any _ _ _ _ c.put_slot.ensures.past) refl refl c.put_slot.ensures.same_observable c.args.self.now.past
    (λ m slots later st.
    let known : IsTrue (g.D.Disk.observable c.args.self.now.disk) = subst (λ (b : Bool). IsTrue b) c.put_slot.ensures.same_observable (st.0) in
    ∣ inl (left_only (st.3.0) (undone (lists cs) v) slots (change_leaves (undone (lists cs) v) v _ _ (g.D.Disk.left c.args.self.now.disk) (g.D.Disk.left c.put_slot.new.disk) c.args.self.now.log c.append.new.self c.args.self.now.slots c.put_slot.new.self (number_in cs) (list_in cs) _ _ _ c.filled_after-self.result _ (c.args.self.now.sound known c.requires.usable) (c.args.self.now.extents.0) c.put_slot.ensures.time (c.append.ensures.counts.1) m (st.3.0) later (st.3.1)) (st.3.2)) ∣₁)

pub returns-in-Err-clause-time : goal.returns-in-Err-clause-time
returns-in-Err-clause-time g c =
    let cs = c.args.self.now.transactions.clients.items in
    let v = view c.args.self.now.slots (g.D.Disk.seen c.args.self.now.disk 0) in
    goes_on _ _ (g.D.Disk.left c.args.self.now.disk) (g.D.Disk.left c.put_slot.new.disk) (to_any _ _ _ _ c.put_slot.ensures.past) refl refl c.put_slot.ensures.same_observable c.args.self.now.past
    (λ m slots later st.
    let known : IsTrue (g.D.Disk.observable c.args.self.now.disk) = subst (λ (b : Bool). IsTrue b) c.put_slot.ensures.same_observable (st.0) in
    ∣ inl (left_only (st.3.0) (undone (lists cs) v) slots (change_leaves (undone (lists cs) v) v _ _ (g.D.Disk.left c.args.self.now.disk) (g.D.Disk.left c.put_slot.new.disk) c.args.self.now.log c.append.new.self c.args.self.now.slots c.put_slot.new.self (number_in cs) (list_in cs) _ _ _ c.filled_after-self.result _ (c.args.self.now.sound known c.requires.usable) (c.args.self.now.extents.0) c.put_slot.ensures.time (c.append.ensures.counts.1) m (st.3.0) later (st.3.1)) (st.3.2)) ∣₁)

pub invariant_of-self-clause-recoverable : goal.invariant_of-self-clause-recoverable
invariant_of-self-clause-recoverable g c =
    let cs = c.args.self.now.transactions.clients.items in
    let v = view c.args.self.now.slots (g.D.Disk.seen c.args.self.now.disk 0) in
    recoverable_on (g.D.Disk.observable c.args.self.now.disk) c.args.self.now.since _ _ (g.D.Disk.left c.args.self.now.disk) (g.D.Disk.left c.put_slot.new.disk) (undone (lists cs) v) (to_any _ _ _ _ c.put_slot.ensures.past) c.args.self.now.past
    (λ m image left. subst (λ (b : Bool). IsTrue b) c.put_slot.ensures.same_observable (g.met.D.Disk.image_known c.put_slot.new.disk m image left).same_observable)
    (λ known. change_leaves (undone (lists cs) v) v _ _ (g.D.Disk.left c.args.self.now.disk) (g.D.Disk.left c.put_slot.new.disk) c.args.self.now.log c.append.new.self c.args.self.now.slots c.put_slot.new.self (number_in cs) (list_in cs) _ _ _ c.filled_after-self.result _ (c.args.self.now.sound known c.requires.usable) (c.args.self.now.extents.0) c.put_slot.ensures.time (c.append.ensures.counts.1))
    c.args.self.now.recoverable

pub invariant_of-self-in-Err-clause-recoverable : goal.invariant_of-self-in-Err-clause-recoverable
invariant_of-self-in-Err-clause-recoverable g c =
    let cs = c.args.self.now.transactions.clients.items in
    let v = view c.args.self.now.slots (g.D.Disk.seen c.args.self.now.disk 0) in
    recoverable_on (g.D.Disk.observable c.args.self.now.disk) c.args.self.now.since _ _ (g.D.Disk.left c.args.self.now.disk) (g.D.Disk.left c.put_slot.new.disk) (undone (lists cs) v) (to_any _ _ _ _ c.put_slot.ensures.past) c.args.self.now.past
    (λ m image left. subst (λ (b : Bool). IsTrue b) c.put_slot.ensures.same_observable (g.met.D.Disk.image_known c.put_slot.new.disk m image left).same_observable)
    (λ known. change_leaves (undone (lists cs) v) v _ _ (g.D.Disk.left c.args.self.now.disk) (g.D.Disk.left c.put_slot.new.disk) c.args.self.now.log c.append.new.self c.args.self.now.slots c.put_slot.new.self (number_in cs) (list_in cs) _ _ _ c.filled_after-self.result _ (c.args.self.now.sound known c.requires.usable) (c.args.self.now.extents.0) c.put_slot.ensures.time (c.append.ensures.counts.1))
    c.args.self.now.recoverable

pub invariant_of-self-clause-stays_short : goal.invariant_of-self-clause-stays_short
invariant_of-self-clause-stays_short g c = short_others c.args.self.now.since _ _ (g.D.Disk.left c.args.self.now.disk) (g.D.Disk.left c.put_slot.new.disk) c.args.self.now.past c.args.self.now.stays_short c.put_slot.ensures.past

pub invariant_of-self-in-Err-clause-stays_short : goal.invariant_of-self-in-Err-clause-stays_short
invariant_of-self-in-Err-clause-stays_short g c = short_others c.args.self.now.since _ _ (g.D.Disk.left c.args.self.now.disk) (g.D.Disk.left c.put_slot.new.disk) c.args.self.now.past c.args.self.now.stays_short c.put_slot.ensures.past
