-- An answer changes the open levels and the rows that are held as the client's own events tell, and what the buffers claim stays held.
use Rattle.std.proofs.Common.{◌≡◌, ◌≢◌, inl, inr, refl, sym, ap, ◌∙◌, subst, ℕ, ◌+◌, ◌-◌, min, Bool, true, false, cond, List, [], ◌∷◌, Option, Some, None, arith, ℤ}
use Rattle.std.specs.Prelude.{◌==◌, ◌&&◌, ◌||◌, not}
use Rattle.std.proofs.lemmas.Bool.Decides.{eqb_tells, nat_tests}
use Rattle.abl_base.specs.declared.row.RowId.{RowId}
use Rattle.abl_base.specs.declared.value.Value.{Value}
use Rattle.abl_base.specs.declared.value.Value.TheVariants.{Int64}
use Rattle.abl_values.specs.Schema.{SchemaData}
use Rattle.database_protocol.specs.declared.row_order.Cursor.{Cursor}
use Rattle.database_protocol.specs.declared.answer.Answer.{Answer}
use Rattle.database_protocol.specs.declared.answer.Answer.TheVariants as answer
use Rattle.database_protocol.specs.declared.operation.Op.{Op}
use Rattle.database_protocol.specs.declared.operation.Op.TheVariants as op
use Rattle.bound_tree.specs.declared.block.LockWanted.{LockWanted}
use Rattle.bound_tree.specs.declared.block.LockWanted.TheVariants as wanted
use Rattle.bound_tree.specs.declared.statement.Target.{Target}
use Rattle.bound_tree.specs.Tree.{Reading}
use Rattle.database_meaning.specs.Fits.{Fits}
use Rattle.database_meaning.specs.Steps.{is_success, row_of_answer}
use Rattle.block_meaning.specs.Buffers.{Place, got_content, holding_in, left, left_if}
use Rattle.block_meaning.specs.Changes.{stored}
use Rattle.block_meaning.specs.Frames.{emptied, holding, table_of, with_spot}
use Rattle.machine_laws.specs.levels.Reached.{IsInside}
use Rattle.block_meaning.specs.Lines.{Complaint, MoreThanOne, RecordIsGone}
use Rattle.block_meaning.specs.Program.{Program}
use Rattle.block_meaning.specs.Reads.{Search, held_as, is_exclusive, next_shown, shows, spot_at}
use Rattle.block_meaning.specs.State.{Content, Exclusive, Held, NoLock, Normal, Record, Spot, State}
use Rattle.block_meaning.specs.Views.{FoundRow, Grant, IsBusy, IsGone, IsGranted, found_in, grant_in, is_gone, number_in, refusal_in, row_in, values_in}
use Rattle.flat_machine.specs.Config.{Await, CurrentGranted, Execute, Looks, OnAnswer, OrDo, Seconds, StackEntry, Takes, Unwind, WasBack, WasCounted, WasCurrent, WasDeleted, WasDropped, WasEntered, WasGot, WasGranted, WasInserted, WasLeft, WasNext, WasPut, WasRead, WasSecond, WasUpgraded}
use Rattle.block_meaning.specs.State.{Lost}
use Rattle.flat_machine.specs.Machine.{answer_step, answered, busy_answered, count_answered, current_answered, current_grant_answered, grant_answered, insert_answered, next_answered, none_answered, read_answered, refused_answered, second_answered}
use Rattle.flat_machine.specs.Steps.{config, config_if, fault}
use Rattle.client_runner.specs.Levels.{levels_after}
use Rattle.machine_laws.specs.locks.Exclusive.{holds_after}
use Rattle.machine_laws.proofs.OperationsLemmas.Claims.{AreAmong, Claims, claims_more, emptied_keeps, frames_more, holding_in_keeps, holding_keeps, marked_keeps, of_values, shared_claim, spot_keeps, without_row}
use Rattle.machine_laws.proofs.OperationsLemmas.Kept.{Awaits, Calm, Good, IsFree, IsReading, IsShaped, Needs, Sound, free_needs, needs_locked, needs_more, with_row}
use Rattle.machine_laws.proofs.OperationsLemmas.Parts.{assigns_sound, calm_asks, calm_done, emptied_state, good_to, held_locks, holding_in_locks, holding_locks, sound_if, stored_assigns, tests, to}

-- ---- one event

-- the open levels after it
abbrev pub levels_next : ℕ → Op → Answer → ℕ
levels_next k o a = cond (is_success a) (levels_after k o) k

-- the rows that are held exclusively after it
abbrev pub holds_next : ℕ → (ℕ → Bool) → Op → Answer → ℕ → Bool
holds_next k held o a = λ row. cond (is_success a) (holds_after row k o a (held row)) (held row)

-- the operation leaves the levels, and takes no row
abbrev Grows : Op → Type 0
Grows op.Enter = ⊥
Grows (op.Leave keep) = ⊥
Grows (op.Back depth) = ⊥
Grows (op.Drop row) = ⊥
Grows op.End = ⊥
Grows o = Unit {0}

reading_grows : (o : Op) → IsReading o → Grows o
reading_grows (op.Next table index prefix cursor forward) is = tt
reading_grows (op.Get table row) is = tt
reading_grows (op.NextValue sequence) is = tt
reading_grows (op.CurrentValue sequence) is = tt
reading_grows o is = absurd is

either_is : (b c : Bool) → c ≡ true → (b || c) ≡ true
either_is true c e = refl
either_is false c e = e

first_is : (b c : Bool) → b ≡ true → (b || c) ≡ true
first_is true c e = refl
first_is false c e = cc

chosen_is : (b x y : Bool) → x ≡ true → y ≡ true → cond b x y ≡ true
chosen_is true x y e f = e
chosen_is false x y e f = f

held_after : (k row : ℕ) (o : Op) (a : Answer) (h : Bool) → Grows o → h ≡ true → holds_after row k o a h ≡ true
held_after k row op.Enter a h is e = absurd is
held_after k row (op.Leave keep) a h is e = absurd is
held_after k row (op.Back depth) a h is e = absurd is
held_after k row (op.Drop at) a h is e = absurd is
held_after k row op.End a h is e = absurd is
held_after k row (op.Lock table at exclusive wait) a h is e = chosen_is (at.0 == row) (h || exclusive) h (first_is h exclusive e) e
held_after k row (op.Insert table values) a h is e = either_is (row_of_answer a == row) h e
held_after k row o a h is e = e

levels_stay : (k : ℕ) (o : Op) → Grows o → levels_after k o ≡ k
levels_stay k op.Enter is = absurd is
levels_stay k (op.Leave keep) is = absurd is
levels_stay k (op.Back depth) is = absurd is
levels_stay k (op.Drop at) is = absurd is
levels_stay k op.End is = absurd is
levels_stay k o is = refl

same_if : (b : Bool) (j k : ℕ) → j ≡ k → cond b j k ≡ k
same_if true j k e = e
same_if false j k e = refl

next_stays : (k : ℕ) (o : Op) (a : Answer) → Grows o → levels_next k o a ≡ k
next_stays k o a is = same_if (is_success a) (levels_after k o) k (levels_stay k o is)

grows : (k : ℕ) (held : ℕ → Bool) (o : Op) (a : Answer) → Grows o → AreAmong held (holds_next k held o a)
grows k held o a is row e = chosen_is (is_success a) (holds_after row k o a (held row)) (held row) (held_after k row o a (held row) is e) e

module _ (k : ℕ) (held : ℕ → Bool) (o : Op) (a : Answer) (is : Grows o) where
  good_after : (s : State) → Good held k s → Good (holds_next k held o a) (levels_next k o a) s
  good_after s g = (g.0 ∙ sym (next_stays k o a is), frames_more held (holds_next k held o a) s.frames (grows k held o a is) g.1)

  calm_after : (ks : List StackEntry) (s : State) → IsShaped ks → Good held k s → IsFree ks → Calm (holds_next k held o a) (levels_next k o a) ks s
  calm_after ks s h g f = record { good = good_after s g; shaped = h; free = f }

  needs_after : (but : List ℕ) (ks : List StackEntry) (s : State) → Needs held but ks s → Needs (holds_next k held o a) but ks s
  needs_after but ks s n = needs_more held (holds_next k held o a) but ks s s (grows k held o a is) (λ b l. l) n

-- ---- answers that are heard

-- an answer that neither stops the client nor blocks it
abbrev pub IsHeard : Answer → Type 0
IsHeard (answer.Blocked holders) = ⊥
IsHeard answer.NoMemory = ⊥
IsHeard answer.Closed = ⊥
IsHeard (answer.Deadlock cycle) = ⊥
IsHeard answer.TxFull = ⊥
IsHeard answer.TraceFull = ⊥
IsHeard a = Unit {0}

enter_done : (schema : SchemaData) (a : Answer) → Fits schema op.Enter a → a ≢ answer.Refused → IsHeard a → is_success a ≡ true
enter_done schema answer.Done fits unrefused heard = refl
enter_done schema answer.Refused fits unrefused heard = absurd (unrefused refl)
enter_done schema answer.NoMemory fits unrefused heard = absurd heard
enter_done schema answer.Closed fits unrefused heard = absurd heard
enter_done schema answer.TraceFull fits unrefused heard = absurd heard
enter_done schema a fits unrefused heard = absurd fits

leave_done : (schema : SchemaData) (keep : List RowId) (a : Answer) → Fits schema (op.Leave keep) a → a ≢ answer.Refused → IsHeard a → is_success a ≡ true
leave_done schema keep answer.Done fits unrefused heard = refl
leave_done schema keep (answer.Committed moment) fits unrefused heard = refl
leave_done schema keep answer.Refused fits unrefused heard = absurd (unrefused refl)
leave_done schema keep answer.NoMemory fits unrefused heard = absurd heard
leave_done schema keep answer.Closed fits unrefused heard = absurd heard
leave_done schema keep answer.TraceFull fits unrefused heard = absurd heard
leave_done schema keep a fits unrefused heard = absurd fits

back_done : (schema : SchemaData) (depth : ℕ) (a : Answer) → Fits schema (op.Back depth) a → a ≢ answer.Refused → IsHeard a → is_success a ≡ true
back_done schema depth answer.Done fits unrefused heard = refl
back_done schema depth answer.Refused fits unrefused heard = absurd (unrefused refl)
back_done schema depth answer.NoMemory fits unrefused heard = absurd heard
back_done schema depth answer.Closed fits unrefused heard = absurd heard
back_done schema depth answer.TraceFull fits unrefused heard = absurd heard
back_done schema depth a fits unrefused heard = absurd fits

-- a Lock that waits is granted, or the row is gone
lock_done : (schema : SchemaData) (t : ℕ) (row : RowId) (a : Answer) → Fits schema (op.Lock t row true true) a → a ≢ answer.Refused → IsHeard a → is_gone a ≡ false → a ≡ answer.Granted
lock_done schema t row answer.Granted fits unrefused heard gone = refl
lock_done schema t row answer.Gone fits unrefused heard gone = cc
lock_done schema t row (answer.Busy holders) fits unrefused heard gone = cc
lock_done schema t row (answer.Blocked holders) fits unrefused heard gone = absurd heard
lock_done schema t row (answer.Deadlock cycle) fits unrefused heard gone = absurd heard
lock_done schema t row answer.Refused fits unrefused heard gone = absurd (unrefused refl)
lock_done schema t row answer.NoMemory fits unrefused heard gone = absurd heard
lock_done schema t row answer.Closed fits unrefused heard gone = absurd heard
lock_done schema t row answer.TraceFull fits unrefused heard gone = absurd heard
lock_done schema t row a fits unrefused heard gone = absurd fits

-- ---- what follows an answer

module _ (held : ℕ → Bool) (k : ℕ) where
  calm_holding : (b : ℕ) (x : Content) (ks : List StackEntry) (s : State) → Claims held x → Calm held k ks s → Calm held k ks (holding b x s)
  calm_holding b x ks s h c = record { good = (c.good.0, holding_keeps held b x s c.good.1 h); shaped = c.shaped; free = c.free }

  -- the row that an Insert made is held
  abbrev IsHeld : Option RowId → Type 0
  IsHeld None = Unit {0}
  IsHeld (Some row) = held row.0 ≡ true

  insert_sound : (made_row : Option RowId) (place : Place) (t : ℕ) (vs : List Value) (made : ℕ) (f : Option Complaint) (ks : List StackEntry) (s : State) → IsHeld made_row → IsShaped ks → Good held k s → Needs held [] ks s → Sound held k (insert_answered made_row place t vs made f ks s)
  insert_sound (Some row) place t vs made f ks s e h g n =
      (h, ((g.0, holding_in_keeps held place (Record row vs Exclusive (Some made)) s g.1 e), needs_more held held [] ks s (holding_in place (Record row vs Exclusive (Some made)) s) (λ r e. e) (holding_in_locks place (Record row vs Exclusive (Some made)) s tt) n))
  insert_sound None place t vs made (Some f) ks s e h g n = (h, g)
  insert_sound None place t vs made None ks s e h g n = (h, (g, n))

  refused_sound : (f : Option Complaint) (ks : List StackEntry) (s : State) → IsShaped ks → Good held k s → Needs held [] ks s → Sound held k (refused_answered f ks s)
  refused_sound (Some f) ks s h g n = (h, g)
  refused_sound None ks s h g n = (h, (g, n))

  got_claims : (vs : Option (List Value)) (row : RowId) (lock : Held) (made : Option ℕ) → Claims held (Record row [] lock made) → Claims held (got_content vs row lock made)
  got_claims None row lock made h = tt
  got_claims (Some vs) row lock made h = of_values held row lock [] vs made made h

  read_sound : (p : Program) (vs : Option (List Value)) (r : Reading) (retry : Bool) (row : RowId) (lock : Held) (ks : List StackEntry) (s : State) → Claims held (Record row [] lock None) → Calm held k ks s → Sound held k (read_answered p vs r retry row lock ks s)
  read_sound p (Some values) r retry row lock ks s h c =
      tests held k p r.test r.buffer retry (λ s. config (Unwind Normal) ks (holding r.buffer (Record row values lock None) s)) (λ s. config (Unwind Lost) ks s) ks (shows r.buffer row values s)
      (calm_holding r.buffer (Record row values NoLock None) ks s tt c)
      (λ t e. calm_done held k ks (holding r.buffer (Record row values lock None) t) (calm_holding r.buffer (Record row values lock None) ks t (of_values held row lock [] values None None h) e))
      (λ t e. (e.shaped, e.good))
  read_sound p None r retry row lock ks s h c = (c.shaped, good_to held k s (emptied r.buffer s) (emptied_state r.buffer s) c.good)

  busy_sound : (b : ℕ) (ks : List StackEntry) (s : State) → Calm held k ks s → Sound held k (busy_answered b ks s)
  busy_sound b ks s c = (c.shaped, (c.good.0, marked_keeps held b true (emptied b s) (emptied_keeps held b s c.good.1)))

  grant_sound : (g : Grant) (r : Reading) (retry : Bool) (row : RowId) (ks : List StackEntry) (s : State) → (g ≡ IsGranted → Claims held (Record row [] (held_as r.lock) None)) → Calm held k ks s → Sound held k (grant_answered g r retry row ks s)
  grant_sound IsGranted r retry row ks s h c = calm_asks held k (op.Get (table_of r.buffer s) row) (WasRead r retry row (held_as r.lock)) ks s c (λ m. (tt, h refl, c.free))
  grant_sound IsBusy r retry row ks s h c = busy_sound r.buffer ks s c
  grant_sound IsGone r retry row ks s h c = (c.shaped, good_to held k s (emptied r.buffer s) (emptied_state r.buffer s) c.good)

  second_sound : (p : Program) (x : Option FoundRow) (n : ℕ) (q : Search) (at : Cursor) (values : List Value) (ks : List StackEntry) (s : State) → Calm held k ks s → Sound held k (second_answered p x n q at values ks s)
  second_sound p (Some x) n q at values ks s c =
      tests held k p q.reading.test q.reading.buffer q.retry (λ s. fault (MoreThanOne q.reading.buffer) ks (emptied q.reading.buffer s)) (λ s. config (Execute (Seconds n q at values x.cursor)) ks s) ks
      (shows q.reading.buffer x.cursor.row x.values s) (calm_holding q.reading.buffer (Record x.cursor.row x.values NoLock None) ks s tt c)
      (λ t e. (e.shaped, good_to held k t (emptied q.reading.buffer t) (emptied_state q.reading.buffer t) e.good)) (λ t e. (e.shaped, (e.good, e.free)))
  second_sound p None n q at values ks s c = calm_done held k ks (shows q.reading.buffer at.row values s) (calm_holding q.reading.buffer (Record at.row values NoLock None) ks s tt c)

  spot_calm : (b : ℕ) (spot : Option Spot) (ks : List StackEntry) (s : State) → Calm held k ks s → Calm held k ks (with_spot b spot s)
  spot_calm b spot ks s c = record { good = (c.good.0, spot_keeps held b spot s c.good.1); shaped = c.shaped; free = c.free }

  next_sound : (p : Program) (x : Option FoundRow) (n : ℕ) (q : Search) (ks : List StackEntry) (s : State) → Calm held k ks s → Sound held k (next_answered p x n q ks s)
  next_sound p (Some x) n q ks s c =
      tests held k p q.reading.test q.reading.buffer q.retry (λ s. config (Execute (Takes q x.cursor x.values)) (OrDo (Looks n q (Some x.cursor)) ∷ ks) s) (λ s. config (Execute (Looks n q (Some x.cursor))) ks s) ks (next_shown q x s)
      (calm_holding q.reading.buffer (Record x.cursor.row x.values NoLock None) ks (with_spot q.reading.buffer (spot_at q.reading x.cursor) s) tt (spot_calm q.reading.buffer (spot_at q.reading x.cursor) ks s c))
      (λ t e. (((tt, e.free), e.shaped), (e.good, tt))) (λ t e. (e.shaped, (e.good, e.free)))
  next_sound p None n q ks s c = let e = spot_calm q.reading.buffer None ks s c in (e.shaped, e.good)

  none_sound : (b : ℕ) (ks : List StackEntry) (s : State) → Calm held k ks s → Sound held k (none_answered b ks s)
  none_sound b ks s c = (c.shaped, good_to held k s (emptied b s) (emptied_state b s) c.good)

  current_sound : (vs : Option (List Value)) (r : Reading) (row : RowId) (made : Option ℕ) (ks : List StackEntry) (s : State) → Claims held (Record row [] (held_as r.lock) made) → Calm held k ks s → Sound held k (current_answered vs r row made ks s)
  current_sound (Some values) r row made ks s h c =
      calm_done held k ks (holding r.buffer (Record row values (held_as r.lock) made) s) (calm_holding r.buffer (Record row values (held_as r.lock) made) ks s (of_values held row (held_as r.lock) [] values made made h) c)
  current_sound None r row made ks s h c = none_sound r.buffer ks s c

  current_grant_sound : (g : Grant) (r : Reading) (row : RowId) (made : Option ℕ) (ks : List StackEntry) (s : State) → (g ≡ IsGranted → Claims held (Record row [] (held_as r.lock) made)) → Calm held k ks s → Sound held k (current_grant_answered g r row made ks s)
  current_grant_sound IsGranted r row made ks s h c = calm_asks held k (op.Get (table_of r.buffer s) row) (WasCurrent r row made) ks s c (λ m. (tt, h refl, c.free))
  current_grant_sound IsBusy r row made ks s h c = busy_sound r.buffer ks s c
  current_grant_sound IsGone r row made ks s h c = none_sound r.buffer ks s c

  count_sound : (n : Option ℤ) (t : Target) (ks : List StackEntry) (s : State) → IsShaped ks → Good held k s → Needs held [] ks s → Sound held k (count_answered n t ks s)
  count_sound (Some n) t ks s h g x = assigns_sound held k (stored t (Int64 n) s) ks s (stored_assigns t (Int64 n) s) h g x
  count_sound None t ks s h g x = (h, g)

-- ---- each operation

row_same : (row : ℕ) → (row == row) ≡ true
row_same row = grind (arith, nat_tests)

-- the rows that are held after an answer to Insert
inserted_held : (k : ℕ) (held : ℕ → Bool) (t : ℕ) (vs : List Value) (a : Answer) → IsHeld (holds_next k held (op.Insert t vs) a) k (row_in a)
inserted_held k held t vs (answer.Inserted row) = first_is (row.0 == row.0) (held row.0) (row_same row.0)
inserted_held k held t vs a = tt

-- a granted lock
granted_row : (k : ℕ) (held : ℕ → Bool) (t : ℕ) (row : RowId) (wait : Bool) → holds_next k held (op.Lock t row true wait) answer.Granted row.0 ≡ true
granted_row k held t row wait = ap (λ b. cond b (held row.0 || true) (held row.0)) (row_same row.0) ∙ either_is (held row.0) true refl

granted_claims : (k : ℕ) (held : ℕ → Bool) (t : ℕ) (row : RowId) (wait : Bool) (w : LockWanted) (made : Option ℕ) (a : Answer) → grant_in a ≡ IsGranted → Claims (holds_next k held (op.Lock t row (is_exclusive w) wait) a) (Record row [] (held_as w) made)
granted_claims k held t row wait wanted.NoLock made a e = tt
granted_claims k held t row wait wanted.Share made a e = tt
granted_claims k held t row wait wanted.Exclusive made answer.Granted e = granted_row k held t row wait
granted_claims k held t row wait wanted.Exclusive made (answer.Busy holders) e = absurd (let x : IsBusy ≡ IsGranted = e in cc)
granted_claims k held t row wait wanted.Exclusive made a e = absurd (let x : IsGone ≡ IsGranted = e in cc)

-- the rows held before, and this one, are held after it was granted
one_granted : (k : ℕ) (held : ℕ → Bool) (t : ℕ) (row : RowId) → AreAmong (with_row row held) (holds_next k held (op.Lock t row true true) answer.Granted)
one_granted k held t row r e = go (row.0 == r) (held r) e
  where
    go : (b h : Bool) → (b || h) ≡ true → cond b (h || true) h ≡ true
    go true h e = either_is h true refl
    go false h e = e

dropped_among : (k : ℕ) (held : ℕ → Bool) (row : RowId) (a : Answer) → AreAmong (without_row row held) (holds_next k held (op.Drop row) a)
dropped_among k held row a r e = go (is_success a) (row.0 == r) (k == 0) (held r) e
  where
    go : (s b z h : Bool) → (not b && h) ≡ true → cond s (not (z && b) && h) h ≡ true
    go s true z h e = cc
    go true false true h e = e
    go true false false h e = e
    go false false z h e = e

among_entered : (k : ℕ) (held : ℕ → Bool) (a : Answer) → AreAmong held (holds_next k held op.Enter a)
among_entered k held a r e = chosen_is (is_success a) (held r) (held r) e e

among_back : (k depth : ℕ) (held : ℕ → Bool) (a : Answer) → AreAmong held (holds_next k held (op.Back depth) a)
among_back k depth held a r e = chosen_is (is_success a) (held r) (held r) e e

-- where the level left is not the outermost one, its rows stay
left_among : (k : ℕ) (held : ℕ → Bool) (keep : List RowId) (a : Answer) → (k == 1) ≡ false → AreAmong held (holds_next k held (op.Leave keep) a)
left_among k held keep a other r e = chosen_is (is_success a) (not (k == 1) && held r) (held r) (ap (λ b. not b && held r) other ∙ e) e

left_good : (k : ℕ) (held : ℕ → Bool) (keep : List RowId) (a : Answer) (s : State) → is_success a ≡ true → Good held k s → Good (holds_next k held (op.Leave keep) a) (levels_next k (op.Leave keep) a) (left s)
left_good k held keep a s done g =
    let next : levels_next k (op.Leave keep) a ≡ k - 1 = ap (λ b. cond b (k - 1) k) done in
    elim (eqb_tells s.level 1) [
      | inl one ↦
          subst (λ b. Good (holds_next k held (op.Leave keep) a) (levels_next k (op.Leave keep) a) (left_if b s)) (sym one.0)
          (let x : 0 ≡ k - 1 = (let l = g.0 in let e = one.1 in omega (arith, l, e)) in (x ∙ sym next, shared_claim (holds_next k held (op.Leave keep) a) s.frames))
      | inr more ↦
          subst (λ b. Good (holds_next k held (op.Leave keep) a) (levels_next k (op.Leave keep) a) (left_if b s)) (sym more.0)
          (ap (λ n. n - 1) g.0 ∙ sym next, frames_more held (holds_next k held (op.Leave keep) a) s.frames (left_among k held keep a (sym (ap (λ n. n == 1) g.0) ∙ more.0)) g.1)
    ]

-- ---- an answer that is heard

module _ (schema : SchemaData) (p : Program) (a : Answer) (ks : List StackEntry) (s : State) (unrefused : a ≢ answer.Refused) (heard : IsHeard a) (h : IsShaped ks) where
  upgrade_heard : (k : ℕ) (held : ℕ → Bool) (t b : ℕ) (row : RowId) (values : List Value) (made : Option ℕ) → Fits schema (op.Lock t row true true) a → Good held k s → Needs (with_row row held) (b ∷ []) ks s →
      Sound (holds_next k held (op.Lock t row true true) a) (levels_next k (op.Lock t row true true) a) (config_if (is_gone a) (fault (RecordIsGone b) ks s) (config (Unwind Normal) ks (holding b (Record row values Exclusive made) s)))
  upgrade_heard k held t b row values made fits g n =
      let now : Good (holds_next k held (op.Lock t row true true) a) (levels_next k (op.Lock t row true true) a) s = good_after k held (op.Lock t row true true) a tt s g in
      let x = Record row values Exclusive made in
      sound_if (is_gone a) (holds_next k held (op.Lock t row true true) a) (levels_next k (op.Lock t row true true) a) (fault (RecordIsGone b) ks s) (config (Unwind Normal) ks (holding b x s)) (λ _. (h, now))
      (λ gone.
      let granted = lock_done schema t row a fits unrefused heard gone in
      let row_is : holds_next k held (op.Lock t row true true) a row.0 ≡ true = ap (λ a. holds_next k held (op.Lock t row true true) a row.0) granted ∙ granted_row k held t row true in
      let among : AreAmong (with_row row held) (holds_next k held (op.Lock t row true true) a) = subst (λ a. AreAmong (with_row row held) (holds_next k held (op.Lock t row true true) a)) (sym granted) (one_granted k held t row) in (
        h,
        (
          (now.0, holding_keeps (holds_next k held (op.Lock t row true true) a) b x s now.1 row_is),
          needs_locked (holds_next k held (op.Lock t row true true) a) b [] ks (holding b x s) (held_locks b x s tt)
              (needs_more (with_row row held) (holds_next k held (op.Lock t row true true) a) (b ∷ []) ks s (holding b x s) among (holding_locks b x s tt) n),
        ),
      ))

  heard_sound : (k : ℕ) (held : ℕ → Bool) (o : Op) (on : OnAnswer) → Fits schema o a → IsInside k o → Good held k s → Awaits held o on ks s → Sound (holds_next k held o a) (levels_next k o a) (answer_step p on a ks s)
  heard_sound k held o (WasInserted place t vs made) fits can g w =
      subst (λ o. Sound (holds_next k held o a) (levels_next k o a) (answer_step p (WasInserted place t vs made) a ks s)) (sym w.0)
      (insert_sound (holds_next k held (op.Insert t vs) a) (levels_next k (op.Insert t vs) a) (row_in a) place t vs made (refusal_in place.number t a) ks s (inserted_held k held t vs a) h (good_after k held (op.Insert t vs) a tt s g) (needs_after k held (op.Insert t vs) a tt [] ks s w.1))
  heard_sound k held o WasDropped fits can g w =
      subst (λ o. Sound (holds_next k held o a) (levels_next k o a) (answer_step p WasDropped a ks s)) (sym w.1)
      (h, ((g.0 ∙ sym (same_if (is_success a) k k refl), frames_more (without_row w.0 held) (holds_next k held (op.Drop w.0) a) s.frames (dropped_among k held w.0 a) w.2), free_needs (holds_next k held (op.Drop w.0) a) [] ks s w.3))
  heard_sound k held o WasLeft fits can g w =
      subst (λ o. Sound (holds_next k held o a) (levels_next k o a) (answer_step p WasLeft a ks s)) (sym w.1)
      (h, (left_good k held w.0 a s (leave_done schema w.0 a (subst (λ o. Fits schema o a) w.1 fits) unrefused heard) g, free_needs (holds_next k held (op.Leave w.0) a) [] ks (left s) w.2))
  heard_sound k held o (WasBack copy but) fits can g w =
      let done = back_done schema copy.depth a (subst (λ o. Fits schema o a) w.0 fits) unrefused heard in
      let is_open : IsInside k (op.Back copy.depth) = subst (IsInside k) w.0 can in
      let least : min copy.depth k ≡ copy.depth = (let l = is_open.1 in grind (arith, l)) in
      subst (λ o. Sound (holds_next k held o a) (levels_next k o a) (answer_step p (WasBack copy but) a ks s)) (sym w.0)
      (h, (sym (ap (λ b. cond b (min copy.depth k) k) done ∙ least), frames_more held (holds_next k held (op.Back copy.depth) a) s.frames (among_back k copy.depth held a) g.1, w.1))
  heard_sound k held o (WasGot place row lock made) fits can g w =
      let c = calm_after k held o a (reading_grows o w.0) ks s h g w.2 in (
        h,
        (
          (c.good.0, holding_in_keeps (holds_next k held o a) place (got_content (values_in a) row lock made) s c.good.1 (got_claims (holds_next k held o a) k (values_in a) row lock made (claims_more held (holds_next k held o a) (Record row [] lock made) (grows k held o a (reading_grows o w.0)) w.1))),
          free_needs (holds_next k held o a) [] ks _ w.2,
        ),
      )
  heard_sound k held o (WasSecond n q at values) fits can g w = second_sound (holds_next k held o a) (levels_next k o a) p (found_in a) n q at values ks s (calm_after k held o a (reading_grows o w.0) ks s h g w.1)
  heard_sound k held o (WasNext n q) fits can g w = next_sound (holds_next k held o a) (levels_next k o a) p (found_in a) n q ks s (calm_after k held o a (reading_grows o w.0) ks s h g w.1)
  heard_sound k held o (WasGranted r retry row) fits can g w =
      subst (λ o. Sound (holds_next k held o a) (levels_next k o a) (answer_step p (WasGranted r retry row) a ks s)) (sym w.2)
      (grant_sound (holds_next k held (op.Lock w.0 row (is_exclusive r.lock) w.1) a) (levels_next k (op.Lock w.0 row (is_exclusive r.lock) w.1) a) (grant_in a) r retry row ks s (granted_claims k held w.0 row w.1 r.lock None a) (calm_after k held (op.Lock w.0 row (is_exclusive r.lock) w.1) a tt ks s h g w.3))
  heard_sound k held o (WasRead r retry row lock) fits can g w =
      read_sound (holds_next k held o a) (levels_next k o a) p (values_in a) r retry row lock ks s (claims_more held (holds_next k held o a) (Record row [] lock None) (grows k held o a (reading_grows o w.0)) w.1) (calm_after k held o a (reading_grows o w.0) ks s h g w.2)
  heard_sound k held o (CurrentGranted r row made) fits can g w =
      subst (λ o. Sound (holds_next k held o a) (levels_next k o a) (answer_step p (CurrentGranted r row made) a ks s)) (sym w.2)
      (current_grant_sound (holds_next k held (op.Lock w.0 row (is_exclusive r.lock) w.1) a) (levels_next k (op.Lock w.0 row (is_exclusive r.lock) w.1) a) (grant_in a) r row made ks s (granted_claims k held w.0 row w.1 r.lock made a) (calm_after k held (op.Lock w.0 row (is_exclusive r.lock) w.1) a tt ks s h g w.3))
  heard_sound k held o (WasCurrent r row made) fits can g w =
      current_sound (holds_next k held o a) (levels_next k o a) (values_in a) r row made ks s (claims_more held (holds_next k held o a) (Record row [] (held_as r.lock) made) (grows k held o a (reading_grows o w.0)) w.1) (calm_after k held o a (reading_grows o w.0) ks s h g w.2)
  heard_sound k held o (WasCounted t) fits can g w =
      count_sound (holds_next k held o a) (levels_next k o a) (number_in a) t ks s h (good_after k held o a (reading_grows o w.0) s g) (needs_after k held o a (reading_grows o w.0) [] ks s w.1)
  heard_sound k held o (WasUpgraded b row values made) fits can g w =
      subst (λ o. Sound (holds_next k held o a) (levels_next k o a) (answer_step p (WasUpgraded b row values made) a ks s)) (sym w.1)
      (upgrade_heard k held w.0 b row values made (subst (λ o. Fits schema o a) w.1 fits) g w.2)
  heard_sound k held o (WasPut b t) fits can g w =
      subst (λ o. Sound (holds_next k held o a) (levels_next k o a) (answer_step p (WasPut b t) a ks s)) (sym w.2)
      (refused_sound (holds_next k held (op.Put t w.0 w.1) a) (levels_next k (op.Put t w.0 w.1) a) (refusal_in b t a) ks s h (good_after k held (op.Put t w.0 w.1) a tt s g) (needs_after k held (op.Put t w.0 w.1) a tt [] ks s w.4))
  heard_sound k held o (WasDeleted b) fits can g w =
      let c : Calm (holds_next k held (op.Delete w.0 w.1) a) (levels_next k (op.Delete w.0 w.1) a) ks s = calm_after k held (op.Delete w.0 w.1) a tt ks s h g w.4 in
      subst (λ o. Sound (holds_next k held o a) (levels_next k o a) (answer_step p (WasDeleted b) a ks s)) (sym w.2)
      (sound_if (is_gone a) (holds_next k held (op.Delete w.0 w.1) a) (levels_next k (op.Delete w.0 w.1) a) (fault (RecordIsGone b) ks s) (config (Unwind Normal) ks (emptied b s)) (λ _. (c.shaped, c.good))
      (λ _. calm_done (holds_next k held (op.Delete w.0 w.1) a) (levels_next k (op.Delete w.0 w.1) a) ks (emptied b s) (to (holds_next k held (op.Delete w.0 w.1) a) (levels_next k (op.Delete w.0 w.1) a) ks s (emptied b s) (emptied_state b s) c)))
  heard_sound k held o (WasEntered b t retry body d) fits can g w =
      let done = enter_done schema a (subst (λ o. Fits schema o a) w.0 fits) unrefused heard in
      subst (λ o. Sound (holds_next k held o a) (levels_next k o a) (answer_step p (WasEntered b t retry body d) a ks s)) (sym w.0)
      (h, ((ap (λ n. n + 1) g.0 ∙ sym (ap (λ b. cond b (k + 1) k) done), frames_more held (holds_next k held op.Enter a) s.frames (among_entered k held a) g.1), w.1))

-- ---- an answer

pub answer_sound : (schema : SchemaData) (p : Program) (k : ℕ) (held : ℕ → Bool) (a : Answer) (o : Op) (on : OnAnswer) (ks : List StackEntry) (s : State) → Fits schema o a → a ≢ answer.Refused → IsInside k o → Sound held k (config (Await o on) ks s) →
    Sound (holds_next k held o a) (levels_next k o a) (answered p a o on ks s)
answer_sound schema p k held (answer.Blocked holders) o on ks s fits unrefused can x = x
answer_sound schema p k held answer.NoMemory o on ks s fits unrefused can x = (x.0, x.1.0)
answer_sound schema p k held answer.Closed o on ks s fits unrefused can x = (x.0, x.1.0)
answer_sound schema p k held (answer.Deadlock cycle) o on ks s fits unrefused can x = (x.0, x.1.0)
answer_sound schema p k held answer.TxFull o on ks s fits unrefused can x = (x.0, x.1.0)
answer_sound schema p k held answer.TraceFull o on ks s fits unrefused can x = (x.0, x.1.0)
answer_sound schema p k held a o on ks s fits unrefused can x = heard_sound schema p a ks s unrefused tt x.0 k held o on fits can x.1.0 x.1.1
