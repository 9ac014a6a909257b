-- An answer leaves no record pending outside of a transaction.
use Rattle.std.proofs.Common.{◌≡◌, ◌≢◌, ◌<◌, ◌≤◌, inl, inr, refl, sym, ap, ◌∙◌, subst, ℕ, zero, suc, ◌+◌, Bool, true, false, cond, List, [], ◌∷◌, Option, Some, None, map, arith, ℤ}
use Rattle.std.specs.Prelude.{◌==◌}
use Rattle.std.proofs.lemmas.Bool.Decides.{eqb_tells}
use Rattle.abl_base.specs.declared.row.RowId.{RowId}
use Rattle.abl_base.specs.declared.value.Value.{Value}
use Rattle.abl_base.specs.declared.value.Value.TheVariants.{Int64}
use Rattle.abl_values.specs.Schema.{SchemaData}
use Rattle.database_protocol.specs.declared.row_order.Cursor.{Cursor}
use Rattle.database_protocol.specs.declared.answer.Answer.{Answer}
use Rattle.database_protocol.specs.declared.answer.Answer.TheVariants as answer
use Rattle.database_protocol.specs.declared.operation.Op.{Op}
use Rattle.database_protocol.specs.declared.operation.Op.TheVariants as op
use Rattle.bound_tree.specs.declared.statement.Target.{Target}
use Rattle.bound_tree.specs.Tree.{Body, Header, Reading}
use Rattle.database_meaning.specs.Fits.{Fits as HasAnswer}
use Rattle.database_meaning.specs.Steps.{is_success}
use Rattle.block_meaning.specs.Blocks.{deeper}
use Rattle.block_meaning.specs.Buffers.{Place, got_content, holding_in, left, left_if, own}
use Rattle.block_meaning.specs.Changes.{stored}
use Rattle.block_meaning.specs.Frames.{copy_of, emptied, holding, marked_locked, table_of, with_spot}
use Rattle.block_meaning.specs.Lines.{Complaint, IsLocked, MoreThanOne, NoRecordFound, OutOfRange, RecordIsGone}
use Rattle.block_meaning.specs.Program.{Program}
use Rattle.block_meaning.specs.Reads.{Search, held_as, next_shown, shows, spot_at}
use Rattle.block_meaning.specs.State.{Turn, Empty, Exclusive, Held, Lost, NoLock, Normal, NotFound, Record, State}
use Rattle.block_meaning.specs.Views.{FoundRow, Grant, IsBusy, IsGone, IsGranted, found_in, grant_in, is_gone, number_in, refusal_in, row_in, values_in}
use Rattle.flat_machine.specs.Config.{Await, Begins, Config, CurrentGranted, Empties, ErrorComes, Execute, Looks, OnAnswer, OrDo, Seconds, StackEntry, Takes, ThenDo, Unwind, WasBack, WasCounted, WasCurrent, WasDeleted, WasDropped, WasEntered, WasGot, WasGranted, WasInserted, WasLeft, WasNext, WasPut, WasRead, WasSecond, WasUpgraded}
use Rattle.flat_machine.specs.Machine.{answer_step, answered, busy_answered, count_answered, current_answered, current_grant_answered, grant_answered, insert_answered, next_answered, none_answered, read_answered, refused_answered, second_answered}
use Rattle.flat_machine.specs.Steps.{config, config_if, fault}
use Rattle.client_runner.specs.Levels.{levels_after}
use Rattle.machine_laws.proofs.LevelsLemmas.Answers.{IsHeard, levels_next}
use Rattle.machine_laws.proofs.LevelsLemmas.Kept.{AwaitAt, IsStill, StackAt, Sound}
use Rattle.machine_laws.proofs.LevelsLemmas.Parts.{stored_class}
use Rattle.machine_laws.proofs.PendingLemmas.Pends.{FramesClaim, None_is, copy_claims, frames_more, holding_in_keeps, shared_claim}
use Rattle.machine_laws.proofs.PendingLemmas.Places.{PendingAmong, none_pending, shared_among}
use Rattle.machine_laws.proofs.PendingLemmas.Kept.{AfterLeave, AwaitFits, IsIn, IsMarked, IsReading, Kept, LeavesTo, ModeFits, Rests, Want, rests_want, want_moves}
use Rattle.machine_laws.proofs.PendingLemmas.Parts.{Fits, Keeps, Stays, asks, done, emptied_stays, faulted, fresh, held_moves, marked_stays, normal, plain_carries, rests_follow, shows_stays, spot_stays, stays_then, stays_want, stores_keep, tests, to, unwinds, want_follow}

-- what was inserted is what was asked
abbrev pub IsInsertOf : Op → OnAnswer → Type 0
IsInsertOf o (WasInserted place t values made) = o ≡ op.Insert t values
IsInsertOf o on = Unit {0}

levels_stay : (tree : ℕ → Body) (k : ℕ) (o : Op) → IsStill tree o → levels_after k o ≡ k
levels_stay tree k op.Enter is = absurd is
levels_stay tree k (op.Leave keep) is = absurd is
levels_stay tree k (op.Back depth) is = absurd is
levels_stay tree k op.End is = absurd is
levels_stay tree k o is = refl

same_if : (b : Bool) (j k : ℕ) → j ≡ k → cond b j k ≡ k
same_if true j k e = e
same_if false j k e = refl

-- an Insert made a row, or was refused with a reason
insert_done : (schema : SchemaData) (t : ℕ) (vs : List Value) (b u : ℕ) (a : Answer) → HasAnswer schema (op.Insert t vs) a → a ≢ answer.Refused → IsHeard a → row_in a ≡ None → refusal_in b u a ≡ None → ⊥
insert_done schema t vs b u (answer.Inserted row) fits unrefused heard r f = cc
insert_done schema t vs b u (answer.KeyTooLong index) fits unrefused heard r f = cc
insert_done schema t vs b u (answer.Duplicate index row) fits unrefused heard r f = cc
insert_done schema t vs b u answer.Full fits unrefused heard r f = cc
insert_done schema t vs b u answer.Refused fits unrefused heard r f = unrefused refl
insert_done schema t vs b u (answer.Blocked holders) fits unrefused heard r f = heard
insert_done schema t vs b u answer.NoMemory fits unrefused heard r f = heard
insert_done schema t vs b u answer.Closed fits unrefused heard r f = heard
insert_done schema t vs b u (answer.Deadlock cycle) fits unrefused heard r f = heard
insert_done schema t vs b u answer.TxFull fits unrefused heard r f = heard
insert_done schema t vs b u answer.TraceFull fits unrefused heard r f = heard
insert_done schema t vs b u a fits unrefused heard r f = fits

-- ---- what follows an answer that leaves the levels

module _ (m k : ℕ) where
  insert_fits : (made_row : Option RowId) (place : Place) (t : ℕ) (vs : List Value) (made : ℕ) (f : Option Complaint) (ks : List StackEntry) (s : State) → (made_row ≡ None → f ≡ None → ⊥) → IsIn m k ks s → Want (place ∷ []) ks s.frames k → Fits m k (insert_answered made_row place t vs made f ks s)
  insert_fits (Some row) place t vs made f ks s x i w =
      let c = Record row vs Exclusive (Some made) in
      normal m k ks (holding_in place c s) (to m k ks s (holding_in place c s) (record { made = refl; claims = λ held h. holding_in_keeps held place c s h tt }) i) (want_moves (place ∷ []) [] ks s.frames (holding_in place c s).frames k (held_moves place c s (λ h. h) (λ held. tt)) w)
  insert_fits None place t vs made (Some f) ks s x i w = faulted m k (Some f) ks s i
  insert_fits None place t vs made None ks s x i w = absurd (x refl refl)

  refused_fits : (f : Option Complaint) (ks : List StackEntry) (s : State) → IsIn m k ks s → Rests ks → Fits m k (refused_answered f ks s)
  refused_fits (Some f) ks s i r = faulted m k (Some f) ks s i
  refused_fits None ks s i r = done m k ks s i r

  stays_in : (ks : List StackEntry) (s t : State) → Stays s t → IsIn m k ks s → IsIn m k ks t
  stays_in ks s t x i = to m k ks s t x.keeps i

  got_fits : (vs : Option (List Value)) (place : Place) (row : RowId) (lock : Held) (made : Option ℕ) (ks : List StackEntry) (s : State) → IsIn m k ks s → Want (place ∷ []) ks s.frames k → Fits m k (config (Unwind Normal) ks (holding_in place (got_content vs row lock made) s))
  got_fits None place row lock made ks s i w =
      normal m k ks (holding_in place Empty s) (to m k ks s (holding_in place Empty s) (record { made = refl; claims = λ held h. holding_in_keeps held place Empty s h tt }) i) (want_moves (place ∷ []) [] ks s.frames (holding_in place Empty s).frames k (held_moves place Empty s (λ h. h) (λ held. tt)) w)
  got_fits (Some values) place row lock made ks s i w =
      let c = Record row values lock made in
      normal m k ks (holding_in place c s) (to m k ks s (holding_in place c s) (record { made = refl; claims = λ held h. holding_in_keeps held place c s h tt }) i) (want_moves (place ∷ []) [] ks s.frames (holding_in place c s).frames k (held_moves place c s (λ h. h) (λ held. tt)) w)

  lost_fits : (b : ℕ) (ks : List StackEntry) (s : State) → IsIn m k ks s → Want [] ks s.frames k → Fits m k (config (Unwind Lost) ks (emptied b s))
  lost_fits b ks s i w = unwinds m k Lost ks (emptied b s) (stays_in ks s (emptied b s) (emptied_stays b s) i) tt (want_follow Lost ks (emptied b s).frames k (stays_want [] ks s (emptied b s) k (emptied_stays b s) w))

  read_fits : (p : Program) (vs : Option (List Value)) (r : Reading) (retry : Bool) (row : RowId) (lock : Held) (ks : List StackEntry) (s : State) → IsIn m k ks s → Want [] ks s.frames k → Fits m k (read_answered p vs r retry row lock ks s)
  read_fits p (Some values) r retry row lock ks s i w =
      let shown = shows_stays r.buffer row values NoLock None s in
      tests m k p r.test r.buffer retry (λ s. config (Unwind Normal) ks (holding r.buffer (Record row values lock None) s)) (λ s. config (Unwind Lost) ks s) ks (shows r.buffer row values s) (stays_in ks s (shows r.buffer row values s) shown i) (stays_want [] ks s (shows r.buffer row values s) k shown w)
      (λ t j v. normal m k ks (holding r.buffer (Record row values lock None) t) (stays_in ks t (holding r.buffer (Record row values lock None) t) (shows_stays r.buffer row values lock None t) j) (stays_want [] ks t (holding r.buffer (Record row values lock None) t) k (shows_stays r.buffer row values lock None t) v))
      (λ t j v. unwinds m k Lost ks t j tt (want_follow Lost ks t.frames k v))
  read_fits p None r retry row lock ks s i w = lost_fits r.buffer ks s i w

  busy_fits : (b : ℕ) (ks : List StackEntry) (s : State) → IsIn m k ks s → Fits m k (busy_answered b ks s)
  busy_fits b ks s i = faulted m k (Some (IsLocked b)) ks (marked_locked b true (emptied b s)) (stays_in ks (emptied b s) (marked_locked b true (emptied b s)) (marked_stays b true (emptied b s)) (stays_in ks s (emptied b s) (emptied_stays b s) i))

  grant_fits : (g : Grant) (r : Reading) (retry : Bool) (row : RowId) (ks : List StackEntry) (s : State) → IsIn m k ks s → Want [] ks s.frames k → Fits m k (grant_answered g r retry row ks s)
  grant_fits IsGranted r retry row ks s i w = asks m k (op.Get (table_of r.buffer s) row) (WasRead r retry row (held_as r.lock)) ks s i w
  grant_fits IsBusy r retry row ks s i w = busy_fits r.buffer ks s i
  grant_fits IsGone r retry row ks s i w = lost_fits r.buffer ks s i w

  second_fits : (p : Program) (x : Option FoundRow) (n : ℕ) (q : Search) (at : Cursor) (values : List Value) (ks : List StackEntry) (s : State) → IsIn m k ks s → Want [] ks s.frames k → Fits m k (second_answered p x n q at values ks s)
  second_fits p (Some x) n q at values ks s i w =
      let shown = shows_stays q.reading.buffer x.cursor.row x.values NoLock None s in
      tests m k p q.reading.test q.reading.buffer q.retry (λ s. fault (MoreThanOne q.reading.buffer) ks (emptied q.reading.buffer s)) (λ s. config (Execute (Seconds n q at values x.cursor)) ks s) ks (shows q.reading.buffer x.cursor.row x.values s)
      (stays_in ks s (shows q.reading.buffer x.cursor.row x.values s) shown i) (stays_want [] ks s (shows q.reading.buffer x.cursor.row x.values s) k shown w)
      (λ t j v. faulted m k (Some (MoreThanOne q.reading.buffer)) ks (emptied q.reading.buffer t) (stays_in ks t (emptied q.reading.buffer t) (emptied_stays q.reading.buffer t) j)) (λ t j v. (j, v))
  second_fits p None n q at values ks s i w =
      let shown = shows_stays q.reading.buffer at.row values NoLock None s in
      normal m k ks (shows q.reading.buffer at.row values s) (stays_in ks s (shows q.reading.buffer at.row values s) shown i) (stays_want [] ks s (shows q.reading.buffer at.row values s) k shown w)

  next_fits : (p : Program) (x : Option FoundRow) (n : ℕ) (q : Search) (ks : List StackEntry) (s : State) → IsIn m k ks s → IsReading ks → Want [] ks s.frames k → Fits m k (next_answered p x n q ks s)
  next_fits p (Some x) n q ks s i r w =
      let spot = spot_stays q.reading.buffer (spot_at q.reading x.cursor) s in
      let u = with_spot q.reading.buffer (spot_at q.reading x.cursor) s in
      let shown = stays_then s u (next_shown q x s) spot (shows_stays q.reading.buffer x.cursor.row x.values NoLock None u) in
      tests m k p q.reading.test q.reading.buffer q.retry (λ s. config (Execute (Takes q x.cursor x.values)) (OrDo (Looks n q (Some x.cursor)) ∷ ks) s) (λ s. config (Execute (Looks n q (Some x.cursor))) ks s) ks (next_shown q x s)
      (stays_in ks s (next_shown q x s) shown i) (stays_want [] ks s (next_shown q x s) k shown w)
      (λ t j v. ((j.0, j.1, ((tt, r), j.2)), v)) (λ t j v. (j, (r, v)))
  next_fits p None n q ks s i r w =
      let spot = spot_stays q.reading.buffer None s in
      unwinds m k NotFound ks (with_spot q.reading.buffer None s) (stays_in ks s (with_spot q.reading.buffer None s) spot i) tt (want_follow NotFound ks (with_spot q.reading.buffer None s).frames k (stays_want [] ks s (with_spot q.reading.buffer None s) k spot w))

  none_fits : (b : ℕ) (ks : List StackEntry) (s : State) → IsIn m k ks s → Fits m k (none_answered b ks s)
  none_fits b ks s i = faulted m k (Some (NoRecordFound b)) ks (emptied b s) (stays_in ks s (emptied b s) (emptied_stays b s) i)

  current_fits : (vs : Option (List Value)) (r : Reading) (row : RowId) (made : Option ℕ) (ks : List StackEntry) (s : State) → IsIn m k ks s → Rests ks → Fits m k (current_answered vs r row made ks s)
  current_fits (Some values) r row made ks s i w = done m k ks (holding r.buffer (Record row values (held_as r.lock) made) s) (stays_in ks s (holding r.buffer (Record row values (held_as r.lock) made) s) (shows_stays r.buffer row values (held_as r.lock) made s) i) w
  current_fits None r row made ks s i w = none_fits r.buffer ks s i

  current_grant_fits : (g : Grant) (r : Reading) (row : RowId) (made : Option ℕ) (ks : List StackEntry) (s : State) → IsIn m k ks s → Rests ks → Fits m k (current_grant_answered g r row made ks s)
  current_grant_fits IsGranted r row made ks s i w = asks m k (op.Get (table_of r.buffer s) row) (WasCurrent r row made) ks s i w
  current_grant_fits IsBusy r row made ks s i w = busy_fits r.buffer ks s i
  current_grant_fits IsGone r row made ks s i w = none_fits r.buffer ks s i

  count_fits : (n : Option ℤ) (t : Target) (ks : List StackEntry) (s : State) → IsIn m k ks s → Rests ks → Fits m k (count_answered n t ks s)
  count_fits (Some n) t ks s i w =
      let x = stored t (Int64 n) s in
      unwinds m k x.completion ks x.state (to m k ks s x.state (stores_keep t (Int64 n) s) i) (plain_carries m x.completion (stored_class t (Int64 n) s)) (rests_follow x.completion ks x.state.frames k w)
  count_fits None t ks s i w = faulted m k (Some OutOfRange) ks s i

  gone_fits : (b : Bool) (f : Complaint) (ks : List StackEntry) (s t : State) → Keeps s t → IsIn m k ks s → Rests ks → Fits m k (config_if b (fault f ks s) (config (Unwind Normal) ks t))
  gone_fits true f ks s t x i r = faulted m k (Some f) ks s i
  gone_fits false f ks s t x i r = done m k ks t (to m k ks s t x i) r

  -- ---- a Leave

  left_frames : (b : Bool) (s : State) → (held : ℕ → Type 0) → FramesClaim held s.frames → FramesClaim held (left_if b s).frames
  left_frames true s held h = shared_claim held s.frames h
  left_frames false s held h = h

  left_among : (b : Bool) (s : State) (places : List Place) → PendingAmong places s.frames → PendingAmong places (left_if b s).frames
  left_among true s places h = shared_among places s.frames h
  left_among false s places h = h

  left_made : (b : Bool) (s : State) → (left_if b s).made ≡ s.made
  left_made true s = refl
  left_made false s = refl

  left_marked : (s : State) → IsMarked m s → IsMarked m (left s)
  left_marked s h = (left_frames (s.level == 1) s (λ made. m < made) h.0, subst (λ n. m ≤ n) (sym (left_made (s.level == 1) s)) h.1)

  left_fits : (j : ℕ) (ks : List StackEntry) (s : State) → k ≡ j + 1 → IsIn m k ks s → LeavesTo ks → AfterLeave [] ks s.frames k → Fits m j (config (Unwind Normal) ks (left s))
  left_fits j [] s e i l w = ((left_marked s i.0, λ z. none_pending (left s).frames (left_among (s.level == 1) s [] (w (omega (arith, e, z)))), tt), tt, tt)
  left_fits j (ThenDo (ErrorComes b o passed) ∷ ks) s e i l w = absurd i.2.0
  left_fits j (ThenDo (Empties but) ∷ ks) s e i l w = (left_marked s i.0, λ z. left_among (s.level == 1) s (map own but) (w (omega (arith, e, z))), i.2)
  left_fits j (x ∷ ks) s e i l w =
      ((left_marked s i.0, λ z. none_pending (left s).frames (left_among (s.level == 1) s [] (w (omega (arith, e, z)))), i.2), tt, rests_want [] (x ∷ ks) (left s).frames j l)

-- ---- an Enter

entered : (tree : ℕ → Body) (m k : ℕ) (b : Header) (t : Turn) (retry : Bool) (body d : ℕ) (ks : List StackEntry) (s : State) → s.level ≡ k → StackAt tree ks k k → IsIn m k ks s → Rests ks → (n : ℕ) × ModeFits n (k + 1) (Execute (Begins b (Some (copy_of s)) t retry body d)) ks (deeper s)
entered tree m zero b t retry body d ks s e st i r =
    let clear = i.1 refl in
    let marked : FramesClaim (λ made. s.made < made) s.frames = frames_more None_is (λ made. s.made < made) s.frames (λ made h. absurd h) clear in
    (s.made, (((marked, omega arith), λ z. absurd (omega (arith, z)), fresh tree m s.made 0 ks st i.2), ((copy_claims (λ made. s.made < made) s marked, λ one. refl), λ one. clear, r)))
entered tree m (suc k) b t retry body d ks s e st i r =
    (m, ((i.0, λ z. absurd (omega (arith, z)), i.2), ((copy_claims (λ made. m < made) s i.0.0, λ one. absurd (omega (arith, one, e))), λ one. absurd (omega (arith, one, e)), r)))

-- ---- an answer that is heard

module _ (tree : ℕ → Body) (schema : SchemaData) (p : Program) (a : Answer) (ks : List StackEntry) (s : State) (unrefused : a ≢ answer.Refused) (heard : IsHeard a) (k : ℕ) (e : s.level ≡ k) (m : ℕ) (i : IsIn m k ks s) where
  still : (o : Op) (c : Config) → IsStill tree o → Fits m k c → Kept (levels_next k o a) c
  still o c is x = (m, subst (λ j. Fits m j c) (sym (same_if (is_success a) (levels_after k o) k (levels_stay tree k o is))) x)

  changes : (o q : Op) (c : Config) → o ≡ q → levels_after k q ≡ k → Fits m k c → Kept (levels_next k o a) c
  changes o q c is same x = (m, subst (λ j. Fits m j c) (sym (same_if (is_success a) (levels_after k o) k (ap (levels_after k) is ∙ same))) x)

  inserted : (o : Op) (place : Place) (t : ℕ) (vs : List Value) (made : ℕ) → o ≡ op.Insert t vs → HasAnswer schema o a → Want (place ∷ []) ks s.frames k → Kept (levels_next k o a) (answer_step p (WasInserted place t vs made) a ks s)
  inserted o place t vs made is fits w =
      changes o (op.Insert t vs) (answer_step p (WasInserted place t vs made) a ks s) is refl
      (insert_fits m k (row_in a) place t vs made (refusal_in place.number t a) ks s (insert_done schema t vs place.number t a (subst (λ o. HasAnswer schema o a) is fits) unrefused heard) i w)

  left_level : (j : ℕ) → k ≡ j + 1 → (left s).level ≡ j
  left_level j d =
      elim (eqb_tells s.level 1) [
        | inl one ↦ ap (λ b. (left_if b s).level) one.0 ∙ (let x = one.1 in omega (arith, x, e, d))
        | inr more ↦ ap (λ b. (left_if b s).level) more.0 ∙ (omega (arith, e, d))
      ]

  heard_fits : (o : Op) (on : OnAnswer) → HasAnswer schema o a → AwaitAt tree ks o on k → Sound tree (levels_next k o a) (answer_step p on a ks s) → IsInsertOf o on → AwaitFits m k on ks s.frames → Kept (levels_next k o a) (answer_step p on a ks s)
  heard_fits o (WasInserted place t vs made) fits l n is w = inserted o place t vs made is fits w.1
  heard_fits o WasDropped fits l n is w = still o (config (Unwind Normal) ks s) l.0 (normal m k ks s i w)
  heard_fits o WasLeft fits l n is w =
      let next : levels_next k o a ≡ l.2 = sym n.0 ∙ left_level l.2 l.4 in
      (m, subst (λ j. Fits m j (config (Unwind Normal) ks (left s))) (sym next) (left_fits m k l.2 ks s l.4 i w.0 w.1))
  heard_fits o (WasBack copy but) fits l n is w = (m, ((i.0, λ z. absurd (let x = n.1.3 in omega (arith, x, z)), i.2), (w.0, w.1)))
  heard_fits o (WasGot place row lock made) fits l n is w = still o (answer_step p (WasGot place row lock made) a ks s) l.0 (got_fits m k (values_in a) place row lock made ks s i w)
  heard_fits o (WasSecond q c at values) fits l n is w = still o (answer_step p (WasSecond q c at values) a ks s) l.0 (second_fits m k p (found_in a) q c at values ks s i w)
  heard_fits o (WasNext q c) fits l n is w = still o (answer_step p (WasNext q c) a ks s) l.0 (next_fits m k p (found_in a) q c ks s i w.0 w.1)
  heard_fits o (WasGranted r retry row) fits l n is w = still o (answer_step p (WasGranted r retry row) a ks s) l.0 (grant_fits m k (grant_in a) r retry row ks s i w)
  heard_fits o (WasRead r retry row lock) fits l n is w = still o (answer_step p (WasRead r retry row lock) a ks s) l.0 (read_fits m k p (values_in a) r retry row lock ks s i w)
  heard_fits o (CurrentGranted r row made) fits l n is w = still o (answer_step p (CurrentGranted r row made) a ks s) l.0 (current_grant_fits m k (grant_in a) r row made ks s i w)
  heard_fits o (WasCurrent r row made) fits l n is w = still o (answer_step p (WasCurrent r row made) a ks s) l.0 (current_fits m k (values_in a) r row made ks s i w)
  heard_fits o (WasCounted t) fits l n is w = still o (answer_step p (WasCounted t) a ks s) l.0 (count_fits m k (number_in a) t ks s i w)
  heard_fits o (WasUpgraded b row values made) fits l n is w =
      still o (answer_step p (WasUpgraded b row values made) a ks s) l.0 (gone_fits m k (is_gone a) (RecordIsGone b) ks s (holding b (Record row values Exclusive made) s) (shows_stays b row values Exclusive made s).keeps i w)
  heard_fits o (WasPut b t) fits l n is w = changes o (op.Put t l.0 l.1) (answer_step p (WasPut b t) a ks s) l.2 refl (refused_fits m k (refusal_in b t a) ks s i w)
  heard_fits o (WasDeleted b) fits l n is w = changes o (op.Delete l.0 l.1) (answer_step p (WasDeleted b) a ks s) l.2 refl (gone_fits m k (is_gone a) (RecordIsGone b) ks s (emptied b s) (emptied_stays b s).keeps i w)
  heard_fits o (WasEntered b t retry body d) fits l n is w =
      let next : k + 1 ≡ levels_next k o a = ap (λ x. x + 1) (sym e) ∙ n.0 in
      subst (λ j. Kept j (answer_step p (WasEntered b t retry body d) a ks s)) next (entered tree m k b t retry body d ks s e l.2 i w)

-- ---- an answer

pub answer_fits : (tree : ℕ → Body) (schema : SchemaData) (p : Program) (k : ℕ) (o : Op) (on : OnAnswer) (ks : List StackEntry) (s : State) (a : Answer) → HasAnswer schema o a → a ≢ answer.Refused → Sound tree k (config (Await o on) ks s) → Sound tree (levels_next k o a) (answered p a o on ks s) → IsInsertOf o on →
    Kept k (config (Await o on) ks s) → Kept (levels_next k o a) (answered p a o on ks s)
answer_fits tree schema p k o on ks s (answer.Blocked holders) fits unrefused l n is x = x
answer_fits tree schema p k o on ks s answer.NoMemory fits unrefused l n is x = (x.0, tt)
answer_fits tree schema p k o on ks s answer.Closed fits unrefused l n is x = (x.0, tt)
answer_fits tree schema p k o on ks s (answer.Deadlock cycle) fits unrefused l n is x = (x.0, tt)
answer_fits tree schema p k o on ks s answer.TxFull fits unrefused l n is x = (x.0, tt)
answer_fits tree schema p k o on ks s answer.TraceFull fits unrefused l n is x = (x.0, tt)
answer_fits tree schema p k o on ks s a fits unrefused l n is x = heard_fits tree schema p a ks s unrefused tt k l.0 x.0 x.1.0 o on fits l.1 n is x.1.1
