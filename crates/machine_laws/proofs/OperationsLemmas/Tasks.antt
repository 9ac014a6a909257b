-- A task keeps what the buffers claim, and asks Put and Delete of locked rows alone.
use Rattle.std.proofs.Common.{◌≡◌, inl, inr, refl, sym, ap, subst, ℕ, zero, suc, ◌+◌, Bool, true, false, List, [], ◌∷◌, ◌++◌, Option, Some, None, length, map, append-nil, arith}
use Rattle.std.specs.Prelude.{◌==◌, ◌&&◌, ◌||◌, not, nat_lt, pos}
use Rattle.std.proofs.lemmas.Bool.Decides.{nat_tests}
use Rattle.abl_base.specs.declared.limits.TheConstants.{MAX_ROW_BYTES}
use Rattle.abl_base.specs.declared.row.RowId.{RowId}
use Rattle.abl_base.specs.declared.value.Value.{Value}
use Rattle.abl_base.specs.declared.value.Value.TheVariants.{Int64}
use Rattle.abl_values.specs.Rows.{bytes_of_row}
use Rattle.database_protocol.specs.declared.row_order.Cursor.{Cursor}
use Rattle.database_protocol.specs.declared.operation.Op.TheVariants as op
use Rattle.bound_tree.specs.declared.block.LockWanted.{LockWanted}
use Rattle.bound_tree.specs.declared.block.LockWanted.TheVariants as wanted
use Rattle.bound_tree.specs.declared.statement.FindWord.{FindWord}
use Rattle.bound_tree.specs.declared.statement.FindWord.TheVariants as find
use Rattle.bound_tree.specs.declared.statement.Target.{Target}
use Rattle.bound_tree.specs.Tree.{Action, Assign, Choose, Create, CurrentOf, Export, ExportRecord, Expr, Fetch, Find, FindCurrent, Given, Header, Import, Inner, InputClose, InputFrom, LeaveBlock, Message, NextBlock, NextOf, OnPhrase, OutputClose, OutputTo, PutItems, Reading, Release, Remove, Return, ReturnError, Right, Run, Stmt, Stop, ThenError, ThenLeave, ThenNext, ThenRetry, ThenReturn, ToPhrase, UndoBlock, ValueOf}
use Rattle.expression_meaning.specs.Operators.{holds}
use Rattle.abl_base.specs.text_forms.TextForms.{AtInputEnd, BadElement, Elements, Imported}
use Rattle.block_meaning.specs.declared.wants.Piece.TheVariants.{Opened, Wrote}
use Rattle.block_meaning.specs.Blocks.{Iteration, complained, counts_down, enters_at, first_turn, handles_endkey, in_bound, instead_of_retry, iterates, next_turn, next_value, passed_with, retry_in}
use Rattle.block_meaning.specs.Buffers.{Place, all_places, buffer_in, holding_in, is_left_out, is_row_in, keep_of, made_later, missing_field, own}
use Rattle.block_meaning.specs.Changes.{begun, buffers_in, all_begun, stored, stored_if}
use Rattle.block_meaning.specs.Frames.{is_in, all_emptied, assigned, content_of, emptied, locked_row, marked_locked, table_of, value_of}
use Rattle.block_meaning.specs.Lines.{RecordTooLong}
use Rattle.block_meaning.specs.Meaning.{argument_values, cleared}
use Rattle.block_meaning.specs.Program.{Program, procedure_at, table_at}
use Rattle.block_meaning.specs.Reads.{held_as, Search, is_each, is_exclusive, is_forward}
use Rattle.block_meaning.specs.State.{Again, Completion, Content, Copy, Empty, EndKeys, Exclusive, Held, NoLock, Normal, NotFound, Passed, Pending, Raises, Record, Share, State, Stops, Turn, Undoes, nothing_passed, wrote}
use Rattle.block_meaning.specs.Streams.{line_now, read_to, stream_at, with_stream}
use Rattle.block_meaning.specs.Values.{Evaluated, EvaluatedAll, Fails, FailsAll, Gives, GivesAll, HasFault, IsText, Text, export_line, fit, message_line, put_text, value_now, values_now}
use Rattle.flat_machine.specs.Code.{Code, Ends, Instr, Opens, Plain, Tests}
use Rattle.flat_machine.specs.Config.{Acts, AfterBack, Assigns, AssignsEach, AssignsOne, Begins, Begun, Blocks, Calls, Closes, Closing, Completes, Config, Creates, CurrentGranted, Deletes, DeletesRow, Drops, Empties, EndKeyComes, EndsWith, Enters, EntersLevel, EntersOne, EntersRest, ErrorComes, Execute, Fetches, FetchesFrom, Finds, FindsAs, FindsCurrent, GoesBack, Imports, IsOnly, Iterates, LeavesIf, LeavesNow, LocksAll, LocksOne, Looks, Passes, Releases, RunsFrom, Searches, Seconds, SettlesAll, SettlesOne, StackEntry, Takes, TakesAgain, TakesAs, Task, ThenDo, Turns, UndoComes, Unwind, Updates, UpdatesOne, Handles, WasBack, WasCounted, WasCurrent, WasDeleted, WasDropped, WasEntered, WasGot, WasGranted, WasInserted, WasLeft, WasNext, WasPut, WasRead, WasSecond, WasUpgraded}
use Rattle.flat_machine.specs.Machine.{task_step}
use Rattle.flat_machine.specs.Steps.{act_step, advance_step, ask, assign_step, begins_step, block_step, by_step, choose_step, config, config_if, current_in_step, current_step, delete_step, drop_step, ends_step, endkey_step, ends_as, enter_step, error_step, export_step, fault, fetch_step, find_step, given_step, given_text_step, import_step, insert_unless, instr_step, lock_step, loop_step, only_step, put_unless, reach_step, search_step, set_step, settle_step, stmt_step, take_again_step, take_step, turn_step, update_step, upgrade_step, while_step, wrote_to}
use Rattle.machine_laws.proofs.OperationsLemmas.Claims.{AreAmong, Claims, all_emptied_keeps, all_emptied_level, content_claims, dropped_keeps, holding_in_keeps, holding_keeps, marked_keeps, of_values, opened_keeps, place_claims, put_back_keeps}
use Rattle.machine_laws.proofs.OperationsLemmas.Kept.{AreLocked, AtMode, Calm, Good, IsFree, IsLocked, IsPlain, IsShaped, Needs, Sound, free_needs, needs_cover, needs_locked, needs_more, with_row}
use Rattle.machine_laws.proofs.OperationsLemmas.Parts.{Keeps, asks, assigns_sound, calm_asks, calm_done, calm_unwinds, cleared_state, complained_state, costs, assigned_state, emptied_state, ends_sound, given_all_sound, given_sound, good_to, read_to_state, sound_if, stored_assigns, stored_if_assigns, to, unwinds, wrote_state}

-- ---- needs

-- the units make no difference
in_units : (held : ℕ → Bool) (but : List ℕ) (ks : List StackEntry) (s : State) (m : ℕ) → Needs held but ks s → Needs held but ks (record s { units = m })
in_units held but ks s m n = needs_more held held but ks s (record s { units = m }) (λ r e. e) (λ b l. l) n

row_self : (row : RowId) (held : ℕ → Bool) → with_row row held row.0 ≡ true
row_self row held = grind (arith, nat_tests)

one_more : (row : RowId) (held : ℕ → Bool) → AreAmong held (with_row row held)
one_more row held r e = go (row.0 == r)
  where
    go : (b : Bool) → (b || held r) ≡ true
    go true = refl
    go false = e

calm : (held : ℕ → Bool) (k : ℕ) (ks : List StackEntry) (s : State) → IsShaped ks → Good held k s → IsFree ks → Calm held k ks s
calm held k ks s h g f = record { good = g; shaped = h; free = f }

module _ (held : ℕ → Bool) (k : ℕ) where
  -- ---- buffers

  insert_sound : (o : Option ℕ) (p : Program) (place : Place) (t : ℕ) (vs : List Value) (made : ℕ) (ks : List StackEntry) (s : State) → IsShaped ks → Good held k s → Needs held [] ks s → Sound held k (insert_unless o p place t vs made ks s)
  insert_sound (Some f) p place t vs made ks s h g n = (h, g)
  insert_sound None p place t vs made ks s h g n =
      sound_if (nat_lt MAX_ROW_BYTES (length (bytes_of_row vs))) held k (fault (RecordTooLong t) ks s) (ask (op.Insert t vs) (WasInserted place t vs made) ks s) (λ _. (h, g))
      (λ _. asks held k (op.Insert t vs) (WasInserted place t vs made) ks s h g (λ m. (refl, in_units held [] ks s m n)))

  enter_sound : (p : Program) (place : Place) (t : ℕ) (c : Content) (ks : List StackEntry) (s : State) → IsShaped ks → Good held k s → Needs held [] ks s → Sound held k (enter_step p place t c ks s)
  enter_sound p place t Empty ks s h g n = (h, (g, n))
  enter_sound p place t (Record row vs lock made) ks s h g n = (h, (g, n))
  enter_sound p place t (Pending vs since made) ks s h g n = insert_sound (missing_field 0 (table_at p t).fields vs) p place t vs made ks s h g n

  alone : (a b : Bool) → (a && not b) ≡ true → b ≡ false
  alone true true e = cc
  alone true false e = refl
  alone false b e = cc

  drop_sound : (o : Option RowId) (b : ℕ) (ks : List StackEntry) (s : State) → Calm held k ks s → Sound held k (drop_step o b ks s)
  drop_sound None b ks s c = calm_done held k ks (emptied b s) (to held k ks s (emptied b s) (emptied_state b s) c)
  drop_sound (Some row) b ks s c =
      let e = to held k ks s (emptied b s) (emptied_state b s) c in
      sound_if ((s.level == 0) && not (is_row_in row (keep_of (b ∷ []) s))) held k (ask (op.Drop row) WasDropped ks (emptied b s)) (config (Unwind Normal) ks (emptied b s))
      (λ is. calm_asks held k (op.Drop row) WasDropped ks (emptied b s) e (λ m. (row, refl, dropped_keeps held row b s (alone (s.level == 0) (is_row_in row (keep_of (b ∷ []) s)) is) c.good.1, c.free)))
      (λ _. calm_done held k ks (emptied b s) e)

  place_state : (place : Place) (s : State) → Keeps s (holding_in place Empty s)
  place_state place s = record { level = refl; claims = λ held h. holding_in_keeps held place Empty s h tt }

  update_sound : (mark : ℕ) (place : Place) (t : ℕ) (x : Content) (ks : List StackEntry) (s : State) → Claims held x → Calm held k ks s → Sound held k (update_step mark place t x ks s)
  update_sound mark place t Empty ks s h c = calm_done held k ks s c
  update_sound mark place t (Pending values since made) ks s h c =
      sound_if (nat_lt mark made) held k (config (Unwind Normal) ks (holding_in place Empty s)) (config (Unwind Normal) ks s) (λ _. calm_done held k ks (holding_in place Empty s) (to held k ks s (holding_in place Empty s) (place_state place s) c)) (λ _. calm_done held k ks s c)
  update_sound mark place t (Record row values lock made) ks s h c =
      sound_if (made_later mark made) held k (config (Unwind Normal) ks (holding_in place Empty s)) (ask (op.Get t row) (WasGot place row lock made) ks s)
      (λ _. calm_done held k ks (holding_in place Empty s) (to held k ks s (holding_in place Empty s) (place_state place s) c))
      (λ _. calm_asks held k (op.Get t row) (WasGot place row lock made) ks s c (λ m. (tt, of_values held row lock values [] made made h, c.free)))

  -- ---- reading

  take_sound : (w : LockWanted) (r : Reading) (wait retry : Bool) (row : RowId) (ks : List StackEntry) (s : State) → Calm held k ks s → Sound held k (take_step w r wait retry row ks s)
  take_sound wanted.NoLock r wait retry row ks s c = calm_done held k ks s c
  take_sound wanted.Share r wait retry row ks s c = calm_asks held k (op.Lock (table_of r.buffer s) row (is_exclusive r.lock) wait) (WasGranted r retry row) ks s c (λ m. (table_of r.buffer s, wait, refl, c.free))
  take_sound wanted.Exclusive r wait retry row ks s c = calm_asks held k (op.Lock (table_of r.buffer s) row (is_exclusive r.lock) wait) (WasGranted r retry row) ks s c (λ m. (table_of r.buffer s, wait, refl, c.free))

  take_again_sound : (w : LockWanted) (r : Reading) (retry : Bool) (row : RowId) (ks : List StackEntry) (s : State) → Calm held k ks s → Sound held k (take_again_step w r retry row ks s)
  take_again_sound wanted.NoLock r retry row ks s c = calm_asks held k (op.Get (table_of r.buffer s) row) (WasRead r retry row NoLock) ks s c (λ m. (tt, tt, c.free))
  take_again_sound wanted.Share r retry row ks s c = calm_asks held k (op.Lock (table_of r.buffer s) row (is_exclusive r.lock) true) (WasGranted r retry row) ks s c (λ m. (table_of r.buffer s, true, refl, c.free))
  take_again_sound wanted.Exclusive r retry row ks s c = calm_asks held k (op.Lock (table_of r.buffer s) row (is_exclusive r.lock) true) (WasGranted r retry row) ks s c (λ m. (table_of r.buffer s, true, refl, c.free))

  only_sound : (b : Bool) (q : Search) (at : Cursor) (values : List Value) (ks : List StackEntry) (s : State) → Calm held k ks s → Sound held k (only_step b q at values ks s)
  only_sound true q at values ks s c = (c.shaped, (c.good, c.free))
  only_sound false q at values ks s c = calm_done held k ks s c

  search_sound : (v : EvaluatedAll) (r : Reading) (forward only wait retry : Bool) (from : Option Cursor) (ks : List StackEntry) (s : State) → Calm held k ks s → Sound held k (search_step v r forward only wait retry from ks s)
  search_sound (GivesAll values) r forward only wait retry from ks s c = (c.shaped, (c.good, c.free))
  search_sound (FailsAll f) r forward only wait retry from ks s c = (c.shaped, c.good)

  fetch_sound : (again : Bool) (f : Fetch) (retry : Bool) (at : Option Cursor) (ks : List StackEntry) (s : State) → Calm held k ks s → Sound held k (fetch_step again f retry at ks s)
  fetch_sound again f retry None ks s c = (c.shaped, (c.good, c.free))
  fetch_sound true f retry (Some at) ks s c = ((tt, ((tt, c.free), c.shaped)), (c.good, tt))
  fetch_sound false f retry (Some at) ks s c =
      sound_if (is_each f.word) held k (config (Execute (Searches f.reading (is_forward f.word) false true retry (Some at))) ks s) (config (Unwind NotFound) ks s) (λ _. (c.shaped, (c.good, c.free))) (λ _. (c.shaped, c.good))

  find_sound : (word : FindWord) (r : Reading) (wait retry : Bool) (ks : List StackEntry) (s : State) → Calm held k ks s → Sound held k (find_step word r wait retry ks s)
  find_sound find.Only r wait retry ks s c = (c.shaped, (c.good, c.free))
  find_sound find.First r wait retry ks s c = (c.shaped, (c.good, c.free))
  find_sound find.Last r wait retry ks s c = (c.shaped, (c.good, c.free))
  find_sound find.Next r wait retry ks s c = (c.shaped, (c.good, c.free))
  find_sound find.Previous r wait retry ks s c = (c.shaped, (c.good, c.free))

  current_sound : (w : LockWanted) (r : Reading) (wait : Bool) (row : RowId) (made : Option ℕ) (ks : List StackEntry) (s : State) → r.lock ≡ w → Calm held k ks s → Sound held k (current_step w r wait row made ks s)
  current_sound wanted.NoLock r wait row made ks s e c =
      calm_asks held k (op.Get (table_of r.buffer s) row) (WasCurrent r row made) ks s c (λ m. (tt, subst (λ w. Claims held (Record row [] (held_as w) made)) (sym e) tt, c.free))
  current_sound wanted.Share r wait row made ks s e c = calm_asks held k (op.Lock (table_of r.buffer s) row (is_exclusive r.lock) wait) (CurrentGranted r row made) ks s c (λ m. (table_of r.buffer s, wait, refl, c.free))
  current_sound wanted.Exclusive r wait row made ks s e c = calm_asks held k (op.Lock (table_of r.buffer s) row (is_exclusive r.lock) wait) (CurrentGranted r row made) ks s c (λ m. (table_of r.buffer s, wait, refl, c.free))

  marked_state : (b : ℕ) (is : Bool) (s : State) → Keeps s (marked_locked b is s)
  marked_state b is s = record { level = refl; claims = λ held h. marked_keeps held b is s h }

  current_in_sound : (x : Content) (r : Reading) (wait : Bool) (ks : List StackEntry) (s : State) → Calm held k ks s → Sound held k (current_in_step x r wait ks s)
  current_in_sound Empty r wait ks s c = (c.shaped, c.good)
  current_in_sound (Pending values since made) r wait ks s c = calm_done held k ks (marked_locked r.buffer false s) (to held k ks s (marked_locked r.buffer false s) (marked_state r.buffer false s) c)
  current_in_sound (Record row values lock made) r wait ks s c = current_sound r.lock r wait row made ks (marked_locked r.buffer false s) refl (to held k ks s (marked_locked r.buffer false s) (marked_state r.buffer false s) c)

  -- ---- changes

  assign_sound : (p : Program) (x : Right) (t : Target) (retry : Bool) (ks : List StackEntry) (s : State) → IsShaped ks → Good held k s → Needs held [] ks s → Sound held k (assign_step p x t retry ks s)
  assign_sound p (ValueOf e) t retry ks s h g n = assigns_sound held k (stored_if (value_now p e retry s) t s) ks s (stored_if_assigns (value_now p e retry s) t s) h g n
  assign_sound p (NextOf q) t retry ks s h g n = asks held k (op.NextValue q) (WasCounted t) ks s h g (λ m. (tt, in_units held [] ks s m n))
  assign_sound p (CurrentOf q) t retry ks s h g n = asks held k (op.CurrentValue q) (WasCounted t) ks s h g (λ m. (tt, in_units held [] ks s m n))
  assign_sound p (Given v) t retry ks s h g n = assigns_sound held k (stored t v s) ks s (stored_assigns t v s) h g n

  upgrade_sound : (lock : Held) (t b : ℕ) (row : RowId) (values : List Value) (made : Option ℕ) (ks : List StackEntry) (s : State) → IsShaped ks → Good held k s → Needs (with_row row held) (b ∷ []) ks s → (lock ≡ Exclusive → Needs held [] ks s) →
      Sound held k (upgrade_step lock t b row values made ks s)
  upgrade_sound NoLock t b row values made ks s h g n x = (h, g)
  upgrade_sound Share t b row values made ks s h g n x = asks held k (op.Lock t row true true) (WasUpgraded b row values made) ks s h g (λ m. (t, refl, in_units (with_row row held) (b ∷ []) ks s m n))
  upgrade_sound Exclusive t b row values made ks s h g n x = (h, (g, x refl))

  lock_sound : (x : Content) (t b : ℕ) (ks : List StackEntry) (s : State) → content_of b s ≡ x → IsShaped ks → Good held k s → Needs held (b ∷ []) ks s → Sound held k (lock_step x t b ks s)
  lock_sound Empty t b ks s e h g n = (h, (g, needs_locked held b [] ks s (subst IsLocked (sym e) tt) n))
  lock_sound (Pending values since made) t b ks s e h g n = (h, (g, needs_locked held b [] ks s (subst IsLocked (sym e) tt) n))
  lock_sound (Record row values lock made) t b ks s e h g n =
      upgrade_sound lock t b row values made ks s h g (needs_more held (with_row row held) (b ∷ []) ks s s (one_more row held) (λ b l. l) n)
      (λ is. needs_locked held b [] ks s (subst IsLocked (sym e) (subst (λ l. IsLocked (Record row values l made)) (sym is) tt)) n)

  put_sound : (o : Option ℕ) (b t : ℕ) (row : RowId) (vs : List Value) (ks : List StackEntry) (s : State) → held row.0 ≡ true → IsShaped ks → Good held k s → Needs held [] ks s → Sound held k (put_unless o b t row vs ks s)
  put_sound (Some f) b t row vs ks s e h g n = (h, g)
  put_sound None b t row vs ks s e h g n =
      sound_if (nat_lt MAX_ROW_BYTES (length (bytes_of_row vs))) held k (fault (RecordTooLong t) ks s) (ask (op.Put t row vs) (WasPut b t) ks s) (λ _. (h, g))
      (λ _. asks held k (op.Put t row vs) (WasPut b t) ks s h g (λ m. (row, vs, refl, e, in_units held [] ks s m n)))

  settle_sound : (p : Program) (x : Content) (t b : ℕ) (ks : List StackEntry) (s : State) → IsLocked x → Claims held x → IsShaped ks → Good held k s → Needs held [] ks s → Sound held k (settle_step p x t b ks s)
  settle_sound p Empty t b ks s l e h g n = (h, (g, n))
  settle_sound p (Pending values since made) t b ks s l e h g n =
      sound_if (all_begun (table_at p t).indexes since) held k (config (Execute (EntersOne (own b))) ks s) (config (Unwind Normal) ks s) (λ _. (h, (g, n))) (λ _. (h, (g, n)))
  settle_sound p (Record row values NoLock made) t b ks s l e h g n = absurd l
  settle_sound p (Record row values Share made) t b ks s l e h g n = absurd l
  settle_sound p (Record row values Exclusive made) t b ks s l e h g n = put_sound (missing_field 0 (table_at p t).fields values) b t row values ks s e h g n

  delete_sound : (x : Content) (t b : ℕ) (ks : List StackEntry) (s : State) → Claims held x → Calm held k ks s → Sound held k (delete_step x t b ks s)
  delete_sound Empty t b ks s e c = (c.shaped, c.good)
  delete_sound (Pending values since made) t b ks s e c = calm_done held k ks (emptied b s) (to held k ks s (emptied b s) (emptied_state b s) c)
  delete_sound (Record row values lock made) t b ks s e c =
      upgrade_sound lock t b row values made (ThenDo (DeletesRow b t row) ∷ ks) s (c.free, c.shaped) c.good (row_self row held)
      (λ is. subst (λ l. Claims held (Record row values l made)) is e)

  -- ---- ends of iterations

  error_sound : (on : Option OnPhrase) (b : Header) (o : Iteration) (passed : Passed) (ks : List StackEntry) (s : State) → Calm held k ks s → Sound held k (error_step on b o passed ks s)
  error_sound None b o passed ks s c = (c.shaped, (c.good, c.free))
  error_sound (Some on) b o passed ks s c = (c.shaped, (c.good, c.free))

  endkey_sound : (on : Option OnPhrase) (b : Header) (o : Iteration) (passed : Passed) (ks : List StackEntry) (s : State) → Calm held k ks s → Sound held k (endkey_step on b o passed ks s)
  endkey_sound None b o passed ks s c =
      sound_if (handles_endkey b) held k (config (Execute (UndoComes b o b.number (ThenLeave b.number) o.turn.retry passed)) ks s) (config (Execute (Passes b (EndKeys passed) (EndKeys (passed_with b o passed)))) ks s) (λ _. (c.shaped, (c.good, c.free))) (λ _. (c.shaped, (c.good, c.free)))
  endkey_sound (Some on) b o passed ks s c = (c.shaped, (c.good, c.free))

  act_sound : (p : Program) (act : Action) (b : Header) (o : Iteration) (retry : Bool) (ks : List StackEntry) (s : State) → Calm held k ks s → Sound held k (act_step p act b o retry ks s)
  act_sound p ThenRetry b o retry ks s c =
      sound_if b.flags.retry_seen held k (config (Unwind (Again (next_turn true o.turn))) ks s) (config (Execute (Closes b o (instead_of_retry (iterates b) b.number))) ks s) (λ _. (c.shaped, c.good)) (λ _. (c.shaped, (c.good, c.free)))
  act_sound p (ThenLeave l) b o retry ks s c = (c.shaped, (c.good, c.free))
  act_sound p (ThenNext l) b o retry ks s c = (c.shaped, (c.good, c.free))
  act_sound p (ThenReturn error e) b o retry ks s c = (c.shaped, (c.good, c.free))
  act_sound p ThenError b o retry ks s c = (c.shaped, (c.good, c.free))

  ends_step_sound : (completion : Completion) (b : Header) (o : Iteration) (ks : List StackEntry) (s : State) → Calm held k ks s → Sound held k (ends_step completion b o ks s)
  ends_step_sound (Undoes target act retry passed) b o ks s c = (c.shaped, (c.good, c.free))
  ends_step_sound (Raises passed) b o ks s c = (c.shaped, (c.good, c.free))
  ends_step_sound (EndKeys passed) b o ks s c = (c.shaped, (c.good, c.free))
  ends_step_sound (Stops end) b o ks s c = (c.shaped, c.good)
  ends_step_sound completion b o ks s c = ((c.free, c.shaped), (c.good, tt))

  -- ---- blocks

  begins_sound : (f : Option Fetch) (b : Header) (copy : Option Copy) (t : Turn) (retry : Bool) (body d : ℕ) (ks : List StackEntry) (s : State) → Calm held k ks s → Sound held k (begins_step f b copy t retry body d ks s)
  begins_sound None b copy t retry body d ks s c = ((c.free, c.shaped), (c.good, tt))
  begins_sound (Some f) b copy t retry body d ks s c = ((c.free, c.shaped), (c.good, tt))

  while_sound : (p : Program) (e : Option Expr) (retry : Bool) (go : State → Config) (ks : List StackEntry) (s : State) → Calm held k ks s → ((t : State) → Calm held k ks t → Sound held k (go t)) → Sound held k (while_step p e retry go ks s)
  while_sound p None retry go ks s c x = x s c
  while_sound p (Some e) retry go ks s c x =
      given_sound held k (value_now p e retry s) (λ v s. config_if (holds v) (go s) (config (Unwind Normal) ks s)) ks s c (λ v. sound_if (holds v) held k (go s) (config (Unwind Normal) ks s) (λ _. x s c) (λ _. calm_done held k ks s c))

  reach_sound : (p : Program) (l : ToPhrase) (by : Value) (retry : Bool) (go : State → Config) (ks : List StackEntry) (s : State) → Calm held k ks s → ((t : State) → Calm held k ks t → Sound held k (go t)) → Sound held k (reach_step p l by retry go ks s)
  reach_sound p l by retry go ks s c x =
      given_sound held k (value_now p l.end retry s) (λ end s. config_if (in_bound (counts_down by) (value_of l.variable s) end) (go s) (config (Unwind Normal) ks s)) ks s c
      (λ end. sound_if (in_bound (counts_down by) (value_of l.variable s) end) held k (go s) (config (Unwind Normal) ks s) (λ _. x s c) (λ _. calm_done held k ks s c))

  set_sound : (p : Program) (l : ToPhrase) (by : Value) (retry : Bool) (v : Evaluated) (go : State → Config) (ks : List StackEntry) (s : State) → Calm held k ks s → ((t : State) → Calm held k ks t → Sound held k (go t)) → Sound held k (set_step p l by retry v go ks s)
  set_sound p l by retry v go ks s c x =
      given_sound held k v (λ v s. given_step (fit l.variable.kind v) (λ v s. reach_step p l by retry go ks (assigned l.variable v s)) ks s) ks s c
      (λ v. given_sound held k (fit l.variable.kind v) (λ v s. reach_step p l by retry go ks (assigned l.variable v s)) ks s c
      (λ v. reach_sound p l by retry go ks (assigned l.variable v s) (to held k ks s (assigned l.variable v s) (assigned_state l.variable v s) c) x))

  advance_sound : (p : Program) (l : ToPhrase) (t : Turn) (retry : Bool) (o : Option Value) (go : State → Config) (ks : List StackEntry) (s : State) → Calm held k ks s → ((t : State) → Calm held k ks t → Sound held k (go t)) → Sound held k (advance_step p l t retry o go ks s)
  advance_sound p l t retry None go ks s c x = set_sound p l t.by retry (next_value l t s) go ks s c x
  advance_sound p l t retry (Some v) go ks s c x = set_sound p l t.by retry (Gives v) go ks s c x

  loop_sound : (p : Program) (l : Option ToPhrase) (t : Turn) (retry : Bool) (go : State → Config) (ks : List StackEntry) (s : State) → Calm held k ks s → ((t : State) → Calm held k ks t → Sound held k (go t)) → Sound held k (loop_step p l t retry go ks s)
  loop_sound p None t retry go ks s c x = x s c
  loop_sound p (Some l) t retry go ks s c x = sound_if t.retry held k (go s) (advance_step p l t retry t.start go ks s) (λ _. x s c) (λ _. advance_sound p l t retry t.start go ks s c x)

  turn_sound : (p : Program) (b : Header) (outer : Bool) (body d : ℕ) (t : Turn) (ks : List StackEntry) (s : State) → Calm held k ks s → Sound held k (turn_step p b outer body d t ks s)
  turn_sound p b outer body d t ks s c =
      loop_sound p b.to t (retry_in b t outer)
      (λ s. while_step p b.while_test (retry_in b t outer) (λ s. config (Execute (EntersLevel b (record t { start = None }) (retry_in b t outer) body d)) ks s) ks s) ks s c
      (λ u e. while_sound p b.while_test (retry_in b t outer) (λ s. config (Execute (EntersLevel b (record t { start = None }) (retry_in b t outer) body d)) ks s) ks u e (λ v f. (f.shaped, (f.good, f.free))))

  by_sound : (p : Program) (e : Option Expr) (outer : Bool) (go : Value → State → Config) (ks : List StackEntry) (s : State) → Calm held k ks s → ((v : Value) → Sound held k (go v s)) → Sound held k (by_step p e outer go ks s)
  by_sound p None outer go ks s c x = x (Int64 (pos 1))
  by_sound p (Some e) outer go ks s c x = given_sound held k (value_now p e outer s) go ks s c x

  block_sound : (p : Program) (l : Option ToPhrase) (b : Header) (outer : Bool) (body d : ℕ) (ks : List StackEntry) (s : State) → Calm held k ks s → Sound held k (block_step p l b outer body d ks s)
  block_sound p None b outer body d ks s c = (c.shaped, (c.good, c.free))
  block_sound p (Some l) b outer body d ks s c =
      given_sound held k (value_now p l.start outer s) (λ v s. by_step p l.by outer (λ w s. config (Execute (Turns s.units b outer body d (first_turn (Some v) w))) ks s) ks s) ks s c
      (λ v. by_sound p l.by outer (λ w s. config (Execute (Turns s.units b outer body d (first_turn (Some v) w))) ks s) ks s c (λ w. (c.shaped, (c.good, c.free))))

  -- ---- statements

  wrote_to_sound : (n : ℕ) (bytes : List ℕ) (ks : List StackEntry) (s : State) → Calm held k ks s → Sound held k (ends_as (wrote_to n bytes s) ks)
  wrote_to_sound n bytes ks s c = ends_sound held k (wrote_to n bytes s) ks s (wrote_state (Wrote (stream_at n s).output bytes) s) c

  export_sound : (x : Content) (n b : ℕ) (ks : List StackEntry) (s : State) → Calm held k ks s → Sound held k (export_step x n b ks s)
  export_sound Empty n b ks s c = (c.shaped, c.good)
  export_sound (Record row values lock made) n b ks s c = wrote_to_sound n (export_line values) ks s c
  export_sound (Pending values since made) n b ks s c = wrote_to_sound n (export_line values) ks s c

  import_sound : (x : Imported) (n : ℕ) (ts : List (Option Target)) (retry : Bool) (ks : List StackEntry) (s : State) → Calm held k ks s → Sound held k (import_step x n ts retry ks s)
  import_sound AtInputEnd n ts retry ks s c = (c.shaped, c.good)
  import_sound (BadElement number next) n ts retry ks s c = (c.shaped, good_to held k s (read_to n next s) (read_to_state n next s) c.good)
  import_sound (Elements vs next) n ts retry ks s c = (c.shaped, (good_to held k s (read_to n next s) (read_to_state n next s) c.good, c.free))

  text_sound : (x : Text) (n : ℕ) (ks : List StackEntry) (s : State) → Calm held k ks s → Sound held k (given_text_step x n ks s)
  text_sound (IsText bytes) n ks s c = wrote_to_sound n bytes ks s c
  text_sound (HasFault f) n ks s c = (c.shaped, c.good)

  choose_sound : (v : Evaluated) (p : Program) (one other d : ℕ) (retry : Bool) (ks : List StackEntry) (s : State) → Calm held k ks s → Sound held k (choose_step v p one other d retry ks s)
  choose_sound (Gives v) p one other d retry ks s c = sound_if (holds v) held k (config (Execute (RunsFrom one d retry)) ks s) (config (Execute (RunsFrom other d retry)) ks s) (λ _. (c.shaped, (c.good, c.free))) (λ _. (c.shaped, (c.good, c.free)))
  choose_sound (Fails f) p one other d retry ks s c =
      unwinds held k (complained p (Some f) s).completion (ThenDo (Completes (Raises nothing_passed)) ∷ ks) (complained p (Some f) s).state (c.free, c.shaped) (good_to held k s (complained p (Some f) s).state (complained_state p (Some f) s) c.good) tt

  cleared_good : (quiet : Bool) (ks : List StackEntry) (s : State) → Calm held k ks s → Good held k (cleared quiet s)
  cleared_good quiet ks s c = good_to held k s (cleared quiet s) (cleared_state quiet s) c.good

  over : (entry : StackEntry) (ks : List StackEntry) (s : State) → IsShaped (entry ∷ ks) → IsFree (entry ∷ ks) → Good held k s → Calm held k (entry ∷ ks) s
  over entry ks s h f g = record { good = g; shaped = h; free = f }

  stmt_sound : (p : Program) (t : Stmt) (d : ℕ) (retry : Bool) (ks : List StackEntry) (s : State) → Calm held k ks s → Sound held k (stmt_step p t d retry ks s)
  stmt_sound p (Inner b body) d retry ks s c = calm_done held k ks s c
  stmt_sound p (Choose test then_it else_it) d retry ks s c = calm_done held k ks s c
  stmt_sound p (Assign pairs quiet) d retry ks s c = ((c.free, c.shaped), (cleared_good quiet ks s c, tt))
  stmt_sound p (Find word reading wait quiet) d retry ks s c = ((tt, (c.free, c.shaped)), (cleared_good quiet ks s c, tt))
  stmt_sound p (FindCurrent reading wait quiet) d retry ks s c = ((c.free, c.shaped), (cleared_good quiet ks s c, tt))
  stmt_sound p (Create b quiet) d retry ks s c = ((c.free, c.shaped), (cleared_good quiet ks s c, tt))
  stmt_sound p (Remove b quiet) d retry ks s c = ((c.free, c.shaped), (cleared_good quiet ks s c, tt))
  stmt_sound p (Release b quiet) d retry ks s c = ((tt, (c.free, c.shaped)), (cleared_good quiet ks s c, tt))
  stmt_sound p (UndoBlock l act) d retry ks s c = ((c.free, c.shaped), c.good)
  stmt_sound p (LeaveBlock l) d retry ks s c = ((c.free, c.shaped), c.good)
  stmt_sound p (NextBlock l) d retry ks s c = ((c.free, c.shaped), c.good)
  stmt_sound p (Return e) d retry ks s c = ((c.free, c.shaped), c.good)
  stmt_sound p (ReturnError l e) d retry ks s c = ((c.free, c.shaped), c.good)
  stmt_sound p Stop d retry ks s c = ((c.free, c.shaped), c.good)
  stmt_sound p (Run n args quiet) d retry ks s c =
      given_all_sound held k (argument_values p args (procedure_at p n).parameters retry (cleared quiet s)) (λ vs s. config (Execute (Calls d n args vs)) (Handles quiet ∷ ks) s) (Handles quiet ∷ ks) (cleared quiet s)
      (over (Handles quiet) ks (cleared quiet s) (c.free, c.shaped) tt (cleared_good quiet ks s c)) (λ vs. ((c.free, c.shaped), (cleared_good quiet ks s c, tt)))
  stmt_sound p (Import n targets quiet) d retry ks s c = ((c.free, c.shaped), (cleared_good quiet ks s c, tt))
  stmt_sound p (Export n es) d retry ks s c =
      let e = over (Handles false) ks s (c.free, c.shaped) tt c.good in
      given_all_sound held k (values_now p es retry s) (λ vs s. ends_as (wrote_to n (export_line vs) s) (Handles false ∷ ks)) (Handles false ∷ ks) s e (λ vs. wrote_to_sound n (export_line vs) (Handles false ∷ ks) s e)
  stmt_sound p (ExportRecord n b) d retry ks s c = export_sound (content_of b s) n b (Handles false ∷ ks) s (over (Handles false) ks s (c.free, c.shaped) tt c.good)
  stmt_sound p (PutItems n items) d retry ks s c = text_sound (put_text p items retry s) n (Handles false ∷ ks) s (over (Handles false) ks s (c.free, c.shaped) tt c.good)
  stmt_sound p (Message es) d retry ks s c =
      let e = over (Handles false) ks s (c.free, c.shaped) tt c.good in
      given_all_sound held k (values_now p es retry s) (λ vs s. ends_as (wrote_to 0 (message_line vs) s) (Handles false ∷ ks)) (Handles false ∷ ks) s e (λ vs. wrote_to_sound 0 (message_line vs) (Handles false ∷ ks) s e)
  stmt_sound p (OutputTo n output appends) d retry ks s c =
      ends_sound held k (wrote (Opened output appends) (with_stream n (record (stream_at n s) { output = Some output }) s)) (Handles false ∷ ks) (with_stream n (record (stream_at n s) { output = Some output }) s)
      (wrote_state (Opened output appends) (with_stream n (record (stream_at n s) { output = Some output }) s)) (over (Handles false) ks (with_stream n (record (stream_at n s) { output = Some output }) s) (c.free, c.shaped) tt c.good)
  stmt_sound p (OutputClose n) d retry ks s c = ((c.free, c.shaped), (c.good, tt))
  stmt_sound p (InputFrom n input) d retry ks s c = ((c.free, c.shaped), (c.good, tt))
  stmt_sound p (InputClose n) d retry ks s c = ((c.free, c.shaped), (c.good, tt))

  instr_sound : (p : Program) (i : Instr) (d : ℕ) (retry : Bool) (ks : List StackEntry) (s : State) → Calm held k ks s → Sound held k (instr_step p i d retry ks s)
  instr_sound p Ends d retry ks s c = calm_done held k ks s c
  instr_sound p (Opens b body next) d retry ks s c = costs held k (λ s. config (Execute (Blocks b retry body d)) (Handles false ∷ ThenDo (RunsFrom next d retry) ∷ ks) s) ks s c (λ t e. ((tt, (e.free, e.shaped)), (e.good, tt)))
  instr_sound p (Tests test one other) d retry ks s c = costs held k (λ s. choose_step (value_now p test retry s) p one other d retry ks s) ks s c (λ t e. choose_sound (value_now p test retry t) p one other d retry ks t e)
  instr_sound p (Plain t next) d retry ks s c =
      costs held k (λ s. stmt_step p t d retry (ThenDo (RunsFrom next d retry) ∷ ks) s) ks s c (λ u e. stmt_sound p t d retry (ThenDo (RunsFrom next d retry) ∷ ks) u (over (ThenDo (RunsFrom next d retry)) ks u (e.free, e.shaped) tt e.good))

  -- ---- a task that needs nothing of the locks

  begun_state : (p : Program) (b : ℕ) (s : State) → Keeps s (begun p b s)
  begun_state p b s = record { level = refl; claims = λ held h. holding_keeps held b (Pending _ [] (s.made + 1)) (record s { made = s.made + 1 }) h tt }

  empties_state : (bs : List ℕ) (s : State) → Keeps s (all_emptied bs s)
  empties_state bs s = record { level = all_emptied_level bs s; claims = λ held h. all_emptied_keeps held bs s h }

  assigns_start : (bs : List ℕ) (s : State) → AreLocked (bs ++ []) bs s
  assigns_start bs s b e = inl (subst (λ l. is_in b l ≡ true) (sym (append-nil bs)) e)

  plain_sound : (code : Code) (p : Program) (t : Task) (ks : List StackEntry) (s : State) → IsPlain t → Calm held k ks s → Sound held k (task_step code p t ks s)
  plain_sound code p (EntersOne place) ks s is c = absurd is
  plain_sound code p (AssignsOne t x retry) ks s is c = absurd is
  plain_sound code p (AssignsEach xs retry) ks s is c = absurd is
  plain_sound code p (LocksOne b) ks s is c = absurd is
  plain_sound code p (LocksAll bs) ks s is c = absurd is
  plain_sound code p (SettlesOne b) ks s is c = absurd is
  plain_sound code p (SettlesAll olds bs) ks s is c = absurd is
  plain_sound code p (DeletesRow b t row) ks s is c = absurd is
  plain_sound code p (AfterBack copy but) ks s is c = absurd is
  plain_sound code p (Enters []) ks s is c = calm_done held k ks s c
  plain_sound code p (Enters (place ∷ more)) ks s is c = ((c.free, c.shaped), (c.good, tt))
  plain_sound code p (Drops b) ks s is c = drop_sound (locked_row (content_of b s)) b ks s c
  plain_sound code p (Releases []) ks s is c = calm_done held k ks s c
  plain_sound code p (Releases (b ∷ bs)) ks s is c = ((tt, (c.free, c.shaped)), (c.good, tt))
  plain_sound code p (EntersRest None) ks s is c = calm_done held k ks s c
  plain_sound code p (EntersRest (Some copy)) ks s is c = sound_if (copy.depth == 1) held k (config (Execute (Enters (all_places s))) ks s) (config (Unwind Normal) ks s) (λ _. (c.shaped, (c.good, c.free))) (λ _. calm_done held k ks s c)
  plain_sound code p (LeavesIf None but) ks s is c = calm_done held k ks s c
  plain_sound code p (LeavesIf (Some copy) but) ks s is c = (c.shaped, (c.good, c.free))
  plain_sound code p (LeavesNow but) ks s is c = calm_asks held k (op.Leave (keep_of but s)) WasLeft ks s c (λ m. (keep_of but s, refl, c.free))
  plain_sound code p (Closing b o) ks s is c = ((tt, (tt, (c.free, c.shaped))), (c.good, tt))
  plain_sound code p (GoesBack None but) ks s is c = calm_done held k ks s c
  plain_sound code p (GoesBack (Some copy) but) ks s is c = calm_asks held k (op.Back copy.depth) (WasBack copy but) ks s c (λ m. (refl, c.free))
  plain_sound code p (UpdatesOne mark place) ks s is c = update_sound mark place (buffer_in place s).table (buffer_in place s).content ks s (place_claims held place s c.good.1) c
  plain_sound code p (Updates mark but []) ks s is c = calm_done held k ks s c
  plain_sound code p (Updates mark but (place ∷ more)) ks s is c =
      sound_if (is_left_out but place) held k (config (Unwind Normal) (ThenDo (Updates mark but more) ∷ ks) s) (config (Execute (UpdatesOne mark place)) (ThenDo (Updates mark but more) ∷ ks) s) (λ _. ((c.free, c.shaped), (c.good, tt))) (λ _. ((c.free, c.shaped), (c.good, tt)))
  plain_sound code p (Acts b o act retry) ks s is c = act_sound p act b o retry ks s c
  plain_sound code p (IsOnly q at values) ks s is c = only_sound q.only q at values ks s c
  plain_sound code p (Seconds zero q at values from) ks s is c = (c.shaped, c.good)
  plain_sound code p (Seconds (suc n) q at values from) ks s is c = calm_asks held k (op.Next (table_of q.reading.buffer s) q.reading.index q.prefix (Some from) true) (WasSecond n q at values) ks s c (λ m. (tt, c.free))
  plain_sound code p (TakesAs r wait retry row) ks s is c = take_sound r.lock r wait retry row ks s c
  plain_sound code p (TakesAgain r retry row) ks s is c = take_again_sound r.lock r retry row ks s c
  plain_sound code p (Takes q at values) ks s is c = ((tt, (c.free, c.shaped)), (c.good, tt))
  plain_sound code p (Looks zero q from) ks s is c = (c.shaped, c.good)
  plain_sound code p (Looks (suc n) q from) ks s is c = calm_asks held k (op.Next (table_of q.reading.buffer s) q.reading.index q.prefix from q.forward) (WasNext n q) ks s c (λ m. (tt, c.free))
  plain_sound code p (Searches r forward only wait retry from) ks s is c = search_sound (values_now p (map (λ x. x.value) r.bracket) retry s) r forward only wait retry from ks s c
  plain_sound code p (FetchesFrom again f retry at) ks s is c = fetch_sound again f retry at ks s c
  plain_sound code p (Fetches f t retry) ks s is c = ((tt, (c.free, c.shaped)), (good_to held k s (marked_locked f.reading.buffer false s) (marked_state f.reading.buffer false s) c.good, tt))
  plain_sound code p (FindsAs word r wait retry) ks s is c = find_sound word r wait retry ks s c
  plain_sound code p (Finds word r wait retry) ks s is c = ((tt, (tt, (c.free, c.shaped))), (good_to held k s (marked_locked r.buffer false s) (marked_state r.buffer false s) c.good, tt))
  plain_sound code p (FindsCurrent r wait) ks s is c = current_in_sound (content_of r.buffer s) r wait ks s c
  plain_sound code p (Assigns xs retry) ks s is c = ((tt, (tt, (c.free, c.shaped))), (c.good, assigns_start (buffers_in xs) s))
  plain_sound code p (Creates b) ks s is c = ((tt, (c.free, c.shaped)), (c.good, tt))
  plain_sound code p (Deletes b) ks s is c = delete_sound (content_of b s) (table_of b s) b ks s (content_claims held b s c.good.1) c
  plain_sound code p (Begun b) ks s is c = calm_done held k ks (begun p b s) (to held k ks s (begun p b s) (begun_state p b s) c)
  plain_sound code p (Completes completion) ks s is c = calm_unwinds held k completion ks s c
  plain_sound code p (Empties but) ks s is c = calm_done held k ks (all_emptied but s) (to held k ks s (all_emptied but s) (empties_state but s) c)
  plain_sound code p (Closes b o completion) ks s is c = ((c.free, c.shaped), (c.good, tt))
  plain_sound code p (Passes b ended_way left_way) ks s is c =
      sound_if (s.level == 0) held k (config (Execute (Releases b.scoped)) (ThenDo (Completes ended_way) ∷ ks) s) (config (Unwind left_way) ks s) (λ _. ((c.free, c.shaped), (c.good, tt))) (λ _. calm_unwinds held k left_way ks s c)
  plain_sound code p (UndoComes b o target act retry passed) ks s is c =
      sound_if (target == b.number) held k
      (config (Execute (GoesBack (passed_with b o passed).first (passed_with b o passed).buffers)) (ThenDo (Acts b o act retry) ∷ ks) s)
      (config (Execute (Passes b (Undoes target act retry passed) (Undoes target act retry (passed_with b o passed)))) ks s) (λ _. ((c.free, c.shaped), (c.good, tt))) (λ _. (c.shaped, (c.good, c.free)))
  plain_sound code p (ErrorComes b o passed) ks s is c =
      sound_if b.flags.undo held k (error_step b.on_error b o passed ks s) (config (Execute (Passes b (Raises passed) (Raises (passed_with b o passed)))) ks s) (λ _. error_sound b.on_error b o passed ks s c) (λ _. (c.shaped, (c.good, c.free)))
  plain_sound code p (EndKeyComes b o passed) ks s is c = endkey_sound b.on_endkey b o passed ks s c
  plain_sound code p (EndsWith b o completion) ks s is c = ends_step_sound completion b o ks s c
  plain_sound code p (RunsFrom i d retry) ks s is c = instr_sound p (code.instr i) d retry ks s c
  plain_sound code p (Begins b copy t retry body d) ks s is c = begins_sound b.fetch b copy t retry body d ks s c
  plain_sound code p (EntersLevel b t retry body d) ks s is c =
      sound_if (enters_at b s.level) held k (ask op.Enter (WasEntered b t retry body d) ks s) (config (Execute (Begins b None t retry body d)) ks s) (λ _. calm_asks held k op.Enter (WasEntered b t retry body d) ks s c (λ m. (refl, c.free))) (λ _. (c.shaped, (c.good, c.free)))
  plain_sound code p (Turns zero b outer body d t) ks s is c = (c.shaped, c.good)
  plain_sound code p (Turns (suc n) b outer body d t) ks s is c = ((c.free, c.shaped), (c.good, tt))
  plain_sound code p (Iterates b outer body d t) ks s is c = costs held k (λ s. turn_step p b outer body d t ks s) ks s c (λ u e. turn_sound p b outer body d t ks u e)
  plain_sound code p (Blocks b outer body d) ks s is c = block_sound p b.to b outer body d ks s c
  plain_sound code p (Imports n ts retry) ks s is c = import_sound (line_now p n ts s) n ts retry ks s c
  plain_sound code p (Calls zero n args vs) ks s is c = (c.shaped, c.good)
  plain_sound code p (Calls (suc d) n args vs) ks s is c = ((c.free, c.shaped), ((c.good.0, opened_keeps held p n args vs s c.good.1), tt))

  -- ---- a task

  self_in : (b : ℕ) (bs : List ℕ) → is_in b (b ∷ bs) ≡ true
  self_in b bs = ap (λ e. e || is_in b bs) (let x : (b == b) ≡ true = grind (arith, nat_tests) in x)

  further_in : (b c : ℕ) (bs : List ℕ) → is_in b bs ≡ true → is_in b (c ∷ bs) ≡ true
  further_in b c bs e = go (b == c)
    where
      go : (x : Bool) → (x || is_in b bs) ≡ true
      go true = refl
      go false = e

  all_locked : (b : ℕ) (bs : List ℕ) (s : State) → AreLocked [] bs s → is_in b bs ≡ true → IsLocked (content_of b s)
  all_locked b bs s l e = elim (l b e) [ inl is ↦ absurd (let x : false ≡ true = is in cc) | inr is ↦ is ]

  -- the buffers of b ∷ bs, and those of bs ++ b
  turned : (b : ℕ) (bs : List ℕ) (c : ℕ) → is_in c (b ∷ (bs ++ [])) ≡ true → is_in c (bs ++ b ∷ []) ≡ true
  turned b [] c e = e
  turned b (d ∷ bs) c e = go (c == b) (c == d) (turned b bs c) e
    where
      go : (x y : Bool) → ((x || is_in c (bs ++ [])) ≡ true → is_in c (bs ++ b ∷ []) ≡ true) → (x || (y || is_in c (bs ++ []))) ≡ true → (y || is_in c (bs ++ b ∷ [])) ≡ true
      go x true h e = refl
      go x false h e = h e

  pub task_sound : (code : Code) (p : Program) (t : Task) (ks : List StackEntry) (s : State) → IsShaped ks → AtMode held k (Execute t) ks s → Sound held k (task_step code p t ks s)
  task_sound code p (EntersOne place) ks s h a = enter_sound p place (buffer_in place s).table (buffer_in place s).content ks s h a.0 a.1
  task_sound code p (AssignsOne t x retry) ks s h a = assign_sound p x t retry ks s h a.0 a.1
  task_sound code p (AssignsEach [] retry) ks s h a = (h, a)
  task_sound code p (AssignsEach (x ∷ xs) retry) ks s h a = ((tt, h), a)
  task_sound code p (LocksOne b) ks s h a = lock_sound (content_of b s) (table_of b s) b ks s refl h a.0 a.1
  task_sound code p (LocksAll []) ks s h a = (h, a)
  task_sound code p (LocksAll (b ∷ bs)) ks s h a = ((tt, h), (a.0, needs_cover held (b ∷ (bs ++ [])) (bs ++ b ∷ []) ks s (turned b bs) a.1))
  task_sound code p (SettlesOne b) ks s h a = settle_sound p (content_of b s) (table_of b s) b ks s a.1.0 (content_claims held b s a.0.1) h a.0 a.1.1
  task_sound code p (SettlesAll olds []) ks s h a = (h, (a.0, free_needs held [] ks s a.1.1))
  task_sound code p (SettlesAll olds (b ∷ bs)) ks s h a =
      ((tt, (a.1.1, h)), (a.0, (all_locked b (b ∷ bs) s a.1.0 (self_in b bs), λ c e. inr (all_locked c (b ∷ bs) s a.1.0 (further_in c b bs e)))))
  task_sound code p (DeletesRow b t row) ks s h a = asks held k (op.Delete t row) (WasDeleted b) ks s h a.0 (λ m. (t, row, refl, a.1.0, a.1.1))
  task_sound code p (AfterBack copy but) ks s h a = ((tt, (a.2, h)), ((a.0, put_back_keeps held copy s a.1), tt))
  task_sound code p t ks s h a = plain_sound code p t ks s tt (record { good = a.0; shaped = h; free = a.1 })
