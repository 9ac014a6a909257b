-- Each step of a task leaves no record pending outside of a transaction.
use Rattle.std.proofs.Common.{◌≡◌, ◌<◌, arith, inl, inr, refl, sym, ap, ◌∙◌, subst, ℕ, zero, suc, ◌+◌, Bool, true, false, List, [], ◌∷◌, ◌++◌, Option, Some, None, length, map}
use Rattle.std.specs.Prelude.{◌==◌, ◌&&◌, not, nat_lt, pos}
use Rattle.std.proofs.lemmas.Bool.Decides.{nat_tests}
use Rattle.abl_base.specs.declared.limits.TheConstants.{MAX_ROW_BYTES}
use Rattle.abl_base.specs.declared.row.RowId.{RowId}
use Rattle.abl_base.specs.declared.value.Value.{Value}
use Rattle.abl_base.specs.declared.value.Value.TheVariants.{Int64}
use Rattle.abl_values.specs.Rows.{bytes_of_row}
use Rattle.database_protocol.specs.declared.row_order.Cursor.{Cursor}
use Rattle.database_protocol.specs.declared.operation.Op.TheVariants as op
use Rattle.bound_tree.specs.declared.block.LockWanted.{LockWanted}
use Rattle.bound_tree.specs.declared.block.LockWanted.TheVariants as wanted
use Rattle.bound_tree.specs.declared.statement.FindWord.{FindWord}
use Rattle.bound_tree.specs.declared.statement.FindWord.TheVariants as find
use Rattle.bound_tree.specs.declared.statement.Target.{Target}
use Rattle.bound_tree.specs.Tree.{Body, Action, Assign, Choose, Create, CurrentOf, Export, ExportRecord, Expr, Fetch, Find, FindCurrent, Given, Header, Import, Inner, InputClose, InputFrom, LeaveBlock, Message, NextBlock, NextOf, OnPhrase, OutputClose, OutputTo, PutItems, Reading, Release, Remove, Return, ReturnError, Right, Run, Stmt, Stop, ThenError, ThenLeave, ThenNext, ThenRetry, ThenReturn, ToPhrase, UndoBlock, ValueOf}
use Rattle.expression_meaning.specs.Operators.{holds}
use Rattle.abl_base.specs.text_forms.TextForms.{AtInputEnd, BadElement, Elements, Imported}
use Rattle.block_meaning.specs.declared.wants.Piece.TheVariants.{Opened, Wrote}
use Rattle.block_meaning.specs.Blocks.{after_iteration, Iteration, complained, counts_down, enters_at, first_turn, handles_endkey, in_bound, instead_of_retry, iterates, next_turn, next_value, passed_with, retry_in}
use Rattle.block_meaning.specs.Buffers.{Place, all_places, buffer_in, holding_in, is_left_out, is_row_in, keep_of, made_later, missing_field, own}
use Rattle.block_meaning.specs.Changes.{begun, all_begun, stored, stored_if}
use Rattle.block_meaning.specs.Frames.{put_back, all_emptied, assigned, content_of, emptied, locked_row, marked_locked, table_of, value_of}
use Rattle.block_meaning.specs.Lines.{BadField, IsMandatory, IsReadNoLock, NoRecordIn, RecordTooLong}
use Rattle.block_meaning.specs.Meaning.{argument_values, cleared}
use Rattle.block_meaning.specs.Program.{Program, procedure_at, table_at}
use Rattle.block_meaning.specs.Reads.{Search, is_each, is_exclusive, is_forward}
use Rattle.block_meaning.specs.State.{CallFrame, Completed, Again, Completion, Content, Copy, Empty, EndKeys, Exclusive, Held, NoLock, Normal, NotFound, Passed, Pending, Raises, Record, Share, State, Stops, Turn, Undoes, nothing_passed, wrote}
use Rattle.block_meaning.specs.Streams.{line_now, read_to, stream_at, with_stream}
use Rattle.block_meaning.specs.Values.{Evaluated, EvaluatedAll, Fails, FailsAll, Gives, GivesAll, HasFault, IsText, Text, export_line, fit, message_line, put_text, value_now, values_now}
use Rattle.flat_machine.specs.Code.{Code, Ends, Instr, Opens, Plain, Tests}
use Rattle.flat_machine.specs.Config.{FetchedAs, Acts, AfterBack, Assigns, AssignsEach, AssignsOne, Begins, Begun, Blocks, Calls, Closes, Closing, Completes, Config, Creates, CurrentGranted, Deletes, DeletesRow, Drops, Empties, EndKeyComes, EndsWith, Enters, EntersLevel, EntersOne, EntersRest, ErrorComes, Execute, Fetches, FetchesFrom, Finds, FindsAs, FindsCurrent, GoesBack, Imports, IsOnly, Iterates, LeavesIf, LeavesNow, LocksAll, LocksOne, Looks, Passes, Releases, RunsFrom, Searches, Seconds, SettlesAll, SettlesOne, StackEntry, Takes, TakesAgain, TakesAs, Task, ThenDo, Turns, UndoComes, Unwind, Updates, UpdatesOne, Handles, WasBack, WasCounted, WasCurrent, WasDeleted, WasDropped, WasEntered, WasGot, WasGranted, WasInserted, WasLeft, WasNext, WasPut, WasRead, WasSecond, WasUpgraded}
use Rattle.flat_machine.specs.Machine.{task_step}
use Rattle.flat_machine.specs.Steps.{act_step, advance_step, ask, assign_step, begins_step, block_step, by_step, choose_step, config, config_if, current_in_step, current_step, delete_step, drop_step, ends_step, endkey_step, ends_as, enter_step, error_step, export_step, fault, fetch_step, find_step, given_step, given_text_step, import_step, insert_unless, instr_step, lock_step, loop_step, only_step, put_unless, reach_step, search_step, set_step, settle_step, stmt_step, take_again_step, take_step, turn_step, update_step, upgrade_step, while_step, wrote_to}
use Rattle.machine_laws.proofs.LevelsLemmas.Kept.{class, HasLevel, StackAt, TaskAt, takes}
use Rattle.machine_laws.proofs.LevelsLemmas.Parts.{stored_class, stored_if_class, wrote_class, complained_class}
use Rattle.machine_laws.proofs.LevelsLemmas.Tasks.{after_over}
use Rattle.machine_laws.proofs.PendingLemmas.Pends.{Claims, FramesClaim, IsClear, None_is, assigned_keeps, holding_in_keeps, holding_keeps, opened_keeps, place_claims, put_back_keeps}
use Rattle.machine_laws.proofs.PendingLemmas.Places.{Covers, IsAmong, IsPending, PendingAmong, all_among, all_emptied_among, among_either, among_left, among_right, clear_among, clear_none}
use Rattle.machine_laws.proofs.PendingLemmas.Kept.{IsReading, IsIn, IsLeaving, IsMarked, IsStack, IsUndone, IsUnpended, IsUpdating, ModeFits, Rests, TaskFits, Want, rests_want, want_covers, want_moves}
use Rattle.machine_laws.proofs.PendingLemmas.Parts.{Fits, Keeps, asks, cleared_keeps, clear_leaves, comes_none, complained_keeps, costs, done, emptied_stays, empties_keeps, faulted, first_copy, fits_if, free_moves, given_all_fits, given_fits, held_moves, left_out_among, marked_in, marked_stays, normal, one_more, over_none, plain_carries, read_to_keeps, rests_follow, rests_leaves, stays_want, stores_if_keep, stores_keep, to, unwinds, want_follow, wrote_keeps}
use Rattle.bound_tree.specs.declared.expression.Variable.{Variable}

-- ---- places

-- places in another order
turned : (place : Place) (more : List Place) → Covers (place ∷ (more ++ [])) (more ++ place ∷ [])
turned place more out n (inl e) = among_right out n more (place ∷ []) (inl e)
turned place more out n (inr h) = elim (among_either out n more [] h) [ inl a ↦ among_left out n more (place ∷ []) a | inr b ↦ absurd b ]

turned_out : (place : Place) (more rest : List Place) → Covers ((place ∷ (more ++ [])) ++ rest) ((more ++ place ∷ []) ++ rest)
turned_out place more rest out n h =
    elim (among_either out n (place ∷ (more ++ [])) rest h) [
      | inl a ↦ among_left out n (more ++ place ∷ []) rest (turned place more out n a)
      | inr b ↦ among_right out n (more ++ place ∷ []) rest b
    ]

-- a place that is among the rest is left out
skipped : (place : Place) (more rest : List Place) → IsAmong place.out place.number rest → Covers ((place ∷ (more ++ [])) ++ rest) ((more ++ []) ++ rest)
skipped place more rest a out n (inl e) = among_right out n (more ++ []) rest (subst (λ o. IsAmong o n rest) e.0 (subst (λ i. IsAmong place.out i rest) e.1 a))
skipped place more rest a out n (inr h) = h

not_later : (mark made : ℕ) → mark < made → nat_lt mark made ≡ false → ⊥
not_later mark made h e = grind (arith, nat_tests, h, e)

suc_zero : (k m : ℕ) → k ≡ m + 1 → k ≡ 0 → ⊥
suc_zero k m e z = omega (arith, e, z)

level_zero : (l k : ℕ) → l ≡ k → (l == 0) ≡ true → k ≡ 0
level_zero l k e z = grind (arith, nat_tests, e, z)

none_of : (P : Type 0) → ⊥ → P
none_of P h = absurd h

module _ (m k : ℕ) where
  -- ---- buffers

  insert_fits : (o : Option ℕ) (p : Program) (place : Place) (t : ℕ) (vs : List Value) (made : ℕ) (ks : List StackEntry) (s : State) → IsIn m k ks s → 0 < k → Want (place ∷ []) ks s.frames k → Fits m k (insert_unless o p place t vs made ks s)
  insert_fits (Some f) p place t vs made ks s i l w = faulted m k (Some (IsMandatory t f)) ks s i
  insert_fits None p place t vs made ks s i l w =
      fits_if (nat_lt MAX_ROW_BYTES (length (bytes_of_row vs))) m k (fault (RecordTooLong t) ks s) (ask (op.Insert t vs) (WasInserted place t vs made) ks s) (λ _. faulted m k (Some (RecordTooLong t)) ks s i) (λ _. asks m k (op.Insert t vs) (WasInserted place t vs made) ks s i (l, w))

  -- a pending record is inside of a transaction
  inside_of : (l : ℕ) (place : Place) (s : State) → (l ≡ 0 → IsClear s.frames) → IsPending (buffer_in place s).content → 0 < l
  inside_of zero place s h p = absurd (clear_none s.frames place.out place.number (h refl) p)
  inside_of (suc l) place s h p = omega arith

  enter_fits : (p : Program) (place : Place) (t : ℕ) (c : Content) (ks : List StackEntry) (s : State) → (buffer_in place s).content ≡ c → IsIn m k ks s → Want (place ∷ []) ks s.frames k → Fits m k (enter_step p place t c ks s)
  enter_fits p place t Empty ks s e i w = normal m k ks s i (want_moves (place ∷ []) [] ks s.frames s.frames k (free_moves place s (λ h. subst IsPending e h)) w)
  enter_fits p place t (Record row vs lock made) ks s e i w = normal m k ks s i (want_moves (place ∷ []) [] ks s.frames s.frames k (free_moves place s (λ h. subst IsPending e h)) w)
  enter_fits p place t (Pending vs since made) ks s e i w = insert_fits (missing_field 0 (table_at p t).fields vs) p place t vs made ks s i (inside_of k place s i.1 (subst IsPending (sym e) tt)) w

  empty_in : (b : ℕ) (ks : List StackEntry) (s : State) → IsIn m k ks s → IsIn m k ks (emptied b s)
  empty_in b ks s i = to m k ks s (emptied b s) (emptied_stays b s).keeps i

  drop_fits : (o : Option RowId) (b : ℕ) (ks : List StackEntry) (s : State) → IsIn m k ks s → Want [] ks s.frames k → Fits m k (drop_step o b ks s)
  drop_fits None b ks s i w = normal m k ks (emptied b s) (empty_in b ks s i) (stays_want [] ks s (emptied b s) k (emptied_stays b s) w)
  drop_fits (Some row) b ks s i w =
      let v = stays_want [] ks s (emptied b s) k (emptied_stays b s) w in
      fits_if ((s.level == 0) && not (is_row_in row (keep_of (b ∷ []) s))) m k (ask (op.Drop row) WasDropped ks (emptied b s)) (config (Unwind Normal) ks (emptied b s)) (λ _. asks m k (op.Drop row) WasDropped ks (emptied b s) (empty_in b ks s i) v) (λ _. normal m k ks (emptied b s) (empty_in b ks s i) v)

  hold_in : (place : Place) (c : Content) (ks : List StackEntry) (s : State) → ((held : ℕ → Type 0) → Claims held c) → IsIn m k ks s → IsIn m k ks (holding_in place c s)
  hold_in place c ks s x i = to m k ks s (holding_in place c s) (record { made = refl; claims = λ held h. holding_in_keeps held place c s h (x held) }) i

  update_fits : (mark : ℕ) (place : Place) (t : ℕ) (x : Content) (from : ℕ) (but : List ℕ) (more : List Place) (ks : List StackEntry) (s : State) → (buffer_in place s).content ≡ x → IsIn m k (ThenDo (Updates from but more) ∷ ks) s → IsUpdating mark place (ThenDo (Updates from but more) ∷ ks) s.frames k →
      Fits m k (update_step mark place t x (ThenDo (Updates from but more) ∷ ks) s)
  update_fits mark place t Empty from but more ks s e i w =
      normal m k (ThenDo (Updates from but more) ∷ ks) s i (want_moves (place ∷ []) [] (ThenDo (Updates from but more) ∷ ks) s.frames s.frames k (free_moves place s (λ h. subst IsPending e h)) w.1)
  update_fits mark place t (Pending values since made) from but more ks s e i w =
      fits_if (nat_lt mark made) m k (config (Unwind Normal) (ThenDo (Updates from but more) ∷ ks) (holding_in place Empty s)) (config (Unwind Normal) (ThenDo (Updates from but more) ∷ ks) s)
      (λ _. normal m k (ThenDo (Updates from but more) ∷ ks) (holding_in place Empty s) (hold_in place Empty (ThenDo (Updates from but more) ∷ ks) s (λ held. tt) i)
      (want_moves (place ∷ []) [] (ThenDo (Updates from but more) ∷ ks) s.frames (holding_in place Empty s).frames k (held_moves place Empty s (λ h. h) (λ held. tt)) w.1))
      (λ early. normal m k (ThenDo (Updates from but more) ∷ ks) s i
      (w.1.0, λ one. none_of (PendingAmong ((more ++ []) ++ map own but) s.frames) (not_later from made (subst (Claims (λ n. from < n)) e (place_claims (λ n. from < n) place s (w.1.0 one))) (ap (λ l. nat_lt l made) w.0 ∙ early))))
  update_fits mark place t (Record row values lock made) from but more ks s e i w =
      fits_if (made_later mark made) m k (config (Unwind Normal) (ThenDo (Updates from but more) ∷ ks) (holding_in place Empty s)) (ask (op.Get t row) (WasGot place row lock made) (ThenDo (Updates from but more) ∷ ks) s)
      (λ _. normal m k (ThenDo (Updates from but more) ∷ ks) (holding_in place Empty s) (hold_in place Empty (ThenDo (Updates from but more) ∷ ks) s (λ held. tt) i)
      (want_moves (place ∷ []) [] (ThenDo (Updates from but more) ∷ ks) s.frames (holding_in place Empty s).frames k (held_moves place Empty s (λ h. h) (λ held. tt)) w.1))
      (λ _. asks m k (op.Get t row) (WasGot place row lock made) (ThenDo (Updates from but more) ∷ ks) s i w.1)

  -- ---- reading

  take_fits : (l : LockWanted) (r : Reading) (wait retry : Bool) (row : RowId) (ks : List StackEntry) (s : State) → IsIn m k ks s → Want [] ks s.frames k → Fits m k (take_step l r wait retry row ks s)
  take_fits wanted.NoLock r wait retry row ks s i w = normal m k ks s i w
  take_fits wanted.Share r wait retry row ks s i w = asks m k (op.Lock (table_of r.buffer s) row (is_exclusive r.lock) wait) (WasGranted r retry row) ks s i w
  take_fits wanted.Exclusive r wait retry row ks s i w = asks m k (op.Lock (table_of r.buffer s) row (is_exclusive r.lock) wait) (WasGranted r retry row) ks s i w

  take_again_fits : (l : LockWanted) (r : Reading) (retry : Bool) (row : RowId) (ks : List StackEntry) (s : State) → IsIn m k ks s → Want [] ks s.frames k → Fits m k (take_again_step l r retry row ks s)
  take_again_fits wanted.NoLock r retry row ks s i w = asks m k (op.Get (table_of r.buffer s) row) (WasRead r retry row NoLock) ks s i w
  take_again_fits wanted.Share r retry row ks s i w = asks m k (op.Lock (table_of r.buffer s) row (is_exclusive r.lock) true) (WasGranted r retry row) ks s i w
  take_again_fits wanted.Exclusive r retry row ks s i w = asks m k (op.Lock (table_of r.buffer s) row (is_exclusive r.lock) true) (WasGranted r retry row) ks s i w

  only_fits : (b : Bool) (q : Search) (at : Cursor) (values : List Value) (ks : List StackEntry) (s : State) → IsIn m k ks s → Want [] ks s.frames k → Fits m k (only_step b q at values ks s)
  only_fits true q at values ks s i w = (i, w)
  only_fits false q at values ks s i w = normal m k ks s i w

  search_fits : (v : EvaluatedAll) (r : Reading) (forward only wait retry : Bool) (from : Option Cursor) (ks : List StackEntry) (s : State) → IsIn m k ks s → IsReading ks × Want [] ks s.frames k → Fits m k (search_step v r forward only wait retry from ks s)
  search_fits (GivesAll values) r forward only wait retry from ks s i w = (i, w)
  search_fits (FailsAll f) r forward only wait retry from ks s i w = faulted m k (Some f) ks s i

  fetch_fits : (again : Bool) (f : Fetch) (retry : Bool) (at : Option Cursor) (ks : List StackEntry) (s : State) → IsIn m k ks s → IsReading ks × Want [] ks s.frames k → Fits m k (fetch_step again f retry at ks s)
  fetch_fits again f retry None ks s i w = (i, w)
  fetch_fits true f retry (Some at) ks s i w = ((i.0, i.1, (tt, ((tt, w.0), i.2))), w.1)
  fetch_fits false f retry (Some at) ks s i w =
      fits_if (is_each f.word) m k (config (Execute (Searches f.reading (is_forward f.word) false true retry (Some at))) ks s) (config (Unwind NotFound) ks s) (λ _. (i, w)) (λ _. unwinds m k NotFound ks s i tt (want_follow NotFound ks s.frames k w.1))

  find_fits : (word : FindWord) (r : Reading) (wait retry : Bool) (ks : List StackEntry) (s : State) → IsIn m k ks s → IsReading ks × Want [] ks s.frames k → Fits m k (find_step word r wait retry ks s)
  find_fits find.Only r wait retry ks s i w = (i, w)
  find_fits find.First r wait retry ks s i w = (i, w)
  find_fits find.Last r wait retry ks s i w = (i, w)
  find_fits find.Next r wait retry ks s i w = (i, w)
  find_fits find.Previous r wait retry ks s i w = (i, w)

  current_fits : (l : LockWanted) (r : Reading) (wait : Bool) (row : RowId) (made : Option ℕ) (ks : List StackEntry) (s : State) → IsIn m k ks s → Rests ks → Fits m k (current_step l r wait row made ks s)
  current_fits wanted.NoLock r wait row made ks s i w = asks m k (op.Get (table_of r.buffer s) row) (WasCurrent r row made) ks s i w
  current_fits wanted.Share r wait row made ks s i w = asks m k (op.Lock (table_of r.buffer s) row (is_exclusive r.lock) wait) (CurrentGranted r row made) ks s i w
  current_fits wanted.Exclusive r wait row made ks s i w = asks m k (op.Lock (table_of r.buffer s) row (is_exclusive r.lock) wait) (CurrentGranted r row made) ks s i w

  mark_in : (b : ℕ) (is : Bool) (ks : List StackEntry) (s : State) → IsIn m k ks s → IsIn m k ks (marked_locked b is s)
  mark_in b is ks s i = to m k ks s (marked_locked b is s) (marked_stays b is s).keeps i

  current_in_fits : (x : Content) (r : Reading) (wait : Bool) (ks : List StackEntry) (s : State) → IsIn m k ks s → Rests ks → Fits m k (current_in_step x r wait ks s)
  current_in_fits Empty r wait ks s i w = faulted m k (Some (NoRecordIn r.buffer)) ks s i
  current_in_fits (Pending values since made) r wait ks s i w = done m k ks (marked_locked r.buffer false s) (mark_in r.buffer false ks s i) w
  current_in_fits (Record row values lock made) r wait ks s i w = current_fits r.lock r wait row made ks (marked_locked r.buffer false s) (mark_in r.buffer false ks s i) w

  -- ---- changes

  plain_fits : (x : Completed) (ks : List StackEntry) (s : State) → class x.completion ≡ 0 → Keeps s x.state → IsIn m k ks s → Rests ks → Fits m k (ends_as x ks)
  plain_fits x ks s c h i w = unwinds m k x.completion ks x.state (to m k ks s x.state h i) (plain_carries m x.completion c) (rests_follow x.completion ks x.state.frames k w)

  assign_fits : (p : Program) (x : Right) (t : Target) (retry : Bool) (ks : List StackEntry) (s : State) → IsIn m k ks s → Rests ks → Fits m k (assign_step p x t retry ks s)
  assign_fits p (ValueOf e) t retry ks s i w = plain_fits (stored_if (value_now p e retry s) t s) ks s (stored_if_class (value_now p e retry s) t s) (stores_if_keep (value_now p e retry s) t s) i w
  assign_fits p (NextOf q) t retry ks s i w = asks m k (op.NextValue q) (WasCounted t) ks s i w
  assign_fits p (CurrentOf q) t retry ks s i w = asks m k (op.CurrentValue q) (WasCounted t) ks s i w
  assign_fits p (Given v) t retry ks s i w = plain_fits (stored t v s) ks s (stored_class t v s) (stores_keep t v s) i w

  upgrade_fits : (lock : Held) (t b : ℕ) (row : RowId) (values : List Value) (made : Option ℕ) (ks : List StackEntry) (s : State) → IsIn m k ks s → Rests ks → Fits m k (upgrade_step lock t b row values made ks s)
  upgrade_fits NoLock t b row values made ks s i w = faulted m k (Some (IsReadNoLock b)) ks s i
  upgrade_fits Share t b row values made ks s i w = asks m k (op.Lock t row true true) (WasUpgraded b row values made) ks s i w
  upgrade_fits Exclusive t b row values made ks s i w = done m k ks s i w

  lock_fits : (x : Content) (t b : ℕ) (ks : List StackEntry) (s : State) → IsIn m k ks s → Rests ks → Fits m k (lock_step x t b ks s)
  lock_fits Empty t b ks s i w = done m k ks s i w
  lock_fits (Pending values since made) t b ks s i w = done m k ks s i w
  lock_fits (Record row values lock made) t b ks s i w = upgrade_fits lock t b row values made ks s i w

  put_fits : (o : Option ℕ) (b t : ℕ) (row : RowId) (vs : List Value) (ks : List StackEntry) (s : State) → IsIn m k ks s → Rests ks → Fits m k (put_unless o b t row vs ks s)
  put_fits (Some f) b t row vs ks s i w = faulted m k (Some (IsMandatory t f)) ks s i
  put_fits None b t row vs ks s i w =
      fits_if (nat_lt MAX_ROW_BYTES (length (bytes_of_row vs))) m k (fault (RecordTooLong t) ks s) (ask (op.Put t row vs) (WasPut b t) ks s) (λ _. faulted m k (Some (RecordTooLong t)) ks s i) (λ _. asks m k (op.Put t row vs) (WasPut b t) ks s i w)

  settle_fits : (p : Program) (x : Content) (t b : ℕ) (ks : List StackEntry) (s : State) → IsIn m k ks s → Rests ks → Fits m k (settle_step p x t b ks s)
  settle_fits p Empty t b ks s i w = done m k ks s i w
  settle_fits p (Pending values since made) t b ks s i w =
      fits_if (all_begun (table_at p t).indexes since) m k (config (Execute (EntersOne (own b))) ks s) (config (Unwind Normal) ks s) (λ _. (i, rests_want (own b ∷ []) ks s.frames k w)) (λ _. done m k ks s i w)
  settle_fits p (Record row values lock made) t b ks s i w = put_fits (missing_field 0 (table_at p t).fields values) b t row values ks s i w

  delete_fits : (x : Content) (t b : ℕ) (ks : List StackEntry) (s : State) → IsIn m k ks s → Rests ks → Fits m k (delete_step x t b ks s)
  delete_fits Empty t b ks s i w = faulted m k (Some (NoRecordIn b)) ks s i
  delete_fits (Pending values since made) t b ks s i w = done m k ks (emptied b s) (empty_in b ks s i) w
  delete_fits (Record row values lock made) t b ks s i w = upgrade_fits lock t b row values made (ThenDo (DeletesRow b t row) ∷ ks) s (i.0, i.1, (w, i.2)) (tt, w)

  -- ---- ends of iterations

  error_fits : (on : Option OnPhrase) (b : Header) (o : Iteration) (passed : Passed) (ks : List StackEntry) (s : State) → IsIn m k ks s → TaskFits m k (ErrorComes b o passed) ks s.frames → Fits m k (error_step on b o passed ks s)
  error_fits None b o passed ks s i a = (i, a)
  error_fits (Some on) b o passed ks s i a = (i, a)

  endkey_fits : (on : Option OnPhrase) (b : Header) (o : Iteration) (passed : Passed) (ks : List StackEntry) (s : State) → IsIn m k ks s → TaskFits m k (EndKeyComes b o passed) ks s.frames → Fits m k (endkey_step on b o passed ks s)
  endkey_fits None b o passed ks s i a =
      fits_if (handles_endkey b) m k (config (Execute (UndoComes b o b.number (ThenLeave b.number) o.turn.retry passed)) ks s) (config (Execute (Passes b (EndKeys passed) (EndKeys (passed_with b o passed)))) ks s) (λ _. (i, a)) (λ _. (i, (a.1, first_copy m o.copy passed.first a.0 a.1, a.2)))
  endkey_fits (Some on) b o passed ks s i a = (i, a)

  act_fits : (p : Program) (act : Action) (b : Header) (o : Iteration) (retry : Bool) (ks : List StackEntry) (s : State) → IsIn m k ks s → Rests ks → Fits m k (act_step p act b o retry ks s)
  act_fits p ThenRetry b o retry ks s i w =
      fits_if b.flags.retry_seen m k (config (Unwind (Again (next_turn true o.turn))) ks s) (config (Execute (Closes b o (instead_of_retry (iterates b) b.number))) ks s) (λ _. unwinds m k (Again (next_turn true o.turn)) ks s i tt (rests_follow (Again (next_turn true o.turn)) ks s.frames k w)) (λ _. (i, w))
  act_fits p (ThenLeave l) b o retry ks s i w = (i, w)
  act_fits p (ThenNext l) b o retry ks s i w = (i, w)
  act_fits p (ThenReturn error e) b o retry ks s i w = (i, w)
  act_fits p ThenError b o retry ks s i w = (i, w)

  ends_fits : (completion : Completion) (b : Header) (o : Iteration) (ks : List StackEntry) (s : State) → ModeFits m k (Execute (EndsWith b o completion)) ks s → Fits m k (ends_step completion b o ks s)
  ends_fits (Undoes target act retry passed) b o ks s a = a
  ends_fits (Raises passed) b o ks s a = a
  ends_fits (EndKeys passed) b o ks s a = a
  ends_fits (Stops end) b o ks s a = tt
  ends_fits completion b o ks s a = ((a.0.0, a.0.1, ((a.1.0, a.1.2), a.0.2)), tt)

  -- ---- blocks

  fetched_want : (b : Header) (copy : Option Copy) (t : Turn) (buffer body d : ℕ) (retry : Bool) (ks : List StackEntry) (fs : List CallFrame) → IsUnpended copy fs → Want [] (FetchedAs b copy t buffer body d retry ∷ ks) fs k
  fetched_want b None t buffer body d retry ks fs h = tt
  fetched_want b (Some copy) t buffer body d retry ks fs h = λ e. clear_among [] fs (h e)

  begins_fits : (f : Option Fetch) (b : Header) (copy : Option Copy) (t : Turn) (retry : Bool) (body d : ℕ) (ks : List StackEntry) (s : State) → IsIn m k ks s → TaskFits m k (Begins b copy t retry body d) ks s.frames → Fits m k (begins_step f b copy t retry body d ks s)
  begins_fits None b copy t retry body d ks s i a = ((i.0, i.1, ((a.0, a.2), i.2)), tt)
  begins_fits (Some f) b copy t retry body d ks s i a = ((i.0, i.1, ((a.0, a.2), i.2)), (tt, fetched_want b copy t f.reading.buffer body d retry ks s.frames a.1))

  while_fits : (p : Program) (e : Option Expr) (retry : Bool) (go : State → Config) (ks : List StackEntry) (s : State) → IsIn m k ks s → Rests ks → ((t : State) → IsIn m k ks t → Fits m k (go t)) → Fits m k (while_step p e retry go ks s)
  while_fits p None retry go ks s i w x = x s i
  while_fits p (Some e) retry go ks s i w x =
      given_fits m k (value_now p e retry s) (λ v s. config_if (holds v) (go s) (config (Unwind Normal) ks s)) ks s i (λ v. fits_if (holds v) m k (go s) (config (Unwind Normal) ks s) (λ _. x s i) (λ _. done m k ks s i w))

  reach_fits : (p : Program) (l : ToPhrase) (by : Value) (retry : Bool) (go : State → Config) (ks : List StackEntry) (s : State) → IsIn m k ks s → Rests ks → ((t : State) → IsIn m k ks t → Fits m k (go t)) → Fits m k (reach_step p l by retry go ks s)
  reach_fits p l by retry go ks s i w x =
      given_fits m k (value_now p l.end retry s) (λ end s. config_if (in_bound (counts_down by) (value_of l.variable s) end) (go s) (config (Unwind Normal) ks s)) ks s i
      (λ end. fits_if (in_bound (counts_down by) (value_of l.variable s) end) m k (go s) (config (Unwind Normal) ks s) (λ _. x s i) (λ _. done m k ks s i w))

  assigned_in : (x : Variable) (v : Value) (ks : List StackEntry) (s : State) → IsIn m k ks s → IsIn m k ks (assigned x v s)
  assigned_in x v ks s i = to m k ks s (assigned x v s) (record { made = refl; claims = λ held h. assigned_keeps held x v s h }) i

  set_fits : (p : Program) (l : ToPhrase) (by : Value) (retry : Bool) (v : Evaluated) (go : State → Config) (ks : List StackEntry) (s : State) → IsIn m k ks s → Rests ks → ((t : State) → IsIn m k ks t → Fits m k (go t)) → Fits m k (set_step p l by retry v go ks s)
  set_fits p l by retry v go ks s i w x =
      given_fits m k v (λ v s. given_step (fit l.variable.kind v) (λ v s. reach_step p l by retry go ks (assigned l.variable v s)) ks s) ks s i
      (λ v. given_fits m k (fit l.variable.kind v) (λ v s. reach_step p l by retry go ks (assigned l.variable v s)) ks s i (λ v. reach_fits p l by retry go ks (assigned l.variable v s) (assigned_in l.variable v ks s i) w x))

  advance_fits : (p : Program) (l : ToPhrase) (t : Turn) (retry : Bool) (o : Option Value) (go : State → Config) (ks : List StackEntry) (s : State) → IsIn m k ks s → Rests ks → ((t : State) → IsIn m k ks t → Fits m k (go t)) → Fits m k (advance_step p l t retry o go ks s)
  advance_fits p l t retry None go ks s i w x = set_fits p l t.by retry (next_value l t s) go ks s i w x
  advance_fits p l t retry (Some v) go ks s i w x = set_fits p l t.by retry (Gives v) go ks s i w x

  loop_fits : (p : Program) (l : Option ToPhrase) (t : Turn) (retry : Bool) (go : State → Config) (ks : List StackEntry) (s : State) → IsIn m k ks s → Rests ks → ((t : State) → IsIn m k ks t → Fits m k (go t)) → Fits m k (loop_step p l t retry go ks s)
  loop_fits p None t retry go ks s i w x = x s i
  loop_fits p (Some l) t retry go ks s i w x = fits_if t.retry m k (go s) (advance_step p l t retry t.start go ks s) (λ _. x s i) (λ _. advance_fits p l t retry t.start go ks s i w x)

  turn_fits : (p : Program) (b : Header) (outer : Bool) (body d : ℕ) (t : Turn) (ks : List StackEntry) (s : State) → IsIn m k ks s → Rests ks → Fits m k (turn_step p b outer body d t ks s)
  turn_fits p b outer body d t ks s i w =
      loop_fits p b.to t (retry_in b t outer)
      (λ s. while_step p b.while_test (retry_in b t outer) (λ s. config (Execute (EntersLevel b (record t { start = None }) (retry_in b t outer) body d)) ks s) ks s) ks s i w
      (λ u j. while_fits p b.while_test (retry_in b t outer) (λ s. config (Execute (EntersLevel b (record t { start = None }) (retry_in b t outer) body d)) ks s) ks u j w (λ v l. (l, w)))

  by_fits : (p : Program) (e : Option Expr) (outer : Bool) (go : Value → State → Config) (ks : List StackEntry) (s : State) → IsIn m k ks s → ((v : Value) → Fits m k (go v s)) → Fits m k (by_step p e outer go ks s)
  by_fits p None outer go ks s i x = x (Int64 (pos 1))
  by_fits p (Some e) outer go ks s i x = given_fits m k (value_now p e outer s) go ks s i x

  block_fits : (p : Program) (l : Option ToPhrase) (b : Header) (outer : Bool) (body d : ℕ) (ks : List StackEntry) (s : State) → IsIn m k ks s → Rests ks → Fits m k (block_step p l b outer body d ks s)
  block_fits p None b outer body d ks s i w = (i, w)
  block_fits p (Some l) b outer body d ks s i w =
      given_fits m k (value_now p l.start outer s) (λ v s. by_step p l.by outer (λ w s. config (Execute (Turns s.units b outer body d (first_turn (Some v) w))) ks s) ks s) ks s i
      (λ v. by_fits p l.by outer (λ w s. config (Execute (Turns s.units b outer body d (first_turn (Some v) w))) ks s) ks s i (λ _. (i, w)))

  -- ---- statements

  wrote_to_fits : (n : ℕ) (bytes : List ℕ) (ks : List StackEntry) (s : State) → IsIn m k ks s → Rests ks → Fits m k (ends_as (wrote_to n bytes s) ks)
  wrote_to_fits n bytes ks s i w = plain_fits (wrote_to n bytes s) ks s (wrote_class (Wrote (stream_at n s).output bytes) s) (wrote_keeps (Wrote (stream_at n s).output bytes) s) i w

  export_fits : (x : Content) (n b : ℕ) (ks : List StackEntry) (s : State) → IsIn m k ks s → Rests ks → Fits m k (export_step x n b ks s)
  export_fits Empty n b ks s i w = faulted m k (Some (NoRecordIn b)) ks s i
  export_fits (Record row values lock made) n b ks s i w = wrote_to_fits n (export_line values) ks s i w
  export_fits (Pending values since made) n b ks s i w = wrote_to_fits n (export_line values) ks s i w

  text_fits : (x : Text) (n : ℕ) (ks : List StackEntry) (s : State) → IsIn m k ks s → Rests ks → Fits m k (given_text_step x n ks s)
  text_fits (IsText bytes) n ks s i w = wrote_to_fits n bytes ks s i w
  text_fits (HasFault f) n ks s i w = faulted m k (Some f) ks s i

  import_fits : (x : Imported) (n : ℕ) (ts : List (Option Target)) (retry : Bool) (ks : List StackEntry) (s : State) → IsIn m k ks s → Rests ks → Fits m k (import_step x n ts retry ks s)
  import_fits AtInputEnd n ts retry ks s i w = unwinds m k (EndKeys nothing_passed) ks s i tt (rests_follow (EndKeys nothing_passed) ks s.frames k w)
  import_fits (BadElement number next) n ts retry ks s i w = faulted m k (Some (BadField number)) ks (read_to n next s) (to m k ks s (read_to n next s) (read_to_keeps n next s) i)
  import_fits (Elements vs next) n ts retry ks s i w = (to m k ks s (read_to n next s) (read_to_keeps n next s) i, w)

  over_in : (entry : StackEntry) (ks : List StackEntry) (s : State) → IsIn m k ks s → IsStack m (entry ∷ ks) → IsIn m k (entry ∷ ks) s
  over_in entry ks s i h = (i.0, i.1, h)

  choose_fits : (v : Evaluated) (p : Program) (one other d : ℕ) (retry : Bool) (ks : List StackEntry) (s : State) → IsIn m k ks s → Rests ks → Fits m k (choose_step v p one other d retry ks s)
  choose_fits (Gives v) p one other d retry ks s i w = fits_if (holds v) m k (config (Execute (RunsFrom one d retry)) ks s) (config (Execute (RunsFrom other d retry)) ks s) (λ _. (i, w)) (λ _. (i, w))
  choose_fits (Fails f) p one other d retry ks s i w =
      let x = complained p (Some f) s in
      unwinds m k x.completion (ThenDo (Completes (Raises nothing_passed)) ∷ ks) x.state (over_in (ThenDo (Completes (Raises nothing_passed))) ks x.state (to m k ks s x.state (complained_keeps p (Some f) s) i) (tt, i.2)) (plain_carries m x.completion (complained_class p (Some f) s))
      (rests_follow x.completion (ThenDo (Completes (Raises nothing_passed)) ∷ ks) x.state.frames k (tt, w))

  clear_in : (quiet : Bool) (ks : List StackEntry) (s : State) → IsIn m k ks s → IsIn m k ks (cleared quiet s)
  clear_in quiet ks s i = to m k ks s (cleared quiet s) (cleared_keeps quiet s) i

  handles_in : (quiet : Bool) (ks : List StackEntry) (s : State) → IsIn m k ks s → Rests ks → IsIn m k (Handles quiet ∷ ks) s
  handles_in quiet ks s i w = (i.0, i.1, (w, i.2))

  stmt_fits : (p : Program) (t : Stmt) (d : ℕ) (retry : Bool) (ks : List StackEntry) (s : State) → IsIn m k ks s → Rests ks → Fits m k (stmt_step p t d retry ks s)
  stmt_fits p (Inner b body) d retry ks s i w = done m k ks s i w
  stmt_fits p (Choose test then_it else_it) d retry ks s i w = done m k ks s i w
  stmt_fits p (Assign pairs quiet) d retry ks s i w = (handles_in quiet ks (cleared quiet s) (clear_in quiet ks s i) w, tt)
  stmt_fits p (Find word reading wait quiet) d retry ks s i w = (let j = handles_in quiet ks (cleared quiet s) (clear_in quiet ks s i) w in ((j.0, j.1, (tt, j.2)), tt))
  stmt_fits p (FindCurrent reading wait quiet) d retry ks s i w = (handles_in quiet ks (cleared quiet s) (clear_in quiet ks s i) w, tt)
  stmt_fits p (Create b quiet) d retry ks s i w = (handles_in quiet ks (cleared quiet s) (clear_in quiet ks s i) w, tt)
  stmt_fits p (Remove b quiet) d retry ks s i w = (handles_in quiet ks (cleared quiet s) (clear_in quiet ks s i) w, tt)
  stmt_fits p (Release b quiet) d retry ks s i w = (let j = handles_in quiet ks (cleared quiet s) (clear_in quiet ks s i) w in ((j.0, j.1, (tt, j.2)), tt))
  stmt_fits p (UndoBlock l act) d retry ks s i w = (handles_in false ks s i w, tt, tt)
  stmt_fits p (LeaveBlock l) d retry ks s i w = (handles_in false ks s i w, tt, tt)
  stmt_fits p (NextBlock l) d retry ks s i w = (handles_in false ks s i w, tt, tt)
  stmt_fits p (Return e) d retry ks s i w = (handles_in false ks s i w, tt, tt)
  stmt_fits p (ReturnError l e) d retry ks s i w = (handles_in false ks s i w, tt, tt)
  stmt_fits p Stop d retry ks s i w = tt
  stmt_fits p (Run n args quiet) d retry ks s i w =
      let j = handles_in quiet ks (cleared quiet s) (clear_in quiet ks s i) w in
      given_all_fits m k (argument_values p args (procedure_at p n).parameters retry (cleared quiet s)) (λ vs s. config (Execute (Calls d n args vs)) (Handles quiet ∷ ks) s) (Handles quiet ∷ ks) (cleared quiet s) j (λ vs. (j, tt))
  stmt_fits p (Import n targets quiet) d retry ks s i w = (handles_in quiet ks (cleared quiet s) (clear_in quiet ks s i) w, tt)
  stmt_fits p (Export n es) d retry ks s i w =
      let j = handles_in false ks s i w in
      given_all_fits m k (values_now p es retry s) (λ vs s. ends_as (wrote_to n (export_line vs) s) (Handles false ∷ ks)) (Handles false ∷ ks) s j (λ vs. wrote_to_fits n (export_line vs) (Handles false ∷ ks) s j tt)
  stmt_fits p (ExportRecord n b) d retry ks s i w = export_fits (content_of b s) n b (Handles false ∷ ks) s (handles_in false ks s i w) tt
  stmt_fits p (PutItems n items) d retry ks s i w = text_fits (put_text p items retry s) n (Handles false ∷ ks) s (handles_in false ks s i w) tt
  stmt_fits p (Message es) d retry ks s i w =
      let j = handles_in false ks s i w in
      given_all_fits m k (values_now p es retry s) (λ vs s. ends_as (wrote_to 0 (message_line vs) s) (Handles false ∷ ks)) (Handles false ∷ ks) s j (λ vs. wrote_to_fits 0 (message_line vs) (Handles false ∷ ks) s j tt)
  stmt_fits p (OutputTo n output appends) d retry ks s i w =
      plain_fits (wrote (Opened output appends) (with_stream n (record (stream_at n s) { output = Some output }) s)) (Handles false ∷ ks) (with_stream n (record (stream_at n s) { output = Some output }) s)
      (wrote_class (Opened output appends) (with_stream n (record (stream_at n s) { output = Some output }) s)) (wrote_keeps (Opened output appends) (with_stream n (record (stream_at n s) { output = Some output }) s)) (handles_in false ks s i w) tt
  stmt_fits p (OutputClose n) d retry ks s i w = (handles_in false ks s i w, tt, tt)
  stmt_fits p (InputFrom n input) d retry ks s i w = (handles_in false ks s i w, tt, tt)
  stmt_fits p (InputClose n) d retry ks s i w = (handles_in false ks s i w, tt, tt)

  runs_in : (next d : ℕ) (retry : Bool) (ks : List StackEntry) (s : State) → IsIn m k ks s → Rests ks → IsIn m k (ThenDo (RunsFrom next d retry) ∷ ks) s
  runs_in next d retry ks s i w = (i.0, i.1, (w, i.2))

  instr_fits : (p : Program) (i : Instr) (d : ℕ) (retry : Bool) (ks : List StackEntry) (s : State) → IsIn m k ks s → Rests ks → Fits m k (instr_step p i d retry ks s)
  instr_fits p Ends d retry ks s i w = done m k ks s i w
  instr_fits p (Opens b body next) d retry ks s i w =
      costs m k (λ s. config (Execute (Blocks b retry body d)) (Handles false ∷ ThenDo (RunsFrom next d retry) ∷ ks) s) ks s i (λ t j. (handles_in false (ThenDo (RunsFrom next d retry) ∷ ks) t (runs_in next d retry ks t j w) (tt, w), tt))
  instr_fits p (Tests test one other) d retry ks s i w = costs m k (λ s. choose_step (value_now p test retry s) p one other d retry ks s) ks s i (λ t j. choose_fits (value_now p test retry t) p one other d retry ks t j w)
  instr_fits p (Plain t next) d retry ks s i w = costs m k (λ s. stmt_step p t d retry (ThenDo (RunsFrom next d retry) ∷ ks) s) ks s i (λ u j. stmt_fits p t d retry (ThenDo (RunsFrom next d retry) ∷ ks) u (runs_in next d retry ks u j w) (tt, w))

  -- ---- a level that is left, or taken back

  abbrev task_rest : Option Copy → List StackEntry → State → Config
  task_rest None ks s = config (Unwind Normal) ks s
  task_rest (Some copy) ks s = config_if (copy.depth == 1) (config (Execute (Enters (all_places s))) ks s) (config (Unwind Normal) ks s)

  rest_fits : (copy : Option Copy) (ks : List StackEntry) (s : State) → IsIn m k ks s → IsLeaving copy ks → Fits m k (task_rest copy ks s)
  rest_fits None (ThenDo (LeavesIf None but) ∷ ks) s i e = normal m k (ThenDo (LeavesIf None but) ∷ ks) s i tt
  rest_fits None (ThenDo (LeavesIf (Some c) but) ∷ ks) s i e = cc
  rest_fits (Some copy) (ThenDo (LeavesIf None but) ∷ ks) s i e = cc
  rest_fits (Some copy) (ThenDo (LeavesIf (Some c) but) ∷ ks) s i e =
      let same : c ≡ copy = cc in
      fits_if (copy.depth == 1) m k (config (Execute (Enters (all_places s))) (ThenDo (LeavesIf (Some c) but) ∷ ks) s) (config (Unwind Normal) (ThenDo (LeavesIf (Some c) but) ∷ ks) s)
      (λ _. (i, (tt, λ one out n p. among_left out n (all_places s) [] (all_among s out n p))))
      (λ no_one. normal m k (ThenDo (LeavesIf (Some c) but) ∷ ks) s i (λ one. none_of (PendingAmong [] s.frames) (is_one copy.depth (sym (ap (λ (x : Copy). x.depth) same) ∙ one) no_one)))
    where
      is_one : (n : ℕ) → n ≡ 1 → (n == 1) ≡ false → ⊥
      is_one n e f = grind (arith, nat_tests, e, f)
  rest_fits copy ks s i e = absurd e

  updated_fits : (mark : ℕ) (but : List ℕ) (ks : List StackEntry) (s : State) → IsIn m k ks s → IsUndone but ks → (k ≡ 1 → PendingAmong (([] ++ []) ++ map own but) s.frames) → Fits m k (config (Unwind Normal) ks s)
  updated_fits mark but (ThenDo (LeavesNow b) ∷ ThenDo (Empties c) ∷ ks) s i e w = normal m k (ThenDo (LeavesNow b) ∷ ThenDo (Empties c) ∷ ks) s i (λ one. subst (λ l. PendingAmong ([] ++ map own l) s.frames) (sym e) (w one))
  updated_fits mark but ks s i e w = absurd e

  one_updated : (mark : ℕ) (place : Place) (ks : List StackEntry) (s : State) → IsIn m k ks s → IsUpdating mark place ks s.frames k → Fits m k (update_step mark place (buffer_in place s).table (buffer_in place s).content ks s)
  one_updated mark place (ThenDo (Updates from but more) ∷ ks) s i w = update_fits mark place (buffer_in place s).table (buffer_in place s).content from but more ks s refl i w
  one_updated mark place ks s i w = absurd w

  -- ---- a task

  module _ (tree : ℕ → Body) (code : Code) (p : Program) where
    completes_fits : (completion : Completion) (ks : List StackEntry) (s : State) → ModeFits m k (Execute (Completes completion)) ks s → Fits m k (config (Unwind completion) ks s)
    completes_fits (Stops end) ks s a = tt
    completes_fits completion ks s a = unwinds m k completion ks s a.0 a.1.0 a.1.1

    pub task_fits : (t : Task) (ks : List StackEntry) (s : State) → HasLevel tree (Execute t) s k → TaskAt tree (StackAt tree ks) (takes ks) t k → ModeFits m k (Execute t) ks s → Fits m k (task_step code p t ks s)
    task_fits (EntersOne place) ks s e l a = enter_fits p place (buffer_in place s).table (buffer_in place s).content ks s refl a.0 a.1
    task_fits (Enters []) ks s e l a = normal m k ks s a.0 a.1.1
    task_fits (Enters (place ∷ more)) ks s e l a = ((a.0.0, a.0.1, (a.1.0, a.0.2)), want_covers (place ∷ (more ++ [])) (more ++ place ∷ []) ks s.frames k (turned place more) a.1.1)
    task_fits (Drops b) ks s e l a = drop_fits (locked_row (content_of b s)) b ks s a.0 a.1
    task_fits (Releases []) ks s e l a = normal m k ks s a.0 a.1
    task_fits (Releases (b ∷ bs)) ks s e l a = ((a.0.0, a.0.1, (tt, (tt, a.0.2))), one_more (own b) ks s.frames k a.1)
    task_fits (EntersRest None) ks s e l a = rest_fits None ks s a.0 a.1
    task_fits (EntersRest (Some copy)) ks s e l a = rest_fits (Some copy) ks s a.0 a.1
    task_fits (LeavesIf None but) ks s e l a = done m k ks s a.0 a.1.0
    task_fits (LeavesIf (Some copy) but) ks s e l a = (a.0, (rests_leaves ks a.1.0, clear_leaves ks s.frames k (λ one. a.1.1 (l.2.0 ∙ one))))
    task_fits (LeavesNow but) ks s e l a = asks m k (op.Leave (keep_of but s)) WasLeft ks s a.0 a.1
    task_fits (Closing b o) ks s e l a = ((a.0.0, a.0.1, (tt, (refl, (a.1, a.0.2)))), (tt, tt))
    task_fits (GoesBack None but) ks s e l a = done m k ks s a.0 a.1.1
    task_fits (GoesBack (Some copy) but) ks s e l a = asks m k (op.Back copy.depth) (WasBack copy but) ks s a.0 a.1
    task_fits (UpdatesOne mark place) ks s e l a = one_updated mark place ks s a.0 a.1
    task_fits (Updates mark but []) ks s e l a = updated_fits mark but ks s a.0 a.1.0 a.1.2
    task_fits (Updates mark but (place ∷ more)) ks s e l a =
        let i : IsIn m k (ThenDo (Updates mark but more) ∷ ks) s = (a.0.0, a.0.1, (a.1.0, a.0.2)) in
        fits_if (is_left_out but place) m k (config (Unwind Normal) (ThenDo (Updates mark but more) ∷ ks) s) (config (Execute (UpdatesOne mark place)) (ThenDo (Updates mark but more) ∷ ks) s)
        (λ out. normal m k (ThenDo (Updates mark but more) ∷ ks) s i (a.1.1, λ one o n q. skipped place more (map own but) (left_out_among but place out) o n (a.1.2 one o n q)))
        (λ _. (i, (refl, (a.1.1, λ one o n q. turned_out place more (map own but) o n (a.1.2 one o n q)))))
    task_fits (AfterBack copy but) ks s e l a =
        let t = put_back copy s in
        let marked : IsMarked m t = (put_back_keeps (λ made. m < made) copy s a.1.0.0 a.0.0.0, a.0.0.1) in (
          (marked, λ z. none_of (IsClear t.frames) (suc_zero k l.0 l.3 z), (a.1.1, (a.1.1, a.0.2))),
          (refl, λ one. subst (λ n. FramesClaim (λ made. n < made) t.frames) (sym (a.1.0.1 (l.2 ∙ one))) marked.0, λ one o n q. among_left o n (all_places t ++ []) (map own but) (among_left o n (all_places t) [] (all_among t o n q))),
        )
    task_fits (Acts b o act retry) ks s e l a = act_fits p act b o retry ks s a.0 a.1
    task_fits (IsOnly q at values) ks s e l a = only_fits q.only q at values ks s a.0 a.1
    task_fits (Seconds zero q at values from) ks s e l a = tt
    task_fits (Seconds (suc n) q at values from) ks s e l a = asks m k (op.Next (table_of q.reading.buffer s) q.reading.index q.prefix (Some from) true) (WasSecond n q at values) ks s a.0 a.1
    task_fits (TakesAs r wait retry row) ks s e l a = take_fits r.lock r wait retry row ks s a.0 a.1
    task_fits (TakesAgain r retry row) ks s e l a = take_again_fits r.lock r retry row ks s a.0 a.1
    task_fits (Takes q at values) ks s e l a = ((a.0.0, a.0.1, (tt, (tt, a.0.2))), a.1)
    task_fits (Looks zero q from) ks s e l a = tt
    task_fits (Looks (suc n) q from) ks s e l a = asks m k (op.Next (table_of q.reading.buffer s) q.reading.index q.prefix from q.forward) (WasNext n q) ks s a.0 a.1
    task_fits (Searches r forward only wait retry from) ks s e l a = search_fits (values_now p (map (λ x. x.value) r.bracket) retry s) r forward only wait retry from ks s a.0 a.1
    task_fits (FetchesFrom again f retry at) ks s e l a = fetch_fits again f retry at ks s a.0 a.1
    task_fits (Fetches f t retry) ks s e l a =
        let u = marked_locked f.reading.buffer false s in
        let i = mark_in f.reading.buffer false ks s a.0 in
        ((i.0, i.1, (tt, (a.1.0, i.2))), one_more (own f.reading.buffer) ks u.frames k (stays_want [] ks s u k (marked_stays f.reading.buffer false s) a.1.1))
    task_fits (FindsAs word r wait retry) ks s e l a = find_fits word r wait retry ks s a.0 a.1
    task_fits (Finds word r wait retry) ks s e l a = (let i = mark_in r.buffer false ks s a.0 in ((i.0, i.1, (tt, (tt, (a.1, i.2)))), tt))
    task_fits (FindsCurrent r wait) ks s e l a = current_in_fits (content_of r.buffer s) r wait ks s a.0 a.1
    task_fits (AssignsOne t x retry) ks s e l a = assign_fits p x t retry ks s a.0 a.1
    task_fits (AssignsEach [] retry) ks s e l a = done m k ks s a.0 a.1
    task_fits (AssignsEach (x ∷ xs) retry) ks s e l a = ((a.0.0, a.0.1, (a.1, a.0.2)), (tt, a.1))
    task_fits (LocksOne b) ks s e l a = lock_fits (content_of b s) (table_of b s) b ks s a.0 a.1
    task_fits (LocksAll []) ks s e l a = done m k ks s a.0 a.1
    task_fits (LocksAll (b ∷ bs)) ks s e l a = ((a.0.0, a.0.1, (a.1, a.0.2)), (tt, a.1))
    task_fits (SettlesOne b) ks s e l a = settle_fits p (content_of b s) (table_of b s) b ks s a.0 a.1
    task_fits (SettlesAll olds []) ks s e l a = done m k ks s a.0 a.1
    task_fits (SettlesAll olds (b ∷ bs)) ks s e l a = ((a.0.0, a.0.1, ((tt, a.1), (a.1, a.0.2))), tt)
    task_fits (Assigns xs retry) ks s e l a = ((a.0.0, a.0.1, (tt, ((tt, a.1), (a.1, a.0.2)))), (tt, tt))
    task_fits (Creates b) ks s e l a = ((a.0.0, a.0.1, (tt, (a.1, a.0.2))), one_more (own b) (ThenDo (Drops b) ∷ ThenDo (Begun b) ∷ ks) s.frames k (rests_want [] ks s.frames k a.1))
    task_fits (Deletes b) ks s e l a = delete_fits (content_of b s) (table_of b s) b ks s a.0 a.1
    task_fits (DeletesRow b t row) ks s e l a = asks m k (op.Delete t row) (WasDeleted b) ks s a.0 a.1
    task_fits (Begun b) ks s e l a =
        let u = begun p b s in
        let claims : IsMarked m u = (holding_keeps (λ made. m < made) b (Pending _ [] (s.made + 1)) (record s { made = s.made + 1 }) a.0.0.0 (let h = a.0.0.1 in omega (arith, h)), (let h = a.0.0.1 in omega (arith, h))) in
        done m k ks u (claims, λ z. none_of (IsClear u.frames) (let inside = l.2 in omega (arith, inside, z)), a.0.2) a.1
    task_fits (Completes completion) ks s e l a = completes_fits completion ks s a
    task_fits (Empties but) ks s e l a =
        done m k ks (all_emptied but s) (marked_in m s (all_emptied but s) (empties_keeps but s) a.0, λ z. all_emptied_among but s (a.1 z), a.2.1) a.2.0
    task_fits (Closes b o completion) ks s e l a =
        ((a.0.0, a.0.1, (over_none (after_iteration b o completion) (after_over b o completion l.2), a.0.2)), rests_want [] ks s.frames k a.1)
    task_fits (Passes b ended_way left_way) ks s e l a =
        fits_if (s.level == 0) m k (config (Execute (Releases b.scoped)) (ThenDo (Completes ended_way) ∷ ks) s) (config (Unwind left_way) ks s)
        (λ z. (let zero_is : k ≡ 0 = level_zero s.level k e z in
        ((a.0.0, a.0.1, (comes_none ended_way l.0 k zero_is (l.2 zero_is).0, a.0.2)), rests_want [] ks s.frames k a.1.2)))
        (λ _. unwinds m k left_way ks s a.0 a.1.1 (rests_follow left_way ks s.frames k a.1.2))
    task_fits (UndoComes b o target act retry passed) ks s e l a =
        fits_if (target == b.number) m k
        (config (Execute (GoesBack (passed_with b o passed).first (passed_with b o passed).buffers)) (ThenDo (Acts b o act retry) ∷ ks) s)
        (config (Execute (Passes b (Undoes target act retry passed) (Undoes target act retry (passed_with b o passed)))) ks s)
        (λ _. ((a.0.0, a.0.1, (a.1.2, a.0.2)), (first_copy m o.copy passed.first a.1.0 a.1.1, (tt, a.1.2))))
        (λ _. (a.0, (a.1.1, first_copy m o.copy passed.first a.1.0 a.1.1, a.1.2)))
    task_fits (ErrorComes b o passed) ks s e l a =
        fits_if b.flags.undo m k (error_step b.on_error b o passed ks s) (config (Execute (Passes b (Raises passed) (Raises (passed_with b o passed)))) ks s) (λ _. error_fits b.on_error b o passed ks s a.0 a.1)
        (λ _. (a.0, (a.1.1, first_copy m o.copy passed.first a.1.0 a.1.1, a.1.2)))
    task_fits (EndKeyComes b o passed) ks s e l a = endkey_fits b.on_endkey b o passed ks s a.0 a.1
    task_fits (EndsWith b o completion) ks s e l a = ends_fits completion b o ks s a
    task_fits (RunsFrom place d retry) ks s e l a = instr_fits p (code.instr place) d retry ks s a.0 a.1
    task_fits (Begins b copy t retry body d) ks s e l a = begins_fits b.fetch b copy t retry body d ks s a.0 a.1
    task_fits (EntersLevel b t retry body d) ks s e l a =
        fits_if (enters_at b s.level) m k (ask op.Enter (WasEntered b t retry body d) ks s) (config (Execute (Begins b None t retry body d)) ks s) (λ _. asks m k op.Enter (WasEntered b t retry body d) ks s a.0 a.1) (λ _. (a.0, (tt, tt, a.1)))
    task_fits (Turns zero b outer body d t) ks s e l a = tt
    task_fits (Turns (suc n) b outer body d t) ks s e l a = ((a.0.0, a.0.1, (a.1, a.0.2)), tt)
    task_fits (Iterates b outer body d t) ks s e l a = costs m k (λ s. turn_step p b outer body d t ks s) ks s a.0 (λ u j. turn_fits p b outer body d t ks u j a.1)
    task_fits (Blocks b outer body d) ks s e l a = block_fits p b.to b outer body d ks s a.0 a.1
    task_fits (Imports n ts retry) ks s e l a = import_fits (line_now p n ts s) n ts retry ks s a.0 a.1
    task_fits (Calls zero n args vs) ks s e l a = tt
    task_fits (Calls (suc d) n args vs) ks s e l a =
        (((opened_keeps (λ made. m < made) p n args vs s a.0.0.0, a.0.0.1), λ z. opened_keeps None_is p n args vs s (a.0.1 z), (a.1, a.0.2)), tt)
