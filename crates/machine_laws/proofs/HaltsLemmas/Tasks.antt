-- Each step of a task spends a unit, or leaves less to do.
use Rattle.std.proofs.Common.{arith, ◌<◌, ◌≤◌, inl, inr, ℕ, zero, suc, ◌+◌, Bool, true, false, List, [], ◌∷◌, Option, Some, None, length, map}
use Rattle.std.specs.Prelude.{◌==◌, ◌&&◌, not, nat_lt, pos}
use Rattle.abl_base.specs.declared.limits.TheConstants.{MAX_ROW_BYTES}
use Rattle.abl_base.specs.declared.row.RowId.{RowId}
use Rattle.abl_base.specs.declared.value.Value.{Value}
use Rattle.abl_base.specs.declared.value.Value.TheVariants.{Int64}
use Rattle.abl_values.specs.Rows.{bytes_of_row}
use Rattle.database_protocol.specs.declared.row_order.Cursor.{Cursor}
use Rattle.database_protocol.specs.declared.operation.Op.TheVariants as op
use Rattle.bound_tree.specs.declared.block.LockWanted.{LockWanted}
use Rattle.bound_tree.specs.declared.block.LockWanted.TheVariants as wanted
use Rattle.bound_tree.specs.declared.statement.FindWord.{FindWord}
use Rattle.bound_tree.specs.declared.statement.FindWord.TheVariants as find
use Rattle.bound_tree.specs.declared.statement.Target.{Target}
use Rattle.bound_tree.specs.Tree.{Action, CurrentOf, Expr, Fetch, Given, Header, NextOf, OnPhrase, Reading, Right, ThenError, ThenLeave, ThenNext, ThenRetry, ThenReturn, ToPhrase, ValueOf}
use Rattle.abl_base.specs.text_forms.TextForms.{AtInputEnd, BadElement, Elements, Imported}
use Rattle.block_meaning.specs.Blocks.{Iteration, enters_at, first_turn, handles_endkey, instead_of_retry, iterates, next_turn, passed_with}
use Rattle.block_meaning.specs.Buffers.{Place, all_places, buffer_in, holding_in, is_left_out, is_row_in, keep_of, made_later, missing_field, own}
use Rattle.block_meaning.specs.Changes.{all_begun}
use Rattle.block_meaning.specs.Frames.{content_of, emptied, locked_row, marked_locked, table_of}
use Rattle.block_meaning.specs.Lines.{RecordTooLong}
use Rattle.block_meaning.specs.Program.{Program, table_at}
use Rattle.block_meaning.specs.Reads.{Search, is_each, is_exclusive, is_forward}
use Rattle.block_meaning.specs.State.{Again, Completion, Content, Copy, Empty, EndKeys, Exclusive, Held, NoLock, Normal, NotFound, Passed, Pending, Raises, Record, Share, State, Stops, Turn, Undoes}
use Rattle.block_meaning.specs.Streams.{line_now}
use Rattle.block_meaning.specs.Values.{EvaluatedAll, FailsAll, GivesAll, value_now, values_now}
use Rattle.flat_machine.specs.Code.{Code, Ends, Instr, Opens, Plain, Tests}
use Rattle.flat_machine.specs.Config.{Acts, AfterBack, Assigns, AssignsEach, AssignsOne, Begins, Begun, Blocks, Calls, Closes, Closing, Completes, Config, Creates, CurrentGranted, Deletes, DeletesRow, Drops, Empties, EndKeyComes, EndsWith, Enters, EntersLevel, EntersOne, EntersRest, ErrorComes, Execute, Fetches, FetchesFrom, Finds, FindsAs, FindsCurrent, GoesBack, Imports, IsOnly, Iterates, LeavesIf, LeavesNow, LocksAll, LocksOne, Looks, Passes, Releases, RunsFrom, Searches, Seconds, SettlesAll, SettlesOne, StackEntry, Takes, TakesAgain, TakesAs, Task, ThenDo, Turns, UndoComes, Unwind, Updates, UpdatesOne, Handles, WasBack, WasCounted, WasCurrent, WasDeleted, WasDropped, WasEntered, WasGot, WasGranted, WasInserted, WasLeft, WasNext, WasPut, WasRead, WasSecond, WasUpgraded}
use Rattle.flat_machine.specs.Machine.{task_step}
use Rattle.flat_machine.specs.Steps.{act_step, ask, assign_step, begins_step, block_step, by_step, choose_step, config, current_in_step, current_step, delete_step, drop_step, ends_step, endkey_step, enter_step, error_step, fault, fetch_step, find_step, import_step, insert_unless, instr_step, lock_step, only_step, put_unless, search_step, settle_step, stmt_step, take_again_step, take_step, turn_step, update_step, upgrade_step}
use Rattle.machine_laws.proofs.UnitsLemmas.Parts.{same}
use Rattle.machine_laws.proofs.UnitsLemmas.Tasks.{choose_spends, stmt_spends, turn_spends}
use Rattle.machine_laws.proofs.HaltsLemmas.Weights.{Falls, rounds, work, rounds_of, short_work, work_of}
use Rattle.machine_laws.proofs.HaltsLemmas.Parts.{asks, costs, falls_if, given_falls}

-- where work remains for what is below
module _ (u r w : ℕ) (ks : List StackEntry) (x : rounds_of ks ≤ r) (y : work_of ks < w) where
  insert_falls : (o : Option ℕ) (p : Program) (place : Place) (t : ℕ) (vs : List Value) (made : ℕ) (s : State) → Falls u r w (insert_unless o p place t vs made ks s)
  insert_falls (Some f) p place t vs made s = inr (inr (x, y))
  insert_falls None p place t vs made s =
      falls_if (nat_lt MAX_ROW_BYTES (length (bytes_of_row vs))) u r w (fault (RecordTooLong t) ks s) (ask (op.Insert t vs) (WasInserted place t vs made) ks s) (inr (inr (x, y))) (asks (op.Insert t vs) (WasInserted place t vs made) ks s u r w x y)

  enter_falls : (p : Program) (place : Place) (t : ℕ) (c : Content) (s : State) → Falls u r w (enter_step p place t c ks s)
  enter_falls p place t Empty s = inr (inr (x, y))
  enter_falls p place t (Record row vs held made) s = inr (inr (x, y))
  enter_falls p place t (Pending vs since made) s = insert_falls (missing_field 0 (table_at p t).fields vs) p place t vs made s

  drop_falls : (o : Option RowId) (b : ℕ) (s : State) → Falls u r w (drop_step o b ks s)
  drop_falls None b s = inr (inr (x, y))
  drop_falls (Some row) b s =
      falls_if ((s.level == 0) && not (is_row_in row (keep_of (b ∷ []) s))) u r w (ask (op.Drop row) WasDropped ks (emptied b s)) (config (Unwind Normal) ks (emptied b s)) (asks (op.Drop row) WasDropped ks (emptied b s) u r w x y) (inr (inr (x, y)))

  update_falls : (mark : ℕ) (place : Place) (t : ℕ) (c : Content) (s : State) → Falls u r w (update_step mark place t c ks s)
  update_falls mark place t Empty s = inr (inr (x, y))
  update_falls mark place t (Pending values since made) s = falls_if (nat_lt mark made) u r w (config (Unwind Normal) ks (holding_in place Empty s)) (config (Unwind Normal) ks s) (inr (inr (x, y))) (inr (inr (x, y)))
  update_falls mark place t (Record row values held made) s =
      falls_if (made_later mark made) u r w (config (Unwind Normal) ks (holding_in place Empty s)) (ask (op.Get t row) (WasGot place row held made) ks s) (inr (inr (x, y))) (asks (op.Get t row) (WasGot place row held made) ks s u r w x y)

  take_falls : (l : LockWanted) (r' : Reading) (wait retry : Bool) (row : RowId) (s : State) → Falls u r w (take_step l r' wait retry row ks s)
  take_falls wanted.NoLock r' wait retry row s = inr (inr (x, y))
  take_falls wanted.Share r' wait retry row s = asks (op.Lock (table_of r'.buffer s) row (is_exclusive r'.lock) wait) (WasGranted r' retry row) ks s u r w x y
  take_falls wanted.Exclusive r' wait retry row s = asks (op.Lock (table_of r'.buffer s) row (is_exclusive r'.lock) wait) (WasGranted r' retry row) ks s u r w x y

  take_again_falls : (l : LockWanted) (r' : Reading) (retry : Bool) (row : RowId) (s : State) → Falls u r w (take_again_step l r' retry row ks s)
  take_again_falls wanted.NoLock r' retry row s = asks (op.Get (table_of r'.buffer s) row) (WasRead r' retry row NoLock) ks s u r w x y
  take_again_falls wanted.Share r' retry row s = asks (op.Lock (table_of r'.buffer s) row (is_exclusive r'.lock) true) (WasGranted r' retry row) ks s u r w x y
  take_again_falls wanted.Exclusive r' retry row s = asks (op.Lock (table_of r'.buffer s) row (is_exclusive r'.lock) true) (WasGranted r' retry row) ks s u r w x y

  current_falls : (l : LockWanted) (r' : Reading) (wait : Bool) (row : RowId) (made : Option ℕ) (s : State) → Falls u r w (current_step l r' wait row made ks s)
  current_falls wanted.NoLock r' wait row made s = asks (op.Get (table_of r'.buffer s) row) (WasCurrent r' row made) ks s u r w x y
  current_falls wanted.Share r' wait row made s = asks (op.Lock (table_of r'.buffer s) row (is_exclusive r'.lock) wait) (CurrentGranted r' row made) ks s u r w x y
  current_falls wanted.Exclusive r' wait row made s = asks (op.Lock (table_of r'.buffer s) row (is_exclusive r'.lock) wait) (CurrentGranted r' row made) ks s u r w x y

  current_in_falls : (c : Content) (r' : Reading) (wait : Bool) (s : State) → Falls u r w (current_in_step c r' wait ks s)
  current_in_falls Empty r' wait s = inr (inr (x, y))
  current_in_falls (Pending values since made) r' wait s = inr (inr (x, y))
  current_in_falls (Record row values held made) r' wait s = current_falls r'.lock r' wait row made (marked_locked r'.buffer false s)

  assign_falls : (p : Program) (q : Right) (t : Target) (retry : Bool) (s : State) → Falls u r w (assign_step p q t retry ks s)
  assign_falls p (ValueOf e) t retry s = inr (inr (x, y))
  assign_falls p (NextOf q) t retry s = asks (op.NextValue q) (WasCounted t) ks s u r w x y
  assign_falls p (CurrentOf q) t retry s = asks (op.CurrentValue q) (WasCounted t) ks s u r w x y
  assign_falls p (Given v) t retry s = inr (inr (x, y))

  upgrade_falls : (held : Held) (t b : ℕ) (row : RowId) (values : List Value) (made : Option ℕ) (s : State) → Falls u r w (upgrade_step held t b row values made ks s)
  upgrade_falls NoLock t b row values made s = inr (inr (x, y))
  upgrade_falls Share t b row values made s = asks (op.Lock t row true true) (WasUpgraded b row values made) ks s u r w x y
  upgrade_falls Exclusive t b row values made s = inr (inr (x, y))

  lock_falls : (c : Content) (t b : ℕ) (s : State) → Falls u r w (lock_step c t b ks s)
  lock_falls Empty t b s = inr (inr (x, y))
  lock_falls (Pending values since made) t b s = inr (inr (x, y))
  lock_falls (Record row values held made) t b s = upgrade_falls held t b row values made s

  put_falls : (o : Option ℕ) (b t : ℕ) (row : RowId) (vs : List Value) (s : State) → Falls u r w (put_unless o b t row vs ks s)
  put_falls (Some f) b t row vs s = inr (inr (x, y))
  put_falls None b t row vs s =
      falls_if (nat_lt MAX_ROW_BYTES (length (bytes_of_row vs))) u r w (fault (RecordTooLong t) ks s) (ask (op.Put t row vs) (WasPut b t) ks s) (inr (inr (x, y))) (asks (op.Put t row vs) (WasPut b t) ks s u r w x y)

-- ---- tasks that lead to others

only_falls : (b : Bool) (q : Search) (at : Cursor) (values : List Value) (ks : List StackEntry) (s : State) → Falls s.units (0 + rounds_of ks) (2 + work_of ks) (only_step b q at values ks s)
only_falls true q at values ks s = inr (inr (omega arith, omega arith))
only_falls false q at values ks s = inr (inr (omega arith, omega arith))

search_falls : (v : EvaluatedAll) (r : Reading) (forward only wait retry : Bool) (from : Option Cursor) (ks : List StackEntry) (s : State) → Falls s.units (0 + rounds_of ks) (2 + work_of ks) (search_step v r forward only wait retry from ks s)
search_falls (GivesAll values) r forward only wait retry from ks s = inr (inr (omega arith, omega arith))
search_falls (FailsAll f) r forward only wait retry from ks s = inr (inr (omega arith, omega arith))

fetch_falls : (again : Bool) (f : Fetch) (retry : Bool) (at : Option Cursor) (ks : List StackEntry) (s : State) → Falls s.units (0 + rounds_of ks) (7 + work_of ks) (fetch_step again f retry at ks s)
fetch_falls again f retry None ks s = inr (inr (omega arith, omega arith))
fetch_falls true f retry (Some at) ks s = inr (inr (omega arith, omega arith))
fetch_falls false f retry (Some at) ks s =
    falls_if (is_each f.word) s.units (0 + rounds_of ks) (7 + work_of ks) (config (Execute (Searches f.reading (is_forward f.word) false true retry (Some at))) ks s) (config (Unwind NotFound) ks s) (inr (inr (omega arith, omega arith))) (inr (inr (omega arith, omega arith)))

find_falls : (word : FindWord) (r : Reading) (wait retry : Bool) (ks : List StackEntry) (s : State) → Falls s.units (0 + rounds_of ks) (3 + work_of ks) (find_step word r wait retry ks s)
find_falls find.Only r wait retry ks s = inr (inr (omega arith, omega arith))
find_falls find.First r wait retry ks s = inr (inr (omega arith, omega arith))
find_falls find.Last r wait retry ks s = inr (inr (omega arith, omega arith))
find_falls find.Next r wait retry ks s = inr (inr (omega arith, omega arith))
find_falls find.Previous r wait retry ks s = inr (inr (omega arith, omega arith))

settle_falls : (p : Program) (c : Content) (t b : ℕ) (ks : List StackEntry) (s : State) → Falls s.units (0 + rounds_of ks) (2 + work_of ks) (settle_step p c t b ks s)
settle_falls p Empty t b ks s = inr (inr (omega arith, omega arith))
settle_falls p (Pending values since made) t b ks s =
    falls_if (all_begun (table_at p t).indexes since) s.units (0 + rounds_of ks) (2 + work_of ks) (config (Execute (EntersOne (own b))) ks s) (config (Unwind Normal) ks s) (inr (inr (omega arith, omega arith))) (inr (inr (omega arith, omega arith)))
settle_falls p (Record row values held made) t b ks s = put_falls s.units (0 + rounds_of ks) (2 + work_of ks) ks (omega arith) (omega arith) (missing_field 0 (table_at p t).fields values) b t row values s

delete_falls : (c : Content) (t b : ℕ) (ks : List StackEntry) (s : State) → Falls s.units (0 + rounds_of ks) (3 + work_of ks) (delete_step c t b ks s)
delete_falls Empty t b ks s = inr (inr (omega arith, omega arith))
delete_falls (Pending values since made) t b ks s = inr (inr (omega arith, omega arith))
delete_falls (Record row values held made) t b ks s = upgrade_falls s.units (0 + rounds_of ks) (3 + work_of ks) (ThenDo (DeletesRow b t row) ∷ ks) (omega arith) (omega arith) held t b row values made s

error_falls : (on : Option OnPhrase) (b : Header) (o : Iteration) (passed : Passed) (ks : List StackEntry) (s : State) → Falls s.units (1 + rounds_of ks) (6 + work_of ks) (error_step on b o passed ks s)
error_falls None b o passed ks s = inr (inr (omega arith, omega arith))
error_falls (Some on) b o passed ks s = inr (inr (omega arith, omega arith))

endkey_falls : (on : Option OnPhrase) (b : Header) (o : Iteration) (passed : Passed) (ks : List StackEntry) (s : State) → Falls s.units (1 + rounds_of ks) (6 + work_of ks) (endkey_step on b o passed ks s)
endkey_falls None b o passed ks s =
    falls_if (handles_endkey b) s.units (1 + rounds_of ks) (6 + work_of ks) (config (Execute (UndoComes b o b.number (ThenLeave b.number) o.turn.retry passed)) ks s) (config (Execute (Passes b (EndKeys passed) (EndKeys (passed_with b o passed)))) ks s) (inr (inr (omega arith, omega arith))) (inr (inr (omega arith, omega arith)))
endkey_falls (Some on) b o passed ks s = inr (inr (omega arith, omega arith))

act_falls : (p : Program) (act : Action) (b : Header) (o : Iteration) (retry : Bool) (ks : List StackEntry) (s : State) → Falls s.units (1 + rounds_of ks) (2 + work_of ks) (act_step p act b o retry ks s)
act_falls p ThenRetry b o retry ks s =
    falls_if b.flags.retry_seen s.units (1 + rounds_of ks) (2 + work_of ks) (config (Unwind (Again (next_turn true o.turn))) ks s) (config (Execute (Closes b o (instead_of_retry (iterates b) b.number))) ks s) (inr (inr (omega arith, omega arith))) (inr (inr (omega arith, omega arith)))
act_falls p (ThenLeave l) b o retry ks s = inr (inr (omega arith, omega arith))
act_falls p (ThenNext l) b o retry ks s = inr (inr (omega arith, omega arith))
act_falls p (ThenReturn error e) b o retry ks s = inr (inr (omega arith, omega arith))
act_falls p ThenError b o retry ks s = inr (inr (omega arith, omega arith))

ends_falls : (completion : Completion) (b : Header) (o : Iteration) (ks : List StackEntry) (s : State) → Falls s.units (3 + rounds_of ks) (10 + work_of ks) (ends_step completion b o ks s)
ends_falls (Undoes target act retry passed) b o ks s = inr (inr (omega arith, omega arith))
ends_falls (Raises passed) b o ks s = inr (inr (omega arith, omega arith))
ends_falls (EndKeys passed) b o ks s = inr (inr (omega arith, omega arith))
ends_falls (Stops end) b o ks s = inr (inr (omega arith, omega arith))
ends_falls completion b o ks s = inr (inr (omega arith, omega arith))

begins_falls : (f : Option Fetch) (b : Header) (copy : Option Copy) (t : Turn) (retry : Bool) (body d : ℕ) (ks : List StackEntry) (s : State) → Falls s.units (3 + rounds_of ks) (26 + work_of ks) (begins_step f b copy t retry body d ks s)
begins_falls None b copy t retry body d ks s = inr (inr (omega arith, omega arith))
begins_falls (Some f) b copy t retry body d ks s = inr (inr (omega arith, omega arith))

by_falls : (p : Program) (e : Option Expr) (outer : Bool) (go : Value → State → Config) (ks : List StackEntry) (s : State) → ((v : Value) → Falls s.units (1 + rounds_of ks) (1 + work_of ks) (go v s)) → Falls s.units (1 + rounds_of ks) (1 + work_of ks) (by_step p e outer go ks s)
by_falls p None outer go ks s h = h (Int64 (pos 1))
by_falls p (Some e) outer go ks s h = given_falls (value_now p e outer s) go ks s s.units (1 + rounds_of ks) (1 + work_of ks) (omega arith) (omega arith) h

block_falls : (p : Program) (l : Option ToPhrase) (b : Header) (outer : Bool) (body d : ℕ) (ks : List StackEntry) (s : State) → Falls s.units (1 + rounds_of ks) (1 + work_of ks) (block_step p l b outer body d ks s)
block_falls p None b outer body d ks s = inr (inl (omega arith))
block_falls p (Some l) b outer body d ks s =
    given_falls (value_now p l.start outer s) (λ v s. by_step p l.by outer (λ w s. config (Execute (Turns s.units b outer body d (first_turn (Some v) w))) ks s) ks s) ks s s.units (1 + rounds_of ks) (1 + work_of ks) (omega arith) (omega arith)
    (λ v. by_falls p l.by outer (λ w s. config (Execute (Turns s.units b outer body d (first_turn (Some v) w))) ks s) ks s (λ w. inr (inl (omega arith))))

import_falls : (x : Imported) (n : ℕ) (ts : List (Option Target)) (retry : Bool) (ks : List StackEntry) (s : State) → Falls s.units (1 + rounds_of ks) (2 + work_of ks) (import_step x n ts retry ks s)
import_falls AtInputEnd n ts retry ks s = inr (inr (omega arith, omega arith))
import_falls (BadElement number next) n ts retry ks s = inr (inr (omega arith, omega arith))
import_falls (Elements vs next) n ts retry ks s = inr (inr (omega arith, omega arith))

instr_falls : (p : Program) (i : Instr) (d : ℕ) (retry : Bool) (ks : List StackEntry) (s : State) → Falls s.units (0 + rounds_of ks) (1 + work_of ks) (instr_step p i d retry ks s)
instr_falls p Ends d retry ks s = inr (inr (omega arith, omega arith))
instr_falls p (Opens b body next) d retry ks s = costs (λ s. config (Execute (Blocks b retry body d)) (Handles false ∷ ThenDo (RunsFrom next d retry) ∷ ks) s) ks s (0 + rounds_of ks) (1 + work_of ks) (omega arith) (omega arith) (λ t. same t.units)
instr_falls p (Tests test one other) d retry ks s = costs (λ s. choose_step (value_now p test retry s) p one other d retry ks s) ks s (0 + rounds_of ks) (1 + work_of ks) (omega arith) (omega arith) (λ t. choose_spends (value_now p test retry t) p one other d retry ks t)
instr_falls p (Plain t next) d retry ks s = costs (λ s. stmt_step p t d retry (ThenDo (RunsFrom next d retry) ∷ ks) s) ks s (0 + rounds_of ks) (1 + work_of ks) (omega arith) (omega arith) (λ v. stmt_spends p t d retry (ThenDo (RunsFrom next d retry) ∷ ks) v)

-- ---- a task

module _ (code : Code) (p : Program) (ks : List StackEntry) (s : State) where
  pub task_falls : (t : Task) → Falls s.units (rounds t + rounds_of ks) (work t + work_of ks) (task_step code p t ks s)
  task_falls (EntersOne place) = enter_falls s.units (0 + rounds_of ks) (1 + work_of ks) ks (omega arith) (omega arith) p place (buffer_in place s).table (buffer_in place s).content s
  task_falls (Enters []) = inr (inr (omega arith, omega arith))
  task_falls (Enters (place ∷ more)) = inr (inr (omega arith, omega arith))
  task_falls (Drops b) = drop_falls s.units (0 + rounds_of ks) (1 + work_of ks) ks (omega arith) (omega arith) (locked_row (content_of b s)) b s
  task_falls (Releases []) = inr (inr (omega arith, omega arith))
  task_falls (Releases (b ∷ bs)) = inr (inr (omega arith, omega arith))
  task_falls (EntersRest None) = inr (inr (omega arith, omega arith))
  task_falls (EntersRest (Some copy)) = falls_if (copy.depth == 1) s.units (1 + rounds_of ks) (1 + work_of ks) (config (Execute (Enters (all_places s))) ks s) (config (Unwind Normal) ks s) (inr (inl (omega arith))) (inr (inl (omega arith)))
  task_falls (LeavesIf None but) = inr (inr (omega arith, omega arith))
  task_falls (LeavesIf (Some copy) but) = inr (inr (omega arith, omega arith))
  task_falls (LeavesNow but) = asks (op.Leave (keep_of but s)) WasLeft ks s s.units (0 + rounds_of ks) (1 + work_of ks) (omega arith) (omega arith)
  task_falls (Closing b o) = inr (inl (omega arith))
  task_falls (GoesBack None but) = inr (inr (omega arith, omega arith))
  task_falls (GoesBack (Some copy) but) = asks (op.Back copy.depth) (WasBack copy but) ks s s.units (0 + rounds_of ks) (1 + work_of ks) (omega arith) (omega arith)
  task_falls (UpdatesOne mark place) = update_falls s.units (0 + rounds_of ks) (1 + work_of ks) ks (omega arith) (omega arith) mark place (buffer_in place s).table (buffer_in place s).content s
  task_falls (Updates mark but []) = inr (inr (omega arith, omega arith))
  task_falls (Updates mark but (place ∷ more)) =
      falls_if (is_left_out but place) s.units (0 + rounds_of ks) (4 + short_work more + work_of ks) (config (Unwind Normal) (ThenDo (Updates mark but more) ∷ ks) s) (config (Execute (UpdatesOne mark place)) (ThenDo (Updates mark but more) ∷ ks) s) (inr (inr (omega arith, omega arith))) (inr (inr (omega arith, omega arith)))
  task_falls (AfterBack copy but) = inr (inl (omega arith))
  task_falls (Acts b o act retry) = act_falls p act b o retry ks s
  task_falls (IsOnly q at values) = only_falls q.only q at values ks s
  task_falls (Seconds zero q at values from) = inr (inr (omega arith, omega arith))
  task_falls (Seconds (suc n) q at values from) = asks (op.Next (table_of q.reading.buffer s) q.reading.index q.prefix (Some from) true) (WasSecond n q at values) ks s s.units (0 + rounds_of ks) (1 + work_of ks) (omega arith) (omega arith)
  task_falls (TakesAs r wait retry row) = take_falls s.units (0 + rounds_of ks) (1 + work_of ks) ks (omega arith) (omega arith) r.lock r wait retry row s
  task_falls (TakesAgain r retry row) = take_again_falls s.units (0 + rounds_of ks) (1 + work_of ks) ks (omega arith) (omega arith) r.lock r retry row s
  task_falls (Takes q at values) = inr (inr (omega arith, omega arith))
  task_falls (Looks zero q from) = inr (inr (omega arith, omega arith))
  task_falls (Looks (suc n) q from) = asks (op.Next (table_of q.reading.buffer s) q.reading.index q.prefix from q.forward) (WasNext n q) ks s s.units (0 + rounds_of ks) (1 + work_of ks) (omega arith) (omega arith)
  task_falls (Searches r forward only wait retry from) = search_falls (values_now p (map (λ x. x.value) r.bracket) retry s) r forward only wait retry from ks s
  task_falls (FetchesFrom again f retry at) = fetch_falls again f retry at ks s
  task_falls (Fetches f t retry) = inr (inr (omega arith, omega arith))
  task_falls (FindsAs word r wait retry) = find_falls word r wait retry ks s
  task_falls (Finds word r wait retry) = inr (inr (omega arith, omega arith))
  task_falls (FindsCurrent r wait) = current_in_falls s.units (0 + rounds_of ks) (1 + work_of ks) ks (omega arith) (omega arith) (content_of r.buffer s) r wait s
  task_falls (AssignsOne t x retry) = assign_falls s.units (0 + rounds_of ks) (1 + work_of ks) ks (omega arith) (omega arith) p x t retry s
  task_falls (AssignsEach [] retry) = inr (inr (omega arith, omega arith))
  task_falls (AssignsEach (x ∷ xs) retry) = inr (inr (omega arith, omega arith))
  task_falls (LocksOne b) = lock_falls s.units (0 + rounds_of ks) (1 + work_of ks) ks (omega arith) (omega arith) (content_of b s) (table_of b s) b s
  task_falls (LocksAll []) = inr (inr (omega arith, omega arith))
  task_falls (LocksAll (b ∷ bs)) = inr (inr (omega arith, omega arith))
  task_falls (SettlesOne b) = settle_falls p (content_of b s) (table_of b s) b ks s
  task_falls (SettlesAll olds []) = inr (inr (omega arith, omega arith))
  task_falls (SettlesAll olds (b ∷ bs)) = inr (inr (omega arith, omega arith))
  task_falls (Assigns xs retry) = inr (inl (omega arith))
  task_falls (Creates b) = inr (inr (omega arith, omega arith))
  task_falls (Deletes b) = delete_falls (content_of b s) (table_of b s) b ks s
  task_falls (DeletesRow b t row) = asks (op.Delete t row) (WasDeleted b) ks s s.units (0 + rounds_of ks) (1 + work_of ks) (omega arith) (omega arith)
  task_falls (Begun b) = inr (inr (omega arith, omega arith))
  task_falls (Completes completion) = inr (inr (omega arith, omega arith))
  task_falls (Empties but) = inr (inr (omega arith, omega arith))
  task_falls (Closes b o completion) = inr (inl (omega arith))
  task_falls (Passes b ended_way left_way) = falls_if (s.level == 0) s.units (1 + rounds_of ks) (1 + work_of ks) (config (Execute (Releases b.scoped)) (ThenDo (Completes ended_way) ∷ ks) s) (config (Unwind left_way) ks s) (inr (inl (omega arith))) (inr (inl (omega arith)))
  task_falls (UndoComes b o target act retry passed) =
      falls_if (target == b.number) s.units (1 + rounds_of ks) (5 + work_of ks)
      (config (Execute (GoesBack (passed_with b o passed).first (passed_with b o passed).buffers)) (ThenDo (Acts b o act retry) ∷ ks) s)
      (config (Execute (Passes b (Undoes target act retry passed) (Undoes target act retry (passed_with b o passed)))) ks s) (inr (inr (omega arith, omega arith))) (inr (inr (omega arith, omega arith)))
  task_falls (ErrorComes b o passed) =
      falls_if b.flags.undo s.units (1 + rounds_of ks) (6 + work_of ks) (error_step b.on_error b o passed ks s) (config (Execute (Passes b (Raises passed) (Raises (passed_with b o passed)))) ks s) (error_falls b.on_error b o passed ks s) (inr (inr (omega arith, omega arith)))
  task_falls (EndKeyComes b o passed) = endkey_falls b.on_endkey b o passed ks s
  task_falls (EndsWith b o completion) = ends_falls completion b o ks s
  task_falls (RunsFrom i d retry) = instr_falls p (code.instr i) d retry ks s
  task_falls (Begins b copy t retry body d) = begins_falls b.fetch b copy t retry body d ks s
  task_falls (EntersLevel b t retry body d) =
      falls_if (enters_at b s.level) s.units (3 + rounds_of ks) (27 + work_of ks) (ask op.Enter (WasEntered b t retry body d) ks s) (config (Execute (Begins b None t retry body d)) ks s) (asks op.Enter (WasEntered b t retry body d) ks s s.units (3 + rounds_of ks) (27 + work_of ks) (omega arith) (omega arith)) (inr (inr (omega arith, omega arith)))
  task_falls (Turns zero b outer body d t) = inr (inr (omega arith, omega arith))
  task_falls (Turns (suc n) b outer body d t) = inr (inr (omega arith, omega arith))
  task_falls (Iterates b outer body d t) = costs (λ s. turn_step p b outer body d t ks s) ks s (0 + rounds_of ks) (1 + work_of ks) (omega arith) (omega arith) (λ v. turn_spends p b outer body d t ks v)
  task_falls (Blocks b outer body d) = block_falls p b.to b outer body d ks s
  task_falls (Imports n ts retry) = import_falls (line_now p n ts s) n ts retry ks s
  task_falls (Calls zero n args vs) = inr (inr (omega arith, omega arith))
  task_falls (Calls (suc d) n args vs) = inr (inr (omega arith, omega arith))
