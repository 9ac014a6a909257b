-- A task spends units for operations and charges alone.
use Rattle.std.proofs.Common.{arith, ◌≡◌, ◌≤◌, ℕ, zero, suc, Bool, true, false, List, [], ◌∷◌, Option, Some, None, length, map}
use Rattle.std.specs.Prelude.{◌==◌, ◌&&◌, not, nat_lt, pos}
use Rattle.abl_base.specs.declared.limits.TheConstants.{MAX_ROW_BYTES}
use Rattle.abl_base.specs.declared.row.RowId.{RowId}
use Rattle.abl_base.specs.declared.value.Value.{Value}
use Rattle.abl_base.specs.declared.value.Value.TheVariants.{Int64}
use Rattle.abl_values.specs.Rows.{bytes_of_row}
use Rattle.database_protocol.specs.declared.row_order.Cursor.{Cursor}
use Rattle.database_protocol.specs.declared.operation.Op.TheVariants as op
use Rattle.bound_tree.specs.declared.block.LockWanted.{LockWanted}
use Rattle.bound_tree.specs.declared.block.LockWanted.TheVariants as wanted
use Rattle.bound_tree.specs.declared.statement.FindWord.{FindWord}
use Rattle.bound_tree.specs.declared.statement.FindWord.TheVariants as find
use Rattle.bound_tree.specs.declared.statement.Target.{Target}
use Rattle.bound_tree.specs.Tree.{Action, Assign, Choose, Create, CurrentOf, Export, ExportRecord, Expr, Fetch, Find, FindCurrent, Given, Header, Import, Inner, InputClose, InputFrom, LeaveBlock, Message, NextBlock, NextOf, OnPhrase, OutputClose, OutputTo, PutItems, Reading, Release, Remove, Return, ReturnError, Right, Run, Stmt, Stop, ThenError, ThenLeave, ThenNext, ThenRetry, ThenReturn, ToPhrase, UndoBlock, ValueOf}
use Rattle.expression_meaning.specs.Operators.{holds}
use Rattle.abl_base.specs.text_forms.TextForms.{AtInputEnd, BadElement, Elements, Imported}
use Rattle.block_meaning.specs.declared.wants.Piece.TheVariants.{Opened, Wrote}
use Rattle.block_meaning.specs.Blocks.{Iteration, complained, counts_down, enters_at, first_turn, handles_endkey, in_bound, instead_of_retry, iterates, next_turn, next_value, passed_with, retry_in}
use Rattle.block_meaning.specs.Buffers.{Place, all_places, buffer_in, holding_in, is_left_out, is_row_in, keep_of, made_later, missing_field, own}
use Rattle.block_meaning.specs.Changes.{all_begun, stored, stored_if}
use Rattle.block_meaning.specs.Frames.{all_emptied, assigned, content_of, emptied, locked_row, marked_locked, table_of, value_of}
use Rattle.block_meaning.specs.Lines.{BadField, RecordTooLong}
use Rattle.block_meaning.specs.Meaning.{argument_values, cleared}
use Rattle.block_meaning.specs.Program.{Program, procedure_at, table_at}
use Rattle.block_meaning.specs.Reads.{Search, is_each, is_exclusive, is_forward}
use Rattle.block_meaning.specs.State.{Again, Completion, Content, Copy, Empty, EndKeys, Exclusive, Faults, Held, NoLock, Normal, NotFound, Passed, Pending, Raises, Record, Share, State, Stops, Turn, Undoes, nothing_passed, wrote}
use Rattle.block_meaning.specs.Streams.{line_now, pairs_of, read_to, stream_at, with_stream}
use Rattle.block_meaning.specs.Values.{Evaluated, EvaluatedAll, Fails, FailsAll, Gives, GivesAll, HasFault, IsText, Text, export_line, fit, message_line, put_text, value_now, values_now}
use Rattle.block_meaning.proofs.Parts.{all_emptied_keeps}
use Rattle.block_meaning.proofs.Part_changes.{stored_if_stays, stored_stays}
use Rattle.block_meaning.proofs.Whole.{cleared_keeps, complained_stays, read_to_keeps, written_if_stays}
use Rattle.flat_machine.specs.Code.{Code, Ends, Instr, Opens, Plain, Tests}
use Rattle.flat_machine.specs.Config.{Acts, AfterBack, Assigns, AssignsEach, AssignsOne, Begins, Begun, Blocks, Calls, Closes, Closing, Completes, Config, Creates, CurrentGranted, Deletes, DeletesRow, Drops, Empties, EndKeyComes, EndsWith, Enters, EntersLevel, EntersOne, EntersRest, ErrorComes, Execute, Fetches, FetchesFrom, Finds, FindsAs, FindsCurrent, GoesBack, Imports, IsOnly, Iterates, LeavesIf, LeavesNow, LocksAll, LocksOne, Looks, Passes, Quiet, Releases, RunsFrom, Searches, Seconds, SettlesAll, SettlesOne, StackEntry, Takes, TakesAgain, TakesAs, Task, ThenDo, Turns, UndoComes, Unwind, Updates, UpdatesOne, Handles, WasBack, WasCounted, WasCurrent, WasDeleted, WasDropped, WasEntered, WasGot, WasGranted, WasInserted, WasLeft, WasNext, WasPut, WasRead, WasSecond, WasUpgraded}
use Rattle.flat_machine.specs.Machine.{task_step}
use Rattle.flat_machine.specs.Steps.{act_step, advance_step, ask, assign_step, begins_step, block_step, by_step, choose_step, config, config_if, current_in_step, current_step, delete_step, drop_step, ends_step, endkey_step, ends_as, enter_step, error_step, export_step, fault, fetch_step, find_step, given_all_step, given_step, given_text_step, import_step, insert_unless, instr_step, lock_step, loop_step, only_step, put_unless, reach_step, search_step, set_step, settle_step, stmt_step, take_again_step, take_step, turn_step, update_step, upgrade_step, while_step, wrote_to}
use Rattle.machine_laws.specs.units.Spending.{Spends}
use Rattle.machine_laws.proofs.UnitsLemmas.Parts.{ask_spends, costing_spends, ends_spends, errs_spends, executes, given_all_spends, given_spends, of_more, same, spends_if, unwinds}

-- ---- buffers

insert_spends : (o : Option ℕ) (p : Program) (place : Place) (t : ℕ) (vs : List Value) (made : ℕ) (ks : List StackEntry) (s : State) → Spends s.units (insert_unless o p place t vs made ks s)
insert_spends (Some f) p place t vs made ks s = same s.units
insert_spends None p place t vs made ks s =
    spends_if (nat_lt MAX_ROW_BYTES (length (bytes_of_row vs))) s.units (fault (RecordTooLong t) ks s) (ask (op.Insert t vs) (WasInserted place t vs made) ks s) (same s.units) (ask_spends (op.Insert t vs) (WasInserted place t vs made) ks s)

enter_spends : (p : Program) (place : Place) (t : ℕ) (c : Content) (ks : List StackEntry) (s : State) → Spends s.units (enter_step p place t c ks s)
enter_spends p place t Empty ks s = same s.units
enter_spends p place t (Record row vs held made) ks s = same s.units
enter_spends p place t (Pending vs since made) ks s = insert_spends (missing_field 0 (table_at p t).fields vs) p place t vs made ks s

drop_spends : (o : Option RowId) (b : ℕ) (ks : List StackEntry) (s : State) → Spends s.units (drop_step o b ks s)
drop_spends None b ks s = same s.units
drop_spends (Some row) b ks s =
    spends_if ((s.level == 0) && not (is_row_in row (keep_of (b ∷ []) s))) s.units (ask (op.Drop row) WasDropped ks (emptied b s)) (config (Unwind Normal) ks (emptied b s)) (ask_spends (op.Drop row) WasDropped ks (emptied b s)) (same s.units)

update_spends : (mark : ℕ) (place : Place) (t : ℕ) (c : Content) (ks : List StackEntry) (s : State) → Spends s.units (update_step mark place t c ks s)
update_spends mark place t Empty ks s = same s.units
update_spends mark place t (Pending values since made) ks s = spends_if (nat_lt mark made) s.units (config (Unwind Normal) ks (holding_in place Empty s)) (config (Unwind Normal) ks s) (same s.units) (same s.units)
update_spends mark place t (Record row values held made) ks s =
    spends_if (made_later mark made) s.units (config (Unwind Normal) ks (holding_in place Empty s)) (ask (op.Get t row) (WasGot place row held made) ks s) (same s.units) (ask_spends (op.Get t row) (WasGot place row held made) ks s)

-- ---- reading

take_spends : (w : LockWanted) (r : Reading) (wait retry : Bool) (row : RowId) (ks : List StackEntry) (s : State) → Spends s.units (take_step w r wait retry row ks s)
take_spends wanted.NoLock r wait retry row ks s = same s.units
take_spends wanted.Share r wait retry row ks s = ask_spends (op.Lock (table_of r.buffer s) row (is_exclusive r.lock) wait) (WasGranted r retry row) ks s
take_spends wanted.Exclusive r wait retry row ks s = ask_spends (op.Lock (table_of r.buffer s) row (is_exclusive r.lock) wait) (WasGranted r retry row) ks s

take_again_spends : (w : LockWanted) (r : Reading) (retry : Bool) (row : RowId) (ks : List StackEntry) (s : State) → Spends s.units (take_again_step w r retry row ks s)
take_again_spends wanted.NoLock r retry row ks s = ask_spends (op.Get (table_of r.buffer s) row) (WasRead r retry row NoLock) ks s
take_again_spends wanted.Share r retry row ks s = ask_spends (op.Lock (table_of r.buffer s) row (is_exclusive r.lock) true) (WasGranted r retry row) ks s
take_again_spends wanted.Exclusive r retry row ks s = ask_spends (op.Lock (table_of r.buffer s) row (is_exclusive r.lock) true) (WasGranted r retry row) ks s

only_spends : (b : Bool) (k : Search) (c : Cursor) (values : List Value) (ks : List StackEntry) (s : State) → Spends s.units (only_step b k c values ks s)
only_spends true k c values ks s = same s.units
only_spends false k c values ks s = same s.units

search_spends : (v : EvaluatedAll) (r : Reading) (forward only wait retry : Bool) (from : Option Cursor) (ks : List StackEntry) (s : State) → Spends s.units (search_step v r forward only wait retry from ks s)
search_spends (GivesAll values) r forward only wait retry from ks s = same s.units
search_spends (FailsAll c) r forward only wait retry from ks s = same s.units

fetch_spends : (again : Bool) (f : Fetch) (retry : Bool) (own : Option Cursor) (ks : List StackEntry) (s : State) → Spends s.units (fetch_step again f retry own ks s)
fetch_spends again f retry None ks s = same s.units
fetch_spends true f retry (Some own) ks s = same s.units
fetch_spends false f retry (Some own) ks s =
    spends_if (is_each f.word) s.units (config (Execute (Searches f.reading (is_forward f.word) false true retry (Some own))) ks s) (config (Unwind NotFound) ks s) (same s.units) (same s.units)

find_spends : (word : FindWord) (r : Reading) (wait retry : Bool) (ks : List StackEntry) (s : State) → Spends s.units (find_step word r wait retry ks s)
find_spends find.Only r wait retry ks s = same s.units
find_spends find.First r wait retry ks s = same s.units
find_spends find.Last r wait retry ks s = same s.units
find_spends find.Next r wait retry ks s = same s.units
find_spends find.Previous r wait retry ks s = same s.units

current_spends : (w : LockWanted) (r : Reading) (wait : Bool) (row : RowId) (made : Option ℕ) (ks : List StackEntry) (s : State) → Spends s.units (current_step w r wait row made ks s)
current_spends wanted.NoLock r wait row made ks s = ask_spends (op.Get (table_of r.buffer s) row) (WasCurrent r row made) ks s
current_spends wanted.Share r wait row made ks s = ask_spends (op.Lock (table_of r.buffer s) row (is_exclusive r.lock) wait) (CurrentGranted r row made) ks s
current_spends wanted.Exclusive r wait row made ks s = ask_spends (op.Lock (table_of r.buffer s) row (is_exclusive r.lock) wait) (CurrentGranted r row made) ks s

current_in_spends : (c : Content) (r : Reading) (wait : Bool) (ks : List StackEntry) (s : State) → Spends s.units (current_in_step c r wait ks s)
current_in_spends Empty r wait ks s = same s.units
current_in_spends (Pending values since made) r wait ks s = same s.units
current_in_spends (Record row values held made) r wait ks s = current_spends r.lock r wait row made ks (marked_locked r.buffer false s)

-- ---- changes

assign_spends : (p : Program) (x : Right) (t : Target) (retry : Bool) (ks : List StackEntry) (s : State) → Spends s.units (assign_step p x t retry ks s)
assign_spends p (ValueOf e) t retry ks s = ends_spends (stored_if (value_now p e retry s) t s) ks s.units (stored_if_stays (value_now p e retry s) t s).units
assign_spends p (NextOf q) t retry ks s = ask_spends (op.NextValue q) (WasCounted t) ks s
assign_spends p (CurrentOf q) t retry ks s = ask_spends (op.CurrentValue q) (WasCounted t) ks s
assign_spends p (Given v) t retry ks s = ends_spends (stored t v s) ks s.units (stored_stays t v s).units

upgrade_spends : (held : Held) (t b : ℕ) (row : RowId) (values : List Value) (made : Option ℕ) (ks : List StackEntry) (s : State) → Spends s.units (upgrade_step held t b row values made ks s)
upgrade_spends NoLock t b row values made ks s = same s.units
upgrade_spends Share t b row values made ks s = ask_spends (op.Lock t row true true) (WasUpgraded b row values made) ks s
upgrade_spends Exclusive t b row values made ks s = same s.units

lock_spends : (c : Content) (t b : ℕ) (ks : List StackEntry) (s : State) → Spends s.units (lock_step c t b ks s)
lock_spends Empty t b ks s = same s.units
lock_spends (Pending values since made) t b ks s = same s.units
lock_spends (Record row values held made) t b ks s = upgrade_spends held t b row values made ks s

put_spends : (o : Option ℕ) (b t : ℕ) (row : RowId) (vs : List Value) (ks : List StackEntry) (s : State) → Spends s.units (put_unless o b t row vs ks s)
put_spends (Some f) b t row vs ks s = same s.units
put_spends None b t row vs ks s =
    spends_if (nat_lt MAX_ROW_BYTES (length (bytes_of_row vs))) s.units (fault (RecordTooLong t) ks s) (ask (op.Put t row vs) (WasPut b t) ks s) (same s.units) (ask_spends (op.Put t row vs) (WasPut b t) ks s)

settle_spends : (p : Program) (c : Content) (t b : ℕ) (ks : List StackEntry) (s : State) → Spends s.units (settle_step p c t b ks s)
settle_spends p Empty t b ks s = same s.units
settle_spends p (Pending values since made) t b ks s =
    spends_if (all_begun (table_at p t).indexes since) s.units (config (Execute (EntersOne (own b))) ks s) (config (Unwind Normal) ks s) (same s.units) (same s.units)
settle_spends p (Record row values held made) t b ks s = put_spends (missing_field 0 (table_at p t).fields values) b t row values ks s

delete_spends : (c : Content) (t b : ℕ) (ks : List StackEntry) (s : State) → Spends s.units (delete_step c t b ks s)
delete_spends Empty t b ks s = same s.units
delete_spends (Pending values since made) t b ks s = same s.units
delete_spends (Record row values held made) t b ks s = upgrade_spends held t b row values made (ThenDo (DeletesRow b t row) ∷ ks) s

-- ---- ends of iterations

error_spends : (on : Option OnPhrase) (b : Header) (o : Iteration) (passed : Passed) (ks : List StackEntry) (s : State) → Spends s.units (error_step on b o passed ks s)
error_spends None b o passed ks s = same s.units
error_spends (Some on) b o passed ks s = same s.units

endkey_spends : (on : Option OnPhrase) (b : Header) (o : Iteration) (passed : Passed) (ks : List StackEntry) (s : State) → Spends s.units (endkey_step on b o passed ks s)
endkey_spends None b o passed ks s =
    spends_if (handles_endkey b) s.units (config (Execute (UndoComes b o b.number (ThenLeave b.number) o.turn.retry passed)) ks s) (config (Execute (Passes b (EndKeys passed) (EndKeys (passed_with b o passed)))) ks s) (same s.units) (same s.units)
endkey_spends (Some on) b o passed ks s = same s.units

act_spends : (p : Program) (act : Action) (b : Header) (o : Iteration) (retry : Bool) (ks : List StackEntry) (s : State) → Spends s.units (act_step p act b o retry ks s)
act_spends p ThenRetry b o retry ks s =
    spends_if b.flags.retry_seen s.units (config (Unwind (Again (next_turn true o.turn))) ks s) (config (Execute (Closes b o (instead_of_retry (iterates b) b.number))) ks s) (same s.units) (same s.units)
act_spends p (ThenLeave l) b o retry ks s = same s.units
act_spends p (ThenNext l) b o retry ks s = same s.units
act_spends p (ThenReturn error e) b o retry ks s = same s.units
act_spends p ThenError b o retry ks s = same s.units

ends_step_spends : (completion : Completion) (b : Header) (o : Iteration) (ks : List StackEntry) (s : State) → Spends s.units (ends_step completion b o ks s)
ends_step_spends (Undoes target act retry passed) b o ks s = same s.units
ends_step_spends (Raises passed) b o ks s = same s.units
ends_step_spends (EndKeys passed) b o ks s = same s.units
ends_step_spends (Stops end) b o ks s = same s.units
ends_step_spends completion b o ks s = same s.units

-- ---- blocks

begins_spends : (f : Option Fetch) (b : Header) (copy : Option Copy) (t : Turn) (retry : Bool) (body d : ℕ) (ks : List StackEntry) (s : State) → Spends s.units (begins_step f b copy t retry body d ks s)
begins_spends None b copy t retry body d ks s = same s.units
begins_spends (Some f) b copy t retry body d ks s = same s.units

while_spends : (p : Program) (e : Option Expr) (retry : Bool) (go : State → Config) (ks : List StackEntry) (s : State) → ((t : State) → Spends t.units (go t)) → Spends s.units (while_step p e retry go ks s)
while_spends p None retry go ks s x = x s
while_spends p (Some e) retry go ks s x =
    given_spends (value_now p e retry s) (λ v s. config_if (holds v) (go s) (config (Unwind Normal) ks s)) ks s (λ v. spends_if (holds v) s.units (go s) (config (Unwind Normal) ks s) (x s) (same s.units))

reach_spends : (p : Program) (l : ToPhrase) (by : Value) (retry : Bool) (go : State → Config) (ks : List StackEntry) (s : State) → ((t : State) → Spends t.units (go t)) → Spends s.units (reach_step p l by retry go ks s)
reach_spends p l by retry go ks s x =
    given_spends (value_now p l.end retry s) (λ end s. config_if (in_bound (counts_down by) (value_of l.variable s) end) (go s) (config (Unwind Normal) ks s)) ks s
    (λ end. spends_if (in_bound (counts_down by) (value_of l.variable s) end) s.units (go s) (config (Unwind Normal) ks s) (x s) (same s.units))

set_spends : (p : Program) (l : ToPhrase) (by : Value) (retry : Bool) (v : Evaluated) (go : State → Config) (ks : List StackEntry) (s : State) → ((t : State) → Spends t.units (go t)) → Spends s.units (set_step p l by retry v go ks s)
set_spends p l by retry v go ks s x =
    given_spends v (λ v s. given_step (fit l.variable.kind v) (λ v s. reach_step p l by retry go ks (assigned l.variable v s)) ks s) ks s
    (λ v. given_spends (fit l.variable.kind v) (λ v s. reach_step p l by retry go ks (assigned l.variable v s)) ks s (λ v. reach_spends p l by retry go ks (assigned l.variable v s) x))

advance_spends : (p : Program) (l : ToPhrase) (t : Turn) (retry : Bool) (o : Option Value) (go : State → Config) (ks : List StackEntry) (s : State) → ((t : State) → Spends t.units (go t)) → Spends s.units (advance_step p l t retry o go ks s)
advance_spends p l t retry None go ks s x = set_spends p l t.by retry (next_value l t s) go ks s x
advance_spends p l t retry (Some v) go ks s x = set_spends p l t.by retry (Gives v) go ks s x

loop_spends : (p : Program) (l : Option ToPhrase) (t : Turn) (retry : Bool) (go : State → Config) (ks : List StackEntry) (s : State) → ((t : State) → Spends t.units (go t)) → Spends s.units (loop_step p l t retry go ks s)
loop_spends p None t retry go ks s x = x s
loop_spends p (Some l) t retry go ks s x = spends_if t.retry s.units (go s) (advance_step p l t retry t.start go ks s) (x s) (advance_spends p l t retry t.start go ks s x)

pub turn_spends : (p : Program) (b : Header) (outer : Bool) (body d : ℕ) (t : Turn) (ks : List StackEntry) (s : State) → Spends s.units (turn_step p b outer body d t ks s)
turn_spends p b outer body d t ks s =
    loop_spends p b.to t (retry_in b t outer)
    (λ s. while_step p b.while_test (retry_in b t outer) (λ s. config (Execute (EntersLevel b (record t { start = None }) (retry_in b t outer) body d)) ks s) ks s) ks s
    (λ u. while_spends p b.while_test (retry_in b t outer) (λ s. config (Execute (EntersLevel b (record t { start = None }) (retry_in b t outer) body d)) ks s) ks u (λ v. same v.units))

by_spends : (p : Program) (e : Option Expr) (outer : Bool) (go : Value → State → Config) (ks : List StackEntry) (s : State) → ((v : Value) → Spends s.units (go v s)) → Spends s.units (by_step p e outer go ks s)
by_spends p None outer go ks s x = x (Int64 (pos 1))
by_spends p (Some e) outer go ks s x = given_spends (value_now p e outer s) go ks s x

block_spends : (p : Program) (l : Option ToPhrase) (b : Header) (outer : Bool) (body d : ℕ) (ks : List StackEntry) (s : State) → Spends s.units (block_step p l b outer body d ks s)
block_spends p None b outer body d ks s = same s.units
block_spends p (Some l) b outer body d ks s =
    given_spends (value_now p l.start outer s) (λ v s. by_step p l.by outer (λ w s. config (Execute (Turns s.units b outer body d (first_turn (Some v) w))) ks s) ks s) ks s
    (λ v. by_spends p l.by outer (λ w s. config (Execute (Turns s.units b outer body d (first_turn (Some v) w))) ks s) ks s (λ w. same s.units))

-- ---- statements

wrote_to_spends : (n : ℕ) (bytes : List ℕ) (ks : List StackEntry) (s : State) → Spends s.units (ends_as (wrote_to n bytes s) ks)
wrote_to_spends n bytes ks s = ends_spends (wrote_to n bytes s) ks s.units (written_if_stays _ (Wrote (stream_at n s).output bytes) s).units

export_spends : (c : Content) (n b : ℕ) (ks : List StackEntry) (s : State) → Spends s.units (export_step c n b ks s)
export_spends Empty n b ks s = same s.units
export_spends (Record row values held made) n b ks s = wrote_to_spends n (export_line values) ks s
export_spends (Pending values since made) n b ks s = wrote_to_spends n (export_line values) ks s

import_spends : (x : Imported) (n : ℕ) (ts : List (Option Target)) (retry : Bool) (ks : List StackEntry) (s : State) → Spends s.units (import_step x n ts retry ks s)
import_spends AtInputEnd n ts retry ks s = same s.units
import_spends (BadElement number next) n ts retry ks s = unwinds (Faults (Some (BadField number))) ks s (read_to n next s) (read_to_keeps n next s).units
import_spends (Elements vs next) n ts retry ks s = executes (Assigns (pairs_of ts vs) retry) ks s (read_to n next s) (read_to_keeps n next s).units

text_spends : (x : Text) (n : ℕ) (ks : List StackEntry) (s : State) → Spends s.units (given_text_step x n ks s)
text_spends (IsText bytes) n ks s = wrote_to_spends n bytes ks s
text_spends (HasFault c) n ks s = same s.units

pub choose_spends : (v : Evaluated) (p : Program) (one other d : ℕ) (retry : Bool) (ks : List StackEntry) (s : State) → Spends s.units (choose_step v p one other d retry ks s)
choose_spends (Gives v) p one other d retry ks s = spends_if (holds v) s.units (config (Execute (RunsFrom one d retry)) ks s) (config (Execute (RunsFrom other d retry)) ks s) (same s.units) (same s.units)
choose_spends (Fails c) p one other d retry ks s = errs_spends (complained p (Some c) s) (Completes (Raises nothing_passed)) ks s.units (complained_stays p (Some c) s).units

cleared_executes : (task : Task) (ks : List StackEntry) (quiet : Bool) (s : State) → Spends s.units (config (Execute task) ks (cleared quiet s))
cleared_executes task ks quiet s = executes task ks s (cleared quiet s) (cleared_keeps quiet s).units

no_more : (m n : ℕ) → m ≡ n → m ≤ n
no_more m n e = omega (arith, e)

pub stmt_spends : (p : Program) (t : Stmt) (d : ℕ) (retry : Bool) (ks : List StackEntry) (s : State) → Spends s.units (stmt_step p t d retry ks s)
stmt_spends p (Inner b body) d retry ks s = same s.units
stmt_spends p (Choose test then_it else_it) d retry ks s = same s.units
stmt_spends p (Assign pairs quiet) d retry ks s = cleared_executes (Assigns pairs retry) (Handles quiet ∷ ks) quiet s
stmt_spends p (Find word reading wait quiet) d retry ks s = cleared_executes (Finds word reading wait retry) (Quiet quiet ∷ Handles quiet ∷ ks) quiet s
stmt_spends p (FindCurrent reading wait quiet) d retry ks s = cleared_executes (FindsCurrent reading wait) (Handles quiet ∷ ks) quiet s
stmt_spends p (Create b quiet) d retry ks s = cleared_executes (Creates b) (Handles quiet ∷ ks) quiet s
stmt_spends p (Remove b quiet) d retry ks s = cleared_executes (Deletes b) (Handles quiet ∷ ks) quiet s
stmt_spends p (Release b quiet) d retry ks s = cleared_executes (EntersOne (own b)) (ThenDo (Drops b) ∷ Handles quiet ∷ ks) quiet s
stmt_spends p (UndoBlock l act) d retry ks s = same s.units
stmt_spends p (LeaveBlock l) d retry ks s = same s.units
stmt_spends p (NextBlock l) d retry ks s = same s.units
stmt_spends p (Return e) d retry ks s = same s.units
stmt_spends p (ReturnError l e) d retry ks s = same s.units
stmt_spends p Stop d retry ks s = same s.units
stmt_spends p (Run n args quiet) d retry ks s =
    of_more (cleared quiet s).units s.units
    (given_all_step (argument_values p args (procedure_at p n).parameters retry (cleared quiet s)) (λ vs s. config (Execute (Calls d n args vs)) (Handles quiet ∷ ks) s) (Handles quiet ∷ ks) (cleared quiet s))
    (given_all_spends (argument_values p args (procedure_at p n).parameters retry (cleared quiet s)) (λ vs s. config (Execute (Calls d n args vs)) (Handles quiet ∷ ks) s) (Handles quiet ∷ ks) (cleared quiet s) (λ vs. same (cleared quiet s).units))
    (no_more (cleared quiet s).units s.units (cleared_keeps quiet s).units)
stmt_spends p (Import n targets quiet) d retry ks s = cleared_executes (Imports n targets retry) (Handles quiet ∷ ks) quiet s
stmt_spends p (Export n es) d retry ks s =
    given_all_spends (values_now p es retry s) (λ vs s. ends_as (wrote_to n (export_line vs) s) (Handles false ∷ ks)) (Handles false ∷ ks) s (λ vs. wrote_to_spends n (export_line vs) (Handles false ∷ ks) s)
stmt_spends p (ExportRecord n b) d retry ks s = export_spends (content_of b s) n b (Handles false ∷ ks) s
stmt_spends p (PutItems n items) d retry ks s = text_spends (put_text p items retry s) n (Handles false ∷ ks) s
stmt_spends p (Message es) d retry ks s =
    given_all_spends (values_now p es retry s) (λ vs s. ends_as (wrote_to 0 (message_line vs) s) (Handles false ∷ ks)) (Handles false ∷ ks) s (λ vs. wrote_to_spends 0 (message_line vs) (Handles false ∷ ks) s)
stmt_spends p (OutputTo n output appends) d retry ks s =
    ends_spends (wrote (Opened output appends) (with_stream n (record (stream_at n s) { output = Some output }) s)) (Handles false ∷ ks) s.units (written_if_stays _ (Opened output appends) (with_stream n (record (stream_at n s) { output = Some output }) s)).units
stmt_spends p (OutputClose n) d retry ks s = same s.units
stmt_spends p (InputFrom n input) d retry ks s = same s.units
stmt_spends p (InputClose n) d retry ks s = same s.units

instr_spends : (p : Program) (i : Instr) (d : ℕ) (retry : Bool) (ks : List StackEntry) (s : State) → Spends s.units (instr_step p i d retry ks s)
instr_spends p Ends d retry ks s = same s.units
instr_spends p (Opens b body next) d retry ks s = costing_spends (λ s. config (Execute (Blocks b retry body d)) (Handles false ∷ ThenDo (RunsFrom next d retry) ∷ ks) s) ks s (λ t. same t.units)
instr_spends p (Tests test one other) d retry ks s = costing_spends (λ s. choose_step (value_now p test retry s) p one other d retry ks s) ks s (λ t. choose_spends (value_now p test retry t) p one other d retry ks t)
instr_spends p (Plain t next) d retry ks s = costing_spends (λ s. stmt_step p t d retry (ThenDo (RunsFrom next d retry) ∷ ks) s) ks s (λ u. stmt_spends p t d retry (ThenDo (RunsFrom next d retry) ∷ ks) u)

-- ---- a task

pub task_spends : (code : Code) (p : Program) (t : Task) (ks : List StackEntry) (s : State) → Spends s.units (task_step code p t ks s)
task_spends code p (EntersOne place) ks s = enter_spends p place (buffer_in place s).table (buffer_in place s).content ks s
task_spends code p (Enters []) ks s = same s.units
task_spends code p (Enters (place ∷ more)) ks s = same s.units
task_spends code p (Drops b) ks s = drop_spends (locked_row (content_of b s)) b ks s
task_spends code p (Releases []) ks s = same s.units
task_spends code p (Releases (b ∷ bs)) ks s = same s.units
task_spends code p (EntersRest None) ks s = same s.units
task_spends code p (EntersRest (Some copy)) ks s = spends_if (copy.depth == 1) s.units (config (Execute (Enters (all_places s))) ks s) (config (Unwind Normal) ks s) (same s.units) (same s.units)
task_spends code p (LeavesIf None but) ks s = same s.units
task_spends code p (LeavesIf (Some copy) but) ks s = same s.units
task_spends code p (LeavesNow but) ks s = ask_spends (op.Leave (keep_of but s)) WasLeft ks s
task_spends code p (Closing b o) ks s = same s.units
task_spends code p (GoesBack None but) ks s = same s.units
task_spends code p (GoesBack (Some copy) but) ks s = ask_spends (op.Back copy.depth) (WasBack copy but) ks s
task_spends code p (UpdatesOne mark place) ks s = update_spends mark place (buffer_in place s).table (buffer_in place s).content ks s
task_spends code p (Updates mark but []) ks s = same s.units
task_spends code p (Updates mark but (place ∷ more)) ks s =
    spends_if (is_left_out but place) s.units (config (Unwind Normal) (ThenDo (Updates mark but more) ∷ ks) s) (config (Execute (UpdatesOne mark place)) (ThenDo (Updates mark but more) ∷ ks) s) (same s.units) (same s.units)
task_spends code p (AfterBack copy but) ks s = same s.units
task_spends code p (Acts b o act retry) ks s = act_spends p act b o retry ks s
task_spends code p (IsOnly k c values) ks s = only_spends k.only k c values ks s
task_spends code p (Seconds zero k c values from) ks s = same s.units
task_spends code p (Seconds (suc n) k c values from) ks s = ask_spends (op.Next (table_of k.reading.buffer s) k.reading.index k.prefix (Some from) true) (WasSecond n k c values) ks s
task_spends code p (TakesAs r wait retry row) ks s = take_spends r.lock r wait retry row ks s
task_spends code p (TakesAgain r retry row) ks s = take_again_spends r.lock r retry row ks s
task_spends code p (Takes k c values) ks s = same s.units
task_spends code p (Looks zero k from) ks s = same s.units
task_spends code p (Looks (suc n) k from) ks s = ask_spends (op.Next (table_of k.reading.buffer s) k.reading.index k.prefix from k.forward) (WasNext n k) ks s
task_spends code p (Searches r forward only wait retry from) ks s = search_spends (values_now p (map (λ x. x.value) r.bracket) retry s) r forward only wait retry from ks s
task_spends code p (FetchesFrom again f retry own) ks s = fetch_spends again f retry own ks s
task_spends code p (Fetches f t retry) ks s = same s.units
task_spends code p (FindsAs word r wait retry) ks s = find_spends word r wait retry ks s
task_spends code p (Finds word r wait retry) ks s = same s.units
task_spends code p (FindsCurrent r wait) ks s = current_in_spends (content_of r.buffer s) r wait ks s
task_spends code p (AssignsOne t x retry) ks s = assign_spends p x t retry ks s
task_spends code p (AssignsEach [] retry) ks s = same s.units
task_spends code p (AssignsEach (x ∷ xs) retry) ks s = same s.units
task_spends code p (LocksOne b) ks s = lock_spends (content_of b s) (table_of b s) b ks s
task_spends code p (LocksAll []) ks s = same s.units
task_spends code p (LocksAll (b ∷ bs)) ks s = same s.units
task_spends code p (SettlesOne b) ks s = settle_spends p (content_of b s) (table_of b s) b ks s
task_spends code p (SettlesAll olds []) ks s = same s.units
task_spends code p (SettlesAll olds (b ∷ bs)) ks s = same s.units
task_spends code p (Assigns xs retry) ks s = same s.units
task_spends code p (Creates b) ks s = same s.units
task_spends code p (Deletes b) ks s = delete_spends (content_of b s) (table_of b s) b ks s
task_spends code p (DeletesRow b t row) ks s = ask_spends (op.Delete t row) (WasDeleted b) ks s
task_spends code p (Begun b) ks s = same s.units
task_spends code p (Completes completion) ks s = same s.units
task_spends code p (Empties but) ks s = unwinds Normal ks s (all_emptied but s) (all_emptied_keeps but s).units
task_spends code p (Closes b o completion) ks s = same s.units
task_spends code p (Passes b ended_way left_way) ks s = spends_if (s.level == 0) s.units (config (Execute (Releases b.scoped)) (ThenDo (Completes ended_way) ∷ ks) s) (config (Unwind left_way) ks s) (same s.units) (same s.units)
task_spends code p (UndoComes b o target act retry passed) ks s =
    spends_if (target == b.number) s.units
    (config (Execute (GoesBack (passed_with b o passed).first (passed_with b o passed).buffers)) (ThenDo (Acts b o act retry) ∷ ks) s)
    (config (Execute (Passes b (Undoes target act retry passed) (Undoes target act retry (passed_with b o passed)))) ks s) (same s.units) (same s.units)
task_spends code p (ErrorComes b o passed) ks s =
    spends_if b.flags.undo s.units (error_step b.on_error b o passed ks s) (config (Execute (Passes b (Raises passed) (Raises (passed_with b o passed)))) ks s) (error_spends b.on_error b o passed ks s) (same s.units)
task_spends code p (EndKeyComes b o passed) ks s = endkey_spends b.on_endkey b o passed ks s
task_spends code p (EndsWith b o completion) ks s = ends_step_spends completion b o ks s
task_spends code p (RunsFrom k d retry) ks s = instr_spends p (code.instr k) d retry ks s
task_spends code p (Begins b copy t retry body d) ks s = begins_spends b.fetch b copy t retry body d ks s
task_spends code p (EntersLevel b t retry body d) ks s =
    spends_if (enters_at b s.level) s.units (ask op.Enter (WasEntered b t retry body d) ks s) (config (Execute (Begins b None t retry body d)) ks s) (ask_spends op.Enter (WasEntered b t retry body d) ks s) (same s.units)
task_spends code p (Turns zero b outer body d t) ks s = same s.units
task_spends code p (Turns (suc n) b outer body d t) ks s = same s.units
task_spends code p (Iterates b outer body d t) ks s = costing_spends (λ s. turn_step p b outer body d t ks s) ks s (λ u. turn_spends p b outer body d t ks u)
task_spends code p (Blocks b outer body d) ks s = block_spends p b.to b outer body d ks s
task_spends code p (Imports n ts retry) ks s = import_spends (line_now p n ts s) n ts retry ks s
task_spends code p (Calls zero n args vs) ks s = same s.units
task_spends code p (Calls (suc d) n args vs) ks s = same s.units
