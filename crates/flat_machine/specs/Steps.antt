-- The steps of the parts of a run.
use Rattle.std.specs.Prelude.{ℕ, zero, suc, ◌==◌, nat_lt, List, [], ◌∷◌, Bool, true, false, not, ◌&&◌, Option, Some, None, length, pos}
use Rattle.abl_base.specs.declared.limits.TheConstants.{MAX_ROW_BYTES}
use Rattle.abl_base.specs.declared.row.RowId.{RowId}
use Rattle.database_protocol.specs.declared.row_order.Cursor.{Cursor}
use Rattle.abl_base.specs.declared.value.Value.{Value}
use Rattle.abl_base.specs.declared.value.Value.TheVariants.{Int64, Unknown}
use Rattle.abl_values.specs.Rows.{bytes_of_row}
use Rattle.database_protocol.specs.declared.operation.Op.{Op}
use Rattle.bound_tree.specs.declared.block.LockWanted.{LockWanted}
use Rattle.bound_tree.specs.declared.statement.FindWord.{FindWord}
use Rattle.bound_tree.specs.declared.statement.Target.{Target}
use Rattle.bound_tree.specs.Tree.{Expr, Header, ToPhrase, Action, ThenRetry, ThenLeave, ThenNext, ThenReturn, ThenError, OnPhrase, Reading, Fetch, Right, ValueOf, NextOf, CurrentOf, Given, Stmt, Inner, Choose, Assign, Find, FindCurrent, Create, Remove, Release, UndoBlock, LeaveBlock, NextBlock, Return, ReturnError, Stop, Run, Import, Export, ExportRecord, PutItems, Message, OutputTo, OutputClose, InputFrom, InputClose}
use Rattle.expression_meaning.specs.Operators.{holds}
use Rattle.abl_base.specs.text_forms.TextForms.{Imported, AtInputEnd, BadElement, Elements}
use Rattle.block_meaning.specs.declared.wants.Piece.TheVariants.{Wrote, Opened}
use Rattle.block_meaning.specs.Program.{Program, procedure_at, table_at}
use Rattle.block_meaning.specs.Lines.{Complaint, IsMandatory, RecordTooLong, NoRecordIn, IsReadNoLock, BadField}
use Rattle.block_meaning.specs.State.{State, Copy, Turn, Passed, nothing_passed, Content, Empty, Record, Pending, Held, NoLock, Share, Exclusive, Completed, wrote, Completion, Normal, Again, Leaves, Nexts, Undoes, Faults, Raises, EndKeys, Returns, Stops, Found, NotFound, out_of_units}
use Rattle.block_meaning.specs.Frames.{value_of, assigned, content_of, table_of, emptied, marked_locked}
use Rattle.block_meaning.specs.Values.{Evaluated, Gives, Fails, value_now, fit, EvaluatedAll, GivesAll, FailsAll, values_now, export_line, message_line, Text, IsText, HasFault, put_text}
use Rattle.block_meaning.specs.Buffers.{Place, own, holding_in, missing_field, keep_of, is_row_in, made_later}
use Rattle.block_meaning.specs.Reads.{Search, is_exclusive, bracket_of, is_forward, is_each, cursor_of}
use Rattle.block_meaning.specs.Changes.{stored, stored_if, all_begun}
use Rattle.block_meaning.specs.Blocks.{Iteration, complained, iterates, handles_endkey, passed_with, next_turn, instead_of_retry, returns_with, counts_down, in_bound, retry_in, next_value, first_turn}
use Rattle.block_meaning.specs.Streams.{stream_at, with_stream, closes_output, opens_input, read_to, pairs_of}
use Rattle.block_meaning.specs.Meaning.{cleared, argument_values}
use Rattle.flat_machine.specs.Config.{Task, StackEntry, OnAnswer, Mode, Config, EntersOne, Drops, Closing, Seconds, TakesAgain, Looks, Searches, Fetches, Finds, FindsCurrent, Assigns, Creates, Deletes, DeletesRow, Completes, Closes, Passes, UndoComes, ErrorComes, EndKeyComes, RunsFrom, EntersLevel, Turns, Blocks, Imports, Calls, ThenDo, OrDo, AfterClosing, Quiet, Handles, In, FetchedAs, WasInserted, WasDropped, WasGot, WasGranted, WasRead, CurrentGranted, WasCurrent, WasCounted, WasUpgraded, WasPut, Execute, Unwind, Await}
use Rattle.flat_machine.specs.Code.{Instr, Ends, Opens, Tests, Plain}
use Rattle.database_protocol.specs.declared.operation.Op.TheVariants as op
use Rattle.bound_tree.specs.declared.block.LockWanted.TheVariants as wanted
use Rattle.bound_tree.specs.declared.statement.FindWord.TheVariants as find
use Rattle.database_protocol.specs.declared.ends.StopWhy.TheVariants as why
use Rattle.database_protocol.specs.declared.ends.ClientEnd.TheVariants as client

abbrev pub config : Mode → List StackEntry → State → Config
config m ks s = record { mode = m; stack = ks; state = s }

abbrev pub config_if : Bool → Config → Config → Config
config_if true one other = one
config_if false one other = other

abbrev pub asked_from : ℕ → Op → OnAnswer → List StackEntry → State → Config
asked_from zero op k ks s = config (Unwind (Stops out_of_units)) ks s
asked_from (suc n) op k ks s = config (Await op k) ks (record s { units = n })

abbrev pub ask : Op → OnAnswer → List StackEntry → State → Config
ask op k ks s = asked_from s.units op k ks s

abbrev pub fault : Complaint → List StackEntry → State → Config
fault c ks s = config (Unwind (Faults (Some c))) ks s

abbrev pub insert_unless : Option ℕ → Program → Place → ℕ → List Value → ℕ → List StackEntry → State → Config
insert_unless (Some f) p place t vs made ks s = fault (IsMandatory t f) ks s
insert_unless None p place t vs made ks s = config_if (nat_lt MAX_ROW_BYTES (length (bytes_of_row vs))) (fault (RecordTooLong t) ks s) (ask (op.Insert t vs) (WasInserted place t vs made) ks s)

abbrev pub enter_step : Program → Place → ℕ → Content → List StackEntry → State → Config
enter_step p place t Empty ks s = config (Unwind Normal) ks s
enter_step p place t (Record row vs held made) ks s = config (Unwind Normal) ks s
enter_step p place t (Pending vs since made) ks s = insert_unless (missing_field 0 (table_at p t).fields vs) p place t vs made ks s

abbrev pub drop_step : Option RowId → ℕ → List StackEntry → State → Config
drop_step None b ks s = config (Unwind Normal) ks (emptied b s)
drop_step (Some row) b ks s =
    config_if ((s.level == 0) && not (is_row_in row (keep_of (b ∷ []) s)))
    (ask (op.Drop row) WasDropped ks (emptied b s))
    (config (Unwind Normal) ks (emptied b s))

abbrev pub update_step : ℕ → Place → ℕ → Content → List StackEntry → State → Config
update_step mark place t Empty ks s = config (Unwind Normal) ks s
update_step mark place t (Pending values since made) ks s = config_if (nat_lt mark made) (config (Unwind Normal) ks (holding_in place Empty s)) (config (Unwind Normal) ks s)
update_step mark place t (Record row values held made) ks s =
    config_if (made_later mark made) (config (Unwind Normal) ks (holding_in place Empty s)) (ask (op.Get t row) (WasGot place row held made) ks s)

-- ---- reading

abbrev pub judge_step : Evaluated → ℕ → (State → Config) → (State → Config) → List StackEntry → State → Config
judge_step (Gives v) b good bad ks s = config_if (holds v) (good s) (bad (emptied b s))
judge_step (Fails c) b good bad ks s = fault c ks (emptied b s)

abbrev pub test_step : Program → Option Expr → ℕ → Bool → (State → Config) → (State → Config) → List StackEntry → State → Config
test_step p None b retry good bad ks s = good s
test_step p (Some e) b retry good bad ks s = judge_step (value_now p e retry s) b good bad ks s

abbrev pub take_step : LockWanted → Reading → Bool → Bool → RowId → List StackEntry → State → Config
take_step wanted.NoLock r wait retry row ks s = config (Unwind Normal) ks s
take_step wanted.Share r wait retry row ks s = ask (op.Lock (table_of r.buffer s) row (is_exclusive r.lock) wait) (WasGranted r retry row) ks s
take_step wanted.Exclusive r wait retry row ks s = ask (op.Lock (table_of r.buffer s) row (is_exclusive r.lock) wait) (WasGranted r retry row) ks s

abbrev pub take_again_step : LockWanted → Reading → Bool → RowId → List StackEntry → State → Config
take_again_step wanted.NoLock r retry row ks s = ask (op.Get (table_of r.buffer s) row) (WasRead r retry row NoLock) ks s
take_again_step wanted.Share r retry row ks s = ask (op.Lock (table_of r.buffer s) row (is_exclusive r.lock) true) (WasGranted r retry row) ks s
take_again_step wanted.Exclusive r retry row ks s = ask (op.Lock (table_of r.buffer s) row (is_exclusive r.lock) true) (WasGranted r retry row) ks s

abbrev pub only_step : Bool → Search → Cursor → List Value → List StackEntry → State → Config
only_step true k c values ks s = config (Execute (Seconds s.units k c values c)) ks s
only_step false k c values ks s = config (Unwind Normal) ks s

abbrev pub search_step : EvaluatedAll → Reading → Bool → Bool → Bool → Bool → Option Cursor → List StackEntry → State → Config
search_step (GivesAll values) r forward only wait retry from ks s =
    config (Execute (Looks s.units (record { reading = r; forward = forward; only = only; wait = wait; retry = retry; prefix = bracket_of r.bracket values }) from)) ks s
search_step (FailsAll c) r forward only wait retry from ks s = fault c ks s

abbrev pub fetch_step : Bool → Fetch → Bool → Option Cursor → List StackEntry → State → Config
fetch_step again f retry None ks s = config (Execute (Searches f.reading (is_forward f.word) false true retry None)) ks s
fetch_step true f retry (Some own) ks s = config (Execute (TakesAgain f.reading retry own.row)) (ThenDo (Completes (Found own)) ∷ OrDo (Searches f.reading (is_forward f.word) false true retry (Some own)) ∷ ks) s
fetch_step false f retry (Some own) ks s = config_if (is_each f.word) (config (Execute (Searches f.reading (is_forward f.word) false true retry (Some own))) ks s) (config (Unwind NotFound) ks s)

abbrev pub find_step : FindWord → Reading → Bool → Bool → List StackEntry → State → Config
find_step find.Only r wait retry ks s = config (Execute (Searches r true true wait retry None)) ks s
find_step find.First r wait retry ks s = config (Execute (Searches r true false wait retry None)) ks s
find_step find.Last r wait retry ks s = config (Execute (Searches r false false wait retry None)) ks s
find_step find.Next r wait retry ks s = config (Execute (Searches r true false wait retry (cursor_of r s))) ks s
find_step find.Previous r wait retry ks s = config (Execute (Searches r false false wait retry (cursor_of r s))) ks s

abbrev pub current_step : LockWanted → Reading → Bool → RowId → Option ℕ → List StackEntry → State → Config
current_step wanted.NoLock r wait row made ks s = ask (op.Get (table_of r.buffer s) row) (WasCurrent r row made) ks s
current_step wanted.Share r wait row made ks s = ask (op.Lock (table_of r.buffer s) row (is_exclusive r.lock) wait) (CurrentGranted r row made) ks s
current_step wanted.Exclusive r wait row made ks s = ask (op.Lock (table_of r.buffer s) row (is_exclusive r.lock) wait) (CurrentGranted r row made) ks s

abbrev pub current_in_step : Content → Reading → Bool → List StackEntry → State → Config
current_in_step Empty r wait ks s = fault (NoRecordIn r.buffer) ks s
current_in_step (Pending values since made) r wait ks s = config (Unwind Normal) ks (marked_locked r.buffer false s)
current_in_step (Record row values held made) r wait ks s = current_step r.lock r wait row made ks (marked_locked r.buffer false s)

-- ---- changes

abbrev pub ends_as : Completed → List StackEntry → Config
ends_as x ks = config (Unwind x.completion) ks x.state

abbrev pub assign_step : Program → Right → Target → Bool → List StackEntry → State → Config
assign_step p (ValueOf e) t retry ks s = ends_as (stored_if (value_now p e retry s) t s) ks
assign_step p (NextOf q) t retry ks s = ask (op.NextValue q) (WasCounted t) ks s
assign_step p (CurrentOf q) t retry ks s = ask (op.CurrentValue q) (WasCounted t) ks s
assign_step p (Given v) t retry ks s = ends_as (stored t v s) ks

abbrev pub upgrade_step : Held → ℕ → ℕ → RowId → List Value → Option ℕ → List StackEntry → State → Config
upgrade_step NoLock t b row values made ks s = fault (IsReadNoLock b) ks s
upgrade_step Share t b row values made ks s = ask (op.Lock t row true true) (WasUpgraded b row values made) ks s
upgrade_step Exclusive t b row values made ks s = config (Unwind Normal) ks s

abbrev pub lock_step : Content → ℕ → ℕ → List StackEntry → State → Config
lock_step Empty t b ks s = config (Unwind Normal) ks s
lock_step (Pending values since made) t b ks s = config (Unwind Normal) ks s
lock_step (Record row values held made) t b ks s = upgrade_step held t b row values made ks s

abbrev pub put_unless : Option ℕ → ℕ → ℕ → RowId → List Value → List StackEntry → State → Config
put_unless (Some f) b t row vs ks s = fault (IsMandatory t f) ks s
put_unless None b t row vs ks s = config_if (nat_lt MAX_ROW_BYTES (length (bytes_of_row vs))) (fault (RecordTooLong t) ks s) (ask (op.Put t row vs) (WasPut b t) ks s)

abbrev pub settle_step : Program → Content → ℕ → ℕ → List StackEntry → State → Config
settle_step p Empty t b ks s = config (Unwind Normal) ks s
settle_step p (Pending values since made) t b ks s = config_if (all_begun (table_at p t).indexes since) (config (Execute (EntersOne (own b))) ks s) (config (Unwind Normal) ks s)
settle_step p (Record row values held made) t b ks s = put_unless (missing_field 0 (table_at p t).fields values) b t row values ks s

abbrev pub delete_step : Content → ℕ → ℕ → List StackEntry → State → Config
delete_step Empty t b ks s = fault (NoRecordIn b) ks s
delete_step (Pending values since made) t b ks s = config (Unwind Normal) ks (emptied b s)
delete_step (Record row values held made) t b ks s = upgrade_step held t b row values made (ThenDo (DeletesRow b t row) ∷ ks) s

-- ---- ends of iterations

abbrev pub error_step : Option OnPhrase → Header → Iteration → Passed → List StackEntry → State → Config
error_step None b o passed ks s = config (Execute (UndoComes b o b.number ThenRetry o.turn.retry passed)) ks s
error_step (Some on) b o passed ks s = config (Execute (UndoComes b o on.target on.action o.turn.retry passed)) ks s

abbrev pub endkey_step : Option OnPhrase → Header → Iteration → Passed → List StackEntry → State → Config
endkey_step None b o passed ks s =
    config_if (handles_endkey b) (config (Execute (UndoComes b o b.number (ThenLeave b.number) o.turn.retry passed)) ks s)
    (config (Execute (Passes b (EndKeys passed) (EndKeys (passed_with b o passed)))) ks s)
endkey_step (Some on) b o passed ks s = config (Execute (UndoComes b o on.target on.action o.turn.retry passed)) ks s

abbrev pub act_step : Program → Action → Header → Iteration → Bool → List StackEntry → State → Config
act_step p ThenRetry b o retry ks s = config_if b.flags.retry_seen (config (Unwind (Again (next_turn true o.turn))) ks s) (config (Execute (Closes b o (instead_of_retry (iterates b) b.number))) ks s)
act_step p (ThenLeave l) b o retry ks s = config (Execute (Closes b o (Leaves l))) ks s
act_step p (ThenNext l) b o retry ks s = config (Execute (Closes b o (Nexts l))) ks s
act_step p (ThenReturn error e) b o retry ks s = config (Execute (Closes b o (Returns error))) ks (returns_with p e retry s)
act_step p ThenError b o retry ks s = config (Execute (Closes b o (Returns true))) ks s

abbrev pub ended_step : Header → Iteration → Completion → List StackEntry → State → Config
ended_step b o completion ks s = config (Execute (Closing b o)) (AfterClosing b o completion ∷ ks) s

abbrev pub ends_step : Completion → Header → Iteration → List StackEntry → State → Config
ends_step (Undoes target act retry passed) b o ks s = config (Execute (UndoComes b o target act retry passed)) ks s
ends_step (Raises passed) b o ks s = config (Execute (ErrorComes b o passed)) ks s
ends_step (EndKeys passed) b o ks s = config (Execute (EndKeyComes b o passed)) ks s
ends_step (Stops end) b o ks s = config (Unwind (Stops end)) ks s
ends_step completion b o ks s = ended_step b o completion ks s

-- ---- blocks

abbrev pub costing : ℕ → (State → Config) → List StackEntry → State → Config
costing zero go ks s = config (Unwind (Stops out_of_units)) ks s
costing (suc n) go ks s = go (record s { units = n })

abbrev pub given_step : Evaluated → (Value → State → Config) → List StackEntry → State → Config
given_step (Gives v) go ks s = go v s
given_step (Fails c) go ks s = fault c ks s

abbrev pub begins_step : Option Fetch → Header → Option Copy → Turn → Bool → ℕ → ℕ → List StackEntry → State → Config
begins_step None b copy t retry body d ks s = config (Execute (RunsFrom body d retry)) (In b (record { copy = copy; turn = t }) ∷ ks) s
begins_step (Some f) b copy t retry body d ks s = config (Execute (Fetches f t retry)) (FetchedAs b copy t f.reading.buffer body d retry ∷ ks) s

abbrev pub while_step : Program → Option Expr → Bool → (State → Config) → List StackEntry → State → Config
while_step p None retry go ks s = go s
while_step p (Some e) retry go ks s = given_step (value_now p e retry s) (λ v s. config_if (holds v) (go s) (config (Unwind Normal) ks s)) ks s

abbrev pub reach_step : Program → ToPhrase → Value → Bool → (State → Config) → List StackEntry → State → Config
reach_step p l by retry go ks s =
    given_step (value_now p l.end retry s) (λ end s. config_if (in_bound (counts_down by) (value_of l.variable s) end) (go s) (config (Unwind Normal) ks s)) ks s

abbrev pub set_step : Program → ToPhrase → Value → Bool → Evaluated → (State → Config) → List StackEntry → State → Config
set_step p l by retry v go ks s =
    given_step v (λ v s. given_step (fit l.variable.kind v) (λ v s. reach_step p l by retry go ks (assigned l.variable v s)) ks s) ks s

abbrev pub advance_step : Program → ToPhrase → Turn → Bool → Option Value → (State → Config) → List StackEntry → State → Config
advance_step p l t retry None go ks s = set_step p l t.by retry (next_value l t s) go ks s
advance_step p l t retry (Some v) go ks s = set_step p l t.by retry (Gives v) go ks s

abbrev pub loop_step : Program → Option ToPhrase → Turn → Bool → (State → Config) → List StackEntry → State → Config
loop_step p None t retry go ks s = go s
loop_step p (Some l) t retry go ks s = config_if t.retry (go s) (advance_step p l t retry t.start go ks s)

abbrev pub turn_step : Program → Header → Bool → ℕ → ℕ → Turn → List StackEntry → State → Config
turn_step p b outer body d t ks s =
    loop_step p b.to t (retry_in b t outer)
    (λ s. while_step p b.while_test (retry_in b t outer) (λ s. config (Execute (EntersLevel b (record t { start = None }) (retry_in b t outer) body d)) ks s) ks s) ks s

abbrev pub by_step : Program → Option Expr → Bool → (Value → State → Config) → List StackEntry → State → Config
by_step p None outer go ks s = go (Int64 (pos 1)) s
by_step p (Some e) outer go ks s = given_step (value_now p e outer s) go ks s

abbrev pub block_step : Program → Option ToPhrase → Header → Bool → ℕ → ℕ → List StackEntry → State → Config
block_step p None b outer body d ks s = config (Execute (Turns s.units b outer body d (first_turn None Unknown))) ks s
block_step p (Some l) b outer body d ks s =
    given_step (value_now p l.start outer s) (λ v s. by_step p l.by outer (λ w s. config (Execute (Turns s.units b outer body d (first_turn (Some v) w))) ks s) ks s) ks s

-- ---- statements

abbrev pub given_all_step : EvaluatedAll → (List Value → State → Config) → List StackEntry → State → Config
given_all_step (GivesAll vs) go ks s = go vs s
given_all_step (FailsAll c) go ks s = fault c ks s

abbrev pub wrote_to : ℕ → List ℕ → State → Completed
wrote_to n bytes s = wrote (Wrote (stream_at n s).output bytes) s

abbrev pub export_step : Content → ℕ → ℕ → List StackEntry → State → Config
export_step Empty n b ks s = fault (NoRecordIn b) ks s
export_step (Record row values held made) n b ks s = ends_as (wrote_to n (export_line values) s) ks
export_step (Pending values since made) n b ks s = ends_as (wrote_to n (export_line values) s) ks

-- a line of input is assigned
abbrev pub import_step : Imported → ℕ → List (Option Target) → Bool → List StackEntry → State → Config
import_step AtInputEnd n ts retry ks s = config (Unwind (EndKeys nothing_passed)) ks s
import_step (BadElement number next) n ts retry ks s = fault (BadField number) ks (read_to n next s)
import_step (Elements vs next) n ts retry ks s = config (Execute (Assigns (pairs_of ts vs) retry)) ks (read_to n next s)

-- the text of a PUT
abbrev pub given_text_step : Text → ℕ → List StackEntry → State → Config
given_text_step (IsText bytes) n ks s = ends_as (wrote_to n bytes s) ks
given_text_step (HasFault c) n ks s = fault c ks s

abbrev pub errs_step : Completed → Task → List StackEntry → Config
errs_step x t ks = config (Unwind x.completion) (ThenDo t ∷ ks) x.state

abbrev pub choose_step : Evaluated → Program → ℕ → ℕ → ℕ → Bool → List StackEntry → State → Config
choose_step (Gives v) p one other d retry ks s = config_if (holds v) (config (Execute (RunsFrom one d retry)) ks s) (config (Execute (RunsFrom other d retry)) ks s)
choose_step (Fails c) p one other d retry ks s = errs_step (complained p (Some c) s) (Completes (Raises nothing_passed)) ks

-- a statement that is neither a block nor an IF, after its unit was charged; the entry that handles its fault is pushed here
abbrev pub stmt_step : Program → Stmt → ℕ → Bool → List StackEntry → State → Config
stmt_step p (Inner b body) d retry ks s = config (Unwind Normal) ks s
stmt_step p (Choose test then_it else_it) d retry ks s = config (Unwind Normal) ks s
stmt_step p (Assign pairs quiet) d retry ks s = config (Execute (Assigns pairs retry)) (Handles quiet ∷ ks) (cleared quiet s)
stmt_step p (Find word reading wait quiet) d retry ks s = config (Execute (Finds word reading wait retry)) (Quiet quiet ∷ Handles quiet ∷ ks) (cleared quiet s)
stmt_step p (FindCurrent reading wait quiet) d retry ks s = config (Execute (FindsCurrent reading wait)) (Handles quiet ∷ ks) (cleared quiet s)
stmt_step p (Create b quiet) d retry ks s = config (Execute (Creates b)) (Handles quiet ∷ ks) (cleared quiet s)
stmt_step p (Remove b quiet) d retry ks s = config (Execute (Deletes b)) (Handles quiet ∷ ks) (cleared quiet s)
stmt_step p (Release b quiet) d retry ks s = config (Execute (EntersOne (own b))) (ThenDo (Drops b) ∷ Handles quiet ∷ ks) (cleared quiet s)
stmt_step p (UndoBlock l act) d retry ks s = config (Unwind (Undoes l act retry nothing_passed)) (Handles false ∷ ks) s
stmt_step p (LeaveBlock l) d retry ks s = config (Unwind (Leaves l)) (Handles false ∷ ks) s
stmt_step p (NextBlock l) d retry ks s = config (Unwind (Nexts l)) (Handles false ∷ ks) s
stmt_step p (Return e) d retry ks s = config (Unwind (Returns false)) (Handles false ∷ ks) (returns_with p e retry s)
stmt_step p (ReturnError l e) d retry ks s = config (Unwind (Undoes l ThenError retry nothing_passed)) (Handles false ∷ ks) (returns_with p e retry s)
stmt_step p Stop d retry ks s = config (Unwind (Stops (client.Stop why.Statement))) (Handles false ∷ ks) s
stmt_step p (Run n args quiet) d retry ks s =
    given_all_step (argument_values p args (procedure_at p n).parameters retry (cleared quiet s)) (λ vs s. config (Execute (Calls d n args vs)) (Handles quiet ∷ ks) s) (Handles quiet ∷ ks) (cleared quiet s)
stmt_step p (Import n targets quiet) d retry ks s = config (Execute (Imports n targets retry)) (Handles quiet ∷ ks) (cleared quiet s)
stmt_step p (Export n es) d retry ks s =
    given_all_step (values_now p es retry s) (λ vs s. ends_as (wrote_to n (export_line vs) s) (Handles false ∷ ks)) (Handles false ∷ ks) s
stmt_step p (ExportRecord n b) d retry ks s = export_step (content_of b s) n b (Handles false ∷ ks) s
stmt_step p (PutItems n items) d retry ks s =
    given_text_step (put_text p items retry s) n (Handles false ∷ ks) s
stmt_step p (Message es) d retry ks s =
    given_all_step (values_now p es retry s) (λ vs s. ends_as (wrote_to 0 (message_line vs) s) (Handles false ∷ ks)) (Handles false ∷ ks) s
stmt_step p (OutputTo n output appends) d retry ks s = ends_as (wrote (Opened output appends) (with_stream n (record (stream_at n s) { output = Some output }) s)) (Handles false ∷ ks)
stmt_step p (OutputClose n) d retry ks s = config (Unwind Normal) (Handles false ∷ ks) (closes_output n s)
stmt_step p (InputFrom n input) d retry ks s = config (Unwind Normal) (Handles false ∷ ks) (opens_input n (Some input) s)
stmt_step p (InputClose n) d retry ks s = config (Unwind Normal) (Handles false ∷ ks) (opens_input n None s)

-- an instruction
abbrev pub instr_step : Program → Instr → ℕ → Bool → List StackEntry → State → Config
instr_step p Ends d retry ks s = config (Unwind Normal) ks s
instr_step p (Opens b body next) d retry ks s = costing s.units (λ s. config (Execute (Blocks b retry body d)) (Handles false ∷ ThenDo (RunsFrom next d retry) ∷ ks) s) ks s
instr_step p (Tests test one other) d retry ks s = costing s.units (λ s. choose_step (value_now p test retry s) p one other d retry ks s) ks s
instr_step p (Plain t next) d retry ks s = costing s.units (λ s. stmt_step p t d retry (ThenDo (RunsFrom next d retry) ∷ ks) s) ks s
