-- The machine: its steps for a task, for a completion and for an answer.
use Rattle.std.specs.Prelude.{ℕ, zero, suc, ◌==◌, List, [], ◌∷◌, Bool, true, false, Option, Some, None, map, ℤ}
use Rattle.abl_base.specs.declared.row.RowId.{RowId}
use Rattle.database_protocol.specs.declared.row_order.Cursor.{Cursor}
use Rattle.abl_base.specs.declared.value.Value.{Value}
use Rattle.abl_base.specs.declared.value.Value.TheVariants.{Int64}
use Rattle.database_protocol.specs.declared.operation.Op.{Op}
use Rattle.database_protocol.specs.declared.answer.Answer.{Answer}
use Rattle.bound_tree.specs.declared.statement.FindWord.{FindWord}
use Rattle.bound_tree.specs.declared.statement.Target.{Target}
use Rattle.bound_tree.specs.Tree.{Procedure, Header, Reading, Argument}
use Rattle.block_meaning.specs.Program.{Program, procedure_at}
use Rattle.block_meaning.specs.Lines.{Complaint, RecordIsGone, NoRecordFound, MoreThanOne, IsLocked, OutOfRange}
use Rattle.block_meaning.specs.State.{State, Copy, Turn, nothing_passed, Content, Record, Held, Exclusive, Completion, Normal, Again, Undoes, Faults, Raises, EndKeys, Returns, Stops, Found, Lost, NotFound, out_of_units}
use Rattle.block_meaning.specs.Frames.{own_frame, content_of, table_of, holding, emptied, all_emptied, marked_locked, with_spot, put_back, copy_of, locked_row}
use Rattle.block_meaning.specs.Values.{values_now}
use Rattle.block_meaning.specs.Views.{FoundRow, found_in, values_in, row_in, number_in, Grant, IsGranted, IsBusy, IsGone, grant_in, is_gone, refusal_in}
use Rattle.block_meaning.specs.Buffers.{Place, own, all_places, buffer_in, holding_in, keep_of, left, got_content, is_left_out}
use Rattle.block_meaning.specs.Reads.{Search, held_as, shows, next_shown}
use Rattle.block_meaning.specs.Changes.{stored, begun, buffers_in}
use Rattle.block_meaning.specs.Blocks.{Iteration, complained, passed_with, after_iteration, enters_at, deeper}
use Rattle.block_meaning.specs.Streams.{line_now}
use Rattle.block_meaning.specs.Meaning.{start, with_status, copied_out, without_frame, opened_frame}
use Rattle.flat_machine.specs.Config.{Task, StackEntry, OnAnswer, Mode, Config, EntersOne, Enters, Drops, Releases, EntersRest, LeavesIf, LeavesNow, Closing, GoesBack, UpdatesOne, Updates, AfterBack, Acts, IsOnly, Seconds, TakesAs, TakesAgain, Takes, Looks, Searches, FetchesFrom, Fetches, FindsAs, Finds, FindsCurrent, AssignsOne, AssignsEach, LocksOne, LocksAll, SettlesOne, SettlesAll, Assigns, Creates, Deletes, DeletesRow, Begun, Completes, Empties, Closes, Passes, UndoComes, ErrorComes, EndKeyComes, EndsWith, RunsFrom, Begins, EntersLevel, Turns, Iterates, Blocks, Imports, Calls, ThenDo, OrDo, FoundAs, AsBefore, AfterClosing, Quiet, Handles, In, FetchedAs, AndAgain, Called, WasInserted, WasDropped, WasLeft, WasBack, WasGot, WasSecond, WasNext, WasGranted, WasRead, CurrentGranted, WasCurrent, WasCounted, WasUpgraded, WasPut, WasDeleted, WasEntered, Execute, Unwind, Await}
use Rattle.flat_machine.specs.Code.{Code}
use Rattle.flat_machine.specs.Means.{contents_of, less, contents_back}
use Rattle.flat_machine.specs.Steps.{config, config_if, ask, fault, enter_step, drop_step, update_step, test_step, take_step, take_again_step, only_step, search_step, fetch_step, find_step, current_in_step, ends_as, assign_step, lock_step, settle_step, delete_step, error_step, endkey_step, act_step, ends_step, costing, begins_step, turn_step, block_step, import_step, errs_step, instr_step}
use Rattle.database_protocol.specs.declared.operation.Op.TheVariants as op
use Rattle.database_protocol.specs.declared.answer.Answer.TheVariants as answer
use Rattle.bound_tree.specs.declared.statement.FindWord.TheVariants as find
use Rattle.database_protocol.specs.declared.ends.StopWhy.TheVariants as why
use Rattle.database_protocol.specs.declared.ends.ClientEnd.TheVariants as client

-- ---- a task

abbrev pub task_step : Code → Program → Task → List StackEntry → State → Config
task_step code p (EntersOne place) ks s = enter_step p place (buffer_in place s).table (buffer_in place s).content ks s
task_step code p (Enters []) ks s = config (Unwind Normal) ks s
task_step code p (Enters (place ∷ more)) ks s = config (Execute (EntersOne place)) (ThenDo (Enters more) ∷ ks) s
task_step code p (Drops b) ks s = drop_step (locked_row (content_of b s)) b ks s
task_step code p (Releases []) ks s = config (Unwind Normal) ks s
task_step code p (Releases (b ∷ bs)) ks s = config (Execute (EntersOne (own b))) (ThenDo (Drops b) ∷ ThenDo (Releases bs) ∷ ks) s
task_step code p (EntersRest None) ks s = config (Unwind Normal) ks s
task_step code p (EntersRest (Some copy)) ks s = config_if (copy.depth == 1) (config (Execute (Enters (all_places s))) ks s) (config (Unwind Normal) ks s)
task_step code p (LeavesIf None but) ks s = config (Unwind Normal) ks s
task_step code p (LeavesIf (Some copy) but) ks s = config (Execute (LeavesNow but)) ks s
task_step code p (LeavesNow but) ks s = ask (op.Leave (keep_of but s)) WasLeft ks s
task_step code p (Closing b o) ks s = config (Execute (Enters (map own b.scoped))) (ThenDo (Releases b.scoped) ∷ ThenDo (EntersRest o.copy) ∷ ThenDo (LeavesIf o.copy b.scoped) ∷ ks) s
task_step code p (GoesBack None but) ks s = config (Unwind Normal) ks s
task_step code p (GoesBack (Some copy) but) ks s = ask (op.Back copy.depth) (WasBack copy but) ks s
task_step code p (UpdatesOne mark place) ks s = update_step mark place (buffer_in place s).table (buffer_in place s).content ks s
task_step code p (Updates mark but []) ks s = config (Unwind Normal) ks s
task_step code p (Updates mark but (place ∷ more)) ks s =
    config_if (is_left_out but place) (config (Unwind Normal) (ThenDo (Updates mark but more) ∷ ks) s) (config (Execute (UpdatesOne mark place)) (ThenDo (Updates mark but more) ∷ ks) s)
task_step code p (AfterBack copy but) ks s = config (Execute (Updates copy.made but (all_places (put_back copy s)))) (ThenDo (LeavesNow but) ∷ ThenDo (Empties but) ∷ ks) (put_back copy s)
task_step code p (Acts b o act retry) ks s = act_step p act b o retry ks s
task_step code p (IsOnly k c values) ks s = only_step k.only k c values ks s
task_step code p (Seconds zero k c values from) ks s = config (Unwind (Stops out_of_units)) ks s
task_step code p (Seconds (suc n) k c values from) ks s = ask (op.Next (table_of k.reading.buffer s) k.reading.index k.prefix (Some from) true) (WasSecond n k c values) ks s
task_step code p (TakesAs r wait retry row) ks s = take_step r.lock r wait retry row ks s
task_step code p (TakesAgain r retry row) ks s = take_again_step r.lock r retry row ks s
task_step code p (Takes k c values) ks s = config (Execute (IsOnly k c values)) (ThenDo (TakesAs k.reading k.wait k.retry c.row) ∷ ThenDo (Completes (Found c)) ∷ ks) s
task_step code p (Looks zero k from) ks s = config (Unwind (Stops out_of_units)) ks s
task_step code p (Looks (suc n) k from) ks s = ask (op.Next (table_of k.reading.buffer s) k.reading.index k.prefix from k.forward) (WasNext n k) ks s
task_step code p (Searches r forward only wait retry from) ks s = search_step (values_now p (map (λ x. x.value) r.bracket) retry s) r forward only wait retry from ks s
task_step code p (FetchesFrom again f retry own) ks s = fetch_step again f retry own ks s
task_step code p (Fetches f t retry) ks s = config (Execute (EntersOne (own f.reading.buffer))) (ThenDo (Drops f.reading.buffer) ∷ ThenDo (FetchesFrom t.retry f retry t.own) ∷ ks) (marked_locked f.reading.buffer false s)
task_step code p (FindsAs word r wait retry) ks s = find_step word r wait retry ks s
task_step code p (Finds word r wait retry) ks s = config (Execute (EntersOne (own r.buffer))) (ThenDo (Drops r.buffer) ∷ ThenDo (FindsAs word r wait retry) ∷ FoundAs word r.buffer ∷ ks) (marked_locked r.buffer false s)
task_step code p (FindsCurrent r wait) ks s = current_in_step (content_of r.buffer s) r wait ks s
task_step code p (AssignsOne t x retry) ks s = assign_step p x t retry ks s
task_step code p (AssignsEach [] retry) ks s = config (Unwind Normal) ks s
task_step code p (AssignsEach (x ∷ xs) retry) ks s = config (Execute (AssignsOne x.target x.right retry)) (ThenDo (AssignsEach xs retry) ∷ ks) s
task_step code p (LocksOne b) ks s = lock_step (content_of b s) (table_of b s) b ks s
task_step code p (LocksAll []) ks s = config (Unwind Normal) ks s
task_step code p (LocksAll (b ∷ bs)) ks s = config (Execute (LocksOne b)) (ThenDo (LocksAll bs) ∷ ks) s
task_step code p (SettlesOne b) ks s = settle_step p (content_of b s) (table_of b s) b ks s
task_step code p (SettlesAll olds []) ks s = config (Unwind Normal) ks s
task_step code p (SettlesAll olds (b ∷ bs)) ks s = config (Execute (SettlesOne b)) (AsBefore olds (b ∷ bs) ∷ ThenDo (SettlesAll (less olds) bs) ∷ ks) s
task_step code p (Assigns xs retry) ks s = config (Execute (AssignsEach xs retry)) (ThenDo (LocksAll (buffers_in xs)) ∷ AsBefore (contents_of s (buffers_in xs)) (buffers_in xs) ∷ ThenDo (SettlesAll (contents_of s (buffers_in xs)) (buffers_in xs)) ∷ ks) s
task_step code p (Creates b) ks s = config (Execute (EntersOne (own b))) (ThenDo (Drops b) ∷ ThenDo (Begun b) ∷ ks) s
task_step code p (Deletes b) ks s = delete_step (content_of b s) (table_of b s) b ks s
task_step code p (DeletesRow b t row) ks s = ask (op.Delete t row) (WasDeleted b) ks s
task_step code p (Begun b) ks s = config (Unwind Normal) ks (begun p b s)
task_step code p (Completes completion) ks s = config (Unwind completion) ks s
task_step code p (Empties but) ks s = config (Unwind Normal) ks (all_emptied but s)
task_step code p (Closes b o completion) ks s = config (Execute (Releases b.scoped)) (ThenDo (Completes (after_iteration b o completion)) ∷ ks) s
task_step code p (Passes b ended_way left_way) ks s =
    config_if (s.level == 0) (config (Execute (Releases b.scoped)) (ThenDo (Completes ended_way) ∷ ks) s) (config (Unwind left_way) ks s)
task_step code p (UndoComes b o target act retry passed) ks s =
    config_if (target == b.number)
    (config (Execute (GoesBack (passed_with b o passed).first (passed_with b o passed).buffers)) (ThenDo (Acts b o act retry) ∷ ks) s)
    (config (Execute (Passes b (Undoes target act retry passed) (Undoes target act retry (passed_with b o passed)))) ks s)
task_step code p (ErrorComes b o passed) ks s =
    config_if b.flags.undo (error_step b.on_error b o passed ks s) (config (Execute (Passes b (Raises passed) (Raises (passed_with b o passed)))) ks s)
task_step code p (EndKeyComes b o passed) ks s = endkey_step b.on_endkey b o passed ks s
task_step code p (EndsWith b o completion) ks s = ends_step completion b o ks s
task_step code p (RunsFrom k d retry) ks s = instr_step p (code.instr k) d retry ks s
task_step code p (Begins b copy t retry body d) ks s = begins_step b.fetch b copy t retry body d ks s
task_step code p (EntersLevel b t retry body d) ks s =
    config_if (enters_at b s.level) (ask op.Enter (WasEntered b t retry body d) ks s) (config (Execute (Begins b None t retry body d)) ks s)
task_step code p (Turns zero b outer body d t) ks s = config (Unwind (Stops out_of_units)) ks s
task_step code p (Turns (suc n) b outer body d t) ks s = config (Execute (Iterates b outer body d t)) (AndAgain n b outer body d ∷ ks) s
task_step code p (Iterates b outer body d t) ks s = costing s.units (λ s. turn_step p b outer body d t ks s) ks s
task_step code p (Blocks b outer body d) ks s = block_step p b.to b outer body d ks s
task_step code p (Imports n ts retry) ks s = import_step (line_now p n ts s) n ts retry ks s
task_step code p (Calls zero n args vs) ks s = config (Unwind (Stops (client.Stop why.Depth))) ks s
task_step code p (Calls (suc d) n args vs) ks s =
    config (Execute (Blocks (procedure_at p n).header false (code.entry n) d)) (Called args n ∷ ks) (opened_frame p n args vs s)

-- ---- a completion reaches an entry of the stack

abbrev pub then_step : Completion → Task → List StackEntry → State → Config
then_step Normal t ks s = config (Execute t) ks s
then_step completion t ks s = config (Unwind completion) ks s

abbrev pub or_step : Completion → Task → List StackEntry → State → Config
or_step Lost t ks s = config (Execute t) ks s
or_step completion t ks s = config (Unwind completion) ks s

abbrev pub not_found_step : FindWord → ℕ → List StackEntry → State → Config
not_found_step find.Next b ks s = config (Unwind (EndKeys nothing_passed)) ks s
not_found_step find.Previous b ks s = config (Unwind (EndKeys nothing_passed)) ks s
not_found_step word b ks s = fault (NoRecordFound b) ks s

abbrev pub found_step : Completion → FindWord → ℕ → List StackEntry → State → Config
found_step (Found c) word b ks s = config (Unwind Normal) ks s
found_step NotFound word b ks s = not_found_step word b ks s
found_step completion word b ks s = config (Unwind completion) ks s

abbrev pub before_step : Completion → List Content → List ℕ → List StackEntry → State → Config
before_step (Faults c) olds bs ks s = config (Unwind (Faults c)) ks (contents_back olds bs s)
before_step completion olds bs ks s = config (Unwind completion) ks s

abbrev pub closing_step : Completion → Program → Header → Iteration → Completion → List StackEntry → State → Config
closing_step Normal p b o completion ks s = config (Unwind (after_iteration b o completion)) ks s
closing_step (Faults c) p b o completion ks s = errs_step (complained p c s) (ErrorComes b o nothing_passed) ks
closing_step other p b o completion ks s = config (Unwind other) ks s

abbrev pub quiet_step : Completion → Bool → List StackEntry → State → Config
quiet_step (EndKeys passed) true ks s = config (Unwind (Faults None)) ks s
quiet_step (EndKeys passed) false ks s = config (Unwind (EndKeys passed)) ks s
quiet_step completion quiet ks s = config (Unwind completion) ks s

abbrev pub handled_step : Completion → Program → Bool → List StackEntry → State → Config
handled_step (Faults c) p false ks s = errs_step (complained p c s) (Completes (Raises nothing_passed)) ks
handled_step (Faults c) p true ks s = config (Unwind Normal) ks (with_status true s)
handled_step completion p quiet ks s = config (Unwind completion) ks s

abbrev pub fetched_step : Completion → Header → Option Copy → Turn → ℕ → ℕ → ℕ → Bool → List StackEntry → State → Config
fetched_step (Found own) b copy t buffer body d retry ks s = config (Execute (RunsFrom body d retry)) (In b (record { copy = copy; turn = record t { own = Some own } }) ∷ ks) s
fetched_step (Faults c) b copy t buffer body d retry ks s = config (Execute (GoesBack copy b.scoped)) (ThenDo (Completes (Faults c)) ∷ ks) s
fetched_step (Stops end) b copy t buffer body d retry ks s = config (Unwind (Stops end)) ks s
fetched_step completion b copy t buffer body d retry ks s = config (Execute (LeavesIf copy b.scoped)) ks (emptied buffer s)

abbrev pub again_step : Completion → ℕ → Header → Bool → ℕ → ℕ → List StackEntry → State → Config
again_step (Again t) n b outer body d ks s = config (Execute (Turns n b outer body d t)) ks s
again_step completion n b outer body d ks s = config (Unwind completion) ks s

abbrev pub called_step : Completion → List Argument → Procedure → List StackEntry → State → Config
called_step Normal args q ks s = config (Unwind Normal) ks (copied_out args q.parameters (own_frame s.frames) (without_frame s))
called_step (Returns false) args q ks s = config (Unwind Normal) ks (copied_out args q.parameters (own_frame s.frames) (without_frame s))
called_step (Returns true) args q ks s = config (Unwind (Faults None)) ks (without_frame s)
called_step completion args q ks s = config (Unwind completion) ks s

abbrev pub pop_step : Program → StackEntry → Completion → List StackEntry → State → Config
pop_step p (ThenDo t) completion ks s = then_step completion t ks s
pop_step p (OrDo t) completion ks s = or_step completion t ks s
pop_step p (FoundAs word b) completion ks s = found_step completion word b ks s
pop_step p (AsBefore olds bs) completion ks s = before_step completion olds bs ks s
pop_step p (AfterClosing b o out) completion ks s = closing_step completion p b o out ks s
pop_step p (Quiet quiet) completion ks s = quiet_step completion quiet ks s
pop_step p (Handles quiet) completion ks s = handled_step completion p quiet ks s
pop_step p (In b o) completion ks s = config (Execute (EndsWith b o completion)) ks s
pop_step p (FetchedAs b copy t buffer body d retry) completion ks s = fetched_step completion b copy t buffer body d retry ks s
pop_step p (AndAgain n b outer body d) completion ks s = again_step completion n b outer body d ks s
pop_step p (Called args n) completion ks s = called_step completion args (procedure_at p n) ks s

-- ---- an answer

abbrev pub insert_answered : Option RowId → Place → ℕ → List Value → ℕ → Option Complaint → List StackEntry → State → Config
insert_answered (Some row) place t vs made c ks s = config (Unwind Normal) ks (holding_in place (Record row vs Exclusive (Some made)) s)
insert_answered None place t vs made (Some c) ks s = fault c ks s
insert_answered None place t vs made None ks s = config (Unwind Normal) ks s

abbrev pub refused_answered : Option Complaint → List StackEntry → State → Config
refused_answered (Some c) ks s = fault c ks s
refused_answered None ks s = config (Unwind Normal) ks s

abbrev pub read_answered : Program → Option (List Value) → Reading → Bool → RowId → Held → List StackEntry → State → Config
read_answered p (Some values) r retry row held ks s =
    test_step p r.test r.buffer retry (λ s. config (Unwind Normal) ks (holding r.buffer (Record row values held None) s)) (λ s. config (Unwind Lost) ks s) ks (shows r.buffer row values s)
read_answered p None r retry row held ks s = config (Unwind Lost) ks (emptied r.buffer s)

abbrev pub busy_answered : ℕ → List StackEntry → State → Config
busy_answered b ks s = fault (IsLocked b) ks (marked_locked b true (emptied b s))

abbrev pub grant_answered : Grant → Reading → Bool → RowId → List StackEntry → State → Config
grant_answered IsGranted r retry row ks s = ask (op.Get (table_of r.buffer s) row) (WasRead r retry row (held_as r.lock)) ks s
grant_answered IsBusy r retry row ks s = busy_answered r.buffer ks s
grant_answered IsGone r retry row ks s = config (Unwind Lost) ks (emptied r.buffer s)

abbrev pub second_answered : Program → Option FoundRow → ℕ → Search → Cursor → List Value → List StackEntry → State → Config
second_answered p (Some x) n k c values ks s =
    test_step p k.reading.test k.reading.buffer k.retry
    (λ s. fault (MoreThanOne k.reading.buffer) ks (emptied k.reading.buffer s))
    (λ s. config (Execute (Seconds n k c values x.cursor)) ks s) ks (shows k.reading.buffer x.cursor.row x.values s)
second_answered p None n k c values ks s = config (Unwind Normal) ks (shows k.reading.buffer c.row values s)

abbrev pub next_answered : Program → Option FoundRow → ℕ → Search → List StackEntry → State → Config
next_answered p (Some x) n k ks s =
    test_step p k.reading.test k.reading.buffer k.retry
    (λ s. config (Execute (Takes k x.cursor x.values)) (OrDo (Looks n k (Some x.cursor)) ∷ ks) s)
    (λ s. config (Execute (Looks n k (Some x.cursor))) ks s) ks (next_shown k x s)
next_answered p None n k ks s = config (Unwind NotFound) ks (with_spot k.reading.buffer None s)

abbrev pub none_answered : ℕ → List StackEntry → State → Config
none_answered b ks s = fault (NoRecordFound b) ks (emptied b s)

abbrev pub current_answered : Option (List Value) → Reading → RowId → Option ℕ → List StackEntry → State → Config
current_answered (Some values) r row made ks s = config (Unwind Normal) ks (holding r.buffer (Record row values (held_as r.lock) made) s)
current_answered None r row made ks s = none_answered r.buffer ks s

abbrev pub current_grant_answered : Grant → Reading → RowId → Option ℕ → List StackEntry → State → Config
current_grant_answered IsGranted r row made ks s = ask (op.Get (table_of r.buffer s) row) (WasCurrent r row made) ks s
current_grant_answered IsBusy r row made ks s = busy_answered r.buffer ks s
current_grant_answered IsGone r row made ks s = none_answered r.buffer ks s

abbrev pub count_answered : Option ℤ → Target → List StackEntry → State → Config
count_answered (Some n) t ks s = ends_as (stored t (Int64 n) s) ks
count_answered None t ks s = fault OutOfRange ks s

abbrev pub answer_step : Program → OnAnswer → Answer → List StackEntry → State → Config
answer_step p (WasInserted place t vs made) a ks s = insert_answered (row_in a) place t vs made (refusal_in place.number t a) ks s
answer_step p WasDropped a ks s = config (Unwind Normal) ks s
answer_step p WasLeft a ks s = config (Unwind Normal) ks (left s)
answer_step p (WasBack copy but) a ks s = config (Execute (AfterBack copy but)) ks s
answer_step p (WasGot place row held made) a ks s = config (Unwind Normal) ks (holding_in place (got_content (values_in a) row held made) s)
answer_step p (WasSecond n k c values) a ks s = second_answered p (found_in a) n k c values ks s
answer_step p (WasNext n k) a ks s = next_answered p (found_in a) n k ks s
answer_step p (WasGranted r retry row) a ks s = grant_answered (grant_in a) r retry row ks s
answer_step p (WasRead r retry row held) a ks s = read_answered p (values_in a) r retry row held ks s
answer_step p (CurrentGranted r row made) a ks s = current_grant_answered (grant_in a) r row made ks s
answer_step p (WasCurrent r row made) a ks s = current_answered (values_in a) r row made ks s
answer_step p (WasCounted t) a ks s = count_answered (number_in a) t ks s
answer_step p (WasUpgraded b row values made) a ks s = config_if (is_gone a) (fault (RecordIsGone b) ks s) (config (Unwind Normal) ks (holding b (Record row values Exclusive made) s))
answer_step p (WasPut b t) a ks s = refused_answered (refusal_in b t a) ks s
answer_step p (WasDeleted b) a ks s = config_if (is_gone a) (fault (RecordIsGone b) ks s) (config (Unwind Normal) ks (emptied b s))
answer_step p (WasEntered b t retry body d) a ks s = config (Execute (Begins b (Some (copy_of s)) t retry body d)) ks (deeper s)

-- ---- the machine

abbrev pub over_step : Program → List StackEntry → Completion → State → Config
over_step p [] completion s = config (Unwind completion) [] s
over_step p (k ∷ ks) completion s = pop_step p k completion ks s

abbrev pub mode_step : Code → Program → Mode → List StackEntry → State → Config
mode_step code p (Execute t) ks s = task_step code p t ks s
mode_step code p (Unwind completion) ks s = over_step p ks completion s
mode_step code p (Await op k) ks s = config (Await op k) ks s

abbrev pub step : Code → Program → Config → Config
step code p c = mode_step code p c.mode c.stack c.state

-- an answer to the operation that is asked
abbrev pub answered : Program → Answer → Op → OnAnswer → List StackEntry → State → Config
answered p (answer.Blocked holders) op k ks s = config (Await op k) ks s
answered p answer.NoMemory op k ks s = config (Unwind (Stops client.NoMemory)) ks s
answered p answer.Closed op k ks s = config (Unwind (Stops (client.Stop why.Closed))) ks s
answered p (answer.Deadlock cycle) op k ks s = config (Unwind (Stops (client.Stop why.Deadlock))) ks s
answered p answer.TxFull op k ks s = config (Unwind (Stops (client.Stop why.TxFull))) ks s
answered p answer.TraceFull op k ks s = config (Unwind (Stops (client.Stop why.TraceFull))) ks s
answered p a op k ks s = answer_step p k a ks s

-- the machine at the beginning of a run
abbrev pub first_config : Code → Program → ℕ → Config
first_config code p units = config (Execute (Blocks (procedure_at p 0).header false (code.entry 0) 32)) [] (start p units)
