-- The steps of parts of a statement keep the run.
use Rattle.std.proofs.Common.{◌≡◌, refl}
use Rattle.std.specs.Prelude.{ℕ, zero, suc, ◌==◌, nat_lt, List, [], ◌∷◌, Bool, true, false, not, ◌&&◌, Option, Some, None, length, pos}
use Rattle.abl_base.specs.declared.limits.TheConstants.{MAX_ROW_BYTES}
use Rattle.abl_base.specs.declared.row.RowId.{RowId}
use Rattle.database_protocol.specs.declared.row_order.Cursor.{Cursor}
use Rattle.abl_base.specs.declared.value.Value.{Value}
use Rattle.abl_base.specs.declared.value.Value.TheVariants.{Int64}
use Rattle.abl_values.specs.Rows.{bytes_of_row}
use Rattle.database_protocol.specs.declared.operation.Op.{Op}
use Rattle.database_protocol.specs.declared.answer.Answer.{Answer}
use Rattle.bound_tree.specs.declared.block.LockWanted.{LockWanted}
use Rattle.bound_tree.specs.declared.statement.FindWord.{FindWord}
use Rattle.bound_tree.specs.declared.statement.Target.{Target}
use Rattle.bound_tree.specs.Tree.{Expr, Header, ToPhrase, Action, ThenRetry, ThenLeave, ThenNext, ThenReturn, ThenError, OnPhrase, Reading, Fetch, Right, ValueOf, NextOf, CurrentOf, Given, Body}
use Rattle.expression_meaning.specs.Operators.{holds}
use Rattle.abl_base.specs.text_forms.TextForms.{Imported, AtInputEnd, BadElement, Elements}
use Rattle.block_meaning.specs.Program.{Program, table_at}
use Rattle.block_meaning.specs.Lines.{RecordTooLong}
use Rattle.block_meaning.specs.State.{State, Copy, Turn, Passed, Content, Empty, Record, Pending, Held, NoLock, Share, Exclusive, Completion, Normal, Again, Undoes, Raises, EndKeys, Stops, NotFound, Continuation, completes, if_else, update_then, asks, awaits, costs_unit_of, has_fault}
use Rattle.block_meaning.specs.Frames.{value_of, assigned, table_of, emptied, marked_locked}
use Rattle.block_meaning.specs.Values.{Evaluated, Gives, Fails, value_now, fit, EvaluatedAll, GivesAll, FailsAll, Text, IsText, HasFault, given, given_all, given_text}
use Rattle.block_meaning.specs.Buffers.{Place, missing_field, keep_of, is_row_in, made_later, unless_missing, enters, enters_content, drops_if, updates_content}
use Rattle.block_meaning.specs.Reads.{Search, is_exclusive, takes_as, takes_again_as, is_only, looks, bracket_of, is_each, fetches_from, finds_as, judged, tests, current_as, current_in, fetches_next}
use Rattle.block_meaning.specs.Changes.{assigns_one, locks_content, all_begun, was_put, upgrades, settles_content, deletes_content}
use Rattle.block_meaning.specs.Blocks.{Iteration, iterates, handles_endkey, passed_with, next_turn, instead_of_retry, closes, passes, acts, undo_comes, endkey_to, ends_with, enters_level, counts_down, in_bound, turns, retry_in, next_value, first_turn, error_to, begins_as, while_holds, reaches, set_to, advances, advances_if, by_of, block_from}
use Rattle.block_meaning.specs.Streams.{exports_record, writes_to, imports_line}
use Rattle.block_meaning.specs.Meaning.{context_at, meaning_all}
use Rattle.flat_machine.specs.Config.{OnAnswer, Config, CurrentGranted, DeletesRow, Execute, EntersLevel, StackEntry, Unwind, ThenDo, Turns, WasCounted, WasCurrent, WasDropped, WasGot, WasGranted, WasInserted, WasPut, WasRead, WasUpgraded}
use Rattle.flat_machine.specs.Steps.{act_step, asked_from, assign_step, begins_step, block_step, by_step, current_in_step, current_step, delete_step, drop_step, config_if, endkey_step, ends_step, enter_step, error_step, export_step, fetch_step, find_step, given_all_step, given_step, import_step, insert_unless, judge_step, lock_step, loop_step, only_step, costing, put_unless, reach_step, search_step, set_step, settle_step, advance_step, take_again_step, take_step, test_step, turn_step, update_step, upgrade_step, while_step, given_text_step, config}
use Rattle.flat_machine.specs.Means.{answer_means, after_stack, means}
use Rattle.database_protocol.specs.declared.operation.Op.TheVariants as op
use Rattle.bound_tree.specs.declared.block.LockWanted.TheVariants as wanted
use Rattle.bound_tree.specs.declared.statement.FindWord.TheVariants as find

pub asked_means : (tree : ℕ → Body) (p : Program) (n : ℕ) (op : Op) (k : OnAnswer) (ks : List StackEntry) (s : State) (ans : List Answer) →
    after_stack tree p ks (costs_unit_of n (awaits op (answer_means tree p k)) s ans) ≡ means tree p (asked_from n op k ks s) ans
asked_means tree p zero op k ks s ans = refl
asked_means tree p (suc n) op k ks s ans = refl

-- one of two
pub either_means : (tree : ℕ → Body) (p : Program) (b : Bool) (one other : Continuation) (c d : Config) (ks : List StackEntry) (s : State) (ans : List Answer) →
    after_stack tree p ks (one s ans) ≡ means tree p c ans → after_stack tree p ks (other s ans) ≡ means tree p d ans →
    after_stack tree p ks (if_else b one other s ans) ≡ means tree p (config_if b c d) ans
either_means tree p true one other c d ks s ans x y = x
either_means tree p false one other c d ks s ans x y = y

pub insert_means : (tree : ℕ → Body) (p : Program) (lacks : Option ℕ) (place : Place) (t : ℕ) (vs : List Value) (made : ℕ) (ks : List StackEntry) (s : State) (ans : List Answer) →
    after_stack tree p ks (unless_missing lacks t (if_else (nat_lt MAX_ROW_BYTES (length (bytes_of_row vs))) (has_fault (RecordTooLong t)) (asks (op.Insert t vs) (answer_means tree p (WasInserted place t vs made)))) s ans)
    ≡ means tree p (insert_unless lacks p place t vs made ks s) ans
insert_means tree p (Some f) place t vs made ks s ans = refl
insert_means tree p None place t vs made ks s ans =
    either_means tree p (nat_lt MAX_ROW_BYTES (length (bytes_of_row vs))) (has_fault (RecordTooLong t)) (asks (op.Insert t vs) (answer_means tree p (WasInserted place t vs made))) _ _ ks s ans refl (asked_means tree p s.units (op.Insert t vs) (WasInserted place t vs made) ks s ans)

pub enter_means : (tree : ℕ → Body) (p : Program) (place : Place) (t : ℕ) (x : Content) (ks : List StackEntry) (s : State) (ans : List Answer) →
    after_stack tree p ks (enters_content p place t x s ans) ≡ means tree p (enter_step p place t x ks s) ans
enter_means tree p place t Empty ks s ans = refl
enter_means tree p place t (Record row vs held made) ks s ans = refl
enter_means tree p place t (Pending vs since made) ks s ans = insert_means tree p (missing_field 0 (table_at p t).fields vs) place t vs made ks s ans

pub drop_means : (tree : ℕ → Body) (p : Program) (row : Option RowId) (b : ℕ) (ks : List StackEntry) (s : State) (ans : List Answer) →
    after_stack tree p ks (drops_if row b s ans) ≡ means tree p (drop_step row b ks s) ans
drop_means tree p None b ks s ans = refl
drop_means tree p (Some row) b ks s ans =
    either_means tree p ((s.level == 0) && not (is_row_in row (keep_of (b ∷ []) s))) _ _ _ _ ks s ans (asked_means tree p s.units (op.Drop row) WasDropped ks (emptied b s) ans) refl

pub update_means : (tree : ℕ → Body) (p : Program) (mark : ℕ) (place : Place) (t : ℕ) (x : Content) (ks : List StackEntry) (s : State) (ans : List Answer) →
    after_stack tree p ks (updates_content mark place t x s ans) ≡ means tree p (update_step mark place t x ks s) ans
update_means tree p mark place t Empty ks s ans = refl
update_means tree p mark place t (Pending values since made) ks s ans = either_means tree p (nat_lt mark made) _ _ _ _ ks s ans refl refl
update_means tree p mark place t (Record row values held made) ks s ans =
    either_means tree p (made_later mark made) _ _ _ _ ks s ans refl (asked_means tree p s.units (op.Get t row) (WasGot place row held made) ks s ans)

pub test_means : (tree : ℕ → Body) (p : Program) (e : Option Expr) (b : ℕ) (retry : Bool) (good bad : Continuation) (good_c bad_c : State → Config) (ks : List StackEntry) (ans : List Answer) →
    ((s : State) → after_stack tree p ks (good s ans) ≡ means tree p (good_c s) ans) → ((s : State) → after_stack tree p ks (bad s ans) ≡ means tree p (bad_c s) ans) →
    (s : State) → after_stack tree p ks (tests p e b retry good bad s ans) ≡ means tree p (test_step p e b retry good_c bad_c ks s) ans
test_means tree p None b retry good bad good_c bad_c ks ans x y s = x s
test_means tree p (Some e) b retry good bad good_c bad_c ks ans x y s = judge_means (value_now p e retry s)
  where
    judge_means : (v : Evaluated) → after_stack tree p ks (judged v b good bad s ans) ≡ means tree p (judge_step v b good_c bad_c ks s) ans
    judge_means (Gives v) = either_means tree p (holds v) good (update_then (emptied b) bad) (good_c s) (bad_c (emptied b s)) ks s ans (x s) (y (emptied b s))
    judge_means (Fails c) = refl

pub take_means : (tree : ℕ → Body) (p : Program) (w : LockWanted) (r : Reading) (wait retry : Bool) (row : RowId) (ks : List StackEntry) (s : State) (ans : List Answer) →
    after_stack tree p ks (takes_as p w r wait retry row s ans) ≡ means tree p (take_step w r wait retry row ks s) ans
take_means tree p wanted.NoLock r wait retry row ks s ans = refl
take_means tree p wanted.Share r wait retry row ks s ans = asked_means tree p s.units (op.Lock (table_of r.buffer s) row (is_exclusive r.lock) wait) (WasGranted r retry row) ks s ans
take_means tree p wanted.Exclusive r wait retry row ks s ans = asked_means tree p s.units (op.Lock (table_of r.buffer s) row (is_exclusive r.lock) wait) (WasGranted r retry row) ks s ans

pub take_again_means : (tree : ℕ → Body) (p : Program) (w : LockWanted) (r : Reading) (retry : Bool) (row : RowId) (ks : List StackEntry) (s : State) (ans : List Answer) →
    after_stack tree p ks (takes_again_as p w r retry row s ans) ≡ means tree p (take_again_step w r retry row ks s) ans
take_again_means tree p wanted.NoLock r retry row ks s ans = asked_means tree p s.units (op.Get (table_of r.buffer s) row) (WasRead r retry row NoLock) ks s ans
take_again_means tree p wanted.Share r retry row ks s ans = asked_means tree p s.units (op.Lock (table_of r.buffer s) row (is_exclusive r.lock) true) (WasGranted r retry row) ks s ans
take_again_means tree p wanted.Exclusive r retry row ks s ans = asked_means tree p s.units (op.Lock (table_of r.buffer s) row (is_exclusive r.lock) true) (WasGranted r retry row) ks s ans

pub only_means : (tree : ℕ → Body) (p : Program) (only : Bool) (k : Search) (c : Cursor) (values : List Value) (ks : List StackEntry) (s : State) (ans : List Answer) →
    after_stack tree p ks (is_only p only k c values s ans) ≡ means tree p (only_step only k c values ks s) ans
only_means tree p true k c values ks s ans = refl
only_means tree p false k c values ks s ans = refl

pub search_means : (tree : ℕ → Body) (p : Program) (x : EvaluatedAll) (r : Reading) (forward only wait retry : Bool) (from : Option Cursor) (ks : List StackEntry) (s : State) (ans : List Answer) →
    after_stack tree p ks (given_all x (λ values s ans. looks p s.units (record { reading = r; forward = forward; only = only; wait = wait; retry = retry; prefix = bracket_of r.bracket values }) from s ans) s ans)
    ≡ means tree p (search_step x r forward only wait retry from ks s) ans
search_means tree p (GivesAll values) r forward only wait retry from ks s ans = refl
search_means tree p (FailsAll c) r forward only wait retry from ks s ans = refl

pub fetch_means : (tree : ℕ → Body) (p : Program) (again : Bool) (f : Fetch) (retry : Bool) (own : Option Cursor) (ks : List StackEntry) (s : State) (ans : List Answer) →
    after_stack tree p ks (fetches_from p again f retry own s ans) ≡ means tree p (fetch_step again f retry own ks s) ans
fetch_means tree p true f retry None ks s ans = refl
fetch_means tree p false f retry None ks s ans = refl
fetch_means tree p true f retry (Some c) ks s ans = refl
fetch_means tree p false f retry (Some c) ks s ans = either_means tree p (is_each f.word) (fetches_next p f retry (Some c)) (completes NotFound) _ _ ks s ans refl refl

pub find_means : (tree : ℕ → Body) (p : Program) (word : FindWord) (r : Reading) (wait retry : Bool) (ks : List StackEntry) (s : State) (ans : List Answer) →
    after_stack tree p ks (finds_as p word r wait retry s ans) ≡ means tree p (find_step word r wait retry ks s) ans
find_means tree p find.Only r wait retry ks s ans = refl
find_means tree p find.First r wait retry ks s ans = refl
find_means tree p find.Last r wait retry ks s ans = refl
find_means tree p find.Next r wait retry ks s ans = refl
find_means tree p find.Previous r wait retry ks s ans = refl

pub current_means : (tree : ℕ → Body) (p : Program) (w : LockWanted) (r : Reading) (wait : Bool) (row : RowId) (made : Option ℕ) (ks : List StackEntry) (s : State) (ans : List Answer) →
    after_stack tree p ks (current_as w r wait row made s ans) ≡ means tree p (current_step w r wait row made ks s) ans
current_means tree p wanted.NoLock r wait row made ks s ans = asked_means tree p s.units (op.Get (table_of r.buffer s) row) (WasCurrent r row made) ks s ans
current_means tree p wanted.Share r wait row made ks s ans = asked_means tree p s.units (op.Lock (table_of r.buffer s) row (is_exclusive r.lock) wait) (CurrentGranted r row made) ks s ans
current_means tree p wanted.Exclusive r wait row made ks s ans = asked_means tree p s.units (op.Lock (table_of r.buffer s) row (is_exclusive r.lock) wait) (CurrentGranted r row made) ks s ans

pub current_in_means : (tree : ℕ → Body) (p : Program) (x : Content) (r : Reading) (wait : Bool) (ks : List StackEntry) (s : State) (ans : List Answer) →
    after_stack tree p ks (current_in x r wait s ans) ≡ means tree p (current_in_step x r wait ks s) ans
current_in_means tree p Empty r wait ks s ans = refl
current_in_means tree p (Pending values since made) r wait ks s ans = refl
current_in_means tree p (Record row values held made) r wait ks s ans = current_means tree p r.lock r wait row made ks (marked_locked r.buffer false s) ans

pub assign_means : (tree : ℕ → Body) (p : Program) (x : Right) (t : Target) (retry : Bool) (ks : List StackEntry) (s : State) (ans : List Answer) →
    after_stack tree p ks (assigns_one p t x retry s ans) ≡ means tree p (assign_step p x t retry ks s) ans
assign_means tree p (ValueOf e) t retry ks s ans = refl
assign_means tree p (NextOf q) t retry ks s ans = asked_means tree p s.units (op.NextValue q) (WasCounted t) ks s ans
assign_means tree p (CurrentOf q) t retry ks s ans = asked_means tree p s.units (op.CurrentValue q) (WasCounted t) ks s ans
assign_means tree p (Given v) t retry ks s ans = refl

pub upgrade_means : (tree : ℕ → Body) (p : Program) (held : Held) (t b : ℕ) (row : RowId) (values : List Value) (made : Option ℕ) (ks : List StackEntry) (s : State) (ans : List Answer) →
    after_stack tree p ks (upgrades held t b row values made s ans) ≡ means tree p (upgrade_step held t b row values made ks s) ans
upgrade_means tree p NoLock t b row values made ks s ans = refl
upgrade_means tree p Share t b row values made ks s ans = asked_means tree p s.units (op.Lock t row true true) (WasUpgraded b row values made) ks s ans
upgrade_means tree p Exclusive t b row values made ks s ans = refl

pub lock_means : (tree : ℕ → Body) (p : Program) (x : Content) (t b : ℕ) (ks : List StackEntry) (s : State) (ans : List Answer) →
    after_stack tree p ks (locks_content x t b s ans) ≡ means tree p (lock_step x t b ks s) ans
lock_means tree p Empty t b ks s ans = refl
lock_means tree p (Pending values since made) t b ks s ans = refl
lock_means tree p (Record row values held made) t b ks s ans = upgrade_means tree p held t b row values made ks s ans

pub put_means : (tree : ℕ → Body) (p : Program) (lacks : Option ℕ) (b t : ℕ) (row : RowId) (vs : List Value) (ks : List StackEntry) (s : State) (ans : List Answer) →
    after_stack tree p ks (unless_missing lacks t (if_else (nat_lt MAX_ROW_BYTES (length (bytes_of_row vs))) (has_fault (RecordTooLong t)) (asks (op.Put t row vs) (was_put b t))) s ans)
    ≡ means tree p (put_unless lacks b t row vs ks s) ans
put_means tree p (Some f) b t row vs ks s ans = refl
put_means tree p None b t row vs ks s ans =
    either_means tree p (nat_lt MAX_ROW_BYTES (length (bytes_of_row vs))) (has_fault (RecordTooLong t)) (asks (op.Put t row vs) (answer_means tree p (WasPut b t))) _ _ ks s ans refl (asked_means tree p s.units (op.Put t row vs) (WasPut b t) ks s ans)

pub settle_means : (tree : ℕ → Body) (p : Program) (x : Content) (t b : ℕ) (ks : List StackEntry) (s : State) (ans : List Answer) →
    after_stack tree p ks (settles_content p x t b s ans) ≡ means tree p (settle_step p x t b ks s) ans
settle_means tree p Empty t b ks s ans = refl
settle_means tree p (Pending values since made) t b ks s ans = either_means tree p (all_begun (table_at p t).indexes since) (enters p b) (completes Normal) _ _ ks s ans refl refl
settle_means tree p (Record row values held made) t b ks s ans = put_means tree p (missing_field 0 (table_at p t).fields values) b t row values ks s ans

pub delete_means : (tree : ℕ → Body) (p : Program) (x : Content) (t b : ℕ) (ks : List StackEntry) (s : State) (ans : List Answer) →
    after_stack tree p ks (deletes_content x t b s ans) ≡ means tree p (delete_step x t b ks s) ans
delete_means tree p Empty t b ks s ans = refl
delete_means tree p (Pending values since made) t b ks s ans = refl
delete_means tree p (Record row values held made) t b ks s ans = upgrade_means tree p held t b row values made (ThenDo (DeletesRow b t row) ∷ ks) s ans

pub paid_means : (tree : ℕ → Body) (p : Program) (n : ℕ) (part : Continuation) (go : State → Config) (ks : List StackEntry) (s : State) (ans : List Answer) →
    ((s : State) → after_stack tree p ks (part s ans) ≡ means tree p (go s) ans) →
    after_stack tree p ks (costs_unit_of n part s ans) ≡ means tree p (costing n go ks s) ans
paid_means tree p zero part go ks s ans x = refl
paid_means tree p (suc n) part go ks s ans x = x (record s { units = n })

pub given_means : (tree : ℕ → Body) (p : Program) (v : Evaluated) (part : Value → Continuation) (go : Value → State → Config) (ks : List StackEntry) (s : State) (ans : List Answer) →
    ((v : Value) (s : State) → after_stack tree p ks (part v s ans) ≡ means tree p (go v s) ans) →
    after_stack tree p ks (given v part s ans) ≡ means tree p (given_step v go ks s) ans
given_means tree p (Gives v) part go ks s ans x = x v s
given_means tree p (Fails c) part go ks s ans x = refl

pub given_all_means : (tree : ℕ → Body) (p : Program) (v : EvaluatedAll) (part : List Value → Continuation) (go : List Value → State → Config) (ks : List StackEntry) (s : State) (ans : List Answer) →
    ((v : List Value) (s : State) → after_stack tree p ks (part v s ans) ≡ means tree p (go v s) ans) →
    after_stack tree p ks (given_all v part s ans) ≡ means tree p (given_all_step v go ks s) ans
given_all_means tree p (GivesAll v) part go ks s ans x = x v s
given_all_means tree p (FailsAll c) part go ks s ans x = refl

-- ends of iterations

pub error_means : (tree : ℕ → Body) (p : Program) (on : Option OnPhrase) (b : Header) (o : Iteration) (passed : Passed) (ks : List StackEntry) (s : State) (ans : List Answer) →
    after_stack tree p ks (error_to p b o on passed s ans) ≡ means tree p (error_step on b o passed ks s) ans
error_means tree p None b o passed ks s ans = refl
error_means tree p (Some on) b o passed ks s ans = refl

pub endkey_means : (tree : ℕ → Body) (p : Program) (on : Option OnPhrase) (b : Header) (o : Iteration) (passed : Passed) (ks : List StackEntry) (s : State) (ans : List Answer) →
    after_stack tree p ks (endkey_to p b o on passed s ans) ≡ means tree p (endkey_step on b o passed ks s) ans
endkey_means tree p None b o passed ks s ans =
    either_means tree p (handles_endkey b) (undo_comes p b o b.number (ThenLeave b.number) o.turn.retry passed) (passes p b (EndKeys passed) (EndKeys (passed_with b o passed))) _ _ ks s ans refl refl
endkey_means tree p (Some on) b o passed ks s ans = refl

pub act_means : (tree : ℕ → Body) (p : Program) (act : Action) (b : Header) (o : Iteration) (retry : Bool) (ks : List StackEntry) (s : State) (ans : List Answer) →
    after_stack tree p ks (acts p b o act retry s ans) ≡ means tree p (act_step p act b o retry ks s) ans
act_means tree p ThenRetry b o retry ks s ans =
    either_means tree p b.flags.retry_seen (completes (Again (next_turn true o.turn))) (closes p b o (instead_of_retry (iterates b) b.number)) _ _ ks s ans refl refl
act_means tree p (ThenLeave l) b o retry ks s ans = refl
act_means tree p (ThenNext l) b o retry ks s ans = refl
act_means tree p (ThenReturn error e) b o retry ks s ans = refl
act_means tree p ThenError b o retry ks s ans = refl

pub ends_means : (tree : ℕ → Body) (p : Program) (completion : Completion) (b : Header) (o : Iteration) (ks : List StackEntry) (s : State) (ans : List Answer) →
    after_stack tree p ks (ends_with p b o completion s ans) ≡ means tree p (ends_step completion b o ks s) ans
ends_means tree p (Undoes target act retry passed) b o ks s ans = refl
ends_means tree p (Raises passed) b o ks s ans = refl
ends_means tree p (EndKeys passed) b o ks s ans = refl
ends_means tree p (Stops end) b o ks s ans = refl
ends_means tree p completion b o ks s ans = refl

-- blocks

pub begins_means : (tree : ℕ → Body) (p : Program) (f : Option Fetch) (b : Header) (copy : Option Copy) (t : Turn) (retry : Bool) (body : ℕ) (d : ℕ) (ks : List StackEntry) (s : State) (ans : List Answer) →
    after_stack tree p ks (begins_as f p b copy t retry (meaning_all (tree body) (context_at p d retry)) s ans) ≡ means tree p (begins_step f b copy t retry body d ks s) ans
begins_means tree p None b copy t retry body d ks s ans = refl
begins_means tree p (Some f) b copy t retry body d ks s ans = refl

pub while_means : (tree : ℕ → Body) (p : Program) (e : Option Expr) (retry : Bool) (part : Continuation) (go : State → Config) (ks : List StackEntry) (s : State) (ans : List Answer) →
    ((s : State) → after_stack tree p ks (part s ans) ≡ means tree p (go s) ans) →
    after_stack tree p ks (while_holds p e retry part s ans) ≡ means tree p (while_step p e retry go ks s) ans
while_means tree p None retry part go ks s ans x = x s
while_means tree p (Some e) retry part go ks s ans x =
    given_means tree p (value_now p e retry s) (λ v. if_else (holds v) part (completes Normal)) (λ v s. config_if (holds v) (go s) (config (Unwind Normal) ks s)) ks s ans
    (λ v s. either_means tree p (holds v) part (completes Normal) (go s) (config (Unwind Normal) ks s) ks s ans (x s) refl)

pub reach_means : (tree : ℕ → Body) (p : Program) (l : ToPhrase) (by : Value) (retry : Bool) (part : Continuation) (go : State → Config) (ks : List StackEntry) (s : State) (ans : List Answer) →
    ((s : State) → after_stack tree p ks (part s ans) ≡ means tree p (go s) ans) →
    after_stack tree p ks (reaches p l by retry part s ans) ≡ means tree p (reach_step p l by retry go ks s) ans
reach_means tree p l by retry part go ks s ans x =
    given_means tree p (value_now p l.end retry s) (λ end s ans. if_else (in_bound (counts_down by) (value_of l.variable s) end) part (completes Normal) s ans)
    (λ end s. config_if (in_bound (counts_down by) (value_of l.variable s) end) (go s) (config (Unwind Normal) ks s)) ks s ans
    (λ end s. either_means tree p (in_bound (counts_down by) (value_of l.variable s) end) part (completes Normal) (go s) (config (Unwind Normal) ks s) ks s ans (x s) refl)

pub set_means : (tree : ℕ → Body) (p : Program) (l : ToPhrase) (by : Value) (retry : Bool) (v : Evaluated) (part : Continuation) (go : State → Config) (ks : List StackEntry) (s : State) (ans : List Answer) →
    ((s : State) → after_stack tree p ks (part s ans) ≡ means tree p (go s) ans) →
    after_stack tree p ks (set_to p l by retry v part s ans) ≡ means tree p (set_step p l by retry v go ks s) ans
set_means tree p l by retry v part go ks s ans x =
    given_means tree p v (λ v. given (fit l.variable.kind v) (λ v. update_then (assigned l.variable v) (reaches p l by retry part)))
    (λ v s. given_step (fit l.variable.kind v) (λ v s. reach_step p l by retry go ks (assigned l.variable v s)) ks s) ks s ans
    (λ v s. given_means tree p (fit l.variable.kind v) (λ v. update_then (assigned l.variable v) (reaches p l by retry part))
    (λ v s. reach_step p l by retry go ks (assigned l.variable v s)) ks s ans
    (λ v s. reach_means tree p l by retry part go ks (assigned l.variable v s) ans x))

pub steps_means : (tree : ℕ → Body) (p : Program) (l : ToPhrase) (t : Turn) (retry : Bool) (start : Option Value) (part : Continuation) (go : State → Config) (ks : List StackEntry) (s : State) (ans : List Answer) →
    ((s : State) → after_stack tree p ks (part s ans) ≡ means tree p (go s) ans) →
    after_stack tree p ks (advances p l t retry start part s ans) ≡ means tree p (advance_step p l t retry start go ks s) ans
steps_means tree p l t retry None part go ks s ans x = set_means tree p l t.by retry (next_value l t s) part go ks s ans x
steps_means tree p l t retry (Some v) part go ks s ans x = set_means tree p l t.by retry (Gives v) part go ks s ans x

pub loop_means : (tree : ℕ → Body) (p : Program) (l : Option ToPhrase) (t : Turn) (retry : Bool) (part : Continuation) (go : State → Config) (ks : List StackEntry) (s : State) (ans : List Answer) →
    ((s : State) → after_stack tree p ks (part s ans) ≡ means tree p (go s) ans) →
    after_stack tree p ks (advances_if p l t retry part s ans) ≡ means tree p (loop_step p l t retry go ks s) ans
loop_means tree p None t retry part go ks s ans x = x s
loop_means tree p (Some l) t retry part go ks s ans x =
    either_means tree p t.retry part (advances p l t retry t.start part) (go s) (advance_step p l t retry t.start go ks s) ks s ans (x s) (steps_means tree p l t retry t.start part go ks s ans x)

pub turn_means : (tree : ℕ → Body) (p : Program) (b : Header) (outer : Bool) (body : ℕ) (d : ℕ) (t : Turn) (ks : List StackEntry) (ans : List Answer) → (s : State) →
    after_stack tree p ks (advances_if p b.to t (retry_in b t outer) (while_holds p b.while_test (retry_in b t outer) (enters_level p b (record t { start = None }) (retry_in b t outer) (meaning_all (tree body) (context_at p d (retry_in b t outer))))) s ans)
    ≡ means tree p (turn_step p b outer body d t ks s) ans
turn_means tree p b outer body d t ks ans s =
    loop_means tree p b.to t (retry_in b t outer)
    (while_holds p b.while_test (retry_in b t outer) (enters_level p b (record t { start = None }) (retry_in b t outer) (meaning_all (tree body) (context_at p d (retry_in b t outer)))))
    (λ s. while_step p b.while_test (retry_in b t outer) (λ s. config (Execute (EntersLevel b (record t { start = None }) (retry_in b t outer) body d)) ks s) ks s)
    ks s ans
    (λ s. while_means tree p b.while_test (retry_in b t outer)
    (enters_level p b (record t { start = None }) (retry_in b t outer) (meaning_all (tree body) (context_at p d (retry_in b t outer))))
    (λ s. config (Execute (EntersLevel b (record t { start = None }) (retry_in b t outer) body d)) ks s)
    ks s ans (λ s. refl))

pub by_means : (tree : ℕ → Body) (p : Program) (e : Option Expr) (outer : Bool) (part : Value → Continuation) (go : Value → State → Config) (ks : List StackEntry) (s : State) (ans : List Answer) →
    ((v : Value) (s : State) → after_stack tree p ks (part v s ans) ≡ means tree p (go v s) ans) →
    after_stack tree p ks (by_of p e outer part s ans) ≡ means tree p (by_step p e outer go ks s) ans
by_means tree p None outer part go ks s ans x = x (Int64 (pos 1)) s
by_means tree p (Some e) outer part go ks s ans x = given_means tree p (value_now p e outer s) part go ks s ans x

pub block_means : (tree : ℕ → Body) (p : Program) (l : Option ToPhrase) (b : Header) (outer : Bool) (body : ℕ) (d : ℕ) (ks : List StackEntry) (s : State) (ans : List Answer) →
    after_stack tree p ks (block_from l p b outer (λ retry. meaning_all (tree body) (context_at p d retry)) s ans) ≡ means tree p (block_step p l b outer body d ks s) ans
block_means tree p None b outer body d ks s ans = refl
block_means tree p (Some l) b outer body d ks s ans =
    given_means tree p (value_now p l.start outer s)
    (λ v. by_of p l.by outer (λ w s ans. turns s.units p b outer (λ retry. meaning_all (tree body) (context_at p d retry)) (first_turn (Some v) w) s ans))
    (λ v s. by_step p l.by outer (λ w s. config (Execute (Turns s.units b outer body d (first_turn (Some v) w))) ks s) ks s) ks s ans
    (λ v s. by_means tree p l.by outer (λ w s ans. turns s.units p b outer (λ retry. meaning_all (tree body) (context_at p d retry)) (first_turn (Some v) w) s ans)
    (λ w s. config (Execute (Turns s.units b outer body d (first_turn (Some v) w))) ks s) ks s ans (λ w s. refl))

-- statements

pub export_means : (tree : ℕ → Body) (p : Program) (x : Content) (n b : ℕ) (ks : List StackEntry) (s : State) (ans : List Answer) →
    after_stack tree p ks (exports_record n b x s ans) ≡ means tree p (export_step x n b ks s) ans
export_means tree p Empty n b ks s ans = refl
export_means tree p (Record row values held made) n b ks s ans = refl
export_means tree p (Pending values since made) n b ks s ans = refl

pub import_means : (tree : ℕ → Body) (p : Program) (x : Imported) (n : ℕ) (ts : List (Option Target)) (retry : Bool) (ks : List StackEntry) (s : State) (ans : List Answer) →
    after_stack tree p ks (imports_line p n ts retry x s ans) ≡ means tree p (import_step x n ts retry ks s) ans
import_means tree p AtInputEnd n ts retry ks s ans = refl
import_means tree p (BadElement number next) n ts retry ks s ans = refl
import_means tree p (Elements vs next) n ts retry ks s ans = refl

pub text_means : (tree : ℕ → Body) (p : Program) (x : Text) (n : ℕ) (ks : List StackEntry) (s : State) (ans : List Answer) →
    after_stack tree p ks (given_text x (writes_to n) s ans) ≡ means tree p (given_text_step x n ks s) ans
text_means tree p (IsText bytes) n ks s ans = refl
text_means tree p (HasFault c) n ks s ans = refl
