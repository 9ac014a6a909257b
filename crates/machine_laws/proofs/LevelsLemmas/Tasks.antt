-- Each step of a task keeps the levels at which the stack is reached.
use Rattle.std.proofs.Common.{◌≡◌, ◌<◌, ◌≤◌, arith, inl, inr, refl, sym, ap, ◌∙◌, subst, ℕ, zero, suc, Bool, true, false, List, [], ◌∷◌, Option, Some, None, length, map}
use Rattle.std.specs.Prelude.{◌==◌, ◌&&◌, ◌||◌, not, nat_lt, pos}
use Rattle.std.proofs.lemmas.Bool.Decides.{eqb_tells}
use Rattle.abl_base.specs.declared.limits.TheConstants.{MAX_ROW_BYTES}
use Rattle.abl_base.specs.declared.row.RowId.{RowId}
use Rattle.abl_base.specs.declared.value.Value.{Value}
use Rattle.abl_base.specs.declared.value.Value.TheVariants.{Int64}
use Rattle.abl_values.specs.Rows.{bytes_of_row}
use Rattle.database_protocol.specs.declared.row_order.Cursor.{Cursor}
use Rattle.database_protocol.specs.declared.operation.Op.TheVariants as op
use Rattle.bound_tree.specs.declared.block.LockWanted.{LockWanted}
use Rattle.bound_tree.specs.declared.block.LockWanted.TheVariants as wanted
use Rattle.bound_tree.specs.declared.statement.FindWord.{FindWord}
use Rattle.bound_tree.specs.declared.statement.FindWord.TheVariants as find
use Rattle.bound_tree.specs.declared.statement.Target.{Target}
use Rattle.bound_tree.specs.Tree.{Assignment, Body, Nothing, Then, Action, Assign, Choose, Create, CurrentOf, Export, ExportRecord, Expr, Fetch, Find, FindCurrent, Given, Header, Import, Inner, InputClose, InputFrom, LeaveBlock, Message, NextBlock, NextOf, OnPhrase, OutputClose, OutputTo, PutItems, Reading, Release, Remove, Return, ReturnError, Right, Run, Stmt, Stop, ThenError, ThenLeave, ThenNext, ThenRetry, ThenReturn, ToPhrase, UndoBlock, ValueOf}
use Rattle.expression_meaning.specs.Operators.{holds}
use Rattle.abl_base.specs.text_forms.TextForms.{AtInputEnd, BadElement, Elements, Imported}
use Rattle.block_meaning.specs.declared.wants.Piece.TheVariants.{Opened, Wrote}
use Rattle.block_meaning.specs.Blocks.{after_iteration, completion_if, first_of_two, Iteration, complained, counts_down, enters_at, first_turn, handles_endkey, in_bound, instead_of_retry, iterates, next_turn, next_value, passed_with, retry_in}
use Rattle.block_meaning.specs.Buffers.{Place, all_places, buffer_in, holding_in, is_left_out, is_row_in, keep_of, made_later, missing_field, own}
use Rattle.block_meaning.specs.Changes.{buffer_first, buffers_in, all_begun, stored, stored_if}
use Rattle.block_meaning.specs.Frames.{assigned, content_of, emptied, locked_row, marked_locked, table_of, value_of}
use Rattle.block_meaning.specs.Lines.{RecordTooLong}
use Rattle.block_meaning.specs.Meaning.{argument_values, cleared}
use Rattle.block_meaning.specs.Program.{Program, procedure_at, table_at}
use Rattle.block_meaning.specs.Reads.{Search, is_each, is_exclusive, is_forward}
use Rattle.block_meaning.specs.State.{Found, Leaves, Lost, Nexts, Again, Completion, Content, Copy, Empty, EndKeys, Exclusive, Faults, Held, NoLock, Normal, NotFound, Passed, Pending, Raises, Record, Share, State, Stops, Turn, Undoes, nothing_passed, wrote}
use Rattle.block_meaning.specs.Streams.{line_now, pairs_of, stream_at, with_stream}
use Rattle.block_meaning.specs.Values.{Evaluated, EvaluatedAll, Fails, FailsAll, Gives, GivesAll, HasFault, IsText, Text, export_line, fit, message_line, put_text, value_now, values_now}
use Rattle.flat_machine.specs.Code.{Code, DenotesAt, Ends, Instr, IsCodeOf, Opens, Plain, Tests, before}
use Rattle.flat_machine.specs.Config.{FoundAs, Acts, AfterBack, Assigns, AssignsEach, AssignsOne, Begins, Begun, Blocks, Calls, Closes, Closing, Completes, Config, Creates, CurrentGranted, Deletes, DeletesRow, Drops, Empties, EndKeyComes, EndsWith, Enters, EntersLevel, EntersOne, EntersRest, ErrorComes, Execute, Fetches, FetchesFrom, Finds, FindsAs, FindsCurrent, GoesBack, Imports, IsOnly, Iterates, LeavesIf, LeavesNow, LocksAll, LocksOne, Looks, Passes, Releases, RunsFrom, Searches, Seconds, SettlesAll, SettlesOne, StackEntry, Takes, TakesAgain, TakesAs, Task, ThenDo, Turns, UndoComes, Unwind, Updates, UpdatesOne, Handles, WasBack, WasCounted, WasCurrent, WasDeleted, WasDropped, WasEntered, WasGot, WasGranted, WasInserted, WasLeft, WasNext, WasPut, WasRead, WasSecond, WasUpgraded}
use Rattle.flat_machine.specs.Machine.{task_step}
use Rattle.flat_machine.specs.Steps.{ended_step, act_step, advance_step, ask, assign_step, begins_step, block_step, by_step, choose_step, config, config_if, current_in_step, current_step, delete_step, drop_step, ends_step, endkey_step, ends_as, enter_step, error_step, export_step, fault, fetch_step, find_step, given_step, given_text_step, import_step, insert_unless, instr_step, lock_step, loop_step, only_step, put_unless, reach_step, search_step, set_step, settle_step, stmt_step, take_again_step, take_step, turn_step, update_step, upgrade_step, while_step, wrote_to}
use Rattle.bound_tree.specs.declared.statement.Target.TheVariants as target
use Rattle.flat_machine.specs.Means.{contents_of}
use Rattle.txn_infer.specs.Undo.{has_undo}
use Rattle.txn_infer.specs.Updates.{is_field, assigns_field, block_updates, directly_updates, fetches_exclusively, reads_field, updates, updates_in}
use Rattle.machine_laws.specs.levels.Flagged.{HaveFlags, IsFlagged, IsFlaggedProgram}
use Rattle.machine_laws.proofs.LevelsLemmas.Kept.{HasLevel, class_of_first, Around, Arrives, Below, Comes, FirstAt, IfAny, IsBare, IsBlockAt, IsIterationAt, IsOver, IsPlaced, Sound, StackAt, TaskAt, class, takes}
use Rattle.machine_laws.proofs.LevelsLemmas.Parts.{all_emptied_level, asks, asks_over, cleared_level, complained_class, complained_level, costs, given_all_sound, given_sound, plain_unwinds, read_to_level, sound_if, stored_class, stored_if_class, stored_if_level, stored_level, wrote_class, wrote_level}

-- ---- changes

or_right : (b c : Bool) → c ≡ true → (b || c) ≡ true
or_right true c e = refl
or_right false c e = e

or_left : (b c : Bool) → b ≡ true → (b || c) ≡ true
or_left true c e = refl
or_left false c e = cc

first_field : (tree : ℕ → Body) (l : ℕ) (t : Target) (bs : List ℕ) (rest : Bool) → ((is_field t || rest) ≡ true → 0 < l) → IfAny tree bs l → IfAny tree (buffer_first t bs) l
first_field tree l (target.Variable v) bs rest h x = x
first_field tree l (target.Field b f kind) bs rest h x = h refl

-- an assignment to a field has a buffer
any_field : (tree : ℕ → Body) (l : ℕ) (xs : List Assignment) → (assigns_field xs ≡ true → 0 < l) → IfAny tree (buffers_in xs) l
any_field tree l [] h = tt
any_field tree l (x ∷ xs) h = first_field tree l x.target (buffers_in xs) (assigns_field xs) h (any_field tree l xs (λ u. h (or_right (is_field x.target) (assigns_field xs) u)))

or_so : (b c d : Bool) → (c ≡ true → d ≡ true) → (b || c) ≡ true → (b || d) ≡ true
or_so true c d h e = refl
or_so false c d h e = h e

-- a field that IMPORT assigns is one that it reads
read_fields : (ts : List (Option Target)) (vs : List (Option Value)) → assigns_field (pairs_of ts vs) ≡ true → reads_field ts ≡ true
read_fields [] vs u = u
read_fields (None ∷ ts) [] u = cc
read_fields (Some t ∷ ts) [] u = cc
read_fields (None ∷ ts) (v ∷ vs) u = read_fields ts vs u
read_fields (Some t ∷ ts) (None ∷ vs) u = or_right (is_field t) (reads_field ts) (read_fields ts vs u)
read_fields (Some t ∷ ts) (Some v ∷ vs) u = or_so (is_field t) (assigns_field (pairs_of ts vs)) (reads_field ts) (λ e. read_fields ts vs e) u

-- ---- completions

class_most : (completion : Completion) → class completion ≤ 2
class_most Normal = omega arith
class_most (Faults f) = omega arith
class_most (Stops end) = omega arith
class_most (Found at) = omega arith
class_most Lost = omega arith
class_most NotFound = omega arith
class_most (EndKeys passed) = first passed.first
  where
    first : (o : Option Copy) → class_of_first o ≤ 2
    first None = omega arith
    first (Some copy) = omega arith
class_most completion = omega arith

pub class_fits : (completion : Completion) (ks : List StackEntry) → 2 ≤ takes ks → class completion ≤ takes ks
class_fits completion ks h = let m = class_most completion in omega (arith, m, h)

instead_over : (b : Bool) (l : ℕ) → IsOver (instead_of_retry b l)
instead_over true l = tt
instead_over false l = tt

pub over_comes : (completion : Completion) (m l : ℕ) → IsOver completion → l ≡ m → Comes completion m m l
over_comes (Undoes block act retry passed) m l h e = absurd h
over_comes (Raises passed) m l h e = absurd h
over_comes (EndKeys passed) m l h e = absurd h
over_comes (Stops end) m l h e = tt
over_comes completion m l h e = e

if_over : (b : Bool) (one other : Completion) → IsOver one → IsOver other → IsOver (completion_if b one other)
if_over true one other x y = x
if_over false one other x y = y

pub after_over : (b : Header) (o : Iteration) (completion : Completion) → IsOver completion → IsOver (after_iteration b o completion)
after_over b o Normal h = if_over (iterates b) (Again (next_turn false o.turn)) Normal tt tt
after_over b o (Leaves l) h = if_over (l == b.number) Normal (Leaves l) tt tt
after_over b o (Nexts l) h = if_over (l == b.number) (Again (next_turn false o.turn)) (Nexts l) tt tt
after_over b o completion h = h

arrives_comes : (completion : Completion) (m l : ℕ) → Arrives completion m l → Comes completion m m l
arrives_comes Normal m l h = h
arrives_comes completion m l h = h

-- ---- levels

first_below : (copy passed : Option Copy) (i m l : ℕ) → Below copy i m → FirstAt i passed l → FirstAt m (first_of_two copy passed) l
first_below None passed i m l b h = subst (λ j. FirstAt j passed l) b h
first_below (Some c) None i m l b h = (b.0 ∙ b.1, (let x = b.1 in omega (arith, x, h)))
first_below (Some c) (Some d) i m l b h = (b.0 ∙ b.1, (let x = b.1 in let y = h.1 in omega (arith, x, y)))

-- with no level open none was passed
none_below : (copy passed : Option Copy) (i m l : ℕ) → Below copy i m → FirstAt i passed l → l ≡ 0 → FirstAt m passed l × (l ≡ m)
none_below None None i m l b h z = (h ∙ b, h ∙ b)
none_below (Some c) None i m l b h z = absurd (let x = b.1 in omega (arith, x, h, z))
none_below copy (Some d) i m l b h z = absurd (let y = h.1 in omega (arith, y, z))

any_of : (tree : ℕ → Body) (bs : List ℕ) (l : ℕ) → 0 < l → IfAny tree bs l
any_of tree [] l h = tt
any_of tree (b ∷ bs) l h = h

module _ (tree : ℕ → Body) (k : ℕ) where
  none : (ks : List StackEntry) → 0 ≤ takes ks
  none ks = omega arith

  -- ---- buffers

  insert_sound : (o : Option ℕ) (p : Program) (place : Place) (t : ℕ) (vs : List Value) (made : ℕ) (ks : List StackEntry) (s : State) → s.level ≡ k → StackAt tree ks k k → Sound tree k (insert_unless o p place t vs made ks s)
  insert_sound (Some f) p place t vs made ks s e st = (e, (k, k, refl, st, omega arith))
  insert_sound None p place t vs made ks s e st =
      sound_if tree k (nat_lt MAX_ROW_BYTES (length (bytes_of_row vs))) (fault (RecordTooLong t) ks s) (ask (op.Insert t vs) (WasInserted place t vs made) ks s) (λ _. (e, (k, k, refl, st, omega arith))) (λ _. asks tree k (op.Insert t vs) (WasInserted place t vs made) ks s e st (tt, st))

  enter_sound : (p : Program) (place : Place) (t : ℕ) (c : Content) (ks : List StackEntry) (s : State) → s.level ≡ k → StackAt tree ks k k → Sound tree k (enter_step p place t c ks s)
  enter_sound p place t Empty ks s e st = (e, (k, k, refl, st, omega arith))
  enter_sound p place t (Record row vs lock made) ks s e st = (e, (k, k, refl, st, omega arith))
  enter_sound p place t (Pending vs since made) ks s e st = insert_sound (missing_field 0 (table_at p t).fields vs) p place t vs made ks s e st

  drop_sound : (o : Option RowId) (b : ℕ) (ks : List StackEntry) (s : State) → s.level ≡ k → StackAt tree ks k k → Sound tree k (drop_step o b ks s)
  drop_sound None b ks s e st = (e, (k, k, refl, st, omega arith))
  drop_sound (Some row) b ks s e st =
      sound_if tree k ((s.level == 0) && not (is_row_in row (keep_of (b ∷ []) s))) (ask (op.Drop row) WasDropped ks (emptied b s)) (config (Unwind Normal) ks (emptied b s)) (λ _. asks tree k (op.Drop row) WasDropped ks (emptied b s) e st (tt, st)) (λ _. (e, (k, k, refl, st, omega arith)))

  update_sound : (mark : ℕ) (place : Place) (t : ℕ) (x : Content) (ks : List StackEntry) (s : State) (f : ℕ) → s.level ≡ k → StackAt tree ks k f → Sound tree k (update_step mark place t x ks s)
  update_sound mark place t Empty ks s f e st = (e, (k, f, refl, st, omega arith))
  update_sound mark place t (Pending values since made) ks s f e st =
      sound_if tree k (nat_lt mark made) (config (Unwind Normal) ks (holding_in place Empty s)) (config (Unwind Normal) ks s) (λ _. (e, (k, f, refl, st, omega arith))) (λ _. (e, (k, f, refl, st, omega arith)))
  update_sound mark place t (Record row values lock made) ks s f e st =
      sound_if tree k (made_later mark made) (config (Unwind Normal) ks (holding_in place Empty s)) (ask (op.Get t row) (WasGot place row lock made) ks s) (λ _. (e, (k, f, refl, st, omega arith)))
      (λ _. asks_over tree k (op.Get t row) (WasGot place row lock made) ks s e (k, f, st) (tt, f, st))

  -- ---- reading

  take_sound : (w : LockWanted) (r : Reading) (wait retry : Bool) (row : RowId) (ks : List StackEntry) (s : State) → s.level ≡ k → StackAt tree ks k k → 1 ≤ takes ks → Sound tree k (take_step w r wait retry row ks s)
  take_sound wanted.NoLock r wait retry row ks s e st c = (e, (k, k, refl, st, omega arith))
  take_sound wanted.Share r wait retry row ks s e st c = asks tree k (op.Lock (table_of r.buffer s) row (is_exclusive r.lock) wait) (WasGranted r retry row) ks s e st (tt, st, c)
  take_sound wanted.Exclusive r wait retry row ks s e st c = asks tree k (op.Lock (table_of r.buffer s) row (is_exclusive r.lock) wait) (WasGranted r retry row) ks s e st (tt, st, c)

  take_again_sound : (w : LockWanted) (r : Reading) (retry : Bool) (row : RowId) (ks : List StackEntry) (s : State) → s.level ≡ k → StackAt tree ks k k → 1 ≤ takes ks → Sound tree k (take_again_step w r retry row ks s)
  take_again_sound wanted.NoLock r retry row ks s e st c = asks tree k (op.Get (table_of r.buffer s) row) (WasRead r retry row NoLock) ks s e st (tt, st, c)
  take_again_sound wanted.Share r retry row ks s e st c = asks tree k (op.Lock (table_of r.buffer s) row (is_exclusive r.lock) true) (WasGranted r retry row) ks s e st (tt, st, c)
  take_again_sound wanted.Exclusive r retry row ks s e st c = asks tree k (op.Lock (table_of r.buffer s) row (is_exclusive r.lock) true) (WasGranted r retry row) ks s e st (tt, st, c)

  only_sound : (b : Bool) (q : Search) (at : Cursor) (values : List Value) (ks : List StackEntry) (s : State) → s.level ≡ k → StackAt tree ks k k → Sound tree k (only_step b q at values ks s)
  only_sound true q at values ks s e st = (e, (st, none ks, tt))
  only_sound false q at values ks s e st = (e, (k, k, refl, st, omega arith))

  search_sound : (v : EvaluatedAll) (r : Reading) (forward only wait retry : Bool) (from : Option Cursor) (ks : List StackEntry) (s : State) → s.level ≡ k → StackAt tree ks k k → 1 ≤ takes ks → Sound tree k (search_step v r forward only wait retry from ks s)
  search_sound (GivesAll values) r forward only wait retry from ks s e st c = (e, (st, c, tt))
  search_sound (FailsAll f) r forward only wait retry from ks s e st c = (e, (k, k, refl, st, omega arith))

  fetch_sound : (again : Bool) (f : Fetch) (retry : Bool) (at : Option Cursor) (ks : List StackEntry) (s : State) → s.level ≡ k → StackAt tree ks k k → 1 ≤ takes ks → Sound tree k (fetch_step again f retry at ks s)
  fetch_sound again f retry None ks s e st c = (e, (st, c, tt))
  fetch_sound true f retry (Some at) ks s e st c = (e, (((k, k, refl, (refl, st, (st, c, tt)), c), (k, (refl, st, (st, c, tt)))), c, tt))
  fetch_sound false f retry (Some at) ks s e st c =
      sound_if tree k (is_each f.word) (config (Execute (Searches f.reading (is_forward f.word) false true retry (Some at))) ks s) (config (Unwind NotFound) ks s) (λ _. (e, (st, c, tt))) (λ _. (e, (k, k, refl, st, c)))

  find_sound : (word : FindWord) (r : Reading) (wait retry : Bool) (ks : List StackEntry) (s : State) → s.level ≡ k → StackAt tree ks k k → 1 ≤ takes ks → Sound tree k (find_step word r wait retry ks s)
  find_sound find.Only r wait retry ks s e st c = (e, (st, c, tt))
  find_sound find.First r wait retry ks s e st c = (e, (st, c, tt))
  find_sound find.Last r wait retry ks s e st c = (e, (st, c, tt))
  find_sound find.Next r wait retry ks s e st c = (e, (st, c, tt))
  find_sound find.Previous r wait retry ks s e st c = (e, (st, c, tt))

  current_sound : (w : LockWanted) (r : Reading) (wait : Bool) (row : RowId) (made : Option ℕ) (ks : List StackEntry) (s : State) → s.level ≡ k → StackAt tree ks k k → Sound tree k (current_step w r wait row made ks s)
  current_sound wanted.NoLock r wait row made ks s e st = asks tree k (op.Get (table_of r.buffer s) row) (WasCurrent r row made) ks s e st (tt, st)
  current_sound wanted.Share r wait row made ks s e st = asks tree k (op.Lock (table_of r.buffer s) row (is_exclusive r.lock) wait) (CurrentGranted r row made) ks s e st (tt, st)
  current_sound wanted.Exclusive r wait row made ks s e st = asks tree k (op.Lock (table_of r.buffer s) row (is_exclusive r.lock) wait) (CurrentGranted r row made) ks s e st (tt, st)

  current_in_sound : (x : Content) (r : Reading) (wait : Bool) (ks : List StackEntry) (s : State) → s.level ≡ k → StackAt tree ks k k → Sound tree k (current_in_step x r wait ks s)
  current_in_sound Empty r wait ks s e st = (e, (k, k, refl, st, omega arith))
  current_in_sound (Pending values since made) r wait ks s e st = (e, (k, k, refl, st, omega arith))
  current_in_sound (Record row values lock made) r wait ks s e st = current_sound r.lock r wait row made ks (marked_locked r.buffer false s) e st

  -- ---- changes

  assign_sound : (p : Program) (x : Right) (t : Target) (retry : Bool) (ks : List StackEntry) (s : State) → s.level ≡ k → StackAt tree ks k k → Sound tree k (assign_step p x t retry ks s)
  assign_sound p (ValueOf w) t retry ks s e st =
      plain_unwinds tree k (stored_if (value_now p w retry s) t s).completion ks (stored_if (value_now p w retry s) t s).state (stored_if_level (value_now p w retry s) t s ∙ e) st (stored_if_class (value_now p w retry s) t s)
  assign_sound p (NextOf q) t retry ks s e st = asks tree k (op.NextValue q) (WasCounted t) ks s e st (tt, st)
  assign_sound p (CurrentOf q) t retry ks s e st = asks tree k (op.CurrentValue q) (WasCounted t) ks s e st (tt, st)
  assign_sound p (Given v) t retry ks s e st = plain_unwinds tree k (stored t v s).completion ks (stored t v s).state (stored_level t v s ∙ e) st (stored_class t v s)

  upgrade_sound : (lock : Held) (t b : ℕ) (row : RowId) (values : List Value) (made : Option ℕ) (ks : List StackEntry) (s : State) → s.level ≡ k → StackAt tree ks k k → Sound tree k (upgrade_step lock t b row values made ks s)
  upgrade_sound NoLock t b row values made ks s e st = (e, (k, k, refl, st, omega arith))
  upgrade_sound Share t b row values made ks s e st = asks tree k (op.Lock t row true true) (WasUpgraded b row values made) ks s e st (tt, st)
  upgrade_sound Exclusive t b row values made ks s e st = (e, (k, k, refl, st, omega arith))

  lock_sound : (x : Content) (t b : ℕ) (ks : List StackEntry) (s : State) → s.level ≡ k → StackAt tree ks k k → Sound tree k (lock_step x t b ks s)
  lock_sound Empty t b ks s e st = (e, (k, k, refl, st, omega arith))
  lock_sound (Pending values since made) t b ks s e st = (e, (k, k, refl, st, omega arith))
  lock_sound (Record row values lock made) t b ks s e st = upgrade_sound lock t b row values made ks s e st

  put_sound : (o : Option ℕ) (b t : ℕ) (row : RowId) (vs : List Value) (ks : List StackEntry) (s : State) → s.level ≡ k → StackAt tree ks k k → 0 < k → Sound tree k (put_unless o b t row vs ks s)
  put_sound (Some f) b t row vs ks s e st i = (e, (k, k, refl, st, omega arith))
  put_sound None b t row vs ks s e st i =
      sound_if tree k (nat_lt MAX_ROW_BYTES (length (bytes_of_row vs))) (fault (RecordTooLong t) ks s) (ask (op.Put t row vs) (WasPut b t) ks s) (λ _. (e, (k, k, refl, st, omega arith))) (λ _. asks tree k (op.Put t row vs) (WasPut b t) ks s e st (row, vs, refl, i, st))

  settle_sound : (p : Program) (x : Content) (t b : ℕ) (ks : List StackEntry) (s : State) → s.level ≡ k → StackAt tree ks k k → 0 < k → Sound tree k (settle_step p x t b ks s)
  settle_sound p Empty t b ks s e st i = (e, (k, k, refl, st, omega arith))
  settle_sound p (Pending values since made) t b ks s e st i =
      sound_if tree k (all_begun (table_at p t).indexes since) (config (Execute (EntersOne (own b))) ks s) (config (Unwind Normal) ks s) (λ _. (e, (st, none ks, tt))) (λ _. (e, (k, k, refl, st, omega arith)))
  settle_sound p (Record row values lock made) t b ks s e st i = put_sound (missing_field 0 (table_at p t).fields values) b t row values ks s e st i

  delete_sound : (x : Content) (t b : ℕ) (ks : List StackEntry) (s : State) → s.level ≡ k → StackAt tree ks k k → 0 < k → Sound tree k (delete_step x t b ks s)
  delete_sound Empty t b ks s e st i = (e, (k, k, refl, st, omega arith))
  delete_sound (Pending values since made) t b ks s e st i = (e, (k, k, refl, st, omega arith))
  delete_sound (Record row values lock made) t b ks s e st i = upgrade_sound lock t b row values made (ThenDo (DeletesRow b t row) ∷ ks) s e ((st, none ks, i), (k, st))

  -- ---- ends of iterations

  error_sound : (on : Option OnPhrase) (b : Header) (o : Iteration) (passed : Passed) (ks : List StackEntry) (s : State) → s.level ≡ k → TaskAt tree (StackAt tree ks) (takes ks) (ErrorComes b o passed) k → Sound tree k (error_step on b o passed ks s)
  error_sound None b o passed ks s e a = (e, a)
  error_sound (Some on) b o passed ks s e a = (e, a)

  passes : (b : Header) (o : Iteration) (passed : Passed) (ks : List StackEntry) (s : State) (ended left_way : Completion) → s.level ≡ k → ((i : ℕ) × FirstAt i passed.first k × Around tree (StackAt tree ks) (takes ks) b o.copy i) →
      ((m : ℕ) → FirstAt m (passed_with b o passed).first k → Arrives left_way m k) → ((m : ℕ) → FirstAt m passed.first k → Comes ended m m k) → Sound tree k (config (Execute (Passes b ended left_way)) ks s)
  passes b o passed ks s ended left_way e a x y =
      (e, (a.2.0, x a.2.0 (first_below o.copy passed.first a.0 a.2.0 k a.2.1 a.1), λ z. (let h = none_below o.copy passed.first a.0 a.2.0 k a.2.1 a.1 z in (y a.2.0 h.0, h.1)), a.2.2, a.2.3))

  endkey_sound : (on : Option OnPhrase) (b : Header) (o : Iteration) (passed : Passed) (ks : List StackEntry) (s : State) → s.level ≡ k → TaskAt tree (StackAt tree ks) (takes ks) (EndKeyComes b o passed) k → Sound tree k (endkey_step on b o passed ks s)
  endkey_sound None b o passed ks s e a =
      sound_if tree k (handles_endkey b) (config (Execute (UndoComes b o b.number (ThenLeave b.number) o.turn.retry passed)) ks s) (config (Execute (Passes b (EndKeys passed) (EndKeys (passed_with b o passed)))) ks s) (λ _. (e, a))
      (λ _. passes b o passed ks s (EndKeys passed) (EndKeys (passed_with b o passed)) e a (λ m h. h) (λ m h. h))
  endkey_sound (Some on) b o passed ks s e a = (e, a)

  act_sound : (p : Program) (act : Action) (b : Header) (o : Iteration) (retry : Bool) (ks : List StackEntry) (s : State) → s.level ≡ k → StackAt tree ks k k → 2 ≤ takes ks → Sound tree k (act_step p act b o retry ks s)
  act_sound p ThenRetry b o retry ks s e st c =
      sound_if tree k b.flags.retry_seen (config (Unwind (Again (next_turn true o.turn))) ks s) (config (Execute (Closes b o (instead_of_retry (iterates b) b.number))) ks s) (λ _. (e, (k, k, refl, st, c))) (λ _. (e, (st, c, instead_over (iterates b) b.number)))
  act_sound p (ThenLeave l) b o retry ks s e st c = (e, (st, c, tt))
  act_sound p (ThenNext l) b o retry ks s e st c = (e, (st, c, tt))
  act_sound p (ThenReturn error w) b o retry ks s e st c = (e, (st, c, tt))
  act_sound p ThenError b o retry ks s e st c = (e, (st, c, tt))

  ended_sound : (completion : Completion) (b : Header) (o : Iteration) (ks : List StackEntry) (s : State) (i : ℕ) → s.level ≡ k → k ≡ i → IsOver completion → Around tree (StackAt tree ks) (takes ks) b o.copy i → Sound tree k (ended_step b o completion ks s)
  ended_sound completion b o ks s i e same over a =
      let below = subst (λ j. Below o.copy j a.0) (sym same) a.1 in
      (e, (a.0, below, (below, a.2, a.3, over, subst (IsBare b o.copy) (sym same) a.4)))

  ends_step_sound : (completion : Completion) (b : Header) (o : Iteration) (ks : List StackEntry) (s : State) → s.level ≡ k → TaskAt tree (StackAt tree ks) (takes ks) (EndsWith b o completion) k → Sound tree k (ends_step completion b o ks s)
  ends_step_sound (Undoes target act retry passed) b o ks s e a = (e, a)
  ends_step_sound (Raises passed) b o ks s e a = (e, a)
  ends_step_sound (EndKeys passed) b o ks s e a = (e, a)
  ends_step_sound (Stops end) b o ks s e a = (e, (a.2.0, a.2.0, tt, a.2.2, omega arith))
  ends_step_sound completion b o ks s e a = ended_sound completion b o ks s a.0 e a.1 tt a.2

  -- ---- blocks

  begins_sound : (f : Option Fetch) (b : Header) (copy : Option Copy) (t : Turn) (retry : Bool) (body d : ℕ) (ks : List StackEntry) (s : State) → b.fetch ≡ f → s.level ≡ k → IsIterationAt tree b body k → Around tree (StackAt tree ks) (takes ks) b copy k → Sound tree k (begins_step f b copy t retry body d ks s)
  begins_sound None b copy t retry body d ks s is e it a =
      (e, ((refl, a), omega arith, record { inside = λ u. it.inside (or_right (fetches_exclusively b.fetch) (updates_in (tree body)) u); flags = it.flags }))
  begins_sound (Some f) b copy t retry body d ks s is e it a = (e, ((refl, it, a), omega arith, tt))

  while_sound : (p : Program) (w : Option Expr) (retry : Bool) (go : State → Config) (ks : List StackEntry) (s : State) → s.level ≡ k → StackAt tree ks k k → ((t : State) → t.level ≡ k → Sound tree k (go t)) → Sound tree k (while_step p w retry go ks s)
  while_sound p None retry go ks s e st x = x s e
  while_sound p (Some w) retry go ks s e st x =
      given_sound tree k (value_now p w retry s) (λ v s. config_if (holds v) (go s) (config (Unwind Normal) ks s)) ks s e st (λ v. sound_if tree k (holds v) (go s) (config (Unwind Normal) ks s) (λ _. x s e) (λ _. (e, (k, k, refl, st, omega arith))))

  reach_sound : (p : Program) (l : ToPhrase) (by : Value) (retry : Bool) (go : State → Config) (ks : List StackEntry) (s : State) → s.level ≡ k → StackAt tree ks k k → ((t : State) → t.level ≡ k → Sound tree k (go t)) → Sound tree k (reach_step p l by retry go ks s)
  reach_sound p l by retry go ks s e st x =
      given_sound tree k (value_now p l.end retry s) (λ end s. config_if (in_bound (counts_down by) (value_of l.variable s) end) (go s) (config (Unwind Normal) ks s)) ks s e st
      (λ end. sound_if tree k (in_bound (counts_down by) (value_of l.variable s) end) (go s) (config (Unwind Normal) ks s) (λ _. x s e) (λ _. (e, (k, k, refl, st, omega arith))))

  set_sound : (p : Program) (l : ToPhrase) (by : Value) (retry : Bool) (v : Evaluated) (go : State → Config) (ks : List StackEntry) (s : State) → s.level ≡ k → StackAt tree ks k k → ((t : State) → t.level ≡ k → Sound tree k (go t)) → Sound tree k (set_step p l by retry v go ks s)
  set_sound p l by retry v go ks s e st x =
      given_sound tree k v (λ v s. given_step (fit l.variable.kind v) (λ v s. reach_step p l by retry go ks (assigned l.variable v s)) ks s) ks s e st
      (λ v. given_sound tree k (fit l.variable.kind v) (λ v s. reach_step p l by retry go ks (assigned l.variable v s)) ks s e st (λ v. reach_sound p l by retry go ks (assigned l.variable v s) e st x))

  advance_sound : (p : Program) (l : ToPhrase) (t : Turn) (retry : Bool) (o : Option Value) (go : State → Config) (ks : List StackEntry) (s : State) → s.level ≡ k → StackAt tree ks k k → ((t : State) → t.level ≡ k → Sound tree k (go t)) → Sound tree k (advance_step p l t retry o go ks s)
  advance_sound p l t retry None go ks s e st x = set_sound p l t.by retry (next_value l t s) go ks s e st x
  advance_sound p l t retry (Some v) go ks s e st x = set_sound p l t.by retry (Gives v) go ks s e st x

  loop_sound : (p : Program) (l : Option ToPhrase) (t : Turn) (retry : Bool) (go : State → Config) (ks : List StackEntry) (s : State) → s.level ≡ k → StackAt tree ks k k → ((t : State) → t.level ≡ k → Sound tree k (go t)) → Sound tree k (loop_step p l t retry go ks s)
  loop_sound p None t retry go ks s e st x = x s e
  loop_sound p (Some l) t retry go ks s e st x = sound_if tree k t.retry (go s) (advance_step p l t retry t.start go ks s) (λ _. x s e) (λ _. advance_sound p l t retry t.start go ks s e st x)

  turn_sound : (p : Program) (b : Header) (outer : Bool) (body d : ℕ) (t : Turn) (ks : List StackEntry) (s : State) → s.level ≡ k → StackAt tree ks k k → 2 ≤ takes ks → IsBlockAt tree b body k → Sound tree k (turn_step p b outer body d t ks s)
  turn_sound p b outer body d t ks s e st c blk =
      loop_sound p b.to t (retry_in b t outer)
      (λ s. while_step p b.while_test (retry_in b t outer) (λ s. config (Execute (EntersLevel b (record t { start = None }) (retry_in b t outer) body d)) ks s) ks s) ks s e st
      (λ u f. while_sound p b.while_test (retry_in b t outer) (λ s. config (Execute (EntersLevel b (record t { start = None }) (retry_in b t outer) body d)) ks s) ks u f st (λ v g. (g, (st, c, blk))))

  by_sound : (p : Program) (w : Option Expr) (outer : Bool) (go : Value → State → Config) (ks : List StackEntry) (s : State) → s.level ≡ k → StackAt tree ks k k → ((v : Value) → Sound tree k (go v s)) → Sound tree k (by_step p w outer go ks s)
  by_sound p None outer go ks s e st x = x (Int64 (pos 1))
  by_sound p (Some w) outer go ks s e st x = given_sound tree k (value_now p w outer s) go ks s e st x

  block_sound : (p : Program) (l : Option ToPhrase) (b : Header) (outer : Bool) (body d : ℕ) (ks : List StackEntry) (s : State) → s.level ≡ k → StackAt tree ks k k → 2 ≤ takes ks → IsBlockAt tree b body k → Sound tree k (block_step p l b outer body d ks s)
  block_sound p None b outer body d ks s e st c blk = (e, (st, c, blk))
  block_sound p (Some l) b outer body d ks s e st c blk =
      given_sound tree k (value_now p l.start outer s) (λ v s. by_step p l.by outer (λ w s. config (Execute (Turns s.units b outer body d (first_turn (Some v) w))) ks s) ks s) ks s e st
      (λ v. by_sound p l.by outer (λ w s. config (Execute (Turns s.units b outer body d (first_turn (Some v) w))) ks s) ks s e st (λ w. (e, (st, c, blk))))

  -- where no level is opened the block starts no transaction, or one is open
  unentered : (b : Header) (body l : ℕ) → IsBlockAt tree b body l → enters_at b l ≡ false → directly_updates b (updates_in (tree body)) ≡ true → 0 < l
  unentered b body zero blk stays direct = blk.inside (ap (λ x. not x && directly_updates b (updates_in (tree body))) (sym blk.flag ∙ stays) ∙ direct)
  unentered b body (suc l) blk stays direct = omega arith

  -- ---- statements

  wrote_to_sound : (n : ℕ) (bytes : List ℕ) (ks : List StackEntry) (s : State) → s.level ≡ k → StackAt tree ks k k → Sound tree k (ends_as (wrote_to n bytes s) ks)
  wrote_to_sound n bytes ks s e st =
      plain_unwinds tree k (wrote_to n bytes s).completion ks (wrote_to n bytes s).state (wrote_level (Wrote (stream_at n s).output bytes) s ∙ e) st (wrote_class (Wrote (stream_at n s).output bytes) s)

  export_sound : (x : Content) (n b : ℕ) (ks : List StackEntry) (s : State) → s.level ≡ k → StackAt tree ks k k → Sound tree k (export_step x n b ks s)
  export_sound Empty n b ks s e st = (e, (k, k, refl, st, omega arith))
  export_sound (Record row values lock made) n b ks s e st = wrote_to_sound n (export_line values) ks s e st
  export_sound (Pending values since made) n b ks s e st = wrote_to_sound n (export_line values) ks s e st

  text_sound : (x : Text) (n : ℕ) (ks : List StackEntry) (s : State) → s.level ≡ k → StackAt tree ks k k → Sound tree k (given_text_step x n ks s)
  text_sound (IsText bytes) n ks s e st = wrote_to_sound n bytes ks s e st
  text_sound (HasFault f) n ks s e st = (e, (k, k, refl, st, omega arith))

  import_sound : (x : Imported) (n : ℕ) (ts : List (Option Target)) (retry : Bool) (ks : List StackEntry) (s : State) → s.level ≡ k → StackAt tree ks k k → 1 ≤ takes ks → (reads_field ts ≡ true → 0 < k) → Sound tree k (import_step x n ts retry ks s)
  import_sound AtInputEnd n ts retry ks s e st c i = (e, (k, k, refl, st, c))
  import_sound (BadElement number next) n ts retry ks s e st c i = (read_to_level n next s ∙ e, (k, k, refl, st, omega arith))
  import_sound (Elements vs next) n ts retry ks s e st c i = (read_to_level n next s ∙ e, (st, none ks, λ u. i (read_fields ts vs u)))

  choose_sound : (v : Evaluated) (p : Program) (one other d : ℕ) (retry : Bool) (ks : List StackEntry) (s : State) → s.level ≡ k → StackAt tree ks k k → 2 ≤ takes ks → IsPlaced tree one k → IsPlaced tree other k → Sound tree k (choose_step v p one other d retry ks s)
  choose_sound (Gives v) p one other d retry ks s e st c x y = sound_if tree k (holds v) (config (Execute (RunsFrom one d retry)) ks s) (config (Execute (RunsFrom other d retry)) ks s) (λ _. (e, (st, c, x))) (λ _. (e, (st, c, y)))
  choose_sound (Fails f) p one other d retry ks s e st c x y =
      plain_unwinds tree k (complained p (Some f) s).completion (ThenDo (Completes (Raises nothing_passed)) ∷ ks) (complained p (Some f) s).state (complained_level p (Some f) s ∙ e) ((k, k, refl, st, c), (k, st)) (complained_class p (Some f) s)

  stmt_sound : (p : Program) (t : Stmt) (d : ℕ) (retry : Bool) (ks : List StackEntry) (s : State) → s.level ≡ k → StackAt tree ks k k → 2 ≤ takes ks → (updates t ≡ true → 0 < k) → Sound tree k (stmt_step p t d retry ks s)
  stmt_sound p (Inner b body) d retry ks s e st c i = (e, (k, k, refl, st, omega arith))
  stmt_sound p (Choose test then_it else_it) d retry ks s e st c i = (e, (k, k, refl, st, omega arith))
  stmt_sound p (Assign pairs quiet) d retry ks s e st c i = (cleared_level quiet s ∙ e, ((refl, st, c), omega arith, i))
  stmt_sound p (Find word reading wait quiet) d retry ks s e st c i = (cleared_level quiet s ∙ e, ((refl, (refl, st, c), omega arith), omega arith, tt))
  stmt_sound p (FindCurrent reading wait quiet) d retry ks s e st c i = (cleared_level quiet s ∙ e, ((refl, st, c), omega arith, tt))
  stmt_sound p (Create b quiet) d retry ks s e st c i = (cleared_level quiet s ∙ e, ((refl, st, c), omega arith, i refl))
  stmt_sound p (Remove b quiet) d retry ks s e st c i = (cleared_level quiet s ∙ e, ((refl, st, c), omega arith, i refl))
  stmt_sound p (Release b quiet) d retry ks s e st c i = (cleared_level quiet s ∙ e, ((((refl, st, c), omega arith, tt), (k, (refl, st, c))), omega arith, tt))
  stmt_sound p (UndoBlock l act) d retry ks s e st c i = (e, (k, k, refl, (refl, st, c), omega arith))
  stmt_sound p (LeaveBlock l) d retry ks s e st c i = (e, (k, k, refl, (refl, st, c), omega arith))
  stmt_sound p (NextBlock l) d retry ks s e st c i = (e, (k, k, refl, (refl, st, c), omega arith))
  stmt_sound p (Return w) d retry ks s e st c i = (e, (k, k, refl, (refl, st, c), omega arith))
  stmt_sound p (ReturnError l w) d retry ks s e st c i = (e, (k, k, refl, (refl, st, c), omega arith))
  stmt_sound p Stop d retry ks s e st c i = (e, (k, k, tt, (refl, st, c), omega arith))
  stmt_sound p (Run n args quiet) d retry ks s e st c i =
      given_all_sound tree k (argument_values p args (procedure_at p n).parameters retry (cleared quiet s)) (λ vs s. config (Execute (Calls d n args vs)) (Handles quiet ∷ ks) s) (Handles quiet ∷ ks) (cleared quiet s) (cleared_level quiet s ∙ e) (refl, st, c)
      (λ vs. (cleared_level quiet s ∙ e, ((refl, st, c), omega arith, tt)))
  stmt_sound p (Import n targets quiet) d retry ks s e st c i = (cleared_level quiet s ∙ e, ((refl, st, c), omega arith, i))
  stmt_sound p (Export n es) d retry ks s e st c i =
      given_all_sound tree k (values_now p es retry s) (λ vs s. ends_as (wrote_to n (export_line vs) s) (Handles false ∷ ks)) (Handles false ∷ ks) s e (refl, st, c) (λ vs. wrote_to_sound n (export_line vs) (Handles false ∷ ks) s e (refl, st, c))
  stmt_sound p (ExportRecord n b) d retry ks s e st c i = export_sound (content_of b s) n b (Handles false ∷ ks) s e (refl, st, c)
  stmt_sound p (PutItems n items) d retry ks s e st c i = text_sound (put_text p items retry s) n (Handles false ∷ ks) s e (refl, st, c)
  stmt_sound p (Message es) d retry ks s e st c i =
      given_all_sound tree k (values_now p es retry s) (λ vs s. ends_as (wrote_to 0 (message_line vs) s) (Handles false ∷ ks)) (Handles false ∷ ks) s e (refl, st, c) (λ vs. wrote_to_sound 0 (message_line vs) (Handles false ∷ ks) s e (refl, st, c))
  stmt_sound p (OutputTo n output appends) d retry ks s e st c i =
      plain_unwinds tree k (wrote (Opened output appends) (with_stream n (record (stream_at n s) { output = Some output }) s)).completion (Handles false ∷ ks) (wrote (Opened output appends) (with_stream n (record (stream_at n s) { output = Some output }) s)).state
      (wrote_level (Opened output appends) (with_stream n (record (stream_at n s) { output = Some output }) s) ∙ e) (refl, st, c) (wrote_class (Opened output appends) (with_stream n (record (stream_at n s) { output = Some output }) s))
  stmt_sound p (OutputClose n) d retry ks s e st c i = (e, (k, k, refl, (refl, st, c), omega arith))
  stmt_sound p (InputFrom n input) d retry ks s e st c i = (e, (k, k, refl, (refl, st, c), omega arith))
  stmt_sound p (InputClose n) d retry ks s e st c i = (e, (k, k, refl, (refl, st, c), omega arith))

  -- ---- an instruction

  updates_before : (x rest : Body) → updates_in (before x rest) ≡ updates_in x || updates_in rest
  updates_before Nothing rest = refl
  updates_before (Then t more) rest = ap (λ b. updates t || b) (updates_before more rest) ∙ or_assoc (updates t) (updates_in more) (updates_in rest)
    where
      or_assoc : (a b c : Bool) → (a || (b || c)) ≡ ((a || b) || c)
      or_assoc true b c = refl
      or_assoc false b c = refl

  flags_before : (x rest : Body) → HaveFlags x → HaveFlags rest → HaveFlags (before x rest)
  flags_before Nothing rest h g = g
  flags_before (Then t more) rest h g = (h.0, flags_before more rest h.1 g)

  or_weaker : (a b c : Bool) → (a || c) ≡ true → ((a || b) || c) ≡ true
  or_weaker true b c e = refl
  or_weaker false true c e = refl
  or_weaker false false c e = e

  or_other : (a b c : Bool) → (b || c) ≡ true → ((a || b) || c) ≡ true
  or_other true b c e = refl
  or_other false b c e = e

  placed_as : (body : ℕ) (x : Body) → tree body ≡ x → (updates_in x ≡ true → 0 < k) → HaveFlags x → IsPlaced tree body k
  placed_as body x is i f = record { inside = λ u. i (sym (ap updates_in is) ∙ u); flags = subst HaveFlags (sym is) f }

  instr_sound : (p : Program) (place : ℕ) (i : Instr) (d : ℕ) (retry : Bool) (ks : List StackEntry) (s : State) → DenotesAt tree place i → s.level ≡ k → StackAt tree ks k k → 2 ≤ takes ks → IsPlaced tree place k → Sound tree k (instr_step p i d retry ks s)
  instr_sound p place Ends d retry ks s is e st c at = (e, (k, k, refl, st, omega arith))
  instr_sound p place (Opens b body next) d retry ks s is e st c at =
      let flags : HaveFlags (Then (Inner b (tree body)) (tree next)) = subst HaveFlags is at.flags in
      let inside : (block_updates b (updates_in (tree body)) || updates_in (tree next)) ≡ true → 0 < k = λ u. at.inside (ap updates_in is ∙ u) in
      let rest : IsPlaced tree next k = record { inside = λ u. inside (or_right (block_updates b (updates_in (tree body))) (updates_in (tree next)) u); flags = flags.1 } in
      let blk : IsBlockAt tree b body k = record { inside = λ u. inside (or_left (block_updates b (updates_in (tree body))) (updates_in (tree next)) u); flag = flags.0.0; flags = flags.0.1 } in
      let below : StackAt tree (ThenDo (RunsFrom next d retry) ∷ ks) k k = ((st, c, rest), (k, st)) in
      costs tree k (λ s. config (Execute (Blocks b retry body d)) (Handles false ∷ ThenDo (RunsFrom next d retry) ∷ ks) s) ks s e st (λ t f. (f, ((refl, below, c), omega arith, blk)))
  instr_sound p place (Tests test one other) d retry ks s is e st c at =
      let flags : HaveFlags (Then (Choose test is.then_it is.else_it) is.rest) = subst HaveFlags is.is at.flags in
      let inside : ((updates_in is.then_it || updates_in is.else_it) || updates_in is.rest) ≡ true → 0 < k = λ u. at.inside (ap updates_in is.is ∙ u) in
      let x = placed_as one (before is.then_it is.rest) is.first (λ u. inside (or_weaker (updates_in is.then_it) (updates_in is.else_it) (updates_in is.rest) (sym (updates_before is.then_it is.rest) ∙ u))) (flags_before is.then_it is.rest flags.0.0 flags.1) in
      let y = placed_as other (before is.else_it is.rest) is.second (λ u. inside (or_other (updates_in is.then_it) (updates_in is.else_it) (updates_in is.rest) (sym (updates_before is.else_it is.rest) ∙ u))) (flags_before is.else_it is.rest flags.0.1 flags.1) in
      costs tree k (λ s. choose_step (value_now p test retry s) p one other d retry ks s) ks s e st (λ t f. choose_sound (value_now p test retry t) p one other d retry ks t f st c x y)
  instr_sound p place (Plain t next) d retry ks s is e st c at =
      let flags : HaveFlags (Then t (tree next)) = subst HaveFlags is.1 at.flags in
      let inside : (updates t || updates_in (tree next)) ≡ true → 0 < k = λ u. at.inside (ap updates_in is.1 ∙ u) in
      let rest : IsPlaced tree next k = record { inside = λ u. inside (or_right (updates t) (updates_in (tree next)) u); flags = flags.1 } in
      costs tree k (λ s. stmt_step p t d retry (ThenDo (RunsFrom next d retry) ∷ ks) s) ks s e st
      (λ u f. stmt_sound p t d retry (ThenDo (RunsFrom next d retry) ∷ ks) u f ((st, c, rest), (k, st)) c (λ w. inside (or_left (updates t) (updates_in (tree next)) w)))

  -- a level is not opened, though the block can be undone
  bare : (b : Header) (l : ℕ) → enters_at b l ≡ false → IsBare b None l
  bare b zero stays = λ undo. refl
  bare b (suc n) stays = λ undo. absurd (let z : true ≡ false = sym undo ∙ stays in cc)

  -- ---- a task

  module _ (code : Code) (p : Program) (denotes : IsCodeOf code p tree) (flagged : IsFlaggedProgram p) where
    not_starting : (a b c : Bool) → b ≡ true → (not (a || (b && c)) && c) ≡ true → ⊥
    not_starting true b c u e = cc
    not_starting false true true u e = cc
    not_starting false true false u e = cc
    not_starting false false c u e = cc

    -- the block of a procedure starts a transaction where it updates
    pub procedure_block : (n : ℕ) → IsBlockAt tree (procedure_at p n).header (code.entry n) k
    procedure_block n =
        let q = procedure_at p n in
        let f = flagged n in
        record {
          inside = λ u. absurd (not_starting q.header.transaction (has_undo q.header) (directly_updates q.header (updates_in (tree (code.entry n)))) f.undo u);
          flag = subst (IsFlagged q.header) (sym (denotes.begins n)) f.block;
          flags = subst HaveFlags (sym (denotes.begins n)) f.body;
        }

    passes_sound : (m : ℕ) (b : Header) (ended left_way : Completion) (ks : List StackEntry) (s : State) → s.level ≡ k → Arrives left_way m k → (k ≡ 0 → Comes ended m m k × (k ≡ m)) → StackAt tree ks m m → 2 ≤ takes ks →
        Sound tree k (config_if (s.level == 0) (config (Execute (Releases b.scoped)) (ThenDo (Completes ended) ∷ ks) s) (config (Unwind left_way) ks s))
    passes_sound m b ended left_way ks s e x y st c =
        elim (eqb_tells s.level 0) [
          | inl zero_is ↦
              (let h = y (sym e ∙ zero_is.1) in
              let st' : StackAt tree ks k k = subst (λ n. StackAt tree ks n n) (sym h.1) st in
              sound_if tree k (s.level == 0) (config (Execute (Releases b.scoped)) (ThenDo (Completes ended) ∷ ks) s) (config (Unwind left_way) ks s)
              (λ _. (e, (((m, m, h.0, st, class_fits ended ks c), (k, st')), none ks, tt)))
              (λ more. absurd (let z : true ≡ false = sym zero_is.0 ∙ more in cc)))
          | inr more ↦
              sound_if tree k (s.level == 0) (config (Execute (Releases b.scoped)) (ThenDo (Completes ended) ∷ ks) s) (config (Unwind left_way) ks s)
              (λ is. absurd (let z : false ≡ true = sym more.0 ∙ is in cc))
              (λ _. (e, (m, m, arrives_comes left_way m k x, st, class_fits left_way ks c)))
        ]

    pub task_sound : (t : Task) (ks : List StackEntry) (s : State) → HasLevel tree (Execute t) s k → TaskAt tree (StackAt tree ks) (takes ks) t k → Sound tree k (task_step code p t ks s)
    task_sound (EntersOne place) ks s e a = enter_sound p place (buffer_in place s).table (buffer_in place s).content ks s e a.0
    task_sound (Enters []) ks s e a = (e, (k, k, refl, a.0, omega arith))
    task_sound (Enters (place ∷ more)) ks s e a = (e, (((a.0, none ks, tt), (k, a.0)), none ks, tt))
    task_sound (Drops b) ks s e a = drop_sound (locked_row (content_of b s)) b ks s e a.0
    task_sound (Releases []) ks s e a = (e, (k, k, refl, a.0, omega arith))
    task_sound (Releases (b ∷ bs)) ks s e a = (e, (((((((a.0, none ks, tt), (k, a.0))), none ks, tt), (k, ((a.0, none ks, tt), (k, a.0))))), none ks, tt))
    task_sound (EntersRest None) ks s e a = (e, (k, k, refl, a.0, omega arith))
    task_sound (EntersRest (Some copy)) ks s e a = sound_if tree k (copy.depth == 1) (config (Execute (Enters (all_places s))) ks s) (config (Unwind Normal) ks s) (λ _. (e, (a.0, none ks, tt))) (λ _. (e, (k, k, refl, a.0, omega arith)))
    task_sound (LeavesIf None but) ks s e a = (e, (a.0, a.1, a.2, a.3, omega arith))
    task_sound (LeavesIf (Some copy) but) ks s e a = (e, (a.0, a.1, a.2.1, a.3))
    task_sound (LeavesNow but) ks s e a = asks_over tree k (op.Leave (keep_of but s)) WasLeft ks s e (a.0, a.1, a.3) (keep_of but s, refl, a.0, a.1, a.2, a.3)
    task_sound (Closing b o) ks s e a =
        let s3 : StackAt tree (ThenDo (LeavesIf o.copy b.scoped) ∷ ks) k k = ((a.0, k, a.1, a.2), (a.0, a.2)) in
        let s2 : StackAt tree (ThenDo (EntersRest o.copy) ∷ ThenDo (LeavesIf o.copy b.scoped) ∷ ks) k k = ((s3, none ks, tt), (k, s3)) in
        (e, (((s2, none ks, tt), (k, s2)), none ks, tt))
    task_sound (GoesBack None but) ks s e a = (e, (a.0, a.1, a.2, a.3, omega arith))
    task_sound (GoesBack (Some copy) but) ks s e a = asks_over tree k (op.Back copy.depth) (WasBack copy but) ks s e (a.0, a.1, a.3) (refl, a.0, a.1, a.2.0, a.2.1, a.3)
    task_sound (UpdatesOne mark place) ks s e a = update_sound mark place (buffer_in place s).table (buffer_in place s).content ks s a.0 e a.1
    task_sound (Updates mark but []) ks s e a = (e, (k, a.0, refl, a.1, omega arith))
    task_sound (Updates mark but (place ∷ more)) ks s e a =
        let below : StackAt tree (ThenDo (Updates mark but more) ∷ ks) k a.0 = ((a.0, a.1), (k, a.1)) in
        sound_if tree k (is_left_out but place) (config (Unwind Normal) (ThenDo (Updates mark but more) ∷ ks) s) (config (Execute (UpdatesOne mark place)) (ThenDo (Updates mark but more) ∷ ks) s)
        (λ _. (e, (k, a.0, refl, below, omega arith))) (λ _. (e, (a.0, below)))
    task_sound (AfterBack copy but) ks s e a =
        let last : StackAt tree (ThenDo (Empties but) ∷ ks) a.0 a.1 = ((a.1, a.4), (a.0, a.4)) in
        (a.2, (a.1, ((a.0, a.1, a.3, last), (a.0, last))))
    task_sound (Acts b o act retry) ks s e a = act_sound p act b o retry ks s e a.0 a.1
    task_sound (IsOnly q at values) ks s e a = only_sound q.only q at values ks s e a.0
    task_sound (Seconds zero q at values from) ks s e a = (e, (k, k, tt, a.0, omega arith))
    task_sound (Seconds (suc n) q at values from) ks s e a = asks tree k (op.Next (table_of q.reading.buffer s) q.reading.index q.prefix (Some from) true) (WasSecond n q at values) ks s e a.0 (tt, a.0)
    task_sound (TakesAs r wait retry row) ks s e a = take_sound r.lock r wait retry row ks s e a.0 a.1
    task_sound (TakesAgain r retry row) ks s e a = take_again_sound r.lock r retry row ks s e a.0 a.1
    task_sound (Takes q at values) ks s e a =
        let last : StackAt tree (ThenDo (Completes (Found at)) ∷ ks) k k = ((k, k, refl, a.0, a.1), (k, a.0)) in
        (e, (((last, a.1, tt), (k, last)), none ks, tt))
    task_sound (Looks zero q from) ks s e a = (e, (k, k, tt, a.0, omega arith))
    task_sound (Looks (suc n) q from) ks s e a = asks tree k (op.Next (table_of q.reading.buffer s) q.reading.index q.prefix from q.forward) (WasNext n q) ks s e a.0 (tt, a.0, a.1)
    task_sound (Searches r forward only wait retry from) ks s e a = search_sound (values_now p (map (λ x. x.value) r.bracket) retry s) r forward only wait retry from ks s e a.0 a.1
    task_sound (FetchesFrom again f retry at) ks s e a = fetch_sound again f retry at ks s e a.0 a.1
    task_sound (Fetches f t retry) ks s e a =
        let last : StackAt tree (ThenDo (FetchesFrom t.retry f retry t.own) ∷ ks) k k = ((a.0, a.1, tt), (k, a.0)) in
        (e, (((last, none ks, tt), (k, last)), none ks, tt))
    task_sound (FindsAs word r wait retry) ks s e a = find_sound word r wait retry ks s e a.0 a.1
    task_sound (Finds word r wait retry) ks s e a =
        let found : StackAt tree (FoundAs word r.buffer ∷ ks) k k = (refl, a.0, a.1) in
        let last : StackAt tree (ThenDo (FindsAs word r wait retry) ∷ FoundAs word r.buffer ∷ ks) k k = ((found, omega arith, tt), (k, found)) in
        (e, (((last, omega arith, tt), (k, last)), omega arith, tt))
    task_sound (FindsCurrent r wait) ks s e a = current_in_sound (content_of r.buffer s) r wait ks s e a.0
    task_sound (AssignsOne t x retry) ks s e a = assign_sound p x t retry ks s e a.0
    task_sound (AssignsEach [] retry) ks s e a = (e, (k, k, refl, a.0, omega arith))
    task_sound (AssignsEach (x ∷ xs) retry) ks s e a = (e, (((a.0, none ks, tt), (k, a.0)), none ks, tt))
    task_sound (LocksOne b) ks s e a = lock_sound (content_of b s) (table_of b s) b ks s e a.0
    task_sound (LocksAll []) ks s e a = (e, (k, k, refl, a.0, omega arith))
    task_sound (LocksAll (b ∷ bs)) ks s e a = (e, (((a.0, none ks, tt), (k, a.0)), none ks, tt))
    task_sound (SettlesOne b) ks s e a = settle_sound p (content_of b s) (table_of b s) b ks s e a.0 a.2
    task_sound (SettlesAll olds []) ks s e a = (e, (k, k, refl, a.0, omega arith))
    task_sound (SettlesAll olds (b ∷ bs)) ks s e a = (e, (((a.0, none ks, any_of tree bs k a.2), (k, a.0)), none ks, a.2))
    task_sound (Assigns xs retry) ks s e a =
        let last : StackAt tree (ThenDo (SettlesAll (contents_of s (buffers_in xs)) (buffers_in xs)) ∷ ks) k k = ((a.0, none ks, any_field tree k xs a.2), (k, a.0)) in
        (e, (((last, none ks, tt), (k, last)), none ks, tt))
    task_sound (Creates b) ks s e a =
        let last : StackAt tree (ThenDo (Begun b) ∷ ks) k k = ((a.0, none ks, a.2), (k, a.0)) in
        (e, (((last, none ks, tt), (k, last)), none ks, tt))
    task_sound (Deletes b) ks s e a = delete_sound (content_of b s) (table_of b s) b ks s e a.0 a.2
    task_sound (DeletesRow b t row) ks s e a = asks tree k (op.Delete t row) (WasDeleted b) ks s e a.0 (t, row, refl, a.2, a.0)
    task_sound (Begun b) ks s e a = (e, (k, k, refl, a.0, omega arith))
    task_sound (Completes completion) ks s e a = (e, a)
    task_sound (Empties but) ks s e a = (all_emptied_level but s ∙ e, (k, a.0, refl, a.1, omega arith))
    task_sound (Closes b o completion) ks s e a =
        let last : StackAt tree (ThenDo (Completes (after_iteration b o completion)) ∷ ks) k k = ((k, k, over_comes (after_iteration b o completion) k k (after_over b o completion a.2) refl, a.0, class_fits (after_iteration b o completion) ks a.1), (k, a.0)) in
        (e, (last, none ks, tt))
    task_sound (Passes b ended_way left_way) ks s e a = passes_sound a.0 b ended_way left_way ks s e a.1 a.2 a.3 a.4
    task_sound (UndoComes b o target act retry passed) ks s e a =
        sound_if tree k (target == b.number)
        (config (Execute (GoesBack (passed_with b o passed).first (passed_with b o passed).buffers)) (ThenDo (Acts b o act retry) ∷ ks) s)
        (config (Execute (Passes b (Undoes target act retry passed) (Undoes target act retry (passed_with b o passed)))) ks s)
        (λ _. (e, (a.2.0, a.2.0, first_below o.copy passed.first a.0 a.2.0 k a.2.1 a.1, ((a.2.2, a.2.3, tt), (a.2.0, a.2.2)))))
        (λ _. passes b o passed ks s (Undoes target act retry passed) (Undoes target act retry (passed_with b o passed)) e a (λ m h. h) (λ m h. h))
    task_sound (ErrorComes b o passed) ks s e a =
        sound_if tree k b.flags.undo (error_step b.on_error b o passed ks s) (config (Execute (Passes b (Raises passed) (Raises (passed_with b o passed)))) ks s) (λ _. error_sound b.on_error b o passed ks s e a)
        (λ _. passes b o passed ks s (Raises passed) (Raises (passed_with b o passed)) e a (λ m h. h) (λ m h. h))
    task_sound (EndKeyComes b o passed) ks s e a = endkey_sound b.on_endkey b o passed ks s e a
    task_sound (EndsWith b o completion) ks s e a = ends_step_sound completion b o ks s e a
    task_sound (RunsFrom place d retry) ks s e a = instr_sound p place (code.instr place) d retry ks s (denotes.denotes place) e a.0 a.1 a.2
    task_sound (Begins b copy t retry body d) ks s e a = begins_sound b.fetch b copy t retry body d ks s refl e a.0 a.1
    task_sound (EntersLevel b t retry body d) ks s e a =
        sound_if tree k (enters_at b s.level) (ask op.Enter (WasEntered b t retry body d) ks s) (config (Execute (Begins b None t retry body d)) ks s) (λ _. asks tree k op.Enter (WasEntered b t retry body d) ks s e a.0 (refl, a.2, a.0, a.1))
        (λ stays. (e, (record { inside = unentered b body k a.2 (sym (ap (enters_at b) e) ∙ stays); flags = a.2.flags }, (k, refl, a.0, a.1, bare b k (sym (ap (enters_at b) e) ∙ stays)))))
    task_sound (Turns zero b outer body d t) ks s e a = (e, (k, k, tt, a.0, omega arith))
    task_sound (Turns (suc n) b outer body d t) ks s e a = (e, ((refl, a.2, a.0, a.1), omega arith, a.2))
    task_sound (Iterates b outer body d t) ks s e a = costs tree k (λ s. turn_step p b outer body d t ks s) ks s e a.0 (λ u f. turn_sound p b outer body d t ks u f a.0 a.1 a.2)
    task_sound (Blocks b outer body d) ks s e a = block_sound p b.to b outer body d ks s e a.0 a.1 a.2
    task_sound (Imports n ts retry) ks s e a = import_sound (line_now p n ts s) n ts retry ks s e a.0 a.1 a.2
    task_sound (Calls zero n args vs) ks s e a = (e, (k, k, tt, a.0, omega arith))
    task_sound (Calls (suc d) n args vs) ks s e a = (e, ((refl, a.0, a.1), omega arith, procedure_block n))
