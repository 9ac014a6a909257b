-- The steps of a task.
use Rattle.std.proofs.Common.{◌≡◌, ℕ, zero, suc, Bool, true, false, List, [], ◌∷◌, Option, Some, None, refl, sym, subst, inl, inr, map, length, IfSome, ◌≤◌, ◌<◌, arith}
use Rattle.std.proofs.lemmas.Bool.Decides.{nat_tests}
use Rattle.std.specs.Prelude.{◌==◌, ◌+◌, ◌&&◌, not, nat_lt, slice_index_or, slice_get}
use Rattle.abl_base.specs.declared.limits.TheConstants.{MAX_ROW_BYTES}
use Rattle.abl_base.specs.declared.row.RowId.{RowId}
use Rattle.std.proofs.lemmas.List.Elements.{All-head, All-nil, All-tail}
use Rattle.std.specs.List.{All}
use Rattle.abl_base.specs.declared.value.Value.{Value}
use Rattle.abl_values.specs.declared.schema.FieldDef.{FieldDef}
use Rattle.abl_values.specs.declared.schema.TableDef.{TableDef}
use Rattle.abl_values.specs.Schema.{no_table, field_kinds}
use Rattle.abl_values.specs.Sound.{IsSoundField, IsSoundTable}
use Rattle.abl_values.specs.Rows.{bytes_of_row, FitsFields}
use Rattle.database_protocol.specs.declared.row_order.Cursor.{Cursor}
use Rattle.database_protocol.specs.declared.operation.Op.TheVariants as op
use Rattle.bound_tree.specs.declared.block.LockWanted.{LockWanted}
use Rattle.bound_tree.specs.declared.block.LockWanted.TheVariants as wanted
use Rattle.bound_tree.specs.declared.statement.FindWord.{FindWord}
use Rattle.bound_tree.specs.declared.statement.FindWord.TheVariants as find
use Rattle.bound_tree.specs.declared.statement.Target.{Target}
use Rattle.bound_tree.specs.Tree.{Argument, CurrentOf, Fetch, Given, NextOf, Reading, Right, ValueOf}
use Rattle.kind_laws.specs.bound_kinds.WellKinded.{begins_well, is_body, is_header, is_variable}
use Rattle.std.specs.List.{list_all}
use Rattle.kind_laws.proofs.BoundKindsLemmas.Parts.{both_left, both_right}
use Rattle.block_meaning.specs.Buffers.{Place, all_places, buffer_in, holding_in, is_left_out, is_row_in, keep_of, made_later, missing_field, own}
use Rattle.block_meaning.specs.Changes.{all_begun, begun, buffers_in, initial_values, stored, stored_if}
use Rattle.block_meaning.specs.Frames.{content_of, emptied, locked_row, marked_locked, table_of}
use Rattle.block_meaning.specs.Lines.{RecordTooLong}
use Rattle.block_meaning.specs.Program.{Program, procedure_at, table_at}
use Rattle.block_meaning.specs.Reads.{Search, is_each, is_exclusive, is_forward}
use Rattle.block_meaning.specs.State.{Content, Empty, Exclusive, Held, NoLock, Normal, NotFound, Pending, Record, Share, State}
use Rattle.block_meaning.specs.Streams.{line_now}
use Rattle.block_meaning.specs.Values.{EvaluatedAll, FailsAll, GivesAll, value_now, values_now}
use Rattle.flat_machine.specs.Config.{Acts, AfterBack, Assigns, AssignsEach, AssignsOne, Begins, Begun, Blocks, Calls, Closes, Closing, Completes, Creates, CurrentGranted, Deletes, DeletesRow, Drops, Empties, EndKeyComes, EndsWith, Enters, EntersLevel, EntersOne, EntersRest, ErrorComes, Execute, Fetches, FetchesFrom, Finds, FindsAs, FindsCurrent, GoesBack, Imports, IsOnly, Iterates, LeavesIf, LeavesNow, LocksAll, LocksOne, Looks, Passes, Releases, RunsFrom, Searches, Seconds, SettlesAll, SettlesOne, StackEntry, Takes, TakesAgain, TakesAs, Task, ThenDo, Turns, UndoComes, Unwind, Updates, UpdatesOne, WasBack, WasCounted, WasCurrent, WasDeleted, WasDropped, WasGot, WasGranted, WasInserted, WasLeft, WasNext, WasPut, WasRead, WasSecond, WasUpgraded}
use Rattle.flat_machine.specs.Machine.{first_config, task_step}
use Rattle.flat_machine.specs.Steps.{ask, assign_step, config, current_in_step, current_step, delete_step, drop_step, enter_step, fault, fetch_step, find_step, insert_unless, lock_step, only_step, put_unless, search_step, settle_step, take_again_step, take_step, turn_step, update_step, upgrade_step}
use Rattle.kind_laws.specs.Placed.{is_outermost, is_own, is_placed_body, is_placed_header}
use Rattle.kind_laws.specs.Reached.{Ground, IsGround, kinds_at, surroundings}
use Rattle.kind_laws.proofs.Undone.{IsSafe, undo_safe, IsQuiet}
use Rattle.kind_laws.proofs.Kept.{allows, AreFrames, here, IsAssigned, IsKept, IsProcedure, IsRecord, IsRow, IsSearch, IsStack, IsTask, IsWhole, Kept, nothing, table_here, table_there, Allowed}
use Rattle.kind_laws.proofs.Calls.{begins_well_kinds, opened_keeps, stored_ends, stored_if_ends}
use Rattle.kind_laws.proofs.Iterations.{act_kept, closes_kept, endkey_kept, ends_kept as iteration_ends, error_kept, passes_kept}
use Rattle.kind_laws.proofs.Loops.{again_whole, begins_kept, block_kept, level_kept, turn_kept}
use Rattle.kind_laws.proofs.Parts.{ask_kept, costing_kept, ends_kept, kept_if, unwinds}
use Rattle.kind_laws.proofs.Buffers.{all_emptied_keeps, buffer_has, content_has, emptied_keeps, finds_here, gets_here, gets_there, holding_in_keeps, holding_keeps, marked_keeps, old_have, place_has, put_back_keeps, has_now, reads_now}
use Rattle.kind_laws.proofs.Statements.{import_kept, instr_kept, main_is}
use Rattle.database_meaning.specs.Setting.{HasTable, FitsTable, HasIndex}
use Rattle.kind_laws.specs.schemas.Named.{has_buffer, has_fetch, has_body}
use Rattle.kind_laws.proofs.Rows.{created_table, IsRead, read_table}

-- ---- buffers

-- a row that is not too long
short : (n : ℕ) → nat_lt MAX_ROW_BYTES n ≡ false → n ≤ MAX_ROW_BYTES
short n h = grind (arith, nat_tests)

insert_kept : (g : Ground) (ns : List ℕ) (o : Option ℕ) (p : Program) (place : Place) (t : ℕ) (vs : List Value) (made : ℕ) (ks : List StackEntry) (s : State) → AreFrames g ns s.frames → (allows ks).faults ≡ true → t ≡ table_there g ns place.out place.number →
    IsRow g.schema (table_there g ns place.out place.number) vs → IsStack g ns ks → Kept g ns (insert_unless o p place t vs made ks s)
insert_kept g ns (Some f) p place t vs made ks s h e at r k = (h, (e, k))
insert_kept g ns None p place t vs made ks s h e at r k =
    kept_if g ns (nat_lt MAX_ROW_BYTES (length (bytes_of_row vs))) (fault (RecordTooLong t) ks s) (ask (op.Insert t vs) (WasInserted place t vs made) ks s) (λ _. (h, (e, k)))
    (λ fits. let it = subst (λ (n : ℕ). IsRow g.schema n vs) (sym at) r in ask_kept g ns (op.Insert t vs) (WasInserted place t vs made) ks s h (it.0, it.1, short (length (bytes_of_row vs)) fits) (e, r) k)

enter_kept : (g : Ground) (ns : List ℕ) (p : Program) (place : Place) (t : ℕ) (c : Content) (ks : List StackEntry) (s : State) → AreFrames g ns s.frames → (allows ks).faults ≡ true → t ≡ table_there g ns place.out place.number → IsRecord g.schema (table_there g ns place.out place.number) c → IsStack g ns ks →
    Kept g ns (enter_step p place t c ks s)
enter_kept g ns p place t Empty ks s h e at r k = (h, (tt, k))
enter_kept g ns p place t (Record row vs held made) ks s h e at r k = (h, (tt, k))
enter_kept g ns p place t (Pending vs since made) ks s h e at r k = insert_kept g ns (missing_field 0 (table_at p t).fields vs) p place t vs made ks s h e at r k

drop_kept : (g : Ground) (ns : List ℕ) (o : Option RowId) (b : ℕ) (ks : List StackEntry) (s : State) → AreFrames g ns s.frames → IsStack g ns ks → Kept g ns (drop_step o b ks s)
drop_kept g ns None b ks s h k = (emptied_keeps g ns b s h, (tt, k))
drop_kept g ns (Some row) b ks s h k =
    kept_if g ns ((s.level == 0) && not (is_row_in row (keep_of (b ∷ []) s))) (ask (op.Drop row) WasDropped ks (emptied b s)) (config (Unwind Normal) ks (emptied b s))
    (λ _. ask_kept g ns (op.Drop row) WasDropped ks (emptied b s) (emptied_keeps g ns b s h) tt tt k) (λ _. (emptied_keeps g ns b s h, (tt, k)))

update_kept : (g : Ground) (ns : List ℕ) (mark : ℕ) (place : Place) (c : Content) (ks : List StackEntry) (s : State) → AreFrames g ns s.frames → IsRecord g.schema (table_there g ns place.out place.number) c → IsStack g ns ks → Kept g ns (update_step mark place (buffer_in place s).table c ks s)
update_kept g ns mark place Empty ks s h r k = (h, (tt, k))
update_kept g ns mark place (Pending values since made) ks s h r k =
    kept_if g ns (nat_lt mark made) (config (Unwind Normal) ks (holding_in place Empty s)) (config (Unwind Normal) ks s) (λ _. (holding_in_keeps g ns place Empty s h tt, (tt, k))) (λ _. (h, (tt, k)))
update_kept g ns mark place (Record row values held made) ks s h r k =
    kept_if g ns (made_later mark made) (config (Unwind Normal) ks (holding_in place Empty s)) (ask (op.Get (buffer_in place s).table row) (WasGot place row held made) ks s) (λ _. (holding_in_keeps g ns place Empty s h tt, (tt, k)))
    (λ _. ask_kept g ns (op.Get (buffer_in place s).table row) (WasGot place row held made) ks s h (subst (HasTable g.schema) (sym (place_has g ns place s h).table) r.0) (gets_there g ns place row s r.0 h) k)

-- ---- reading

-- the table and the index that are read
read_is : {a : Allowed} (g : Ground) (ns : List ℕ) (r : Reading) → IsSearch g ns a r → IsRead g.schema (table_here g ns r.buffer) r.index
read_is g ns r is = read_table g.schema (here g ns).buffers r.buffer r.index is.named

has_read : {a : Allowed} (g : Ground) (ns : List ℕ) (r : Reading) (s : State) → AreFrames g ns s.frames → IsSearch g ns a r → HasTable g.schema (table_of r.buffer s)
has_read g ns r s h is = has_now g ns r.buffer s h (read_is g ns r is).table

next_read : {a : Allowed} (g : Ground) (ns : List ℕ) (r : Reading) (s : State) → AreFrames g ns s.frames → IsSearch g ns a r → HasTable g.schema (table_of r.buffer s) × IfSome r.index (HasIndex g.schema (table_of r.buffer s))
next_read g ns r s h is = let now = reads_now g ns r.buffer r.index s h (read_is g ns r is) in (now.table, now.index)

take_kept : (g : Ground) (ns : List ℕ) (w : LockWanted) (r : Reading) (wait retry : Bool) (row : RowId) (ks : List StackEntry) (s : State) → AreFrames g ns s.frames → IsSearch g ns (allows ks) r → (allows ks).lost ≡ true → IsStack g ns ks → Kept g ns (take_step w r wait retry row ks s)
take_kept g ns wanted.NoLock r wait retry row ks s h is l k = (h, (tt, k))
take_kept g ns wanted.Share r wait retry row ks s h is l k = ask_kept g ns (op.Lock (table_of r.buffer s) row (is_exclusive r.lock) wait) (WasGranted r retry row) ks s h (has_read g ns r s h is) (is, l) k
take_kept g ns wanted.Exclusive r wait retry row ks s h is l k = ask_kept g ns (op.Lock (table_of r.buffer s) row (is_exclusive r.lock) wait) (WasGranted r retry row) ks s h (has_read g ns r s h is) (is, l) k

take_again_kept : (g : Ground) (ns : List ℕ) (w : LockWanted) (r : Reading) (retry : Bool) (row : RowId) (ks : List StackEntry) (s : State) → AreFrames g ns s.frames → IsSearch g ns (allows ks) r → (allows ks).lost ≡ true → IsStack g ns ks → Kept g ns (take_again_step w r retry row ks s)
take_again_kept g ns wanted.NoLock r retry row ks s h is l k = ask_kept g ns (op.Get (table_of r.buffer s) row) (WasRead r retry row NoLock) ks s h (has_read g ns r s h is) (is, l, gets_here g ns r.buffer row s (read_is g ns r is).table h) k
take_again_kept g ns wanted.Share r retry row ks s h is l k = ask_kept g ns (op.Lock (table_of r.buffer s) row (is_exclusive r.lock) true) (WasGranted r retry row) ks s h (has_read g ns r s h is) (is, l) k
take_again_kept g ns wanted.Exclusive r retry row ks s h is l k = ask_kept g ns (op.Lock (table_of r.buffer s) row (is_exclusive r.lock) true) (WasGranted r retry row) ks s h (has_read g ns r s h is) (is, l) k

only_kept : (g : Ground) (ns : List ℕ) (only : Bool) (q : Search) (c : Cursor) (values : List Value) (ks : List StackEntry) (s : State) → AreFrames g ns s.frames → IsSearch g ns (allows ks) q.reading → IsRow g.schema (table_here g ns q.reading.buffer) values → IsStack g ns ks → Kept g ns (only_step only q c values ks s)
only_kept g ns true q c values ks s h is r k = (h, ((is, r), k))
only_kept g ns false q c values ks s h is r k = (h, (tt, k))

search_kept : (g : Ground) (ns : List ℕ) (v : EvaluatedAll) (r : Reading) (forward only wait retry : Bool) (from : Option Cursor) (ks : List StackEntry) (s : State) → AreFrames g ns s.frames → IsSearch g ns (allows ks) r → (allows ks).found ≡ true → IsStack g ns ks →
    Kept g ns (search_step v r forward only wait retry from ks s)
search_kept g ns (GivesAll values) r forward only wait retry from ks s h is f k = (h, ((is, f), k))
search_kept g ns (FailsAll c) r forward only wait retry from ks s h is f k = (h, (is.faults, k))

fetch_kept : (g : Ground) (ns : List ℕ) (again : Bool) (f : Fetch) (retry : Bool) (own : Option Cursor) (ks : List StackEntry) (s : State) → AreFrames g ns s.frames → IsSearch g ns (allows ks) f.reading → (allows ks).found ≡ true → IsStack g ns ks →
    Kept g ns (fetch_step again f retry own ks s)
fetch_kept g ns again f retry None ks s h is x k = (h, ((is, x), k))
fetch_kept g ns true f retry (Some own) ks s h is x k = (h, ((record { reading = is.reading; named = is.named; faults = is.faults }, refl), (x, ((is, x), k))))
fetch_kept g ns false f retry (Some own) ks s h is x k =
    kept_if g ns (is_each f.word) (config (Execute (Searches f.reading (is_forward f.word) false true retry (Some own))) ks s) (config (Unwind NotFound) ks s) (λ _. (h, ((is, x), k))) (λ _. (h, (x, k)))

find_kept : (g : Ground) (ns : List ℕ) (word : FindWord) (r : Reading) (wait retry : Bool) (ks : List StackEntry) (s : State) → AreFrames g ns s.frames → IsSearch g ns (allows ks) r → (allows ks).found ≡ true → IsStack g ns ks → Kept g ns (find_step word r wait retry ks s)
find_kept g ns find.Only r wait retry ks s h is f k = (h, ((is, f), k))
find_kept g ns find.First r wait retry ks s h is f k = (h, ((is, f), k))
find_kept g ns find.Last r wait retry ks s h is f k = (h, ((is, f), k))
find_kept g ns find.Next r wait retry ks s h is f k = (h, ((is, f), k))
find_kept g ns find.Previous r wait retry ks s h is f k = (h, ((is, f), k))

current_kept : (g : Ground) (ns : List ℕ) (w : LockWanted) (r : Reading) (wait : Bool) (row : RowId) (made : Option ℕ) (ks : List StackEntry) (s : State) → AreFrames g ns s.frames → (allows ks).faults ≡ true → HasTable g.schema (table_here g ns r.buffer) → IsStack g ns ks →
    Kept g ns (current_step w r wait row made ks s)
current_kept g ns wanted.NoLock r wait row made ks s h e t k = ask_kept g ns (op.Get (table_of r.buffer s) row) (WasCurrent r row made) ks s h (has_now g ns r.buffer s h t) (e, gets_here g ns r.buffer row s t h) k
current_kept g ns wanted.Share r wait row made ks s h e t k = ask_kept g ns (op.Lock (table_of r.buffer s) row (is_exclusive r.lock) wait) (CurrentGranted r row made) ks s h (has_now g ns r.buffer s h t) (e, t) k
current_kept g ns wanted.Exclusive r wait row made ks s h e t k = ask_kept g ns (op.Lock (table_of r.buffer s) row (is_exclusive r.lock) wait) (CurrentGranted r row made) ks s h (has_now g ns r.buffer s h t) (e, t) k

current_in_kept : (g : Ground) (ns : List ℕ) (c : Content) (r : Reading) (wait : Bool) (ks : List StackEntry) (s : State) → AreFrames g ns s.frames → (allows ks).faults ≡ true → IsRecord g.schema (table_here g ns r.buffer) c → IsStack g ns ks → Kept g ns (current_in_step c r wait ks s)
current_in_kept g ns Empty r wait ks s h e is k = (h, (e, k))
current_in_kept g ns (Pending values since made) r wait ks s h e is k = (marked_keeps g ns r.buffer false s h, (tt, k))
current_in_kept g ns (Record row values held made) r wait ks s h e is k = current_kept g ns r.lock r wait row made ks (marked_locked r.buffer false s) (marked_keeps g ns r.buffer false s h) e is.0 k

-- ---- changes

numbered : (q n : ℕ) → nat_lt q n ≡ true → q < n
numbered q n h = grind (arith, nat_tests)

assign_kept : (g : Ground) (ns : List ℕ) (x : Right) (t : Target) (retry : Bool) (ks : List StackEntry) (s : State) → AreFrames g ns s.frames → IsAssigned g.schema (here g ns) (record { target = t; right = x }) → (allows ks).faults ≡ true → IsStack g ns ks →
    Kept g ns (assign_step g.program x t retry ks s)
assign_kept g ns (ValueOf e) t retry ks s h is f k = ends_kept g ns (stored_if (value_now g.program e retry s) t s) ks (stored_if_ends g ns (allows ks) (value_now g.program e retry s) t s h is.target f) k
assign_kept g ns (NextOf q) t retry ks s h is f k = ask_kept g ns (op.NextValue q) (WasCounted t) ks s h (numbered q _ is.named) (is.target, f) k
assign_kept g ns (CurrentOf q) t retry ks s h is f k = ask_kept g ns (op.CurrentValue q) (WasCounted t) ks s h (numbered q _ is.named) (is.target, f) k
assign_kept g ns (Given v) t retry ks s h is f k = ends_kept g ns (stored t v s) ks (stored_ends g ns (allows ks) t v s h is.target f) k

upgrade_kept : (g : Ground) (ns : List ℕ) (held : Held) (t b : ℕ) (row : RowId) (values : List Value) (made : Option ℕ) (ks : List StackEntry) (s : State) → AreFrames g ns s.frames → (allows ks).faults ≡ true → t ≡ table_here g ns b → IsRow g.schema (table_here g ns b) values → IsStack g ns ks →
    Kept g ns (upgrade_step held t b row values made ks s)
upgrade_kept g ns NoLock t b row values made ks s h e at r k = (h, (e, k))
upgrade_kept g ns Share t b row values made ks s h e at r k = ask_kept g ns (op.Lock t row true true) (WasUpgraded b row values made) ks s h (subst (HasTable g.schema) (sym at) r.0) (e, r) k
upgrade_kept g ns Exclusive t b row values made ks s h e at r k = (h, (tt, k))

lock_kept : (g : Ground) (ns : List ℕ) (c : Content) (t b : ℕ) (ks : List StackEntry) (s : State) → AreFrames g ns s.frames → (allows ks).faults ≡ true → t ≡ table_here g ns b → IsRecord g.schema (table_here g ns b) c → IsStack g ns ks → Kept g ns (lock_step c t b ks s)
lock_kept g ns Empty t b ks s h e at r k = (h, (tt, k))
lock_kept g ns (Pending values since made) t b ks s h e at r k = (h, (tt, k))
lock_kept g ns (Record row values held made) t b ks s h e at r k = upgrade_kept g ns held t b row values made ks s h e at r k

put_kept : (g : Ground) (ns : List ℕ) (o : Option ℕ) (b t : ℕ) (row : RowId) (vs : List Value) (ks : List StackEntry) (s : State) → AreFrames g ns s.frames → (allows ks).faults ≡ true → IsRow g.schema t vs → IsStack g ns ks → Kept g ns (put_unless o b t row vs ks s)
put_kept g ns (Some f) b t row vs ks s h e r k = (h, (e, k))
put_kept g ns None b t row vs ks s h e r k =
    kept_if g ns (nat_lt MAX_ROW_BYTES (length (bytes_of_row vs))) (fault (RecordTooLong t) ks s) (ask (op.Put t row vs) (WasPut b t) ks s) (λ _. (h, (e, k)))
    (λ fits. ask_kept g ns (op.Put t row vs) (WasPut b t) ks s h (r.0, r.1, short (length (bytes_of_row vs)) fits) e k)

settle_kept : (g : Ground) (ns : List ℕ) (p : Program) (c : Content) (t b : ℕ) (ks : List StackEntry) (s : State) → AreFrames g ns s.frames → (allows ks).faults ≡ true → t ≡ table_here g ns b → IsRecord g.schema (table_here g ns b) c → IsStack g ns ks → Kept g ns (settle_step p c t b ks s)
settle_kept g ns p Empty t b ks s h e at r k = (h, (tt, k))
settle_kept g ns p (Pending values since made) t b ks s h e at r k =
    kept_if g ns (all_begun (table_at p t).indexes since) (config (Execute (EntersOne (own b))) ks s) (config (Unwind Normal) ks s) (λ _. (h, (e, k))) (λ _. (h, (tt, k)))
settle_kept g ns p (Record row values held made) t b ks s h e at r k = put_kept g ns (missing_field 0 (table_at p t).fields values) b t row values ks s h e (subst (λ (n : ℕ). IsRow g.schema n values) (sym at) r) k

delete_kept : (g : Ground) (ns : List ℕ) (c : Content) (t b : ℕ) (ks : List StackEntry) (s : State) → AreFrames g ns s.frames → (allows ks).faults ≡ true → t ≡ table_here g ns b → IsRecord g.schema (table_here g ns b) c → IsStack g ns ks → Kept g ns (delete_step c t b ks s)
delete_kept g ns Empty t b ks s h e at r k = (h, (e, k))
delete_kept g ns (Pending values since made) t b ks s h e at r k = (emptied_keeps g ns b s h, (tt, k))
delete_kept g ns (Record row values held made) t b ks s h e at r k = upgrade_kept g ns held t b row values made (ThenDo (DeletesRow b t row) ∷ ks) s h e at r ((e, subst (HasTable g.schema) (sym at) r.0), k)

-- ---- CREATE

-- the fields of a table begin with values of their kinds
initial_row : (fs : List FieldDef) → All IsSoundField fs → FitsFields (field_kinds fs) (initial_values fs)
initial_row [] all = tt
initial_row (f ∷ fs) all = ((All-head IsSoundField f fs all).initial, initial_row fs (All-tail IsSoundField f fs all))

sound_fields : (ts : List TableDef) (t : ℕ) → All IsSoundTable ts → All IsSoundField (slice_index_or ts t no_table).fields
sound_fields [] t all = All-nil IsSoundField
sound_fields (x ∷ xs) zero all = (All-head IsSoundTable x xs all).fields
sound_fields (x ∷ xs) (suc t) all = sound_fields xs t (All-tail IsSoundTable x xs all)

initial_is : (g : Ground) (t : ℕ) → IsGround g → FitsTable g.schema t (initial_values (table_at g.program t).fields)
initial_is g t ok = subst (λ (ts : List TableDef). FitsTable g.schema t (initial_values (slice_index_or ts t no_table).fields)) (sym ok.tables) (initial_row (slice_index_or g.schema.tables t no_table).fields (sound_fields g.schema.tables t ok.sound.tables))

begun_keeps : (g : Ground) (ns : List ℕ) (b : ℕ) (s : State) → IsGround g → has_buffer g.schema (slice_get (here g ns).buffers b) ≡ true → AreFrames g ns s.frames → AreFrames g ns (begun g.program b s).frames
begun_keeps g ns b s ok there h =
    holding_keeps g ns b (Pending (initial_values (table_at g.program (table_of b s)).fields) [] (s.made + 1)) (record s { made = s.made + 1 }) h
    (created_table g.schema (here g ns).buffers b there, subst (λ (t : ℕ). FitsTable g.schema t (initial_values (table_at g.program (table_of b s)).fields)) (buffer_has g ns b s h).table (initial_is g (table_of b s) ok))

-- ---- a procedure begins

-- its block, and the code of its body
begun_block : (g : Ground) (ns : List ℕ) (n : ℕ) (faults : Bool) → IsGround g → IsProcedure g n → IsWhole g (n ∷ ns) (record nothing { faults = faults }) (procedure_at g.program n).header (g.code.entry n)
begun_block g ns n faults ok p =
    let q = procedure_at g.program n in
    let x = surroundings g n in
    let kinded = both_right (list_all (is_variable x) q.parameters) _ (both_right (begins_well (kinds_at g n) q) _ p.kinded) in
    let first = both_left (list_all is_own q.parameters && is_outermost q.header) _ p.placed in
    let placed = both_right (list_all is_own q.parameters && is_outermost q.header) _ p.placed in
    record {
      block = record {
        kinded = both_left (is_header x q.header) _ kinded;
        placed = both_left (is_placed_header [] q.header) _ placed;
        named = both_left (has_fetch g.schema q.buffers q.header.fetch) _ p.named;
        covered = inr (record { outermost = both_right (list_all is_own q.parameters) _ first; alone = refl });
      };
      code = record {
        kinded = subst (λ t. is_body x t ≡ true) (sym (ok.denotes.begins n)) (both_right (is_header x q.header) _ kinded);
        placed = subst (λ t. is_placed_body (q.header.number ∷ []) t ≡ true) (sym (ok.denotes.begins n)) (both_right (is_placed_header [] q.header) _ placed);
        named = subst (λ t. has_body g.schema q.buffers t ≡ true) (sym (ok.denotes.begins n)) (both_right (has_fetch g.schema q.buffers q.header.fetch) _ p.named);
      };
    }

-- ---- a task

-- every task but the call of a procedure and the UNDO of a block
abbrev IsNoCall : Task → Type 0
IsNoCall (Calls d n args vs) = ⊥
IsNoCall (UndoComes b o target act retry passed) = ⊥
IsNoCall t = Unit {0}

plain_kept : (g : Ground) (ns : List ℕ) (t : Task) (ks : List StackEntry) (s : State) → IsGround g → IsNoCall t → AreFrames g ns s.frames → IsTask g ns (allows ks) t → IsStack g ns ks → Kept g ns (task_step g.code g.program t ks s)
plain_kept g ns (EntersOne place) ks s ok nc h is k = let b = place_has g ns place s h in enter_kept g ns g.program place (buffer_in place s).table (buffer_in place s).content ks s h is b.table b.content k
plain_kept g ns (Enters []) ks s ok nc h is k = (h, (tt, k))
plain_kept g ns (Enters (place ∷ more)) ks s ok nc h is k = (h, (is, (is, k)))
plain_kept g ns (Drops b) ks s ok nc h is k = drop_kept g ns (locked_row (content_of b s)) b ks s h k
plain_kept g ns (Releases []) ks s ok nc h is k = (h, (tt, k))
plain_kept g ns (Releases (b ∷ bs)) ks s ok nc h is k = (h, (is, (tt, (is, k))))
plain_kept g ns (EntersRest None) ks s ok nc h is k = (h, (tt, k))
plain_kept g ns (EntersRest (Some copy)) ks s ok nc h is k = kept_if g ns (copy.depth == 1) (config (Execute (Enters (all_places s))) ks s) (config (Unwind Normal) ks s) (λ _. (h, (is, k))) (λ _. (h, (tt, k)))
plain_kept g ns (LeavesIf None but) ks s ok nc h is k = (h, (tt, k))
plain_kept g ns (LeavesIf (Some copy) but) ks s ok nc h is k = (h, (tt, k))
plain_kept g ns (LeavesNow but) ks s ok nc h is k = ask_kept g ns (op.Leave (keep_of but s)) WasLeft ks s h tt tt k
plain_kept g ns (Closing b o) ks s ok nc h is k = (h, (is, (is, (is, (tt, k)))))
plain_kept g ns (GoesBack None but) ks s ok nc h is k = (h, (tt, k))
plain_kept g ns (GoesBack (Some copy) but) ks s ok nc h is k = ask_kept g ns (op.Back copy.depth) (WasBack copy but) ks s h tt is k
plain_kept g ns (UpdatesOne mark place) ks s ok nc h is k = update_kept g ns mark place (buffer_in place s).content ks s h (place_has g ns place s h).content k
plain_kept g ns (Updates mark but []) ks s ok nc h is k = (h, (tt, k))
plain_kept g ns (Updates mark but (place ∷ more)) ks s ok nc h is k =
    kept_if g ns (is_left_out but place) (config (Unwind Normal) (ThenDo (Updates mark but more) ∷ ks) s) (config (Execute (UpdatesOne mark place)) (ThenDo (Updates mark but more) ∷ ks) s) (λ _. (h, (tt, (tt, k)))) (λ _. (h, (tt, (tt, k))))
plain_kept g ns (AfterBack copy but) ks s ok nc h is k = (put_back_keeps g ns copy s is h, (tt, (tt, (tt, k))))
plain_kept g ns (Acts b o act retry) ks s ok nc h is k = act_kept g ns g.program act b o retry ks s h is.0 is.1 is.2 is.3 k
plain_kept g ns (IsOnly q c values) ks s ok nc h is k = only_kept g ns q.only q c values ks s h is.0 is.1 k
plain_kept g ns (Seconds zero q c values from) ks s ok nc h is k = (h, tt)
plain_kept g ns (Seconds (suc n) q c values from) ks s ok nc h is k = ask_kept g ns (op.Next (table_of q.reading.buffer s) q.reading.index q.prefix (Some from) true) (WasSecond n q c values) ks s h (next_read g ns q.reading s h is.0) (is.0, is.1, finds_here g ns q.reading.buffer q.reading.index q.prefix (Some from) true s (read_is g ns q.reading is.0).table h) k
plain_kept g ns (TakesAs r wait retry row) ks s ok nc h is k = take_kept g ns r.lock r wait retry row ks s h is.0 is.1 k
plain_kept g ns (TakesAgain r retry row) ks s ok nc h is k = take_again_kept g ns r.lock r retry row ks s h is.0 is.1 k
plain_kept g ns (Takes q c values) ks s ok nc h is k = (h, ((is.0, is.3), ((is.0, is.2), (is.1, k))))
plain_kept g ns (Looks zero q from) ks s ok nc h is k = (h, tt)
plain_kept g ns (Looks (suc n) q from) ks s ok nc h is k = ask_kept g ns (op.Next (table_of q.reading.buffer s) q.reading.index q.prefix from q.forward) (WasNext n q) ks s h (next_read g ns q.reading s h is.0) (is.0, is.1, finds_here g ns q.reading.buffer q.reading.index q.prefix from q.forward s (read_is g ns q.reading is.0).table h) k
plain_kept g ns (Searches r forward only wait retry from) ks s ok nc h is k = search_kept g ns (values_now g.program (map (λ x. x.value) r.bracket) retry s) r forward only wait retry from ks s h is.0 is.1 k
plain_kept g ns (FetchesFrom again f retry own) ks s ok nc h is k = fetch_kept g ns again f retry own ks s h is.0 is.1 k
plain_kept g ns (Fetches f t retry) ks s ok nc h is k = (marked_keeps g ns f.reading.buffer false s h, (is.0.faults, (tt, (is, k))))
plain_kept g ns (FindsAs word r wait retry) ks s ok nc h is k = find_kept g ns word r wait retry ks s h is.0 is.1 k
plain_kept g ns (Finds word r wait retry) ks s ok nc h is k =
    (marked_keeps g ns r.buffer false s h, (is.0.faults, (tt, ((record { reading = is.0.reading; named = is.0.named; faults = is.0.faults }, refl), (record { faults = is.0.faults; inside = is.1 }, k)))))
plain_kept g ns (FindsCurrent r wait) ks s ok nc h is k = current_in_kept g ns (content_of r.buffer s) r wait ks s h is (content_has g ns r.buffer s h) k
plain_kept g ns (AssignsOne t x retry) ks s ok nc h is k = assign_kept g ns x t retry ks s h is.0 is.1 k
plain_kept g ns (AssignsEach [] retry) ks s ok nc h is k = (h, (tt, k))
plain_kept g ns (AssignsEach (x ∷ xs) retry) ks s ok nc h is k = (h, ((record { target = is.0.0.target; right = is.0.0.right; named = is.0.0.named }, is.1), ((is.0.1, is.1), k)))
plain_kept g ns (LocksOne b) ks s ok nc h is k = lock_kept g ns (content_of b s) (table_of b s) b ks s h is (buffer_has g ns b s h).table (content_has g ns b s h) k
plain_kept g ns (LocksAll []) ks s ok nc h is k = (h, (tt, k))
plain_kept g ns (LocksAll (b ∷ bs)) ks s ok nc h is k = (h, (is, (is, k)))
plain_kept g ns (SettlesOne b) ks s ok nc h is k = settle_kept g ns g.program (content_of b s) (table_of b s) b ks s h is (buffer_has g ns b s h).table (content_has g ns b s h) k
plain_kept g ns (SettlesAll olds []) ks s ok nc h is k = (h, (tt, k))
plain_kept g ns (SettlesAll olds (b ∷ bs)) ks s ok nc h is k = (h, (is.0, (is.1, ((is.0, is.1.1), k))))
plain_kept g ns (Assigns xs retry) ks s ok nc h is k = (h, (is, (is.1, (old_have g ns (buffers_in xs) s h, ((is.1, old_have g ns (buffers_in xs) s h), k)))))
plain_kept g ns (Creates b) ks s ok nc h is k = (h, (is.0, (tt, (is.1, k))))
plain_kept g ns (Deletes b) ks s ok nc h is k = delete_kept g ns (content_of b s) (table_of b s) b ks s h is (buffer_has g ns b s h).table (content_has g ns b s h) k
plain_kept g ns (DeletesRow b t row) ks s ok nc h is k = ask_kept g ns (op.Delete t row) (WasDeleted b) ks s h is.1 is.0 k
plain_kept g ns (Begun b) ks s ok nc h is k = (begun_keeps g ns b s ok is h, (tt, k))
plain_kept g ns (Completes completion) ks s ok nc h is k = unwinds g ns completion ks s h is k
plain_kept g ns (Empties but) ks s ok nc h is k = (all_emptied_keeps g ns but s h, (tt, k))
plain_kept g ns (Closes b o completion) ks s ok nc h is k = closes_kept g ns b o completion ks s h is.0 is.1 is.2 k
plain_kept g ns (Passes b ended_way left_way) ks s ok nc h is k = passes_kept g ns b ended_way left_way ks s h is.0 is.1 is.2 k
plain_kept g ns (UndoComes b o target act retry passed) ks s ok nc h is k = absurd nc
plain_kept g ns (ErrorComes b o passed) ks s ok nc h is k = error_kept g ns b o passed ks s h is.0 is.1 k
plain_kept g ns (EndKeyComes b o passed) ks s ok nc h is k = endkey_kept g ns b o passed ks s h is.0 is.1 k
plain_kept g ns (EndsWith b o completion) ks s ok nc h is k = iteration_ends g ns completion b o ks s h is.0 is.1 k
plain_kept g ns (RunsFrom body d retry) ks s ok nc h is k = instr_kept g ns (g.code.instr body) body d retry ks s ok (ok.denotes.denotes body) h is.0 is.1 k
plain_kept g ns (Begins b copy t retry body d) ks s ok nc h is k = begins_kept g ns b copy t retry body d ks s h is.0 is.1 is.2 k
plain_kept g ns (EntersLevel b t retry body d) ks s ok nc h is k = level_kept g ns b t retry body d ks s h is.0 is.1 k
plain_kept g ns (Turns zero b outer body d t) ks s ok nc h is k = (h, tt)
plain_kept g ns (Turns (suc n) b outer body d t) ks s ok nc h is k = (h, ((again_whole g ns (allows ks) b body is, refl), (is, k)))
plain_kept g ns (Iterates b outer body d t) ks s ok nc h is k = costing_kept g ns s.units (λ s. turn_step g.program b outer body d t ks s) ks s h (λ s h. turn_kept g ns g.program b outer body d t ks s h is.0 is.1 k)
plain_kept g ns (Blocks b outer body d) ks s ok nc h is k = block_kept g ns g.program b outer body d ks s h is k
plain_kept g ns (Imports n ts retry) ks s ok nc h is k = import_kept g ns (line_now g.program n ts s) n ts retry ks s h is.0 is.1 k
plain_kept g ns (Calls d n args vs) ks s ok nc h is k = absurd nc

call_kept : (g : Ground) (m : ℕ) (ns : List ℕ) (d n : ℕ) (args : List Argument) (vs : List Value) (ks : List StackEntry) (s : State) → IsGround g → AreFrames g (m ∷ ns) s.frames → IsTask g (m ∷ ns) (allows ks) (Calls d n args vs) → IsStack g (m ∷ ns) ks →
    IsKept g (task_step g.code g.program (Calls d n args vs) ks s)
call_kept g m ns zero n args vs ks s ok h is k = (m, ns, (h, tt))
call_kept g m ns (suc d) n args vs ks s ok h is k = (n, m ∷ ns, (opened_keeps g m ns n args vs s is.0.procedure is.1 h, (begun_block g (m ∷ ns) n false ok is.0.procedure, ((refl, is.0, is.2), k))))

pub task_kept : (g : Ground) (m : ℕ) (ns : List ℕ) (t : Task) (ks : List StackEntry) (s : State) → IsGround g → IsQuiet (Execute t) s → AreFrames g (m ∷ ns) s.frames → IsTask g (m ∷ ns) (allows ks) t → IsStack g (m ∷ ns) ks → IsSafe g (task_step g.code g.program t ks s)
task_kept g m ns (Calls d n args vs) ks s ok quiet h is k = inl (call_kept g m ns d n args vs ks s ok h is k)
task_kept g m ns (UndoComes b o target act retry passed) ks s ok quiet h is k = undo_safe g m ns b o target act retry passed ks s quiet h is.0 is.1 is.2 is.3 k
task_kept g m ns t ks s ok quiet h is k = inl (m, ns, plain_kept g (m ∷ ns) t ks s ok tt h is k)

-- the run begins
pub first_kept : (g : Ground) (units : ℕ) → IsGround g → IsKept g (first_config g.code g.program units)
first_kept g units ok = (0, [], ((begins_well_kinds g 0 (main_is g ok), refl, tt), (begun_block g [] 0 true ok (main_is g ok), tt)))
