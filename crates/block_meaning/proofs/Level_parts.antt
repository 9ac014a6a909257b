-- The parts of a run below its blocks ask for no operation on levels, and leave them unchanged.
use Rattle.std.proofs.Common.{Bool, List, None, Option, Some, [], false, length, map, nat_lt, not, refl, suc, sym, true, zero, ℕ, ◌&&◌, ◌==◌, ◌∷◌, ◌≡◌}
use Rattle.std.specs.Prelude.{ℤ}
use Rattle.abl_base.specs.declared.limits.TheConstants.{MAX_ROW_BYTES}
use Rattle.abl_base.specs.declared.row.RowId.{RowId}
use Rattle.database_protocol.specs.declared.row_order.Cursor.{Cursor}
use Rattle.abl_base.specs.declared.value.Value.{Value}
use Rattle.abl_base.specs.declared.value.Value.TheVariants.{Int64}
use Rattle.abl_base.specs.declared.value.Kind.{Kind}
use Rattle.abl_values.specs.Rows.{bytes_of_row}
use Rattle.database_protocol.specs.declared.operation.Op.TheVariants as op
use Rattle.database_protocol.specs.declared.answer.Answer.{Answer}
use Rattle.bound_tree.specs.declared.block.LockWanted.{LockWanted}
use Rattle.bound_tree.specs.declared.block.LockWanted.TheVariants as wanted
use Rattle.bound_tree.specs.declared.statement.Target.{Target}
use Rattle.bound_tree.specs.declared.statement.Target.TheVariants as target
use Rattle.bound_tree.specs.Tree.{Assignment, CurrentOf, Expr, Fetch, Given, NextOf, Reading, Right, ValueOf}
use Rattle.expression_meaning.specs.Operators.{holds}
use Rattle.block_meaning.specs.Program.{Program, table_at}
use Rattle.block_meaning.specs.Lines.{Complaint, IsLocked, IsMandatory, IsReadNoLock, MoreThanOne, NoRecordFound, NoRecordIn, OutOfRange, RecordIsGone, RecordTooLong}
use Rattle.block_meaning.specs.State.{Content, Outcome, Empty, EndKeys, Exclusive, Faults, Found, Held, NotFound, Lost, NoLock, Completed, Continuation, Pending, Raises, Normal, Record, Share, State, Stops, Turn, Undoes, Completion, and_then, asks, immediately, update_then, completes, has_fault, if_else}
use Rattle.block_meaning.specs.Frames.{assigned, content_of, emptied, holding, marked_locked, table_of, with_spot}
use Rattle.block_meaning.specs.Values.{Evaluated, EvaluatedAll, Fails, FailsAll, Gives, GivesAll, fit, given_all, value_now, values_now}
use Rattle.block_meaning.specs.Views.{FoundRow, Grant, IsBusy, IsGone, IsGranted, found_in, grant_in, is_gone, number_in, refusal_in, row_in, values_in}
use Rattle.block_meaning.specs.Buffers.{Place, buffer_in, drops, drops_if, enters_content, enters_in, enters_places, holding_in, inserted_as, is_row_in, keep_of, missing_field, own, refused, refused_by, releases, releases_all, unless_missing, was_dropped, was_inserted, storable}
use Rattle.block_meaning.specs.Reads.{Search, bracket_of, busy, current_as, current_granted, current_granted_as, current_in, current_read, fetches, fetches_from, fetches_next, fetches_own, finds_current, finds_none, gets_current, granted_as, held_as, is_each, is_exclusive, is_forward, is_only, judged, locks, locks_current, looks, looks_for_second, if_lost, next_as, next_shown, or_again, read_as, reads, searches, second_as, shows, takes, takes_again_as, takes_as, tests, was_current, was_granted, was_next, was_read, was_second}
use Rattle.block_meaning.specs.Changes.{all_as_before, all_begun, as_before, assigns, assigns_each, assigns_one, begun, buffers_in, counted_as, creates, deletes, deletes_content, locks_all, locks_content, or_as_before, settles, settles_all, settles_content, stored, stored_if, stored_in, stored_value, upgrades, was_counted, was_deleted, was_put, was_upgraded, as_before_on_fault, with_field}
use Rattle.block_meaning.proofs.Continues.{Continues, Handles, continues_first, continues_goes, continues_then}
use Rattle.block_meaning.proofs.Parts.{enters_in_continues, is_only_continues, releases_continues, takes_again_continues, takes_as_continues, takes_continues}
use Rattle.block_meaning.proofs.Part_changes.{assigns_each_continues, assigns_one_continues, locks_all_continues, locks_content_continues, or_as_before_continues, settles_continues, upgrades_continues}
use Rattle.block_meaning.proofs.Levels.{FollowsTo, IsFamily, IsNeutral, IsStop, Legal, Levels, LevelsIn, Over, in_asks, in_at, in_first, in_then, in_where, legal_handled, over_at_once, steady_part}
use Rattle.database_protocol.specs.declared.operation.Op.{Op}

-- completions that leave the levels unchanged, and stops
abbrev pub Calm : ℕ → ℕ → Completion → State → Type 0
Calm k n (Stops end) s = Unit {0}
Calm k n (Undoes block action retry passed) s = ⊥
Calm k n (Raises passed) s = ⊥
Calm k n (EndKeys passed) s = ⊥
Calm k n completion s = (n ≡ s.level) × (s.level ≡ k)

calm_stop : (k n : ℕ) (completion : Completion) (s : State) → IsStop completion → Calm k n completion s
calm_stop k n (Stops end) s i = tt
calm_stop k n completion s i = absurd i

calm_family : IsFamily Calm
calm_family = record { stops = calm_stop; ran = λ k n s h. h; back = λ k n s h. h }

calm_goes : (completion : Completion) → ((s : State) → Calm s.level s.level completion s) → LevelsIn Calm (completes completion)
calm_goes completion x s ans = over_at_once (Calm s.level) s.level completion s (x s) ans

calm_where : (b : Bool) (one other : Continuation) → LevelsIn Calm one → LevelsIn Calm other → LevelsIn Calm (if_else b one other)
calm_where b one other x y = in_where Calm b one other x y

calm_at : (k n : ℕ) (go : Continuation) → LevelsIn Calm go → (s : State) → n ≡ s.level → s.level ≡ k → (ans : List Answer) → Legal (Calm k) n (go s) ans
calm_at k n go x s e f ans = in_at Calm k n go x s e f ans

calm_first : (change : State → State) (go : Continuation) → ((s : State) → (change s).level ≡ s.level) → LevelsIn Calm go → LevelsIn Calm (update_then change go)
calm_first change go k x = in_first Calm change go k x

calm_asks : (op : Op) (go : Answer → Continuation) → IsNeutral op → ((a : Answer) → LevelsIn Calm (go a)) → LevelsIn Calm (asks op go)
calm_asks op go i x = in_asks Calm calm_family op go i x

calm_then : (go next : Continuation) → Continues go → LevelsIn Calm go → LevelsIn Calm next → (s : State) (ans : List Answer) → Legal (Calm s.level) s.level (λ ans. and_then (go s ans) next) ans
calm_then go next g x y = in_then Calm calm_family go next g x y

calm_handled : (go : Continuation) (h : Outcome → Outcome) (kk : Completion → Continuation) → Handles h kk → Continues go → LevelsIn Calm go → ((k : ℕ) → FollowsTo (Calm k) (Calm k) kk) → (s : State) (ans : List Answer) → Legal (Calm s.level) s.level (λ ans. h (go s ans)) ans
calm_handled go h kk c g x y s ans = legal_handled (Calm s.level) (Calm s.level) s.level h kk c (y s.level) (go s) (steady_part go g s) ans (x s ans)

calm_same : (k n : ℕ) (completion : Completion) (s : State) → Calm k n completion s → (ans : List Answer) → Legal (Calm k) n (completes completion s) ans
calm_same k n completion s o ans = over_at_once (Calm k) n completion s o ans

ran_calm : (change : State → State) (completion : Completion) → ((s : State) → (change s).level ≡ s.level) → ((s : State) → Calm s.level s.level completion s) → LevelsIn Calm (update_then change (completes completion))
ran_calm change completion k o = calm_first change (completes completion) k (calm_goes completion o)

calm_done : (f : State → Completed) → ((s : State) → Calm s.level s.level (f s).completion (f s).state) → LevelsIn Calm (immediately f)
calm_done f x s [] = (refl, x s)
calm_done f x s (a ∷ ans) = (refl, x s)

calm_over : (completion : Completion) (k n : ℕ) (s : State) → Calm k n completion s → Over k n completion s
calm_over (Undoes block action retry passed) k n s h = absurd h
calm_over (Raises passed) k n s h = absurd h
calm_over (EndKeys passed) k n s h = absurd h
calm_over completion k n s h = h

-- such a part leaves the levels as its completion says
pub calm_levels : (go : Continuation) → Continues go → LevelsIn Calm go → Levels go
calm_levels go g x s ans =
    legal_handled (Calm s.level) (Over s.level) s.level (λ r. r) completes (record { completes = λ completion s ans. refl; stands = λ d. refl }) (λ n completion t o ans. over_at_once (Over s.level) n completion t (calm_over completion s.level n t o) ans) (go s) (steady_part go g s) ans (x s ans)

-- ---- values

pub given_all_calm : (v : EvaluatedAll) (go : List Value → Continuation) → ((vs : List Value) → LevelsIn Calm (go vs)) → LevelsIn Calm (given_all v go)
given_all_calm (GivesAll vs) go x s ans = x vs s ans
given_all_calm (FailsAll c) go x s ans = calm_goes (Faults (Some c)) (λ s. (refl, refl)) s ans

-- ---- buffers

pub unless_missing_calm : (o : Option ℕ) (t : ℕ) (go : Continuation) → LevelsIn Calm go → LevelsIn Calm (unless_missing o t go)
unless_missing_calm None t go x s ans = x s ans
unless_missing_calm (Some f) t go x s ans = calm_goes (Faults (Some (IsMandatory t f))) (λ s. (refl, refl)) s ans

pub storable_calm : (p : Program) (t : ℕ) (vs : List Value) (go : Continuation) → LevelsIn Calm go → LevelsIn Calm (storable p t vs go)
storable_calm p t vs go x =
    unless_missing_calm (missing_field 0 (table_at p t).fields vs) t (if_else (nat_lt MAX_ROW_BYTES (length (bytes_of_row vs))) (has_fault (RecordTooLong t)) go)
    (calm_where (nat_lt MAX_ROW_BYTES (length (bytes_of_row vs))) (has_fault (RecordTooLong t)) go (calm_goes (Faults (Some (RecordTooLong t))) (λ s. (refl, refl))) x)

pub refused_calm : (o : Option Complaint) → LevelsIn Calm (refused_by o)
refused_calm (Some c) = calm_goes (Faults (Some c)) (λ s. (refl, refl))
refused_calm None = calm_goes Normal (λ s. (refl, refl))

pub inserted_calm : (o : Option RowId) (at : Place) (vs : List Value) (made : ℕ) (other : Continuation) → LevelsIn Calm other → LevelsIn Calm (inserted_as o at vs made other)
inserted_calm (Some row) at vs made other x = ran_calm (holding_in at (Record row vs Exclusive (Some made))) Normal (λ s. refl) (λ s. (refl, refl))
inserted_calm None at vs made other x = x

pub enters_content_calm : (p : Program) (at : Place) (t : ℕ) (c : Content) → LevelsIn Calm (enters_content p at t c)
enters_content_calm p at t Empty = calm_goes Normal (λ s. (refl, refl))
enters_content_calm p at t (Record row vs held made) = calm_goes Normal (λ s. (refl, refl))
enters_content_calm p at t (Pending vs since made) =
    storable_calm p t vs (asks (op.Insert t vs) (was_inserted at t vs made))
    (calm_asks (op.Insert t vs) (was_inserted at t vs made) (record { can = λ n. tt; after = λ n. refl }) (λ a. inserted_calm (row_in a) at vs made (refused at.number t a) (refused_calm (refusal_in at.number t a))))

pub enters_in_calm : (p : Program) (at : Place) → LevelsIn Calm (enters_in p at)
enters_in_calm p at s ans = enters_content_calm p at (buffer_in at s).table (buffer_in at s).content s ans

pub enters_places_calm : (p : Program) (places : List Place) → LevelsIn Calm (enters_places p places)
enters_places_calm p [] = calm_goes Normal (λ s. (refl, refl))
enters_places_calm p (at ∷ more) = calm_then (enters_in p at) (enters_places p more) (enters_in_continues p at) (enters_in_calm p at) (enters_places_calm p more)

pub empties_calm : (b : ℕ) (completion : Completion) → ((s : State) → Calm s.level s.level completion s) → LevelsIn Calm (update_then (emptied b) (completes completion))
empties_calm b completion o = ran_calm (emptied b) completion (λ s. refl) o

pub drops_if_calm : (o : Option RowId) (b : ℕ) → LevelsIn Calm (drops_if o b)
drops_if_calm None b s ans = empties_calm b Normal (λ s. (refl, refl)) s ans
drops_if_calm (Some row) b s ans =
    calm_where ((s.level == 0) && not (is_row_in row (keep_of (b ∷ []) s))) (update_then (emptied b) (asks (op.Drop row) was_dropped)) (update_then (emptied b) (completes Normal)) (calm_first (emptied b) (asks (op.Drop row) was_dropped) (λ s. refl) (calm_asks (op.Drop row) was_dropped (record { can = λ n. tt; after = λ n. refl }) (λ a. calm_goes Normal (λ s. (refl, refl))))) (empties_calm b Normal (λ s. (refl, refl))) s ans

pub drops_calm : (b : ℕ) → LevelsIn Calm (drops b)
drops_calm b s ans = drops_if_calm _ b s ans

pub releases_calm : (p : Program) (b : ℕ) → LevelsIn Calm (releases p b)
releases_calm p b = calm_then (enters_in p (own b)) (drops b) (enters_in_continues p (own b)) (enters_in_calm p (own b)) (drops_calm b)

pub releases_all_calm : (p : Program) (bs : List ℕ) → LevelsIn Calm (releases_all p bs)
releases_all_calm p [] = calm_goes Normal (λ s. (refl, refl))
releases_all_calm p (b ∷ bs) = calm_then (releases p b) (releases_all p bs) (releases_continues p b) (releases_calm p b) (releases_all_calm p bs)

-- ---- reading

pub judged_calm : (v : Evaluated) (b : ℕ) (good bad : Continuation) → LevelsIn Calm good → LevelsIn Calm bad → LevelsIn Calm (judged v b good bad)
judged_calm (Gives v) b good bad x y = calm_where (holds v) good (update_then (emptied b) bad) x (calm_first (emptied b) bad (λ s. refl) y)
judged_calm (Fails c) b good bad x y = empties_calm b (Faults (Some c)) (λ s. (refl, refl))

pub tests_calm : (p : Program) (e : Option Expr) (b : ℕ) (retry : Bool) (good bad : Continuation) → LevelsIn Calm good → LevelsIn Calm bad → LevelsIn Calm (tests p e b retry good bad)
tests_calm p None b retry good bad x y s ans = x s ans
tests_calm p (Some e) b retry good bad x y s ans = judged_calm (value_now p e retry s) b good bad x y s ans

pub read_as_calm : (p : Program) (o : Option (List Value)) (r : Reading) (retry : Bool) (row : RowId) (held : Held) → LevelsIn Calm (read_as p o r retry row held)
read_as_calm p (Some values) r retry row held =
    calm_first (shows r.buffer row values) (tests p r.test r.buffer retry (update_then (holding r.buffer (Record row values held None)) (completes Normal)) (completes Lost)) (λ s. refl) (tests_calm p r.test r.buffer retry (update_then (holding r.buffer (Record row values held None)) (completes Normal)) (completes Lost)
    (ran_calm (holding r.buffer (Record row values held None)) Normal (λ s. refl) (λ s. (refl, refl))) (calm_goes Lost (λ s. (refl, refl))))
read_as_calm p None r retry row held = empties_calm r.buffer Lost (λ s. (refl, refl))

pub reads_calm : (p : Program) (r : Reading) (retry : Bool) (row : RowId) (held : Held) → LevelsIn Calm (reads p r retry row held)
reads_calm p r retry row held s ans = calm_asks (op.Get (table_of r.buffer s) row) (was_read p r retry row held) (record { can = λ n. tt; after = λ n. refl }) (λ a. read_as_calm p (values_in a) r retry row held) s ans

pub busy_calm : (b : ℕ) → LevelsIn Calm (busy b)
busy_calm b = ran_calm (λ s. marked_locked b true (emptied b s)) (Faults (Some (IsLocked b))) (λ s. refl) (λ s. (refl, refl))

pub granted_calm : (p : Program) (g : Grant) (r : Reading) (retry : Bool) (row : RowId) → LevelsIn Calm (granted_as p g r retry row)
granted_calm p IsGranted r retry row = reads_calm p r retry row (held_as r.lock)
granted_calm p IsBusy r retry row = busy_calm r.buffer
granted_calm p IsGone r retry row = empties_calm r.buffer Lost (λ s. (refl, refl))

pub locks_calm : (p : Program) (r : Reading) (wait retry : Bool) (row : RowId) → LevelsIn Calm (locks p r wait retry row)
locks_calm p r wait retry row s ans = calm_asks (op.Lock (table_of r.buffer s) row (is_exclusive r.lock) wait) (was_granted p r retry row) (record { can = λ n. tt; after = λ n. refl }) (λ a. granted_calm p (grant_in a) r retry row) s ans

pub takes_as_calm : (p : Program) (w : LockWanted) (r : Reading) (wait retry : Bool) (row : RowId) → LevelsIn Calm (takes_as p w r wait retry row)
takes_as_calm p wanted.NoLock r wait retry row = calm_goes Normal (λ s. (refl, refl))
takes_as_calm p wanted.Share r wait retry row = locks_calm p r wait retry row
takes_as_calm p wanted.Exclusive r wait retry row = locks_calm p r wait retry row

pub takes_again_calm : (p : Program) (w : LockWanted) (r : Reading) (retry : Bool) (row : RowId) → LevelsIn Calm (takes_again_as p w r retry row)
takes_again_calm p wanted.NoLock r retry row = reads_calm p r retry row NoLock
takes_again_calm p wanted.Share r retry row = locks_calm p r true retry row
takes_again_calm p wanted.Exclusive r retry row = locks_calm p r true retry row

pub second_calm : (p : Program) (o : Option FoundRow) (k : Search) (c : Cursor) (values : List Value) (again : Cursor → Continuation) → ((c : Cursor) → LevelsIn Calm (again c)) → LevelsIn Calm (second_as p o k c values again)
second_calm p (Some x) k c values again y =
    calm_first (shows k.reading.buffer x.cursor.row x.values) (tests p k.reading.test k.reading.buffer k.retry (update_then (emptied k.reading.buffer) (has_fault (MoreThanOne k.reading.buffer))) (again x.cursor)) (λ s. refl) (tests_calm p k.reading.test k.reading.buffer k.retry (update_then (emptied k.reading.buffer) (has_fault (MoreThanOne k.reading.buffer))) (again x.cursor)
    (empties_calm k.reading.buffer (Faults (Some (MoreThanOne k.reading.buffer))) (λ s. (refl, refl))) (y x.cursor))
second_calm p None k c values again y = ran_calm (shows k.reading.buffer c.row values) Normal (λ s. refl) (λ s. (refl, refl))

pub looks_for_second_calm : (p : Program) (n : ℕ) (k : Search) (c : Cursor) (values : List Value) (from : Cursor) → LevelsIn Calm (looks_for_second p n k c values from)
looks_for_second_calm p zero k c values from s ans = calm_goes _ (λ s. tt) s ans
looks_for_second_calm p (suc n) k c values from s ans =
    calm_asks (op.Next (table_of k.reading.buffer s) k.reading.index k.prefix (Some from) true) (was_second p k c values (looks_for_second p n k c values)) (record { can = λ n. tt; after = λ n. refl }) (λ a. second_calm p (found_in a) k c values (looks_for_second p n k c values) (looks_for_second_calm p n k c values)) s ans

pub is_only_calm : (p : Program) (only : Bool) (k : Search) (c : Cursor) (values : List Value) → LevelsIn Calm (is_only p only k c values)
is_only_calm p true k c values s ans = looks_for_second_calm p s.units k c values c s ans
is_only_calm p false k c values s ans = calm_goes Normal (λ s. (refl, refl)) s ans

lost_way_follows : (again : Continuation) → LevelsIn Calm again → (k : ℕ) → FollowsTo (Calm k) (Calm k) (λ completion. if_lost completion again)
lost_way_follows again x k n Lost s o ans = calm_at k n again x s o.0 o.1 ans
lost_way_follows again x k n completion s o ans = calm_same k n completion s o ans

pub or_again_calm : (go again : Continuation) → Continues go → LevelsIn Calm go → LevelsIn Calm again → (s : State) (ans : List Answer) → Legal (Calm s.level) s.level (λ ans. or_again (go s ans) again) ans
or_again_calm go again g x y s ans = calm_handled go (λ r. or_again r again) (λ completion. if_lost completion again) (record { completes = λ completion s ans. refl; stands = λ d. refl }) g x (lost_way_follows again y) s ans

pub takes_calm : (p : Program) (k : Search) (c : Cursor) (values : List Value) → LevelsIn Calm (takes p k c values)
takes_calm p k c values =
    calm_then (λ s ans. and_then (is_only p k.only k c values s ans) (takes_as p k.reading.lock k.reading k.wait k.retry c.row)) (completes (Found c)) (continues_then (is_only p k.only k c values) (takes_as p k.reading.lock k.reading k.wait k.retry c.row) (is_only_continues p k.only k c values) (takes_as_continues p k.reading.lock k.reading k.wait k.retry c.row)) (calm_then (is_only p k.only k c values) (takes_as p k.reading.lock k.reading k.wait k.retry c.row) (is_only_continues p k.only k c values) (is_only_calm p k.only k c values) (takes_as_calm p k.reading.lock k.reading k.wait k.retry c.row)) (calm_goes (Found c) (λ s. (refl, refl)))

pub next_calm : (p : Program) (o : Option FoundRow) (k : Search) (again : Cursor → Continuation) → ((c : Cursor) → LevelsIn Calm (again c)) → LevelsIn Calm (next_as p o k again)
next_calm p (Some x) k again y =
    calm_first (next_shown k x) (tests p k.reading.test k.reading.buffer k.retry (λ s ans. or_again (takes p k x.cursor x.values s ans) (again x.cursor)) (again x.cursor)) (λ s. refl) (tests_calm p k.reading.test k.reading.buffer k.retry (λ s ans. or_again (takes p k x.cursor x.values s ans) (again x.cursor)) (again x.cursor)
    (or_again_calm (takes p k x.cursor x.values) (again x.cursor) (takes_continues p k x.cursor x.values) (takes_calm p k x.cursor x.values) (y x.cursor)) (y x.cursor))
next_calm p None k again y = ran_calm (with_spot k.reading.buffer None) NotFound (λ s. refl) (λ s. (refl, refl))

pub looks_calm : (p : Program) (n : ℕ) (k : Search) (from : Option Cursor) → LevelsIn Calm (looks p n k from)
looks_calm p zero k from s ans = calm_goes _ (λ s. tt) s ans
looks_calm p (suc n) k from s ans =
    calm_asks (op.Next (table_of k.reading.buffer s) k.reading.index k.prefix from k.forward) (was_next p k (λ c. looks p n k (Some c))) (record { can = λ n. tt; after = λ n. refl }) (λ a. next_calm p (found_in a) k (λ c. looks p n k (Some c)) (λ c. looks_calm p n k (Some c))) s ans

pub searches_calm : (p : Program) (r : Reading) (forward only wait retry : Bool) (from : Option Cursor) → LevelsIn Calm (searches p r forward only wait retry from)
searches_calm p r forward only wait retry from s ans =
    given_all_calm (values_now p (map (λ x. x.value) r.bracket) retry s)
    (λ values s ans. looks p s.units (record { reading = r; forward = forward; only = only; wait = wait; retry = retry; prefix = bracket_of r.bracket values }) from s ans)
    (λ values s ans. looks_calm p s.units (record { reading = r; forward = forward; only = only; wait = wait; retry = retry; prefix = bracket_of r.bracket values }) from s ans) s ans

pub fetches_next_calm : (p : Program) (f : Fetch) (retry : Bool) (from : Option Cursor) → LevelsIn Calm (fetches_next p f retry from)
fetches_next_calm p f retry from = searches_calm p f.reading (is_forward f.word) false true retry from

pub fetches_own_calm : (p : Program) (f : Fetch) (retry : Bool) (own : Cursor) → LevelsIn Calm (fetches_own p f retry own)
fetches_own_calm p f retry own =
    or_again_calm (λ s ans. and_then (takes_again_as p f.reading.lock f.reading retry own.row s ans) (completes (Found own))) (fetches_next p f retry (Some own)) (continues_then (takes_again_as p f.reading.lock f.reading retry own.row) (completes (Found own)) (takes_again_continues p f.reading.lock f.reading retry own.row) (continues_goes (Found own))) (calm_then (takes_again_as p f.reading.lock f.reading retry own.row) (completes (Found own)) (takes_again_continues p f.reading.lock f.reading retry own.row) (takes_again_calm p f.reading.lock f.reading retry own.row) (calm_goes (Found own) (λ s. (refl, refl)))) (fetches_next_calm p f retry (Some own))

pub fetches_from_calm : (p : Program) (again : Bool) (f : Fetch) (retry : Bool) (own : Option Cursor) → LevelsIn Calm (fetches_from p again f retry own)
fetches_from_calm p true f retry None = fetches_next_calm p f retry None
fetches_from_calm p false f retry None = fetches_next_calm p f retry None
fetches_from_calm p true f retry (Some own) = fetches_own_calm p f retry own
fetches_from_calm p false f retry (Some own) = calm_where (is_each f.word) (fetches_next p f retry (Some own)) (completes NotFound) (fetches_next_calm p f retry (Some own)) (calm_goes NotFound (λ s. (refl, refl)))

-- a reading begins: LOCKED becomes no, and the old record is released
pub unlocked_calm : (p : Program) (b : ℕ) (next : Continuation) → LevelsIn Calm next → LevelsIn Calm (λ s ans. and_then (releases p b (marked_locked b false s) ans) next)
unlocked_calm p b next x = calm_then (update_then (marked_locked b false) (releases p b)) next (continues_first (marked_locked b false) (releases p b) (λ s. record { units = refl; written = refl }) (releases_continues p b)) (calm_first (marked_locked b false) (releases p b) (λ s. refl) (releases_calm p b)) x

pub fetches_calm : (p : Program) (f : Fetch) (t : Turn) (retry : Bool) → LevelsIn Calm (fetches p f t retry)
fetches_calm p f t retry = unlocked_calm p f.reading.buffer (fetches_from p t.retry f retry t.own) (fetches_from_calm p t.retry f retry t.own)

pub finds_none_calm : (b : ℕ) → LevelsIn Calm (finds_none b)
finds_none_calm b = empties_calm b (Faults (Some (NoRecordFound b))) (λ s. (refl, refl))

pub current_read_calm : (o : Option (List Value)) (r : Reading) (row : RowId) (made : Option ℕ) → LevelsIn Calm (current_read o r row made)
current_read_calm (Some values) r row made = ran_calm (holding r.buffer (Record row values (held_as r.lock) made)) Normal (λ s. refl) (λ s. (refl, refl))
current_read_calm None r row made = finds_none_calm r.buffer

pub gets_current_calm : (r : Reading) (row : RowId) (made : Option ℕ) → LevelsIn Calm (gets_current r row made)
gets_current_calm r row made s ans = calm_asks (op.Get (table_of r.buffer s) row) (was_current r row made) (record { can = λ n. tt; after = λ n. refl }) (λ a. current_read_calm (values_in a) r row made) s ans

pub current_granted_calm : (g : Grant) (r : Reading) (row : RowId) (made : Option ℕ) → LevelsIn Calm (current_granted_as g r row made)
current_granted_calm IsGranted r row made = gets_current_calm r row made
current_granted_calm IsBusy r row made = busy_calm r.buffer
current_granted_calm IsGone r row made = finds_none_calm r.buffer

pub locks_current_calm : (r : Reading) (wait : Bool) (row : RowId) (made : Option ℕ) → LevelsIn Calm (locks_current r wait row made)
locks_current_calm r wait row made s ans = calm_asks (op.Lock (table_of r.buffer s) row (is_exclusive r.lock) wait) (current_granted r row made) (record { can = λ n. tt; after = λ n. refl }) (λ a. current_granted_calm (grant_in a) r row made) s ans

pub current_as_calm : (w : LockWanted) (r : Reading) (wait : Bool) (row : RowId) (made : Option ℕ) → LevelsIn Calm (current_as w r wait row made)
current_as_calm wanted.NoLock r wait row made = gets_current_calm r row made
current_as_calm wanted.Share r wait row made = locks_current_calm r wait row made
current_as_calm wanted.Exclusive r wait row made = locks_current_calm r wait row made

pub current_in_calm : (c : Content) (r : Reading) (wait : Bool) → LevelsIn Calm (current_in c r wait)
current_in_calm Empty r wait = calm_goes (Faults (Some (NoRecordIn r.buffer))) (λ s. (refl, refl))
current_in_calm (Pending values since made) r wait = ran_calm (marked_locked r.buffer false) Normal (λ s. refl) (λ s. (refl, refl))
current_in_calm (Record row values held made) r wait = calm_first (marked_locked r.buffer false) (current_as r.lock r wait row made) (λ s. refl) (current_as_calm r.lock r wait row made)

pub finds_current_calm : (r : Reading) (wait : Bool) → LevelsIn Calm (finds_current r wait)
finds_current_calm r wait s ans = current_in_calm (content_of r.buffer s) r wait s ans

-- ---- changes

stored_value_over : (v : Evaluated) (set : Value → State → State) → ((v : Value) (s : State) → (set v s).level ≡ s.level) → (s : State) → Calm s.level s.level (stored_value v set s).completion (stored_value v set s).state
stored_value_over (Gives v) set l s = (sym (l v s), l v s)
stored_value_over (Fails c) set l s = (refl, refl)

stored_in_over : (c : Content) (b f : ℕ) (k : Kind) (v : Value) (s : State) → Calm s.level s.level (stored_in c b f k v s).completion (stored_in c b f k v s).state
stored_in_over Empty b f k v s = (refl, refl)
stored_in_over (Record row values held made) b f k v s = stored_value_over (fit k v) (λ v. with_field f v b (Record row values held made)) (λ v s. refl) s
stored_in_over (Pending values since made) b f k v s = stored_value_over (fit k v) (λ v. with_field f v b (Pending values since made)) (λ v s. refl) s

stored_over : (t : Target) (v : Value) (s : State) → Calm s.level s.level (stored t v s).completion (stored t v s).state
stored_over (target.Variable x) v s = stored_value_over (fit x.kind v) (assigned x) (λ v s. refl) s
stored_over (target.Field b f k) v s = stored_in_over (content_of b s) b f k v s

stored_if_over : (v : Evaluated) (t : Target) (s : State) → Calm s.level s.level (stored_if v t s).completion (stored_if v t s).state
stored_if_over (Gives v) t s = stored_over t v s
stored_if_over (Fails c) t s = (refl, refl)

pub counted_calm : (o : Option ℤ) (t : Target) → LevelsIn Calm (counted_as o t)
counted_calm (Some n) t = calm_done (stored t (Int64 n)) (stored_over t (Int64 n))
counted_calm None t = calm_goes (Faults (Some OutOfRange)) (λ s. (refl, refl))

pub assigns_one_calm : (p : Program) (t : Target) (x : Right) (retry : Bool) → LevelsIn Calm (assigns_one p t x retry)
assigns_one_calm p t (ValueOf e) retry =
    calm_done (λ s. stored_if (value_now p e retry s) t s) (λ s. stored_if_over (value_now p e retry s) t s)
assigns_one_calm p t (NextOf q) retry = calm_asks (op.NextValue q) (was_counted t) (record { can = λ n. tt; after = λ n. refl }) (λ a. counted_calm (number_in a) t)
assigns_one_calm p t (CurrentOf q) retry = calm_asks (op.CurrentValue q) (was_counted t) (record { can = λ n. tt; after = λ n. refl }) (λ a. counted_calm (number_in a) t)
assigns_one_calm p t (Given v) retry = calm_done (stored t v) (stored_over t v)

pub assigns_each_calm : (p : Program) (xs : List Assignment) (retry : Bool) → LevelsIn Calm (assigns_each p xs retry)
assigns_each_calm p [] retry = calm_goes Normal (λ s. (refl, refl))
assigns_each_calm p (x ∷ xs) retry = calm_then (assigns_one p x.target x.right retry) (assigns_each p xs retry) (assigns_one_continues p x.target x.right retry) (assigns_one_calm p x.target x.right retry) (assigns_each_calm p xs retry)

all_as_before_level : (old : State) (bs : List ℕ) (s : State) → (all_as_before old bs s).level ≡ s.level
all_as_before_level old [] s = refl
all_as_before_level old (b ∷ bs) s = all_as_before_level old bs (holding b (as_before (content_of b old) (content_of b s)) s)

way_as_before_follows : (old : State) (bs : List ℕ) (k : ℕ) → FollowsTo (Calm k) (Calm k) (λ completion. as_before_on_fault completion old bs)
way_as_before_follows old bs k n (Faults c) s o ans = calm_at k n (update_then (all_as_before old bs) (completes (Faults c))) (ran_calm (all_as_before old bs) (Faults c) (all_as_before_level old bs) (λ s. (refl, refl))) s o.0 o.1 ans
way_as_before_follows old bs k n completion s o ans = calm_same k n completion s o ans

pub or_as_before_calm : (old : State) (bs : List ℕ) (go : Continuation) → Continues go → LevelsIn Calm go → (s : State) (ans : List Answer) → Legal (Calm s.level) s.level (λ ans. or_as_before old bs (go s ans)) ans
or_as_before_calm old bs go g x = calm_handled go (or_as_before old bs) (λ completion. as_before_on_fault completion old bs) (record { completes = λ completion s ans. refl; stands = λ d. refl }) g x (way_as_before_follows old bs)

pub was_upgraded_calm : (b : ℕ) (row : RowId) (values : List Value) (made : Option ℕ) (a : Answer) → LevelsIn Calm (was_upgraded b row values made a)
was_upgraded_calm b row values made a =
    calm_where (is_gone a) (has_fault (RecordIsGone b)) (update_then (holding b (Record row values Exclusive made)) (completes Normal)) (calm_goes (Faults (Some (RecordIsGone b))) (λ s. (refl, refl))) (ran_calm (holding b (Record row values Exclusive made)) Normal (λ s. refl) (λ s. (refl, refl)))

pub upgrades_calm : (held : Held) (t b : ℕ) (row : RowId) (values : List Value) (made : Option ℕ) → LevelsIn Calm (upgrades held t b row values made)
upgrades_calm NoLock t b row values made = calm_goes (Faults (Some (IsReadNoLock b))) (λ s. (refl, refl))
upgrades_calm Share t b row values made = calm_asks (op.Lock t row true true) (was_upgraded b row values made) (record { can = λ n. tt; after = λ n. refl }) (was_upgraded_calm b row values made)
upgrades_calm Exclusive t b row values made = calm_goes Normal (λ s. (refl, refl))

pub locks_content_calm : (c : Content) (t b : ℕ) → LevelsIn Calm (locks_content c t b)
locks_content_calm Empty t b = calm_goes Normal (λ s. (refl, refl))
locks_content_calm (Pending values since made) t b = calm_goes Normal (λ s. (refl, refl))
locks_content_calm (Record row values held made) t b = upgrades_calm held t b row values made

pub locks_all_calm : (bs : List ℕ) → LevelsIn Calm (locks_all bs)
locks_all_calm [] = calm_goes Normal (λ s. (refl, refl))
locks_all_calm (b ∷ bs) =
    calm_then (λ s ans. locks_content (content_of b s) (table_of b s) b s ans) (locks_all bs) (λ s ans. locks_content_continues (content_of b s) (table_of b s) b s ans) (λ s ans. locks_content_calm (content_of b s) (table_of b s) b s ans) (locks_all_calm bs)

pub settles_content_calm : (p : Program) (c : Content) (t b : ℕ) → LevelsIn Calm (settles_content p c t b)
settles_content_calm p Empty t b = calm_goes Normal (λ s. (refl, refl))
settles_content_calm p (Pending values since made) t b =
    calm_where (all_begun (table_at p t).indexes since) (enters_in p (own b)) (completes Normal) (enters_in_calm p (own b)) (calm_goes Normal (λ s. (refl, refl)))
settles_content_calm p (Record row values held made) t b =
    storable_calm p t values (asks (op.Put t row values) (was_put b t)) (calm_asks (op.Put t row values) (was_put b t) (record { can = λ n. tt; after = λ n. refl }) (λ a. refused_calm (refusal_in b t a)))

pub settles_calm : (p : Program) (b : ℕ) → LevelsIn Calm (settles p b)
settles_calm p b s ans = settles_content_calm p (content_of b s) (table_of b s) b s ans

pub settles_all_calm : (p : Program) (old : State) (bs : List ℕ) → LevelsIn Calm (settles_all p old bs)
settles_all_calm p old [] = calm_goes Normal (λ s. (refl, refl))
settles_all_calm p old (b ∷ bs) =
    calm_then (λ s ans. or_as_before old (b ∷ bs) (settles p b s ans)) (settles_all p old bs) (or_as_before_continues old (b ∷ bs) (settles p b) (settles_continues p b)) (or_as_before_calm old (b ∷ bs) (settles p b) (settles_continues p b) (settles_calm p b)) (settles_all_calm p old bs)

pub assigns_calm : (p : Program) (xs : List Assignment) (retry : Bool) → LevelsIn Calm (assigns p xs retry)
assigns_calm p xs retry s ans =
    calm_then (λ t ans. or_as_before s (buffers_in xs) (and_then (assigns_each p xs retry t ans) (locks_all (buffers_in xs)))) (settles_all p s (buffers_in xs)) (or_as_before_continues s (buffers_in xs) (λ t ans. and_then (assigns_each p xs retry t ans) (locks_all (buffers_in xs)))
    (continues_then (assigns_each p xs retry) (locks_all (buffers_in xs)) (assigns_each_continues p xs retry) (locks_all_continues (buffers_in xs)))) (or_as_before_calm s (buffers_in xs) (λ t ans. and_then (assigns_each p xs retry t ans) (locks_all (buffers_in xs))) (continues_then (assigns_each p xs retry) (locks_all (buffers_in xs)) (assigns_each_continues p xs retry) (locks_all_continues (buffers_in xs))) (calm_then (assigns_each p xs retry) (locks_all (buffers_in xs)) (assigns_each_continues p xs retry) (assigns_each_calm p xs retry) (locks_all_calm (buffers_in xs)))) (settles_all_calm p s (buffers_in xs)) s ans

pub creates_calm : (p : Program) (b : ℕ) → LevelsIn Calm (creates p b)
creates_calm p b = calm_then (releases p b) (update_then (begun p b) (completes Normal)) (releases_continues p b) (releases_calm p b) (ran_calm (begun p b) Normal (λ s. refl) (λ s. (refl, refl)))

pub was_deleted_calm : (b : ℕ) (a : Answer) → LevelsIn Calm (was_deleted b a)
was_deleted_calm b a = calm_where (is_gone a) (has_fault (RecordIsGone b)) (update_then (emptied b) (completes Normal)) (calm_goes (Faults (Some (RecordIsGone b))) (λ s. (refl, refl))) (empties_calm b Normal (λ s. (refl, refl)))

pub deletes_content_calm : (c : Content) (t b : ℕ) → LevelsIn Calm (deletes_content c t b)
deletes_content_calm Empty t b = calm_goes (Faults (Some (NoRecordIn b))) (λ s. (refl, refl))
deletes_content_calm (Pending values since made) t b = empties_calm b Normal (λ s. (refl, refl))
deletes_content_calm (Record row values held made) t b =
    calm_then (upgrades held t b row values made) (asks (op.Delete t row) (was_deleted b)) (upgrades_continues held t b row values made) (upgrades_calm held t b row values made) (calm_asks (op.Delete t row) (was_deleted b) (record { can = λ n. tt; after = λ n. refl }) (was_deleted_calm b))

pub deletes_calm : (b : ℕ) → LevelsIn Calm (deletes b)
deletes_calm b s ans = deletes_content_calm (content_of b s) (table_of b s) b s ans
