-- The parts of a run below its blocks continue: buffers and reading.
use Rattle.std.proofs.Common.{◌≡◌, refl, ℕ, zero, suc, ◌==◌, nat_lt, List, [], ◌∷◌, ◌++◌, map, length, Bool, true, false, not, ◌&&◌, Option, Some, None}
use Rattle.abl_base.specs.declared.limits.TheConstants.{MAX_ROW_BYTES}
use Rattle.abl_base.specs.declared.row.RowId.{RowId}
use Rattle.database_protocol.specs.declared.row_order.Cursor.{Cursor}
use Rattle.abl_base.specs.declared.value.Value.{Value}
use Rattle.abl_values.specs.Rows.{bytes_of_row}
use Rattle.database_protocol.specs.declared.operation.Op.TheVariants as op
use Rattle.database_protocol.specs.declared.answer.Answer.{Answer}
use Rattle.bound_tree.specs.declared.block.LockWanted.{LockWanted}
use Rattle.bound_tree.specs.declared.block.LockWanted.TheVariants as wanted
use Rattle.bound_tree.specs.declared.statement.FindWord.{FindWord}
use Rattle.bound_tree.specs.declared.statement.FindWord.TheVariants as find
use Rattle.bound_tree.specs.Tree.{Expr, Reading, Fetch}
use Rattle.expression_meaning.specs.Operators.{holds}
use Rattle.block_meaning.specs.Program.{Program, table_at}
use Rattle.block_meaning.specs.Lines.{Complaint, IsMandatory, RecordTooLong, NoRecordFound, MoreThanOne, IsLocked, NoRecordIn}
use Rattle.block_meaning.specs.State.{State, Content, Empty, Record, Pending, Held, NoLock, Exclusive, Turn, Completion, Normal, Faults, EndKeys, Found, Lost, NotFound, Continuation, completes, if_else, update_then, asks, and_then, has_fault, nothing_passed}
use Rattle.block_meaning.specs.Frames.{content_of, table_of, holding, emptied, all_emptied, marked_locked, with_spot}
use Rattle.block_meaning.specs.Values.{Evaluated, Gives, Fails, EvaluatedAll, GivesAll, FailsAll, Text, IsText, HasFault, value_now, values_now, given, given_all, given_text}
use Rattle.block_meaning.specs.Views.{FoundRow, found_in, values_in, row_in, Grant, IsGranted, IsBusy, IsGone, grant_in, refusal_in}
use Rattle.block_meaning.specs.Buffers.{missing_field, unless_missing, storable, refused_by, refused, Place, buffer_in, holding_in, own, inserted_as, was_inserted, enters_content, enters_in, enters_places, keep_of, is_row_in, was_dropped, drops_if, drops, releases, releases_all, left_if, left, was_left, leaves, got_content, was_got, made_later, updates_content, updates, is_left_out, updates_places}
use Rattle.block_meaning.specs.Reads.{held_as, is_exclusive, shows, judged, tests, read_as, was_read, reads, busy, granted_as, was_granted, locks, takes_as, takes_again_as, Search, second_as, was_second, looks_for_second, is_only, if_lost, or_again, takes, next_shown, next_as, was_next, looks, searches, bracket_of, is_each, is_forward, fetches_next, fetches_own, fetches_from, fetches, cursor_of, finds_as, lacks, found_completion, found, finds, finds_none, current_read, was_current, gets_current, current_granted_as, current_granted, locks_current, current_as, current_in, finds_current}
use Rattle.block_meaning.proofs.Continues.{Continues, Fits, Keeps, continues_goes, continues_where, continues_first, continues_asks, continues_handled, continues_then}

-- ---- changes of the state

-- the change computes to a state with the same units and the same pieces
abbrev at_once : (change : State → State) (s : State) → (change s).units ≡ s.units → (change s).written ≡ s.written → Keeps change s
at_once change s u w = record { units = u; written = w }

pub all_emptied_keeps : (bs : List ℕ) (s : State) → Keeps (all_emptied bs) s
all_emptied_keeps [] s = record { units = refl; written = refl }
all_emptied_keeps (b ∷ bs) s = record { units = (all_emptied_keeps bs (emptied b s)).units; written = (all_emptied_keeps bs (emptied b s)).written }

pub left_if_keeps : (b : Bool) (s : State) → Keeps (left_if b) s
left_if_keeps true s = record { units = refl; written = refl }
left_if_keeps false s = record { units = refl; written = refl }

-- a change and the end of the part
pub then_ran : (change : State → State) (completion : Completion) → ((s : State) → Keeps change s) → Continues (update_then change (completes completion))
then_ran change completion k = continues_first change (completes completion) k (continues_goes completion)

-- ---- values

pub given_continues : (v : Evaluated) (go : Value → Continuation) → ((v : Value) → Continues (go v)) → Continues (given v go)
given_continues (Gives v) go x s ans more = x v s ans more
given_continues (Fails c) go x s ans more = continues_goes (Faults (Some c)) s ans more

pub given_all_continues : (v : EvaluatedAll) (go : List Value → Continuation) → ((vs : List Value) → Continues (go vs)) → Continues (given_all v go)
given_all_continues (GivesAll vs) go x s ans more = x vs s ans more
given_all_continues (FailsAll c) go x s ans more = continues_goes (Faults (Some c)) s ans more

pub given_text_continues : (t : Text) (go : List ℕ → Continuation) → ((bytes : List ℕ) → Continues (go bytes)) → Continues (given_text t go)
given_text_continues (IsText bytes) go x s ans more = x bytes s ans more
given_text_continues (HasFault c) go x s ans more = continues_goes (Faults (Some c)) s ans more

-- ---- buffers

pub unless_missing_continues : (o : Option ℕ) (t : ℕ) (go : Continuation) → Continues go → Continues (unless_missing o t go)
unless_missing_continues None t go x s ans more = x s ans more
unless_missing_continues (Some f) t go x s ans more = continues_goes (Faults (Some (IsMandatory t f))) s ans more

pub storable_continues : (p : Program) (t : ℕ) (vs : List Value) (go : Continuation) → Continues go → Continues (storable p t vs go)
storable_continues p t vs go x =
    unless_missing_continues (missing_field 0 (table_at p t).fields vs) t (if_else (nat_lt MAX_ROW_BYTES (length (bytes_of_row vs))) (has_fault (RecordTooLong t)) go)
    (continues_where (nat_lt MAX_ROW_BYTES (length (bytes_of_row vs))) (has_fault (RecordTooLong t)) go (continues_goes (Faults (Some (RecordTooLong t)))) x)

pub refused_continues : (o : Option Complaint) → Continues (refused_by o)
refused_continues (Some c) = continues_goes (Faults (Some c))
refused_continues None = continues_goes Normal

pub inserted_continues : (o : Option RowId) (at : Place) (vs : List Value) (made : ℕ) (other : Continuation) → Continues other → Continues (inserted_as o at vs made other)
inserted_continues (Some row) at vs made other x = then_ran (holding_in at (Record row vs Exclusive (Some made))) Normal (λ s. record { units = refl; written = refl })
inserted_continues None at vs made other x = x

pub enters_content_continues : (p : Program) (at : Place) (t : ℕ) (c : Content) → Continues (enters_content p at t c)
enters_content_continues p at t Empty = continues_goes Normal
enters_content_continues p at t (Record row vs held made) = continues_goes Normal
enters_content_continues p at t (Pending vs since made) =
    storable_continues p t vs (asks (op.Insert t vs) (was_inserted at t vs made))
    (continues_asks (op.Insert t vs) (was_inserted at t vs made) (λ a. inserted_continues (row_in a) at vs made (refused at.number t a) (refused_continues (refusal_in at.number t a))))

pub enters_in_continues : (p : Program) (at : Place) → Continues (enters_in p at)
enters_in_continues p at s ans more = enters_content_continues p at (buffer_in at s).table (buffer_in at s).content s ans more

pub enters_places_continues : (p : Program) (places : List Place) → Continues (enters_places p places)
enters_places_continues p [] = continues_goes Normal
enters_places_continues p (at ∷ more) = continues_then (enters_in p at) (enters_places p more) (enters_in_continues p at) (enters_places_continues p more)

pub empties_continues : (b : ℕ) (completion : Completion) → Continues (update_then (emptied b) (completes completion))
empties_continues b completion = then_ran (emptied b) completion (λ s. record { units = refl; written = refl })

pub drops_if_continues : (o : Option RowId) (b : ℕ) → Continues (drops_if o b)
drops_if_continues None b s ans more = empties_continues b Normal s ans more
drops_if_continues (Some row) b s ans more =
    continues_where ((s.level == 0) && not (is_row_in row (keep_of (b ∷ []) s))) (update_then (emptied b) (asks (op.Drop row) was_dropped)) (update_then (emptied b) (completes Normal))
    (continues_first (emptied b) (asks (op.Drop row) was_dropped) (λ s. record { units = refl; written = refl }) (continues_asks (op.Drop row) was_dropped (λ a. continues_goes Normal)))
    (empties_continues b Normal) s ans more

pub drops_continues : (b : ℕ) → Continues (drops b)
drops_continues b s ans more = drops_if_continues _ b s ans more

pub releases_continues : (p : Program) (b : ℕ) → Continues (releases p b)
releases_continues p b = continues_then (enters_in p (own b)) (drops b) (enters_in_continues p (own b)) (drops_continues b)

pub releases_all_continues : (p : Program) (bs : List ℕ) → Continues (releases_all p bs)
releases_all_continues p [] = continues_goes Normal
releases_all_continues p (b ∷ bs) = continues_then (releases p b) (releases_all p bs) (releases_continues p b) (releases_all_continues p bs)

pub left_keeps : (s : State) → Keeps left s
left_keeps s = record { units = (left_if_keeps (s.level == 1) s).units; written = (left_if_keeps (s.level == 1) s).written }

pub leaves_continues : (but : List ℕ) → Continues (leaves but)
leaves_continues but s ans more = continues_asks (op.Leave (keep_of but s)) was_left (λ a. then_ran left Normal left_keeps) s ans more

pub updates_content_continues : (mark : ℕ) (at : Place) (t : ℕ) (c : Content) → Continues (updates_content mark at t c)
updates_content_continues mark at t Empty = continues_goes Normal
updates_content_continues mark at t (Pending values since made) =
    continues_where (nat_lt mark made) (update_then (holding_in at Empty) (completes Normal)) (completes Normal) (then_ran (holding_in at Empty) Normal (λ s. record { units = refl; written = refl })) (continues_goes Normal)
updates_content_continues mark at t (Record row values held made) =
    continues_where (made_later mark made) (update_then (holding_in at Empty) (completes Normal)) (asks (op.Get t row) (was_got at row held made))
    (then_ran (holding_in at Empty) Normal (λ s. record { units = refl; written = refl }))
    (continues_asks (op.Get t row) (was_got at row held made) (λ a. then_ran (holding_in at (got_content (values_in a) row held made)) Normal (λ s. record { units = refl; written = refl })))

pub updates_continues : (mark : ℕ) (at : Place) → Continues (updates mark at)
updates_continues mark at s ans more = updates_content_continues mark at (buffer_in at s).table (buffer_in at s).content s ans more

pub updates_places_continues : (mark : ℕ) (but : List ℕ) (places : List Place) → Continues (updates_places mark but places)
updates_places_continues mark but [] = continues_goes Normal
updates_places_continues mark but (at ∷ more) =
    continues_then (if_else (is_left_out but at) (completes Normal) (updates mark at)) (updates_places mark but more)
    (continues_where (is_left_out but at) (completes Normal) (updates mark at) (continues_goes Normal) (updates_continues mark at)) (updates_places_continues mark but more)

-- ---- reading

pub judged_continues : (v : Evaluated) (b : ℕ) (good bad : Continuation) → Continues good → Continues bad → Continues (judged v b good bad)
judged_continues (Gives v) b good bad x y = continues_where (holds v) good (update_then (emptied b) bad) x (continues_first (emptied b) bad (λ s. record { units = refl; written = refl }) y)
judged_continues (Fails c) b good bad x y = empties_continues b (Faults (Some c))

pub tests_continues : (p : Program) (e : Option Expr) (b : ℕ) (retry : Bool) (good bad : Continuation) → Continues good → Continues bad → Continues (tests p e b retry good bad)
tests_continues p None b retry good bad x y s ans more = x s ans more
tests_continues p (Some e) b retry good bad x y s ans more = judged_continues (value_now p e retry s) b good bad x y s ans more

pub read_as_continues : (p : Program) (o : Option (List Value)) (r : Reading) (retry : Bool) (row : RowId) (held : Held) → Continues (read_as p o r retry row held)
read_as_continues p (Some values) r retry row held =
    continues_first (shows r.buffer row values) (tests p r.test r.buffer retry (update_then (holding r.buffer (Record row values held None)) (completes Normal)) (completes Lost)) (λ s. record { units = refl; written = refl })
    (tests_continues p r.test r.buffer retry (update_then (holding r.buffer (Record row values held None)) (completes Normal)) (completes Lost)
    (then_ran (holding r.buffer (Record row values held None)) Normal (λ s. record { units = refl; written = refl })) (continues_goes Lost))
read_as_continues p None r retry row held = empties_continues r.buffer Lost

pub reads_continues : (p : Program) (r : Reading) (retry : Bool) (row : RowId) (held : Held) → Continues (reads p r retry row held)
reads_continues p r retry row held s ans more = continues_asks (op.Get (table_of r.buffer s) row) (was_read p r retry row held) (λ a. read_as_continues p (values_in a) r retry row held) s ans more

pub busy_continues : (b : ℕ) → Continues (busy b)
busy_continues b = then_ran (λ s. marked_locked b true (emptied b s)) (Faults (Some (IsLocked b))) (λ s. record { units = refl; written = refl })

pub granted_continues : (p : Program) (g : Grant) (r : Reading) (retry : Bool) (row : RowId) → Continues (granted_as p g r retry row)
granted_continues p IsGranted r retry row = reads_continues p r retry row (held_as r.lock)
granted_continues p IsBusy r retry row = busy_continues r.buffer
granted_continues p IsGone r retry row = empties_continues r.buffer Lost

pub locks_continues : (p : Program) (r : Reading) (wait retry : Bool) (row : RowId) → Continues (locks p r wait retry row)
locks_continues p r wait retry row s ans more = continues_asks (op.Lock (table_of r.buffer s) row (is_exclusive r.lock) wait) (was_granted p r retry row) (λ a. granted_continues p (grant_in a) r retry row) s ans more

pub takes_as_continues : (p : Program) (w : LockWanted) (r : Reading) (wait retry : Bool) (row : RowId) → Continues (takes_as p w r wait retry row)
takes_as_continues p wanted.NoLock r wait retry row = continues_goes Normal
takes_as_continues p wanted.Share r wait retry row = locks_continues p r wait retry row
takes_as_continues p wanted.Exclusive r wait retry row = locks_continues p r wait retry row

pub takes_again_continues : (p : Program) (w : LockWanted) (r : Reading) (retry : Bool) (row : RowId) → Continues (takes_again_as p w r retry row)
takes_again_continues p wanted.NoLock r retry row = reads_continues p r retry row NoLock
takes_again_continues p wanted.Share r retry row = locks_continues p r true retry row
takes_again_continues p wanted.Exclusive r retry row = locks_continues p r true retry row

pub second_continues : (p : Program) (o : Option FoundRow) (k : Search) (c : Cursor) (values : List Value) (again : Cursor → Continuation) → ((c : Cursor) → Continues (again c)) → Continues (second_as p o k c values again)
second_continues p (Some x) k c values again y =
    continues_first (shows k.reading.buffer x.cursor.row x.values) (tests p k.reading.test k.reading.buffer k.retry (update_then (emptied k.reading.buffer) (has_fault (MoreThanOne k.reading.buffer))) (again x.cursor)) (λ s. record { units = refl; written = refl })
    (tests_continues p k.reading.test k.reading.buffer k.retry (update_then (emptied k.reading.buffer) (has_fault (MoreThanOne k.reading.buffer))) (again x.cursor)
    (empties_continues k.reading.buffer (Faults (Some (MoreThanOne k.reading.buffer)))) (y x.cursor))
second_continues p None k c values again y = then_ran (shows k.reading.buffer c.row values) Normal (λ s. record { units = refl; written = refl })

pub looks_for_second_continues : (p : Program) (n : ℕ) (k : Search) (c : Cursor) (values : List Value) (from : Cursor) → Continues (looks_for_second p n k c values from)
looks_for_second_continues p zero k c values from s ans more = continues_goes _ s ans more
looks_for_second_continues p (suc n) k c values from s ans more =
    continues_asks (op.Next (table_of k.reading.buffer s) k.reading.index k.prefix (Some from) true) (was_second p k c values (looks_for_second p n k c values))
    (λ a. second_continues p (found_in a) k c values (looks_for_second p n k c values) (looks_for_second_continues p n k c values)) s ans more

pub is_only_continues : (p : Program) (only : Bool) (k : Search) (c : Cursor) (values : List Value) → Continues (is_only p only k c values)
is_only_continues p true k c values s ans more = looks_for_second_continues p s.units k c values c s ans more
is_only_continues p false k c values s ans more = continues_goes Normal s ans more

pub if_lost_continues : (completion : Completion) (again : Continuation) → Continues again → Continues (if_lost completion again)
if_lost_continues Lost again x s ans more = x s ans more
if_lost_continues completion again x s ans more = continues_goes completion s ans more

pub or_again_continues : (go again : Continuation) → Continues go → Continues again → (s : State) (ans more : List Answer) → Fits s ans (or_again (go s ans) again) (or_again (go s (ans ++ more)) again) more
or_again_continues go again x y s ans more = continues_handled go (λ r. or_again r again) (λ completion. if_lost completion again) (record { completes = λ completion s ans. refl; stands = λ d. refl }) x (λ completion. if_lost_continues completion again y) s ans more

pub takes_continues : (p : Program) (k : Search) (c : Cursor) (values : List Value) → Continues (takes p k c values)
takes_continues p k c values =
    continues_then (λ s ans. and_then (is_only p k.only k c values s ans) (takes_as p k.reading.lock k.reading k.wait k.retry c.row)) (completes (Found c))
    (continues_then (is_only p k.only k c values) (takes_as p k.reading.lock k.reading k.wait k.retry c.row) (is_only_continues p k.only k c values) (takes_as_continues p k.reading.lock k.reading k.wait k.retry c.row))
    (continues_goes (Found c))

pub next_continues : (p : Program) (o : Option FoundRow) (k : Search) (again : Cursor → Continuation) → ((c : Cursor) → Continues (again c)) → Continues (next_as p o k again)
next_continues p (Some x) k again y =
    continues_first (next_shown k x) (tests p k.reading.test k.reading.buffer k.retry (λ s ans. or_again (takes p k x.cursor x.values s ans) (again x.cursor)) (again x.cursor)) (λ s. record { units = refl; written = refl })
    (tests_continues p k.reading.test k.reading.buffer k.retry (λ s ans. or_again (takes p k x.cursor x.values s ans) (again x.cursor)) (again x.cursor)
    (or_again_continues (takes p k x.cursor x.values) (again x.cursor) (takes_continues p k x.cursor x.values) (y x.cursor)) (y x.cursor))
next_continues p None k again y = then_ran (with_spot k.reading.buffer None) NotFound (λ s. record { units = refl; written = refl })

pub looks_continues : (p : Program) (n : ℕ) (k : Search) (from : Option Cursor) → Continues (looks p n k from)
looks_continues p zero k from s ans more = continues_goes _ s ans more
looks_continues p (suc n) k from s ans more =
    continues_asks (op.Next (table_of k.reading.buffer s) k.reading.index k.prefix from k.forward) (was_next p k (λ c. looks p n k (Some c)))
    (λ a. next_continues p (found_in a) k (λ c. looks p n k (Some c)) (λ c. looks_continues p n k (Some c))) s ans more

pub searches_continues : (p : Program) (r : Reading) (forward only wait retry : Bool) (from : Option Cursor) → Continues (searches p r forward only wait retry from)
searches_continues p r forward only wait retry from s ans more =
    given_all_continues (values_now p (map (λ x. x.value) r.bracket) retry s)
    (λ values s ans. looks p s.units (record { reading = r; forward = forward; only = only; wait = wait; retry = retry; prefix = bracket_of r.bracket values }) from s ans)
    (λ values s ans more. looks_continues p s.units (record { reading = r; forward = forward; only = only; wait = wait; retry = retry; prefix = bracket_of r.bracket values }) from s ans more) s ans more

pub fetches_next_continues : (p : Program) (f : Fetch) (retry : Bool) (from : Option Cursor) → Continues (fetches_next p f retry from)
fetches_next_continues p f retry from = searches_continues p f.reading (is_forward f.word) false true retry from

pub fetches_own_continues : (p : Program) (f : Fetch) (retry : Bool) (own : Cursor) → Continues (fetches_own p f retry own)
fetches_own_continues p f retry own =
    or_again_continues (λ s ans. and_then (takes_again_as p f.reading.lock f.reading retry own.row s ans) (completes (Found own))) (fetches_next p f retry (Some own))
    (continues_then (takes_again_as p f.reading.lock f.reading retry own.row) (completes (Found own)) (takes_again_continues p f.reading.lock f.reading retry own.row) (continues_goes (Found own)))
    (fetches_next_continues p f retry (Some own))

pub fetches_from_continues : (p : Program) (again : Bool) (f : Fetch) (retry : Bool) (own : Option Cursor) → Continues (fetches_from p again f retry own)
fetches_from_continues p true f retry None = fetches_next_continues p f retry None
fetches_from_continues p false f retry None = fetches_next_continues p f retry None
fetches_from_continues p true f retry (Some own) = fetches_own_continues p f retry own
fetches_from_continues p false f retry (Some own) = continues_where (is_each f.word) (fetches_next p f retry (Some own)) (completes NotFound) (fetches_next_continues p f retry (Some own)) (continues_goes NotFound)

-- a reading begins: LOCKED becomes no, and the old record is released
pub unlocked_continues : (p : Program) (b : ℕ) (next : Continuation) → Continues next → Continues (λ s ans. and_then (releases p b (marked_locked b false s) ans) next)
unlocked_continues p b next x = continues_then (update_then (marked_locked b false) (releases p b)) next (continues_first (marked_locked b false) (releases p b) (λ s. record { units = refl; written = refl }) (releases_continues p b)) x

pub fetches_continues : (p : Program) (f : Fetch) (t : Turn) (retry : Bool) → Continues (fetches p f t retry)
fetches_continues p f t retry = unlocked_continues p f.reading.buffer (fetches_from p t.retry f retry t.own) (fetches_from_continues p t.retry f retry t.own)

pub finds_as_continues : (p : Program) (word : FindWord) (r : Reading) (wait retry : Bool) → Continues (finds_as p word r wait retry)
finds_as_continues p find.Only r wait retry s ans more = searches_continues p r true true wait retry None s ans more
finds_as_continues p find.First r wait retry s ans more = searches_continues p r true false wait retry None s ans more
finds_as_continues p find.Last r wait retry s ans more = searches_continues p r false false wait retry None s ans more
finds_as_continues p find.Next r wait retry s ans more = searches_continues p r true false wait retry (cursor_of r s) s ans more
finds_as_continues p find.Previous r wait retry s ans more = searches_continues p r false false wait retry (cursor_of r s) s ans more

pub lacks_continues : (word : FindWord) (b : ℕ) → Continues (lacks word b)
lacks_continues find.Only b = continues_goes (Faults (Some (NoRecordFound b)))
lacks_continues find.First b = continues_goes (Faults (Some (NoRecordFound b)))
lacks_continues find.Last b = continues_goes (Faults (Some (NoRecordFound b)))
lacks_continues find.Next b = continues_goes (EndKeys nothing_passed)
lacks_continues find.Previous b = continues_goes (EndKeys nothing_passed)

pub found_completion_continues : (word : FindWord) (b : ℕ) (completion : Completion) → Continues (found_completion word b completion)
found_completion_continues word b (Found c) s ans more = continues_goes Normal s ans more
found_completion_continues word b NotFound s ans more = lacks_continues word b s ans more
found_completion_continues word b completion s ans more = continues_goes completion s ans more

pub finds_continues : (p : Program) (word : FindWord) (r : Reading) (wait retry : Bool) → Continues (finds p word r wait retry)
finds_continues p word r wait retry =
    continues_handled (λ s ans. and_then (releases p r.buffer (marked_locked r.buffer false s) ans) (finds_as p word r wait retry)) (found word r.buffer) (found_completion word r.buffer) (record { completes = λ completion s ans. refl; stands = λ d. refl })
    (unlocked_continues p r.buffer (finds_as p word r wait retry) (finds_as_continues p word r wait retry)) (found_completion_continues word r.buffer)

pub finds_none_continues : (b : ℕ) → Continues (finds_none b)
finds_none_continues b = empties_continues b (Faults (Some (NoRecordFound b)))

pub current_read_continues : (o : Option (List Value)) (r : Reading) (row : RowId) (made : Option ℕ) → Continues (current_read o r row made)
current_read_continues (Some values) r row made = then_ran (holding r.buffer (Record row values (held_as r.lock) made)) Normal (λ s. record { units = refl; written = refl })
current_read_continues None r row made = finds_none_continues r.buffer

pub gets_current_continues : (r : Reading) (row : RowId) (made : Option ℕ) → Continues (gets_current r row made)
gets_current_continues r row made s ans more = continues_asks (op.Get (table_of r.buffer s) row) (was_current r row made) (λ a. current_read_continues (values_in a) r row made) s ans more

pub current_granted_continues : (g : Grant) (r : Reading) (row : RowId) (made : Option ℕ) → Continues (current_granted_as g r row made)
current_granted_continues IsGranted r row made = gets_current_continues r row made
current_granted_continues IsBusy r row made = busy_continues r.buffer
current_granted_continues IsGone r row made = finds_none_continues r.buffer

pub locks_current_continues : (r : Reading) (wait : Bool) (row : RowId) (made : Option ℕ) → Continues (locks_current r wait row made)
locks_current_continues r wait row made s ans more = continues_asks (op.Lock (table_of r.buffer s) row (is_exclusive r.lock) wait) (current_granted r row made) (λ a. current_granted_continues (grant_in a) r row made) s ans more

pub current_as_continues : (w : LockWanted) (r : Reading) (wait : Bool) (row : RowId) (made : Option ℕ) → Continues (current_as w r wait row made)
current_as_continues wanted.NoLock r wait row made = gets_current_continues r row made
current_as_continues wanted.Share r wait row made = locks_current_continues r wait row made
current_as_continues wanted.Exclusive r wait row made = locks_current_continues r wait row made

pub current_in_continues : (c : Content) (r : Reading) (wait : Bool) → Continues (current_in c r wait)
current_in_continues Empty r wait = continues_goes (Faults (Some (NoRecordIn r.buffer)))
current_in_continues (Pending values since made) r wait = then_ran (marked_locked r.buffer false) Normal (λ s. record { units = refl; written = refl })
current_in_continues (Record row values held made) r wait = continues_first (marked_locked r.buffer false) (current_as r.lock r wait row made) (λ s. record { units = refl; written = refl }) (current_as_continues r.lock r wait row made)

pub finds_current_continues : (r : Reading) (wait : Bool) → Continues (finds_current r wait)
finds_current_continues r wait s ans more = current_in_continues (content_of r.buffer s) r wait s ans more
