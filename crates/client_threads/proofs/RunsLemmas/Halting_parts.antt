-- Parts of a run halt: releases, reads, FIND.
use Rattle.std.proofs.Common.{◌≡◌, refl, ℕ, zero, suc, ◌==◌, nat_lt, List, [], ◌∷◌, ◌++◌, map, length, Bool, true, false, not, ◌&&◌, Option, Some, None}
use Rattle.abl_base.specs.declared.limits.TheConstants.{MAX_ROW_BYTES}
use Rattle.abl_base.specs.declared.row.RowId.{RowId}
use Rattle.database_protocol.specs.declared.row_order.Cursor.{Cursor}
use Rattle.abl_base.specs.declared.value.Value.{Value}
use Rattle.abl_values.specs.Rows.{bytes_of_row}
use Rattle.database_protocol.specs.declared.operation.Op.TheVariants as op
use Rattle.database_protocol.specs.declared.answer.Answer.{Answer}
use Rattle.bound_tree.specs.declared.block.LockWanted.{LockWanted}
use Rattle.bound_tree.specs.declared.block.LockWanted.TheVariants as wanted
use Rattle.bound_tree.specs.declared.statement.FindWord.{FindWord}
use Rattle.bound_tree.specs.declared.statement.FindWord.TheVariants as find
use Rattle.bound_tree.specs.Tree.{Expr, Reading, Fetch}
use Rattle.expression_meaning.specs.Operators.{holds}
use Rattle.block_meaning.specs.Program.{Program, table_at}
use Rattle.block_meaning.specs.Lines.{Complaint, IsMandatory, RecordTooLong, NoRecordFound, MoreThanOne, IsLocked, NoRecordIn}
use Rattle.block_meaning.specs.State.{State, Content, Empty, Record, Pending, Held, NoLock, Exclusive, Turn, Completion, Normal, Faults, EndKeys, Found, Lost, NotFound, Continuation, completes, if_else, update_then, asks, and_then, has_fault, nothing_passed}
use Rattle.block_meaning.specs.Frames.{content_of, table_of, holding, emptied, all_emptied, marked_locked, with_spot}
use Rattle.block_meaning.specs.Values.{Evaluated, Gives, Fails, EvaluatedAll, GivesAll, FailsAll, Text, IsText, HasFault, value_now, values_now, given, given_all, given_text}
use Rattle.block_meaning.specs.Views.{FoundRow, found_in, values_in, row_in, Grant, IsGranted, IsBusy, IsGone, grant_in, refusal_in}
use Rattle.block_meaning.specs.Buffers.{missing_field, unless_missing, storable, refused_by, refused, Place, buffer_in, holding_in, own, inserted_as, was_inserted, enters_content, enters_in, enters_places, keep_of, is_row_in, was_dropped, drops_if, drops, releases, releases_all, left_if, left, was_left, leaves, got_content, was_got, made_later, updates_content, updates, is_left_out, updates_places}
use Rattle.block_meaning.specs.Reads.{held_as, is_exclusive, shows, judged, tests, read_as, was_read, reads, busy, granted_as, was_granted, locks, takes_as, takes_again_as, Search, second_as, was_second, looks_for_second, is_only, if_lost, or_again, takes, next_shown, next_as, was_next, looks, searches, bracket_of, is_each, is_forward, fetches_next, fetches_own, fetches_from, fetches, cursor_of, finds_as, lacks, found_completion, found, finds, finds_none, current_read, was_current, gets_current, current_granted_as, current_granted, locks_current, current_as, current_in, finds_current}
use Rattle.block_meaning.proofs.Continues.{Keeps}
use Rattle.client_threads.proofs.RunsLemmas.Halting.{Halting, Fits, halts_goes, halts_where, halts_first, halts_asks, halts_handled, halts_then}

-- ---- changes of the state

-- the change computes to a state with the same units and the same pieces
abbrev at_once : (change : State → State) (s : State) → (change s).units ≡ s.units → (change s).written ≡ s.written → Keeps change s
at_once change s u w = record { units = u; written = w }

pub all_emptied_keeps : (bs : List ℕ) (s : State) → Keeps (all_emptied bs) s
all_emptied_keeps [] s = record { units = refl; written = refl }
all_emptied_keeps (b ∷ bs) s = record { units = (all_emptied_keeps bs (emptied b s)).units; written = (all_emptied_keeps bs (emptied b s)).written }

pub left_if_keeps : (b : Bool) (s : State) → Keeps (left_if b) s
left_if_keeps true s = record { units = refl; written = refl }
left_if_keeps false s = record { units = refl; written = refl }

-- a change and the end of the part
pub then_ran : (change : State → State) (completion : Completion) → ((s : State) → Keeps change s) → Halting (update_then change (completes completion))
then_ran change completion k = halts_first change (completes completion) k (halts_goes completion)

-- ---- values

pub given_halts : (v : Evaluated) (go : Value → Continuation) → ((v : Value) → Halting (go v)) → Halting (given v go)
given_halts (Gives v) go x s ans more = x v s ans more
given_halts (Fails c) go x s ans more = halts_goes (Faults (Some c)) s ans more

pub given_all_halts : (v : EvaluatedAll) (go : List Value → Continuation) → ((vs : List Value) → Halting (go vs)) → Halting (given_all v go)
given_all_halts (GivesAll vs) go x s ans more = x vs s ans more
given_all_halts (FailsAll c) go x s ans more = halts_goes (Faults (Some c)) s ans more

pub given_text_halts : (t : Text) (go : List ℕ → Continuation) → ((bytes : List ℕ) → Halting (go bytes)) → Halting (given_text t go)
given_text_halts (IsText bytes) go x s ans more = x bytes s ans more
given_text_halts (HasFault c) go x s ans more = halts_goes (Faults (Some c)) s ans more

-- ---- buffers

pub unless_missing_halts : (o : Option ℕ) (t : ℕ) (go : Continuation) → Halting go → Halting (unless_missing o t go)
unless_missing_halts None t go x s ans more = x s ans more
unless_missing_halts (Some f) t go x s ans more = halts_goes (Faults (Some (IsMandatory t f))) s ans more

pub storable_halts : (p : Program) (t : ℕ) (vs : List Value) (go : Continuation) → Halting go → Halting (storable p t vs go)
storable_halts p t vs go x =
    unless_missing_halts (missing_field 0 (table_at p t).fields vs) t (if_else (nat_lt MAX_ROW_BYTES (length (bytes_of_row vs))) (has_fault (RecordTooLong t)) go)
    (halts_where (nat_lt MAX_ROW_BYTES (length (bytes_of_row vs))) (has_fault (RecordTooLong t)) go (halts_goes (Faults (Some (RecordTooLong t)))) x)

pub refused_halts : (o : Option Complaint) → Halting (refused_by o)
refused_halts (Some c) = halts_goes (Faults (Some c))
refused_halts None = halts_goes Normal

pub inserted_halts : (o : Option RowId) (at : Place) (vs : List Value) (made : ℕ) (other : Continuation) → Halting other → Halting (inserted_as o at vs made other)
inserted_halts (Some row) at vs made other x = then_ran (holding_in at (Record row vs Exclusive (Some made))) Normal (λ s. record { units = refl; written = refl })
inserted_halts None at vs made other x = x

pub enters_content_halts : (p : Program) (at : Place) (t : ℕ) (c : Content) → Halting (enters_content p at t c)
enters_content_halts p at t Empty = halts_goes Normal
enters_content_halts p at t (Record row vs held made) = halts_goes Normal
enters_content_halts p at t (Pending vs since made) =
    storable_halts p t vs (asks (op.Insert t vs) (was_inserted at t vs made))
    (halts_asks (op.Insert t vs) tt (was_inserted at t vs made) (λ a. inserted_halts (row_in a) at vs made (refused at.number t a) (refused_halts (refusal_in at.number t a))))

pub enters_in_halts : (p : Program) (at : Place) → Halting (enters_in p at)
enters_in_halts p at s ans more = enters_content_halts p at (buffer_in at s).table (buffer_in at s).content s ans more

pub enters_places_halts : (p : Program) (places : List Place) → Halting (enters_places p places)
enters_places_halts p [] = halts_goes Normal
enters_places_halts p (at ∷ more) = halts_then (enters_in p at) (enters_places p more) (enters_in_halts p at) (enters_places_halts p more)

pub empties_halts : (b : ℕ) (completion : Completion) → Halting (update_then (emptied b) (completes completion))
empties_halts b completion = then_ran (emptied b) completion (λ s. record { units = refl; written = refl })

pub drops_if_halts : (o : Option RowId) (b : ℕ) → Halting (drops_if o b)
drops_if_halts None b s ans more = empties_halts b Normal s ans more
drops_if_halts (Some row) b s ans more =
    halts_where ((s.level == 0) && not (is_row_in row (keep_of (b ∷ []) s))) (update_then (emptied b) (asks (op.Drop row) was_dropped)) (update_then (emptied b) (completes Normal))
    (halts_first (emptied b) (asks (op.Drop row) was_dropped) (λ s. record { units = refl; written = refl }) (halts_asks (op.Drop row) tt was_dropped (λ a. halts_goes Normal)))
    (empties_halts b Normal) s ans more

pub drops_halts : (b : ℕ) → Halting (drops b)
drops_halts b s ans more = drops_if_halts _ b s ans more

pub releases_halts : (p : Program) (b : ℕ) → Halting (releases p b)
releases_halts p b = halts_then (enters_in p (own b)) (drops b) (enters_in_halts p (own b)) (drops_halts b)

pub releases_all_halts : (p : Program) (bs : List ℕ) → Halting (releases_all p bs)
releases_all_halts p [] = halts_goes Normal
releases_all_halts p (b ∷ bs) = halts_then (releases p b) (releases_all p bs) (releases_halts p b) (releases_all_halts p bs)

pub left_keeps : (s : State) → Keeps left s
left_keeps s = record { units = (left_if_keeps (s.level == 1) s).units; written = (left_if_keeps (s.level == 1) s).written }

pub leaves_halts : (but : List ℕ) → Halting (leaves but)
leaves_halts but s ans more = halts_asks (op.Leave (keep_of but s)) tt was_left (λ a. then_ran left Normal left_keeps) s ans more

pub updates_content_halts : (mark : ℕ) (at : Place) (t : ℕ) (c : Content) → Halting (updates_content mark at t c)
updates_content_halts mark at t Empty = halts_goes Normal
updates_content_halts mark at t (Pending values since made) =
    halts_where (nat_lt mark made) (update_then (holding_in at Empty) (completes Normal)) (completes Normal) (then_ran (holding_in at Empty) Normal (λ s. record { units = refl; written = refl })) (halts_goes Normal)
updates_content_halts mark at t (Record row values held made) =
    halts_where (made_later mark made) (update_then (holding_in at Empty) (completes Normal)) (asks (op.Get t row) (was_got at row held made))
    (then_ran (holding_in at Empty) Normal (λ s. record { units = refl; written = refl }))
    (halts_asks (op.Get t row) tt (was_got at row held made) (λ a. then_ran (holding_in at (got_content (values_in a) row held made)) Normal (λ s. record { units = refl; written = refl })))

pub updates_halts : (mark : ℕ) (at : Place) → Halting (updates mark at)
updates_halts mark at s ans more = updates_content_halts mark at (buffer_in at s).table (buffer_in at s).content s ans more

pub updates_places_halts : (mark : ℕ) (but : List ℕ) (places : List Place) → Halting (updates_places mark but places)
updates_places_halts mark but [] = halts_goes Normal
updates_places_halts mark but (at ∷ more) =
    halts_then (if_else (is_left_out but at) (completes Normal) (updates mark at)) (updates_places mark but more)
    (halts_where (is_left_out but at) (completes Normal) (updates mark at) (halts_goes Normal) (updates_halts mark at)) (updates_places_halts mark but more)

-- ---- reading

pub judged_halts : (v : Evaluated) (b : ℕ) (good bad : Continuation) → Halting good → Halting bad → Halting (judged v b good bad)
judged_halts (Gives v) b good bad x y = halts_where (holds v) good (update_then (emptied b) bad) x (halts_first (emptied b) bad (λ s. record { units = refl; written = refl }) y)
judged_halts (Fails c) b good bad x y = empties_halts b (Faults (Some c))

pub tests_halts : (p : Program) (e : Option Expr) (b : ℕ) (retry : Bool) (good bad : Continuation) → Halting good → Halting bad → Halting (tests p e b retry good bad)
tests_halts p None b retry good bad x y s ans more = x s ans more
tests_halts p (Some e) b retry good bad x y s ans more = judged_halts (value_now p e retry s) b good bad x y s ans more

pub read_as_halts : (p : Program) (o : Option (List Value)) (r : Reading) (retry : Bool) (row : RowId) (held : Held) → Halting (read_as p o r retry row held)
read_as_halts p (Some values) r retry row held =
    halts_first (shows r.buffer row values) (tests p r.test r.buffer retry (update_then (holding r.buffer (Record row values held None)) (completes Normal)) (completes Lost)) (λ s. record { units = refl; written = refl })
    (tests_halts p r.test r.buffer retry (update_then (holding r.buffer (Record row values held None)) (completes Normal)) (completes Lost)
    (then_ran (holding r.buffer (Record row values held None)) Normal (λ s. record { units = refl; written = refl })) (halts_goes Lost))
read_as_halts p None r retry row held = empties_halts r.buffer Lost

pub reads_halts : (p : Program) (r : Reading) (retry : Bool) (row : RowId) (held : Held) → Halting (reads p r retry row held)
reads_halts p r retry row held s ans more = halts_asks (op.Get (table_of r.buffer s) row) tt (was_read p r retry row held) (λ a. read_as_halts p (values_in a) r retry row held) s ans more

pub busy_halts : (b : ℕ) → Halting (busy b)
busy_halts b = then_ran (λ s. marked_locked b true (emptied b s)) (Faults (Some (IsLocked b))) (λ s. record { units = refl; written = refl })

pub granted_halts : (p : Program) (g : Grant) (r : Reading) (retry : Bool) (row : RowId) → Halting (granted_as p g r retry row)
granted_halts p IsGranted r retry row = reads_halts p r retry row (held_as r.lock)
granted_halts p IsBusy r retry row = busy_halts r.buffer
granted_halts p IsGone r retry row = empties_halts r.buffer Lost

pub locks_halts : (p : Program) (r : Reading) (wait retry : Bool) (row : RowId) → Halting (locks p r wait retry row)
locks_halts p r wait retry row s ans more = halts_asks (op.Lock (table_of r.buffer s) row (is_exclusive r.lock) wait) tt (was_granted p r retry row) (λ a. granted_halts p (grant_in a) r retry row) s ans more

pub takes_as_halts : (p : Program) (w : LockWanted) (r : Reading) (wait retry : Bool) (row : RowId) → Halting (takes_as p w r wait retry row)
takes_as_halts p wanted.NoLock r wait retry row = halts_goes Normal
takes_as_halts p wanted.Share r wait retry row = locks_halts p r wait retry row
takes_as_halts p wanted.Exclusive r wait retry row = locks_halts p r wait retry row

pub takes_again_halts : (p : Program) (w : LockWanted) (r : Reading) (retry : Bool) (row : RowId) → Halting (takes_again_as p w r retry row)
takes_again_halts p wanted.NoLock r retry row = reads_halts p r retry row NoLock
takes_again_halts p wanted.Share r retry row = locks_halts p r true retry row
takes_again_halts p wanted.Exclusive r retry row = locks_halts p r true retry row

pub second_halts : (p : Program) (o : Option FoundRow) (k : Search) (c : Cursor) (values : List Value) (again : Cursor → Continuation) → ((c : Cursor) → Halting (again c)) → Halting (second_as p o k c values again)
second_halts p (Some x) k c values again y =
    halts_first (shows k.reading.buffer x.cursor.row x.values) (tests p k.reading.test k.reading.buffer k.retry (update_then (emptied k.reading.buffer) (has_fault (MoreThanOne k.reading.buffer))) (again x.cursor)) (λ s. record { units = refl; written = refl })
    (tests_halts p k.reading.test k.reading.buffer k.retry (update_then (emptied k.reading.buffer) (has_fault (MoreThanOne k.reading.buffer))) (again x.cursor)
    (empties_halts k.reading.buffer (Faults (Some (MoreThanOne k.reading.buffer)))) (y x.cursor))
second_halts p None k c values again y = then_ran (shows k.reading.buffer c.row values) Normal (λ s. record { units = refl; written = refl })

pub looks_for_second_halts : (p : Program) (n : ℕ) (k : Search) (c : Cursor) (values : List Value) (from : Cursor) → Halting (looks_for_second p n k c values from)
looks_for_second_halts p zero k c values from s ans more = halts_goes _ s ans more
looks_for_second_halts p (suc n) k c values from s ans more =
    halts_asks (op.Next (table_of k.reading.buffer s) k.reading.index k.prefix (Some from) true) tt (was_second p k c values (looks_for_second p n k c values))
    (λ a. second_halts p (found_in a) k c values (looks_for_second p n k c values) (looks_for_second_halts p n k c values)) s ans more

pub is_only_halts : (p : Program) (only : Bool) (k : Search) (c : Cursor) (values : List Value) → Halting (is_only p only k c values)
is_only_halts p true k c values s ans more = looks_for_second_halts p s.units k c values c s ans more
is_only_halts p false k c values s ans more = halts_goes Normal s ans more

pub if_lost_halts : (completion : Completion) (again : Continuation) → Halting again → Halting (if_lost completion again)
if_lost_halts Lost again x s ans more = x s ans more
if_lost_halts completion again x s ans more = halts_goes completion s ans more

pub or_again_halts : (go again : Continuation) → Halting go → Halting again → (s : State) (ans more : List Answer) → Fits s ans (or_again (go s ans) again) (or_again (go s (ans ++ more)) again) more
or_again_halts go again x y s ans more = halts_handled go (λ r. or_again r again) (λ completion. if_lost completion again) (record { completes = λ completion s ans. refl; stands = λ d. refl; stops = λ e s ans. refl }) x (λ completion. if_lost_halts completion again y) s ans more

pub takes_halts : (p : Program) (k : Search) (c : Cursor) (values : List Value) → Halting (takes p k c values)
takes_halts p k c values =
    halts_then (λ s ans. and_then (is_only p k.only k c values s ans) (takes_as p k.reading.lock k.reading k.wait k.retry c.row)) (completes (Found c))
    (halts_then (is_only p k.only k c values) (takes_as p k.reading.lock k.reading k.wait k.retry c.row) (is_only_halts p k.only k c values) (takes_as_halts p k.reading.lock k.reading k.wait k.retry c.row))
    (halts_goes (Found c))

pub next_halts : (p : Program) (o : Option FoundRow) (k : Search) (again : Cursor → Continuation) → ((c : Cursor) → Halting (again c)) → Halting (next_as p o k again)
next_halts p (Some x) k again y =
    halts_first (next_shown k x) (tests p k.reading.test k.reading.buffer k.retry (λ s ans. or_again (takes p k x.cursor x.values s ans) (again x.cursor)) (again x.cursor)) (λ s. record { units = refl; written = refl })
    (tests_halts p k.reading.test k.reading.buffer k.retry (λ s ans. or_again (takes p k x.cursor x.values s ans) (again x.cursor)) (again x.cursor)
    (or_again_halts (takes p k x.cursor x.values) (again x.cursor) (takes_halts p k x.cursor x.values) (y x.cursor)) (y x.cursor))
next_halts p None k again y = then_ran (with_spot k.reading.buffer None) NotFound (λ s. record { units = refl; written = refl })

pub looks_halts : (p : Program) (n : ℕ) (k : Search) (from : Option Cursor) → Halting (looks p n k from)
looks_halts p zero k from s ans more = halts_goes _ s ans more
looks_halts p (suc n) k from s ans more =
    halts_asks (op.Next (table_of k.reading.buffer s) k.reading.index k.prefix from k.forward) tt (was_next p k (λ c. looks p n k (Some c)))
    (λ a. next_halts p (found_in a) k (λ c. looks p n k (Some c)) (λ c. looks_halts p n k (Some c))) s ans more

pub searches_halts : (p : Program) (r : Reading) (forward only wait retry : Bool) (from : Option Cursor) → Halting (searches p r forward only wait retry from)
searches_halts p r forward only wait retry from s ans more =
    given_all_halts (values_now p (map (λ x. x.value) r.bracket) retry s)
    (λ values s ans. looks p s.units (record { reading = r; forward = forward; only = only; wait = wait; retry = retry; prefix = bracket_of r.bracket values }) from s ans)
    (λ values s ans more. looks_halts p s.units (record { reading = r; forward = forward; only = only; wait = wait; retry = retry; prefix = bracket_of r.bracket values }) from s ans more) s ans more

pub fetches_next_halts : (p : Program) (f : Fetch) (retry : Bool) (from : Option Cursor) → Halting (fetches_next p f retry from)
fetches_next_halts p f retry from = searches_halts p f.reading (is_forward f.word) false true retry from

pub fetches_own_halts : (p : Program) (f : Fetch) (retry : Bool) (own : Cursor) → Halting (fetches_own p f retry own)
fetches_own_halts p f retry own =
    or_again_halts (λ s ans. and_then (takes_again_as p f.reading.lock f.reading retry own.row s ans) (completes (Found own))) (fetches_next p f retry (Some own))
    (halts_then (takes_again_as p f.reading.lock f.reading retry own.row) (completes (Found own)) (takes_again_halts p f.reading.lock f.reading retry own.row) (halts_goes (Found own)))
    (fetches_next_halts p f retry (Some own))

pub fetches_from_halts : (p : Program) (again : Bool) (f : Fetch) (retry : Bool) (own : Option Cursor) → Halting (fetches_from p again f retry own)
fetches_from_halts p true f retry None = fetches_next_halts p f retry None
fetches_from_halts p false f retry None = fetches_next_halts p f retry None
fetches_from_halts p true f retry (Some own) = fetches_own_halts p f retry own
fetches_from_halts p false f retry (Some own) = halts_where (is_each f.word) (fetches_next p f retry (Some own)) (completes NotFound) (fetches_next_halts p f retry (Some own)) (halts_goes NotFound)

-- a reading begins: LOCKED becomes no, and the old record is released
pub unlocked_halts : (p : Program) (b : ℕ) (next : Continuation) → Halting next → Halting (λ s ans. and_then (releases p b (marked_locked b false s) ans) next)
unlocked_halts p b next x = halts_then (update_then (marked_locked b false) (releases p b)) next (halts_first (marked_locked b false) (releases p b) (λ s. record { units = refl; written = refl }) (releases_halts p b)) x

pub fetches_halts : (p : Program) (f : Fetch) (t : Turn) (retry : Bool) → Halting (fetches p f t retry)
fetches_halts p f t retry = unlocked_halts p f.reading.buffer (fetches_from p t.retry f retry t.own) (fetches_from_halts p t.retry f retry t.own)

pub finds_as_halts : (p : Program) (word : FindWord) (r : Reading) (wait retry : Bool) → Halting (finds_as p word r wait retry)
finds_as_halts p find.Only r wait retry s ans more = searches_halts p r true true wait retry None s ans more
finds_as_halts p find.First r wait retry s ans more = searches_halts p r true false wait retry None s ans more
finds_as_halts p find.Last r wait retry s ans more = searches_halts p r false false wait retry None s ans more
finds_as_halts p find.Next r wait retry s ans more = searches_halts p r true false wait retry (cursor_of r s) s ans more
finds_as_halts p find.Previous r wait retry s ans more = searches_halts p r false false wait retry (cursor_of r s) s ans more

pub lacks_halts : (word : FindWord) (b : ℕ) → Halting (lacks word b)
lacks_halts find.Only b = halts_goes (Faults (Some (NoRecordFound b)))
lacks_halts find.First b = halts_goes (Faults (Some (NoRecordFound b)))
lacks_halts find.Last b = halts_goes (Faults (Some (NoRecordFound b)))
lacks_halts find.Next b = halts_goes (EndKeys nothing_passed)
lacks_halts find.Previous b = halts_goes (EndKeys nothing_passed)

pub found_completion_halts : (word : FindWord) (b : ℕ) (completion : Completion) → Halting (found_completion word b completion)
found_completion_halts word b (Found c) s ans more = halts_goes Normal s ans more
found_completion_halts word b NotFound s ans more = lacks_halts word b s ans more
found_completion_halts word b completion s ans more = halts_goes completion s ans more

pub finds_halts : (p : Program) (word : FindWord) (r : Reading) (wait retry : Bool) → Halting (finds p word r wait retry)
finds_halts p word r wait retry =
    halts_handled (λ s ans. and_then (releases p r.buffer (marked_locked r.buffer false s) ans) (finds_as p word r wait retry)) (found word r.buffer) (found_completion word r.buffer) (record { completes = λ completion s ans. refl; stands = λ d. refl; stops = λ e s ans. refl })
    (unlocked_halts p r.buffer (finds_as p word r wait retry) (finds_as_halts p word r wait retry)) (found_completion_halts word r.buffer)

pub finds_none_halts : (b : ℕ) → Halting (finds_none b)
finds_none_halts b = empties_halts b (Faults (Some (NoRecordFound b)))

pub current_read_halts : (o : Option (List Value)) (r : Reading) (row : RowId) (made : Option ℕ) → Halting (current_read o r row made)
current_read_halts (Some values) r row made = then_ran (holding r.buffer (Record row values (held_as r.lock) made)) Normal (λ s. record { units = refl; written = refl })
current_read_halts None r row made = finds_none_halts r.buffer

pub gets_current_halts : (r : Reading) (row : RowId) (made : Option ℕ) → Halting (gets_current r row made)
gets_current_halts r row made s ans more = halts_asks (op.Get (table_of r.buffer s) row) tt (was_current r row made) (λ a. current_read_halts (values_in a) r row made) s ans more

pub current_granted_halts : (g : Grant) (r : Reading) (row : RowId) (made : Option ℕ) → Halting (current_granted_as g r row made)
current_granted_halts IsGranted r row made = gets_current_halts r row made
current_granted_halts IsBusy r row made = busy_halts r.buffer
current_granted_halts IsGone r row made = finds_none_halts r.buffer

pub locks_current_halts : (r : Reading) (wait : Bool) (row : RowId) (made : Option ℕ) → Halting (locks_current r wait row made)
locks_current_halts r wait row made s ans more = halts_asks (op.Lock (table_of r.buffer s) row (is_exclusive r.lock) wait) tt (current_granted r row made) (λ a. current_granted_halts (grant_in a) r row made) s ans more

pub current_as_halts : (w : LockWanted) (r : Reading) (wait : Bool) (row : RowId) (made : Option ℕ) → Halting (current_as w r wait row made)
current_as_halts wanted.NoLock r wait row made = gets_current_halts r row made
current_as_halts wanted.Share r wait row made = locks_current_halts r wait row made
current_as_halts wanted.Exclusive r wait row made = locks_current_halts r wait row made

pub current_in_halts : (c : Content) (r : Reading) (wait : Bool) → Halting (current_in c r wait)
current_in_halts Empty r wait = halts_goes (Faults (Some (NoRecordIn r.buffer)))
current_in_halts (Pending values since made) r wait = then_ran (marked_locked r.buffer false) Normal (λ s. record { units = refl; written = refl })
current_in_halts (Record row values held made) r wait = halts_first (marked_locked r.buffer false) (current_as r.lock r wait row made) (λ s. record { units = refl; written = refl }) (current_as_halts r.lock r wait row made)

pub finds_current_halts : (r : Reading) (wait : Bool) → Halting (finds_current r wait)
finds_current_halts r wait s ans more = current_in_halts (content_of r.buffer s) r wait s ans more
