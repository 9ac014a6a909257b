-- Assignments, CREATE and DELETE continue.
use Rattle.std.proofs.Common.{◌≡◌, refl, sym, ℕ, List, [], ◌∷◌, ◌++◌, Bool, true, Option, Some, None, arith}
use Rattle.std.specs.Prelude.{ℤ}
use Rattle.abl_base.specs.declared.row.RowId.{RowId}
use Rattle.abl_base.specs.declared.value.Value.{Value}
use Rattle.abl_base.specs.declared.value.Value.TheVariants.{Int64}
use Rattle.abl_base.specs.declared.value.Kind.{Kind}
use Rattle.database_protocol.specs.declared.operation.Op.TheVariants as op
use Rattle.database_protocol.specs.declared.answer.Answer.{Answer}
use Rattle.bound_tree.specs.declared.statement.Target.{Target}
use Rattle.bound_tree.specs.declared.statement.Target.TheVariants as target
use Rattle.bound_tree.specs.Tree.{Right, ValueOf, NextOf, CurrentOf, Given, Assignment}
use Rattle.block_meaning.specs.Program.{Program, table_at}
use Rattle.block_meaning.specs.Lines.{NoRecordIn, OutOfRange, IsReadNoLock, RecordIsGone}
use Rattle.block_meaning.specs.State.{State, Content, Empty, Record, Pending, Held, NoLock, Share, Exclusive, Completion, Normal, Faults, Continuation, completes, update_then, asks, and_then, has_fault}
use Rattle.block_meaning.specs.Frames.{assigned, content_of, table_of, holding, emptied}
use Rattle.block_meaning.specs.Values.{Evaluated, Gives, Fails, value_now, fit}
use Rattle.block_meaning.specs.Views.{number_in, is_gone, refusal_in}
use Rattle.block_meaning.specs.Buffers.{own, enters_in, releases}
use Rattle.block_meaning.specs.Changes.{with_field, stored_value, stored_in, stored, stored_if, counted_as, was_counted, assigns_one, assigns_each, buffers_in, as_before, all_as_before, as_before_on_fault, or_as_before, was_upgraded, upgrades, locks_content, locks_all, all_begun, was_put, settles_content, settles, settles_all, assigns, begun, creates, was_deleted, deletes_content, deletes}
use Rattle.block_meaning.proofs.Continues.{begins_itself, begins_same, Continues, Fits, Keeps, Stays, continues_goes, continues_where, continues_asks, continues_handled, continues_then, continues_done}
use Rattle.block_meaning.proofs.Parts.{then_ran, storable_continues, refused_continues, enters_in_continues, empties_continues, releases_continues}

-- ---- changes

pub stored_value_stays : (v : Evaluated) (set : Value → State → State) → ((v : Value) (s : State) → (set v s).units ≡ s.units) → ((v : Value) (s : State) → (set v s).written ≡ s.written) → (s : State) → Stays (stored_value v set) s
stored_value_stays (Gives v) set u w s = record { units = (let e = u v s in omega arith); written = begins_same s.written (set v s).written (sym (w v s)) }
stored_value_stays (Fails c) set u w s = record { units = omega arith; written = begins_itself s.written }

pub stored_in_stays : (c : Content) (b f : ℕ) (k : Kind) (v : Value) (s : State) → Stays (stored_in c b f k v) s
stored_in_stays Empty b f k v s = record { units = omega arith; written = begins_itself s.written }
stored_in_stays (Record row values held made) b f k v s = stored_value_stays (fit k v) (λ v. with_field f v b (Record row values held made)) (λ v s. refl) (λ v s. refl) s
stored_in_stays (Pending values since made) b f k v s = stored_value_stays (fit k v) (λ v. with_field f v b (Pending values since made)) (λ v s. refl) (λ v s. refl) s

pub stored_stays : (t : Target) (v : Value) (s : State) → Stays (stored t v) s
stored_stays (target.Variable x) v s = stored_value_stays (fit x.kind v) (assigned x) (λ v s. refl) (λ v s. refl) s
stored_stays (target.Field b f k) v s = record { units = (stored_in_stays (content_of b s) b f k v s).units; written = (stored_in_stays (content_of b s) b f k v s).written }

pub stored_if_stays : (v : Evaluated) (t : Target) (s : State) → Stays (stored_if v t) s
stored_if_stays (Gives v) t s = record { units = (stored_stays t v s).units; written = (stored_stays t v s).written }
stored_if_stays (Fails c) t s = record { units = omega arith; written = begins_itself s.written }

pub counted_continues : (o : Option ℤ) (t : Target) → Continues (counted_as o t)
counted_continues (Some n) t = continues_done (stored t (Int64 n)) (stored_stays t (Int64 n))
counted_continues None t = continues_goes (Faults (Some OutOfRange))

pub assigns_one_continues : (p : Program) (t : Target) (x : Right) (retry : Bool) → Continues (assigns_one p t x retry)
assigns_one_continues p t (ValueOf e) retry =
    continues_done (λ s. stored_if (value_now p e retry s) t s) (λ s. record { units = (stored_if_stays (value_now p e retry s) t s).units; written = (stored_if_stays (value_now p e retry s) t s).written })
assigns_one_continues p t (NextOf q) retry = continues_asks (op.NextValue q) (was_counted t) (λ a. counted_continues (number_in a) t)
assigns_one_continues p t (CurrentOf q) retry = continues_asks (op.CurrentValue q) (was_counted t) (λ a. counted_continues (number_in a) t)
assigns_one_continues p t (Given v) retry = continues_done (stored t v) (stored_stays t v)

pub assigns_each_continues : (p : Program) (xs : List Assignment) (retry : Bool) → Continues (assigns_each p xs retry)
assigns_each_continues p [] retry = continues_goes Normal
assigns_each_continues p (x ∷ xs) retry = continues_then (assigns_one p x.target x.right retry) (assigns_each p xs retry) (assigns_one_continues p x.target x.right retry) (assigns_each_continues p xs retry)

pub all_as_before_keeps : (old : State) (bs : List ℕ) (s : State) → Keeps (all_as_before old bs) s
all_as_before_keeps old [] s = record { units = refl; written = refl }
all_as_before_keeps old (b ∷ bs) s =
    let x = all_as_before_keeps old bs (holding b (as_before (content_of b old) (content_of b s)) s) in
    record { units = x.units; written = x.written }

pub as_before_on_fault_continues : (old : State) (bs : List ℕ) (completion : Completion) → Continues (as_before_on_fault completion old bs)
as_before_on_fault_continues old bs (Faults c) s ans more = then_ran (all_as_before old bs) (Faults c) (all_as_before_keeps old bs) s ans more
as_before_on_fault_continues old bs completion s ans more = continues_goes completion s ans more

pub or_as_before_continues : (old : State) (bs : List ℕ) (go : Continuation) → Continues go → (s : State) (ans more : List Answer) → Fits s ans (or_as_before old bs (go s ans)) (or_as_before old bs (go s (ans ++ more))) more
or_as_before_continues old bs go x = continues_handled go (or_as_before old bs) (λ completion. as_before_on_fault completion old bs) (record { completes = λ completion s ans. refl; stands = λ d. refl }) x (as_before_on_fault_continues old bs)

pub was_upgraded_continues : (b : ℕ) (row : RowId) (values : List Value) (made : Option ℕ) (a : Answer) → Continues (was_upgraded b row values made a)
was_upgraded_continues b row values made a =
    continues_where (is_gone a) (has_fault (RecordIsGone b)) (update_then (holding b (Record row values Exclusive made)) (completes Normal)) (continues_goes (Faults (Some (RecordIsGone b))))
    (then_ran (holding b (Record row values Exclusive made)) Normal (λ s. record { units = refl; written = refl }))

pub upgrades_continues : (held : Held) (t b : ℕ) (row : RowId) (values : List Value) (made : Option ℕ) → Continues (upgrades held t b row values made)
upgrades_continues NoLock t b row values made = continues_goes (Faults (Some (IsReadNoLock b)))
upgrades_continues Share t b row values made = continues_asks (op.Lock t row true true) (was_upgraded b row values made) (was_upgraded_continues b row values made)
upgrades_continues Exclusive t b row values made = continues_goes Normal

pub locks_content_continues : (c : Content) (t b : ℕ) → Continues (locks_content c t b)
locks_content_continues Empty t b = continues_goes Normal
locks_content_continues (Pending values since made) t b = continues_goes Normal
locks_content_continues (Record row values held made) t b = upgrades_continues held t b row values made

pub locks_all_continues : (bs : List ℕ) → Continues (locks_all bs)
locks_all_continues [] = continues_goes Normal
locks_all_continues (b ∷ bs) =
    continues_then (λ s ans. locks_content (content_of b s) (table_of b s) b s ans) (locks_all bs) (λ s ans more. locks_content_continues (content_of b s) (table_of b s) b s ans more) (locks_all_continues bs)

pub settles_content_continues : (p : Program) (c : Content) (t b : ℕ) → Continues (settles_content p c t b)
settles_content_continues p Empty t b = continues_goes Normal
settles_content_continues p (Pending values since made) t b =
    continues_where (all_begun (table_at p t).indexes since) (enters_in p (own b)) (completes Normal) (enters_in_continues p (own b)) (continues_goes Normal)
settles_content_continues p (Record row values held made) t b =
    storable_continues p t values (asks (op.Put t row values) (was_put b t)) (continues_asks (op.Put t row values) (was_put b t) (λ a. refused_continues (refusal_in b t a)))

pub settles_continues : (p : Program) (b : ℕ) → Continues (settles p b)
settles_continues p b s ans more = settles_content_continues p (content_of b s) (table_of b s) b s ans more

pub settles_all_continues : (p : Program) (old : State) (bs : List ℕ) → Continues (settles_all p old bs)
settles_all_continues p old [] = continues_goes Normal
settles_all_continues p old (b ∷ bs) =
    continues_then (λ s ans. or_as_before old (b ∷ bs) (settles p b s ans)) (settles_all p old bs) (or_as_before_continues old (b ∷ bs) (settles p b) (settles_continues p b)) (settles_all_continues p old bs)

pub assigns_continues : (p : Program) (xs : List Assignment) (retry : Bool) → Continues (assigns p xs retry)
assigns_continues p xs retry s ans more =
    continues_then (λ t ans. or_as_before s (buffers_in xs) (and_then (assigns_each p xs retry t ans) (locks_all (buffers_in xs)))) (settles_all p s (buffers_in xs))
    (or_as_before_continues s (buffers_in xs) (λ t ans. and_then (assigns_each p xs retry t ans) (locks_all (buffers_in xs)))
    (continues_then (assigns_each p xs retry) (locks_all (buffers_in xs)) (assigns_each_continues p xs retry) (locks_all_continues (buffers_in xs))))
    (settles_all_continues p s (buffers_in xs)) s ans more

pub creates_continues : (p : Program) (b : ℕ) → Continues (creates p b)
creates_continues p b = continues_then (releases p b) (update_then (begun p b) (completes Normal)) (releases_continues p b) (then_ran (begun p b) Normal (λ s. record { units = refl; written = refl }))

pub was_deleted_continues : (b : ℕ) (a : Answer) → Continues (was_deleted b a)
was_deleted_continues b a = continues_where (is_gone a) (has_fault (RecordIsGone b)) (update_then (emptied b) (completes Normal)) (continues_goes (Faults (Some (RecordIsGone b)))) (empties_continues b Normal)

pub deletes_content_continues : (c : Content) (t b : ℕ) → Continues (deletes_content c t b)
deletes_content_continues Empty t b = continues_goes (Faults (Some (NoRecordIn b)))
deletes_content_continues (Pending values since made) t b = empties_continues b Normal
deletes_content_continues (Record row values held made) t b =
    continues_then (upgrades held t b row values made) (asks (op.Delete t row) (was_deleted b)) (upgrades_continues held t b row values made) (continues_asks (op.Delete t row) (was_deleted b) (was_deleted_continues b))

pub deletes_continues : (b : ℕ) → Continues (deletes b)
deletes_continues b s ans more = deletes_content_continues (content_of b s) (table_of b s) b s ans more
