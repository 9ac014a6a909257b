-- What an UNDO leaves unchanged after the copy is restored: all but buffers and levels, and the pending records of the copy.
use Rattle.std.proofs.Common.{◌≡◌, refl, ap, ◌∙◌, subst, ℕ, zero, suc, ◌==◌, nat_lt, List, [], ◌∷◌, map, length, Bool, true, false, Option, Some, None, arith}
use Rattle.std.proofs.Math.Seq.{map-set_same}
use Rattle.abl_base.specs.declared.row.RowId.{RowId}
use Rattle.abl_base.specs.declared.value.Value.{Value}
use Rattle.database_protocol.specs.declared.operation.Op.{Op}
use Rattle.database_protocol.specs.declared.operation.Op.TheVariants as op
use Rattle.database_protocol.specs.declared.answer.Answer.{Answer}
use Rattle.database_protocol.specs.declared.answer.Answer.TheVariants as answer
use Rattle.block_meaning.specs.State.{State, CallFrame, Buffer, Saved, Copy, Content, Empty, Record, Pending, Held, Completion, Normal, Outcome, Done, Suspended, Continuation, completes, if_else, update_then, costs_unit_of, awaits, asks, if_normal, and_then}
use Rattle.block_meaning.specs.Frames.{no_frame, own_frame, with_own, emptied, all_emptied, frames_restored, put_back}
use Rattle.block_meaning.specs.Views.{values_in}
use Rattle.block_meaning.specs.Buffers.{Place, buffer_in, holding_in, all_places, keep_of, shared, left_if, left, was_left, leaves, got_content, was_got, made_later, updates_content, updates, is_left_out, updates_places}
use Rattle.block_meaning.specs.Blocks.{after_back, goes_back}
use Rattle.block_meaning.specs.Undone.{undoable_of, no_undo_of, saved_variables, content_in, LeftAlone}

-- ---- parts that preserve a property of the state

abbrev pub Holds : (State → Type 0) → Outcome → Type 0
Holds P (Done completion s left) = P s
Holds P (Suspended d) = Unit {0}

abbrev pub Preserves : (State → Type 0) → Continuation → Type 0
Preserves P go = (s : State) (ans : List Answer) → P s → Holds P (go s ans)

-- the property does not depend on the units
abbrev pub IgnoresUnits : (State → Type 0) → Type 0
IgnoresUnits P = (s : State) (n : ℕ) → P s → P (record s { units = n })

pub preserves_goes : (P : State → Type 0) (completion : Completion) → Preserves P (completes completion)
preserves_goes P completion s ans x = x

preserves_where : (P : State → Type 0) (b : Bool) (one other : Continuation) → Preserves P one → Preserves P other → Preserves P (if_else b one other)
preserves_where P true one other x y s ans h = x s ans h
preserves_where P false one other x y s ans h = y s ans h

pub preserves_first : (P : State → Type 0) (change : State → State) (go : Continuation) → ((s : State) → P s → P (change s)) → Preserves P go → Preserves P (update_then change go)
preserves_first P change go k x s ans h = x (change s) ans (k s h)

preserves_hears : (P : State → Type 0) (op : Op) (go : Answer → Continuation) (s : State) → ((a : Answer) (ans : List Answer) → Holds P (go a s ans)) → P s → (ans : List Answer) → Holds P (awaits op go s ans)
preserves_hears P op go s x h [] = tt
preserves_hears P op go s x h (answer.Blocked holders ∷ ans) = preserves_hears P op go s x h ans
preserves_hears P op go s x h (answer.NoMemory ∷ ans) = h
preserves_hears P op go s x h (answer.Closed ∷ ans) = h
preserves_hears P op go s x h (answer.Deadlock cycle ∷ ans) = h
preserves_hears P op go s x h (answer.TxFull ∷ ans) = h
preserves_hears P op go s x h (answer.TraceFull ∷ ans) = h
preserves_hears P op go s x h (a ∷ ans) = x a ans

-- an operation preserves what the part after its answer preserves
pub preserves_from : (P : State → Type 0) → IgnoresUnits P → (n : ℕ) (op : Op) (go : Answer → Continuation) (s : State) → ((m : ℕ) (a : Answer) (ans : List Answer) → Holds P (go a (record s { units = m }) ans)) → P s → (ans : List Answer) → Holds P (costs_unit_of n (awaits op go) s ans)
preserves_from P u zero op go s x h ans = h
preserves_from P u (suc n) op go s x h ans = preserves_hears P op go (record s { units = n }) (x n) (u s n h) ans

pub preserves_asks : (P : State → Type 0) → IgnoresUnits P → (op : Op) (go : Answer → Continuation) → ((a : Answer) → Preserves P (go a)) → Preserves P (asks op go)
preserves_asks P u op go x s ans h = preserves_from P u s.units op go s (λ m a ans. x a (record s { units = m }) ans (u s m h)) h ans

preserves_after : (P : State → Type 0) (completion : Completion) (next : Continuation) → Preserves P next → Preserves P (if_normal completion next)
preserves_after P Normal next x s ans h = x s ans h
preserves_after P completion next x s ans h = h

preserves_and_then : (P : State → Type 0) (r : Outcome) (next : Continuation) → Holds P r → Preserves P next → Holds P (and_then r next)
preserves_and_then P (Done completion s left) next h x = preserves_after P completion next x s left h
preserves_and_then P (Suspended d) next h x = tt

preserves_then : (P : State → Type 0) (go next : Continuation) → Preserves P go → Preserves P next → Preserves P (λ s ans. and_then (go s ans) next)
preserves_then P go next x y s ans h = preserves_and_then P (go s ans) next (x s ans h) y

-- ---- refreshing buffers

-- what a content must be for its buffer to be changed: a row, or a record that was created after the copy
abbrev pub MayChange : ℕ → Content → Type 0
MayChange mark Empty = ⊥
MayChange mark (Record row values held made) = Unit {0}
MayChange mark (Pending values since made) = nat_lt mark made ≡ true

-- and what it may become: nothing, or a row that was not created after the copy
abbrev pub MayBecome : ℕ → Content → Type 0
MayBecome mark Empty = Unit {0}
MayBecome mark (Record row values held made) = made_later mark made ≡ false
MayBecome mark (Pending values since made) = ⊥

got_may : (mark : ℕ) (o : Option (List Value)) (row : RowId) (held : Held) (made : Option ℕ) → made_later mark made ≡ false → MayBecome mark (got_content o row held made)
got_may mark (Some values) row held made e = e
got_may mark None row held made e = tt

-- such a change preserves it
abbrev pub AllowsUpdates : (State → Type 0) → ℕ → Type 0
AllowsUpdates P mark = (at : Place) (c : Content) (s : State) → MayChange mark (content_in at s) → MayBecome mark c → P s → P (holding_in at c s)

drops_pending : (P : State → Type 0) (mark : ℕ) (at : Place) (made : ℕ) (b : Bool) (s : State) (ans : List Answer) → nat_lt mark made ≡ b → (nat_lt mark made ≡ true → P (holding_in at Empty s)) → P s → Holds P (if_else b (update_then (holding_in at Empty) (completes Normal)) (completes Normal) s ans)
drops_pending P mark at made true s ans e x h = x e
drops_pending P mark at made false s ans e x h = h

holds_either : (P : State → Type 0) (b : Bool) (one other : Continuation) (s : State) (ans : List Answer) → (b ≡ true → Holds P (one s ans)) → (b ≡ false → Holds P (other s ans)) → Holds P (if_else b one other s ans)
holds_either P true one other s ans x y = x refl
holds_either P false one other s ans x y = y refl

preserves_updates_content : (P : State → Type 0) (mark : ℕ) → IgnoresUnits P → AllowsUpdates P mark → (at : Place) (t : ℕ) (c : Content) (s : State) (ans : List Answer) → c ≡ content_in at s → P s → Holds P (updates_content mark at t c s ans)
preserves_updates_content P mark u k at t Empty s ans e h = h
preserves_updates_content P mark u k at t (Pending values since made) s ans e h =
    drops_pending P mark at made (nat_lt mark made) s ans refl (λ l. k at Empty s (subst (MayChange mark) e l) tt h) h
preserves_updates_content P mark u k at t (Record row values held made) s ans e h =
    holds_either P (made_later mark made) (update_then (holding_in at Empty) (completes Normal)) (asks (op.Get t row) (was_got at row held made)) s ans
    (λ l. k at Empty s (subst (MayChange mark) e tt) tt h)
    (λ l.
    preserves_from P u s.units (op.Get t row) (was_got at row held made) s
    (λ m a ans. k at (got_content (values_in a) row held made) (record s { units = m }) (subst (MayChange mark) e tt) (got_may mark (values_in a) row held made l) (u s m h)) h ans)

pub preserves_updates_places : (P : State → Type 0) (mark : ℕ) → IgnoresUnits P → AllowsUpdates P mark → (but : List ℕ) (places : List Place) → Preserves P (updates_places mark but places)
preserves_updates_places P mark u k but [] s ans h = h
preserves_updates_places P mark u k but (at ∷ more) s ans h =
    preserves_then P (if_else (is_left_out but at) (completes Normal) (updates mark at)) (updates_places mark but more)
    (preserves_where P (is_left_out but at) (completes Normal) (updates mark at) (preserves_goes P Normal)
    (λ s ans h. preserves_updates_content P mark u k at (buffer_in at s).table (content_in at s) s ans refl h))
    (preserves_updates_places P mark u k but more) s ans h

-- ---- going back to a level

-- what the steps after the restoring preserve
pub record Survives (P : State → Type 0) (mark : ℕ) (but : List ℕ) : Type 0 where
  pub units : IgnoresUnits P
  pub updates : AllowsUpdates P mark
  pub leaving : (b : Bool) (s : State) → P s → P (left_if b s)
  pub emptying : (s : State) → P s → P (all_emptied but s)

after_back_keeps : (P : State → Type 0) (copy : Copy) (but : List ℕ) → Survives P copy.made but → (s : State) (ans : List Answer) → P (put_back copy s) → Holds P (after_back copy but s ans)
after_back_keeps P copy but k s ans h =
    preserves_then P (λ t ans. and_then (updates_places copy.made but (all_places (put_back copy s)) t ans) (leaves but)) (update_then (all_emptied but) (completes Normal))
    (preserves_then P (updates_places copy.made but (all_places (put_back copy s))) (leaves but)
    (preserves_updates_places P copy.made k.units k.updates but (all_places (put_back copy s)))
    (λ s ans h. preserves_asks P k.units (op.Leave (keep_of but s)) was_left (λ a. preserves_first P left (completes Normal) (λ s. k.leaving (s.level == 1) s) (preserves_goes P Normal)) s ans h))
    (preserves_first P (all_emptied but) (completes Normal) k.emptying (preserves_goes P Normal)) (put_back copy s) ans h

-- when they complete normally. P is about the state that they begin with
abbrev pub HoldsRan : (State → Type 0) → Outcome → Type 0
HoldsRan P (Done Normal s left) = P s
HoldsRan P (Done completion s left) = Unit {0}
HoldsRan P (Suspended d) = Unit {0}

pub holds_ran : (P : State → Type 0) (r : Outcome) → Holds P r → HoldsRan P r
holds_ran P (Done Normal s left) h = h
holds_ran P (Done completion s left) h = tt
holds_ran P (Suspended d) h = tt

-- an operation, and what follows its answer
ran_hears : (P : State → Type 0) (op : Op) (go : Answer → Continuation) (s : State) → ((a : Answer) (ans : List Answer) → HoldsRan P (go a s ans)) → (ans : List Answer) → HoldsRan P (awaits op go s ans)
ran_hears P op go s x [] = tt
ran_hears P op go s x (answer.Blocked holders ∷ ans) = ran_hears P op go s x ans
ran_hears P op go s x (answer.NoMemory ∷ ans) = tt
ran_hears P op go s x (answer.Closed ∷ ans) = tt
ran_hears P op go s x (answer.Deadlock cycle ∷ ans) = tt
ran_hears P op go s x (answer.TxFull ∷ ans) = tt
ran_hears P op go s x (answer.TraceFull ∷ ans) = tt
ran_hears P op go s x (a ∷ ans) = x a ans

ran_from : (n : ℕ) (P : State → Type 0) (op : Op) (go : Answer → Continuation) (s : State) → ((m : ℕ) (a : Answer) (ans : List Answer) → HoldsRan P (go a (record s { units = m }) ans)) → (ans : List Answer) → HoldsRan P (costs_unit_of n (awaits op go) s ans)
ran_from zero P op go s x ans = tt
ran_from (suc n) P op go s x ans = ran_hears P op go (record s { units = n }) (x n) ans

-- what holds when the steps after Back complete normally holds at the end of the UNDO
pub undo_ends : (P : State → Type 0) (copy : Copy) (but : List ℕ) (s s' : State) (ans left : List Answer) → ((m : ℕ) (ans : List Answer) → HoldsRan P (after_back copy but (record s { units = m }) ans)) → goes_back (Some copy) but s ans ≡ Done Normal s' left → P s'
undo_ends P copy but s s' ans left x e = subst (HoldsRan P) e (ran_from s.units P (op.Back copy.depth) (λ a. after_back copy but) s (λ m a ans. x m ans) ans)

-- what holds after the copy is restored, and survives the other steps, holds at their end
pub undo_keeps : (P : State → Type 0) (copy : Copy) (but : List ℕ) → Survives P copy.made but → (s s' : State) (ans left : List Answer) → P (put_back copy s) → goes_back (Some copy) but s ans ≡ Done Normal s' left → P s'
undo_keeps P copy but k s s' ans left h e =
    undo_ends P copy but s s' ans left
    (λ m ans. holds_ran P (after_back copy but (record s { units = m }) ans) (after_back_keeps P copy but k (record s { units = m }) ans (k.units (put_back copy s) m h))) e

-- ---- variables and streams

-- from a state on, only buffers, the level and the units differ
pub record SameVariables (s s' : State) : Type 0 where
  pub undoable : undoable_of s' ≡ undoable_of s
  pub alone : LeftAlone s s'

-- with other frames that have the same variables
frames_same : (o s : State) (fs : List CallFrame) (n : ℕ) → map (λ f. f.undoable) fs ≡ undoable_of s → map (λ f. f.no_undo) fs ≡ no_undo_of s → SameVariables o s → SameVariables o (record s { frames = fs; level = n })
frames_same o s fs n u k x = record {
  undoable = u ∙ x.undoable;
  alone = record {
    no_undo = k ∙ x.alone.no_undo;
    streams = x.alone.streams;
    at = x.alone.at;
    status = x.alone.status;
    returned = x.alone.returned;
    written = x.alone.written;
    size = x.alone.size;
    made = x.alone.made;
  };
}

same_units : (o : State) → IgnoresUnits (SameVariables o)
same_units o s n x = record {
  undoable = x.undoable;
  alone = record {
    no_undo = x.alone.no_undo;
    streams = x.alone.streams;
    at = x.alone.at;
    status = x.alone.status;
    returned = x.alone.returned;
    written = x.alone.written;
    size = x.alone.size;
    made = x.alone.made;
  };
}

holding_same : (o : State) (at : Place) (c : Content) (s : State) → SameVariables o s → SameVariables o (holding_in at c s)
holding_same o at c s x =
    frames_same o s _ s.level
    (map-set_same (λ (f : CallFrame). f.undoable) s.frames at.out _ no_frame refl)
    (map-set_same (λ (f : CallFrame). f.no_undo) s.frames at.out _ no_frame refl) x

shared_undoable : (fs : List CallFrame) → map (λ f. f.undoable) (shared fs) ≡ map (λ f. f.undoable) fs
shared_undoable [] = refl
shared_undoable (f ∷ fs) = ap (λ l. f.undoable ∷ l) (shared_undoable fs)

shared_no_undo : (fs : List CallFrame) → map (λ f. f.no_undo) (shared fs) ≡ map (λ f. f.no_undo) fs
shared_no_undo [] = refl
shared_no_undo (f ∷ fs) = ap (λ l. f.no_undo ∷ l) (shared_no_undo fs)

left_same : (o : State) (b : Bool) (s : State) → SameVariables o s → SameVariables o (left_if b s)
left_same o true s x = frames_same o s (shared s.frames) 0 (shared_undoable s.frames) (shared_no_undo s.frames) x
left_same o false s x = frames_same o s s.frames _ refl refl x

own_undoable : (fs : List CallFrame) (bs : List Buffer) → map (λ f. f.undoable) (with_own (record (own_frame fs) { buffers = bs }) fs) ≡ map (λ f. f.undoable) fs
own_undoable [] bs = refl
own_undoable (f ∷ fs) bs = refl

own_no_undo : (fs : List CallFrame) (bs : List Buffer) → map (λ f. f.no_undo) (with_own (record (own_frame fs) { buffers = bs }) fs) ≡ map (λ f. f.no_undo) fs
own_no_undo [] bs = refl
own_no_undo (f ∷ fs) bs = refl

emptied_same : (o : State) (b : ℕ) (s : State) → SameVariables o s → SameVariables o (emptied b s)
emptied_same o b s x = frames_same o s _ s.level (own_undoable s.frames _) (own_no_undo s.frames _) x

all_emptied_same : (o : State) (bs : List ℕ) (s : State) → SameVariables o s → SameVariables o (all_emptied bs s)
all_emptied_same o [] s x = x
all_emptied_same o (b ∷ bs) s x = all_emptied_same o bs (emptied b s) (emptied_same o b s x)

same_survives : (o : State) (mark : ℕ) (but : List ℕ) → Survives (SameVariables o) mark but
same_survives o mark but = record { units = same_units o; updates = λ at c s m l. holding_same o at c s; leaving = left_same o; emptying = all_emptied_same o but }

-- ---- the copy

frames_restored_no_undo : (cs : List Saved) (fs : List CallFrame) → map (λ f. f.no_undo) (frames_restored cs fs) ≡ map (λ f. f.no_undo) fs
frames_restored_no_undo [] fs = refl
frames_restored_no_undo (c ∷ cs) [] = refl
frames_restored_no_undo (c ∷ cs) (f ∷ fs) = ap (λ l. f.no_undo ∷ l) (frames_restored_no_undo cs fs)

frames_back_undoable : (cs : List Saved) (fs : List CallFrame) → length cs ≡ length fs → map (λ f. f.undoable) (frames_restored cs fs) ≡ map (λ c. c.undoable) cs
frames_back_undoable [] [] e = refl
frames_back_undoable [] (f ∷ fs) e = absurd (omega arith)
frames_back_undoable (c ∷ cs) [] e = absurd (omega arith)
frames_back_undoable (c ∷ cs) (f ∷ fs) e = ap (λ l. c.undoable ∷ l) (frames_back_undoable cs fs (omega arith))

same_itself : (s : State) → SameVariables s s
same_itself s = record { undoable = refl; alone = record { no_undo = refl; streams = refl; at = refl; status = refl; returned = refl; written = refl; size = refl; made = refl } }

undo_is_same : (copy : Copy) (but : List ℕ) (s s' : State) (ans left : List Answer) → goes_back (Some copy) but s ans ≡ Done Normal s' left → SameVariables (put_back copy s) s'
undo_is_same copy but s s' ans left e =
    undo_keeps (SameVariables (put_back copy s)) copy but (same_survives (put_back copy s) copy.made but) s s' ans left (same_itself (put_back copy s)) e

pub undo_gives_variables : (copy : Copy) (but : List ℕ) (s s' : State) (ans left : List Answer) → length copy.frames ≡ length s.frames → goes_back (Some copy) but s ans ≡ Done Normal s' left → undoable_of s' ≡ saved_variables copy
undo_gives_variables copy but s s' ans left l e = (undo_is_same copy but s s' ans left e).undoable ∙ frames_back_undoable copy.frames s.frames l

pub undo_leaves_alone : (copy : Copy) (but : List ℕ) (s s' : State) (ans left : List Answer) → goes_back (Some copy) but s ans ≡ Done Normal s' left → LeftAlone s s'
undo_leaves_alone copy but s s' ans left e =
    let x = (undo_is_same copy but s s' ans left e).alone in
    record { no_undo = x.no_undo ∙ frames_restored_no_undo copy.frames s.frames; streams = x.streams; at = x.at; status = x.status; returned = x.returned; written = x.written; size = x.size; made = x.made }
