-- After an UNDO of the block of a procedure no fault is handled. Its buffers have no new record then: so their release has no fault.
use Rattle.std.proofs.Common.{◌≡◌, ℕ, zero, suc, Bool, true, false, List, [], ◌∷◌, ◌++◌, Option, Some, None, refl, sym, subst, inl, inr}
use Rattle.std.specs.Prelude.{◌==◌, ◌&&◌, ◌⊎◌, not, nat_lt, slice_index_or, slice_set}
use Rattle.abl_base.specs.declared.row.RowId.{RowId}
use Rattle.database_protocol.specs.declared.operation.Op.{Op}
use Rattle.database_protocol.specs.declared.operation.Op.TheVariants as op
use Rattle.database_protocol.specs.declared.answer.Answer.{Answer}
use Rattle.database_protocol.specs.declared.answer.Answer.TheVariants as answer
use Rattle.database_meaning.specs.Fits.{Fits}
use Rattle.bound_tree.specs.Tree.{Action, Header, ThenError, ThenLeave, ThenNext, ThenReturn, ThenRetry}
use Rattle.kind_laws.specs.bound_kinds.WellKinded.{is_action}
use Rattle.block_meaning.specs.Blocks.{Iteration, after_iteration, iterates, passed_with, returns_with}
use Rattle.block_meaning.specs.Buffers.{Place, all_places, buffer_in, is_left_out, is_row_in, keep_of, left, made_later, own}
use Rattle.block_meaning.specs.Frames.{all_emptied, buffer_at, content_of, emptied, locked_row, no_buffer, no_frame, own_frame, put_back, with_own}
use Rattle.block_meaning.specs.Program.{Program}
use Rattle.block_meaning.specs.State.{Buffer, CallFrame, Completion, Content, Copy, Empty, Held, Normal, Passed, Pending, Record, State, Undoes}
use Rattle.flat_machine.specs.Config.{Acts, AfterBack, Await, Closes, Completes, Config, Drops, Empties, EntersOne, Execute, GoesBack, LeavesNow, OnAnswer, Passes, Releases, StackEntry, ThenDo, Unwind, Updates, UpdatesOne, WasBack, WasDropped, WasGot, WasLeft, Mode, UndoComes}
use Rattle.flat_machine.specs.Machine.{answer_step, answered, step}
use Rattle.flat_machine.specs.Steps.{act_step, ask, asked_from, config, config_if, drop_step, enter_step, update_step}
use Rattle.kind_laws.specs.Placed.{is_nil, names_one_of, undoes_one_of}
use Rattle.kind_laws.specs.Reached.{Ground}
use Rattle.kind_laws.proofs.Kept.{allows, AreFrames, AreSaved, CanFail, here, IsAllowed, IsCopy, IsKept, IsOpen, IsOver, IsStack, Suits, IsRecord, table_there}
use Rattle.kind_laws.proofs.Answers.{got_keeps}
use Rattle.kind_laws.proofs.Buffers.{all_emptied_keeps, emptied_keeps, gets_there, holding_in_keeps, left_keeps, put_back_keeps, place_has}
use Rattle.kind_laws.proofs.Iterations.{instead_over}
use Rattle.kind_laws.proofs.Parts.{after_over, covers, first_copy, IsOuter, undoes_here, undoes_outside}
use Rattle.database_meaning.specs.Setting.{HasTable}
use Rattle.kind_laws.specs.Operations.{IsOfSchema}

-- ---- buffers without a pending record

abbrev pub is_pending : Content → Bool
is_pending Empty = false
is_pending (Record row values held made) = false
is_pending (Pending values since made) = true

abbrev pub AreClear : List ℕ → State → Type 0
AreClear [] s = Unit {0}
AreClear (b ∷ bs) s = (is_pending (content_of b s) ≡ false) × AreClear bs s

-- another buffer is emptied, or the same
set_clear : (bs : List Buffer) (n m : ℕ) (x : Buffer) → is_pending x.content ≡ false → is_pending (slice_index_or bs m no_buffer).content ≡ false → is_pending (slice_index_or (slice_set bs n x) m no_buffer).content ≡ false
set_clear [] n m x e h = h
set_clear (y ∷ ys) zero zero x e h = e
set_clear (y ∷ ys) zero (suc m) x e h = h
set_clear (y ∷ ys) (suc n) zero x e h = h
set_clear (y ∷ ys) (suc n) (suc m) x e h = set_clear ys n m x e h

set_self : (bs : List Buffer) (n : ℕ) (x : Buffer) → is_pending x.content ≡ false → is_pending (slice_index_or (slice_set bs n x) n no_buffer).content ≡ false
set_self [] n x e = refl
set_self (y ∷ ys) zero x e = e
set_self (y ∷ ys) (suc n) x e = set_self ys n x e

own_clear : (fs : List CallFrame) (n m : ℕ) (x : Buffer) → is_pending x.content ≡ false → is_pending (slice_index_or (own_frame fs).buffers m no_buffer).content ≡ false →
    is_pending (slice_index_or (own_frame (with_own (record (own_frame fs) { buffers = slice_set (own_frame fs).buffers n x }) fs)).buffers m no_buffer).content ≡ false
own_clear [] n m x e h = h
own_clear (f ∷ fs) n m x e h = set_clear f.buffers n m x e h

own_self : (fs : List CallFrame) (n : ℕ) (x : Buffer) → is_pending x.content ≡ false →
    is_pending (slice_index_or (own_frame (with_own (record (own_frame fs) { buffers = slice_set (own_frame fs).buffers n x }) fs)).buffers n no_buffer).content ≡ false
own_self [] n x e = refl
own_self (f ∷ fs) n x e = set_self f.buffers n x e

one_clear : (b c : ℕ) (s : State) → is_pending (content_of c s) ≡ false → is_pending (content_of c (emptied b s)) ≡ false
one_clear b c s h = own_clear s.frames b c (record (buffer_at b s) { content = Empty }) refl h

stays_clear : (b : ℕ) (cs : List ℕ) (s : State) → AreClear cs s → AreClear cs (emptied b s)
stays_clear b [] s h = tt
stays_clear b (c ∷ cs) s h = (one_clear b c s h.0, stays_clear b cs s h.1)

all_one : (bs : List ℕ) (c : ℕ) (s : State) → is_pending (content_of c s) ≡ false → is_pending (content_of c (all_emptied bs s)) ≡ false
all_one [] c s h = h
all_one (b ∷ bs) c s h = all_one bs c (emptied b s) (one_clear b c s h)

units_clear : (bs : List ℕ) (s : State) (n : ℕ) → AreClear bs s → AreClear bs (record s { units = n })
units_clear [] s n h = tt
units_clear (b ∷ bs) s n h = (h.0, units_clear bs s n h.1)

returned_clear : (bs : List ℕ) (s : State) (text : List ℕ) → AreClear bs s → AreClear bs (record s { returned = text })
returned_clear [] s text h = tt
returned_clear (b ∷ bs) s text h = (h.0, returned_clear bs s text h.1)

-- those that were emptied
all_clear : (bs more : List ℕ) (s : State) → AreClear bs (all_emptied (bs ++ more) s)
all_clear [] more s = tt
all_clear (b ∷ bs) more s = (all_one (bs ++ more) b (emptied b s) (own_self s.frames b (record (buffer_at b s) { content = Empty }) refl), all_clear bs more (emptied b s))

first_frame : (fs : List CallFrame) → slice_index_or fs 0 no_frame ≡ own_frame fs
first_frame [] = refl
first_frame (f ∷ fs) = refl

own_content : (b : ℕ) (s : State) → is_pending (content_of b s) ≡ false → is_pending (buffer_in (own b) s).content ≡ false
own_content b s h = subst (λ (f : CallFrame). is_pending (slice_index_or f.buffers b no_buffer).content ≡ false) (sym (first_frame s.frames)) h

-- ---- what remains of the block b

-- the action after the UNDO, in a stack ks
pub record IsUndone (g : Ground) (ns : List ℕ) (b : Header) (o : Iteration) (act : Action) (ks : List StackEntry) : Type 0 where
  pub iteration : IsOpen g ns (allows ks) b o
  pub action : is_action (here g ns) act ≡ true
  pub named : names_one_of (b.number ∷ (allows ks).blocks) act ≡ true
  pub stack : IsStack g ns ks

-- the stack while the level is undone and left: the buffers of the block are among those that are emptied then
abbrev emptying : Header → Iteration → Action → Bool → List ℕ → List StackEntry → List StackEntry
emptying b o act retry more ks = ThenDo (Empties (b.scoped ++ more)) ∷ ThenDo (Acts b o act retry) ∷ ks

abbrev leaving : Header → Iteration → Action → Bool → List ℕ → List StackEntry → List StackEntry
leaving b o act retry more ks = ThenDo (LeavesNow (b.scoped ++ more)) ∷ emptying b o act retry more ks

-- and while these buffers are released
abbrev releasing : List ℕ → Completion → List StackEntry → List StackEntry
releasing bs out ks = ThenDo (Releases bs) ∷ ThenDo (Completes out) ∷ ks

-- THE CONFIGURATIONS from the UNDO to the end of the iteration
pub data Undoing (g : Ground) (ns : List ℕ) (b : Header) (o : Iteration) (act : Action) (retry : Bool) (ks : List StackEntry) : Config → Type 0 where
  goes : (copy : Copy) (more : List ℕ) (s : State) → AreSaved g ns copy.frames → AreFrames g ns s.frames → Undoing g ns b o act retry ks (config (Execute (GoesBack (Some copy) (b.scoped ++ more))) (ThenDo (Acts b o act retry) ∷ ks) s)
  bare : (more : List ℕ) (s : State) → AreClear b.scoped s → AreFrames g ns s.frames → Undoing g ns b o act retry ks (config (Execute (GoesBack None (b.scoped ++ more))) (ThenDo (Acts b o act retry) ∷ ks) s)
  awaits_back : (copy : Copy) (more : List ℕ) (q : Op) (s : State) → IsOfSchema g.schema q → AreSaved g ns copy.frames → AreFrames g ns s.frames → Undoing g ns b o act retry ks (config (Await q (WasBack copy (b.scoped ++ more))) (ThenDo (Acts b o act retry) ∷ ks) s)
  restores : (copy : Copy) (more : List ℕ) (s : State) → AreSaved g ns copy.frames → AreFrames g ns s.frames → Undoing g ns b o act retry ks (config (Execute (AfterBack copy (b.scoped ++ more))) (ThenDo (Acts b o act retry) ∷ ks) s)
  updates : (mark : ℕ) (places : List Place) (more : List ℕ) (s : State) → AreFrames g ns s.frames → Undoing g ns b o act retry ks (config (Execute (Updates mark (b.scoped ++ more) places)) (leaving b o act retry more ks) s)
  updates_one : (mark : ℕ) (place : Place) (places : List Place) (more : List ℕ) (s : State) → AreFrames g ns s.frames → Undoing g ns b o act retry ks (config (Execute (UpdatesOne mark place)) (ThenDo (Updates mark (b.scoped ++ more) places) ∷ leaving b o act retry more ks) s)
  awaits_get : (mark : ℕ) (places : List Place) (more : List ℕ) (q : Op) (place : Place) (row : RowId) (held : Held) (made : Option ℕ) (s : State) → IsOfSchema g.schema q → Suits g q (table_there g ns place.out place.number) → AreFrames g ns s.frames →
      Undoing g ns b o act retry ks (config (Await q (WasGot place row held made)) (ThenDo (Updates mark (b.scoped ++ more) places) ∷ leaving b o act retry more ks) s)
  updated_one : (mark : ℕ) (places : List Place) (more : List ℕ) (s : State) → AreFrames g ns s.frames → Undoing g ns b o act retry ks (config (Unwind Normal) (ThenDo (Updates mark (b.scoped ++ more) places) ∷ leaving b o act retry more ks) s)
  updated : (more : List ℕ) (s : State) → AreFrames g ns s.frames → Undoing g ns b o act retry ks (config (Unwind Normal) (leaving b o act retry more ks) s)
  leaves : (more : List ℕ) (s : State) → AreFrames g ns s.frames → Undoing g ns b o act retry ks (config (Execute (LeavesNow (b.scoped ++ more))) (emptying b o act retry more ks) s)
  awaits_leave : (more : List ℕ) (q : Op) (s : State) → IsOfSchema g.schema q → AreFrames g ns s.frames → Undoing g ns b o act retry ks (config (Await q WasLeft) (emptying b o act retry more ks) s)
  has_left : (more : List ℕ) (s : State) → AreFrames g ns s.frames → Undoing g ns b o act retry ks (config (Unwind Normal) (emptying b o act retry more ks) s)
  empties : (more : List ℕ) (s : State) → AreFrames g ns s.frames → Undoing g ns b o act retry ks (config (Execute (Empties (b.scoped ++ more))) (ThenDo (Acts b o act retry) ∷ ks) s)
  has_emptied : (s : State) → AreClear b.scoped s → AreFrames g ns s.frames → Undoing g ns b o act retry ks (config (Unwind Normal) (ThenDo (Acts b o act retry) ∷ ks) s)
  acts : (s : State) → AreClear b.scoped s → AreFrames g ns s.frames → Undoing g ns b o act retry ks (config (Execute (Acts b o act retry)) ks s)
  closes : (out : Completion) (s : State) → IsOver (b.number ∷ (allows ks).blocks) out → AreClear b.scoped s → AreFrames g ns s.frames → Undoing g ns b o act retry ks (config (Execute (Closes b o out)) ks s)
  releases : (bs : List ℕ) (out : Completion) (s : State) → IsAllowed g ns (allows ks) out → AreClear bs s → AreFrames g ns s.frames → Undoing g ns b o act retry ks (config (Execute (Releases bs)) (ThenDo (Completes out) ∷ ks) s)
  enters : (n : ℕ) (bs : List ℕ) (out : Completion) (s : State) → IsAllowed g ns (allows ks) out → AreClear (n ∷ bs) s → AreFrames g ns s.frames → Undoing g ns b o act retry ks (config (Execute (EntersOne (own n))) (ThenDo (Drops n) ∷ releasing bs out ks) s)
  has_entered : (n : ℕ) (bs : List ℕ) (out : Completion) (s : State) → IsAllowed g ns (allows ks) out → AreClear bs s → AreFrames g ns s.frames → Undoing g ns b o act retry ks (config (Unwind Normal) (ThenDo (Drops n) ∷ releasing bs out ks) s)
  drops : (n : ℕ) (bs : List ℕ) (out : Completion) (s : State) → IsAllowed g ns (allows ks) out → AreClear bs s → AreFrames g ns s.frames → Undoing g ns b o act retry ks (config (Execute (Drops n)) (releasing bs out ks) s)
  awaits_drop : (bs : List ℕ) (out : Completion) (q : Op) (s : State) → IsOfSchema g.schema q → IsAllowed g ns (allows ks) out → AreClear bs s → AreFrames g ns s.frames → Undoing g ns b o act retry ks (config (Await q WasDropped) (releasing bs out ks) s)
  has_dropped : (bs : List ℕ) (out : Completion) (s : State) → IsAllowed g ns (allows ks) out → AreClear bs s → AreFrames g ns s.frames → Undoing g ns b o act retry ks (config (Unwind Normal) (releasing bs out ks) s)

-- such a configuration
pub record IsRetreat (g : Ground) (ns : List ℕ) (c : Config) : Type 0 where
  pub block : Header
  pub iteration : Iteration
  pub action : Action
  pub retry : Bool
  pub below : List StackEntry
  pub undone : IsUndone g ns block iteration action below
  pub undoing : Undoing g ns block iteration action retry below c

-- WHAT EVERY STEP KEEPS
abbrev pub IsSafe : Ground → Config → Type 0
IsSafe g c = IsKept g c ⊎ ((n : ℕ) × (ns : List ℕ) × IsRetreat g (n ∷ ns) c)

-- ---- parts of steps

pub safe_if : (g : Ground) (c : Bool) (one other : Config) → (c ≡ true → IsSafe g one) → (c ≡ false → IsSafe g other) → IsSafe g (config_if c one other)
safe_if g true one other x y = x refl
safe_if g false one other x y = y refl

ask_safe : (g : Ground) (m : ℕ) (ns : List ℕ) (q : Op) (on : OnAnswer) (ks : List StackEntry) (s : State) → AreFrames g (m ∷ ns) s.frames → ((n : ℕ) → IsSafe g (config (Await q on) ks (record s { units = n }))) → IsSafe g (ask q on ks s)
ask_safe g m ns q on ks s h x = go s.units
  where
    go : (n : ℕ) → IsSafe g (asked_from n q on ks s)
    go zero = inl (m, ns, (h, tt))
    go (suc n) = x n

answered_safe : (g : Ground) (m : ℕ) (ns : List ℕ) (a : Answer) (q : Op) (on : OnAnswer) (ks : List StackEntry) (s : State) → AreFrames g (m ∷ ns) s.frames → IsSafe g (config (Await q on) ks s) → IsSafe g (answer_step g.program on a ks s) →
    IsSafe g (answered g.program a q on ks s)
answered_safe g m ns (answer.Blocked holders) q on ks s h x y = x
answered_safe g m ns answer.NoMemory q on ks s h x y = inl (m, ns, (h, tt))
answered_safe g m ns answer.Closed q on ks s h x y = inl (m, ns, (h, tt))
answered_safe g m ns (answer.Deadlock cycle) q on ks s h x y = inl (m, ns, (h, tt))
answered_safe g m ns answer.TxFull q on ks s h x y = inl (m, ns, (h, tt))
answered_safe g m ns answer.TraceFull q on ks s h x y = inl (m, ns, (h, tt))
answered_safe g m ns a q on ks s h x y = y

-- ---- an UNDO comes to an iteration

-- an UNDO that undoes no level comes to a block only where its buffers have no new record
abbrev pub IsQuiet : Mode → State → Type 0
IsQuiet (Execute (UndoComes b o target act retry passed)) s = (passed_with b o passed).first ≡ None → b.flags.undo ≡ true → AreClear b.scoped s
IsQuiet mode s = Unit {0}

none_outside : (bs : List ℕ) (n : ℕ) (act : Action) → is_nil bs ≡ true → undoes_one_of bs n act ≡ true → ⊥
none_outside [] n act e h = cc
none_outside (b ∷ bs) n act e h = cc

-- the outermost level that is undone, or none
from_level : (g : Ground) (m : ℕ) (ns : List ℕ) (b : Header) (o : Iteration) (act : Action) (retry : Bool) (more : List ℕ) (ks : List StackEntry) (s : State) → AreFrames g (m ∷ ns) s.frames → IsUndone g (m ∷ ns) b o act ks →
    (first : Option Copy) → IsCopy g (m ∷ ns) first → (first ≡ None → AreClear b.scoped s) → IsSafe g (config (Execute (GoesBack first (b.scoped ++ more))) (ThenDo (Acts b o act retry) ∷ ks) s)
from_level g m ns b o act retry more ks s h u None c e = inr (m, ns, record { block = b; iteration = o; action = act; retry = retry; below = ks; undone = u; undoing = bare more s (e refl) h })
from_level g m ns b o act retry more ks s h u (Some copy) c e = inr (m, ns, record { block = b; iteration = o; action = act; retry = retry; below = ks; undone = u; undoing = goes copy more s c h })

pub undo_safe : (g : Ground) (m : ℕ) (ns : List ℕ) (b : Header) (o : Iteration) (target : ℕ) (act : Action) (retry : Bool) (passed : Passed) (ks : List StackEntry) (s : State) → IsQuiet (Execute (UndoComes b o target act retry passed)) s → AreFrames g (m ∷ ns) s.frames →
    IsOpen g (m ∷ ns) (allows ks) b o → undoes_one_of (b.number ∷ (allows ks).blocks) target act ≡ true → is_action (here g (m ∷ ns)) act ≡ true → IsCopy g (m ∷ ns) passed.first → IsStack g (m ∷ ns) ks →
    IsSafe g (config_if (target == b.number)
    (config (Execute (GoesBack (passed_with b o passed).first (passed_with b o passed).buffers)) (ThenDo (Acts b o act retry) ∷ ks) s)
    (config (Execute (Passes b (Undoes target act retry passed) (Undoes target act retry (passed_with b o passed)))) ks s))
undo_safe g m ns b o target act retry passed ks s quiet h is u a c k =
    safe_if g (target == b.number)
    (config (Execute (GoesBack (passed_with b o passed).first (passed_with b o passed).buffers)) (ThenDo (Acts b o act retry) ∷ ks) s)
    (config (Execute (Passes b (Undoes target act retry passed) (Undoes target act retry (passed_with b o passed)))) ks s)
    (λ e. comes (undoes_here target b.number (allows ks).blocks act u e) (covers g (m ∷ ns) (allows ks) b is.block))
    (λ e. goes_past (undoes_outside target b.number (allows ks).blocks act u e) (covers g (m ∷ ns) (allows ks) b is.block))
  where
    copy : IsCopy g (m ∷ ns) (passed_with b o passed).first
    copy = first_copy g (m ∷ ns) o.copy passed.first is.copy c

    comes : names_one_of (b.number ∷ (allows ks).blocks) act ≡ true → CanFail (allows ks) ⊎ IsOuter (allows ks) b → IsSafe g (config (Execute (GoesBack (passed_with b o passed).first (passed_with b o passed).buffers)) (ThenDo (Acts b o act retry) ∷ ks) s)
    comes n (inl f) = inl (m, ns, (h, (copy, ((is, a, n, f.faults), k))))
    comes n (inr x) = from_level g m ns b o act retry passed.buffers ks s h (record { iteration = is; action = a; named = n; stack = k }) (passed_with b o passed).first copy (λ none. quiet none x.undo)

    goes_past : undoes_one_of (allows ks).blocks target act ≡ true → CanFail (allows ks) ⊎ IsOuter (allows ks) b → IsSafe g (config (Execute (Passes b (Undoes target act retry passed) (Undoes target act retry (passed_with b o passed)))) ks s)
    goes_past v (inl f) = inl (m, ns, (h, ((f.faults, (v, a, c), (v, a, copy)), k)))
    goes_past v (inr x) = absurd (none_outside (allows ks).blocks target act x.alone v)

-- ---- the steps

-- a buffer is read again
update_safe : (g : Ground) (m : ℕ) (ns : List ℕ) (mark : ℕ) (place : Place) (c : Content) (ks : List StackEntry) (s : State) → AreFrames g (m ∷ ns) s.frames → IsRecord g.schema (table_there g (m ∷ ns) place.out place.number) c → ((t : State) → AreFrames g (m ∷ ns) t.frames → IsSafe g (config (Unwind Normal) ks t)) →
    ((row : RowId) (held : Held) (made : Option ℕ) (n : ℕ) → HasTable g.schema (table_there g (m ∷ ns) place.out place.number) → IsSafe g (config (Await (op.Get (buffer_in place s).table row) (WasGot place row held made)) ks (record s { units = n }))) → IsSafe g (update_step mark place (buffer_in place s).table c ks s)
update_safe g m ns mark place Empty ks s h r x y = x s h
update_safe g m ns mark place (Pending values since made) ks s h r x y = safe_if g (nat_lt mark made) _ _ (λ _. x _ (holding_in_keeps g (m ∷ ns) place Empty s h tt)) (λ _. x s h)
update_safe g m ns mark place (Record row values held made) ks s h r x y =
    safe_if g (made_later mark made) _ _ (λ _. x _ (holding_in_keeps g (m ∷ ns) place Empty s h tt)) (λ _. ask_safe g m ns (op.Get (buffer_in place s).table row) (WasGot place row held made) ks s h (λ n. y row held made n r.0))

-- a buffer without a pending record is entered
enter_safe : (g : Ground) (p : Program) (place : Place) (t : ℕ) (c : Content) (ks : List StackEntry) (s : State) → is_pending c ≡ false → IsSafe g (config (Unwind Normal) ks s) → IsSafe g (enter_step p place t c ks s)
enter_safe g p place t Empty ks s e x = x
enter_safe g p place t (Record row values held made) ks s e x = x
enter_safe g p place t (Pending values since made) ks s e x = absurd cc

drop_safe : (g : Ground) (m : ℕ) (ns : List ℕ) (row : Option RowId) (b : ℕ) (ks : List StackEntry) (s : State) → AreFrames g (m ∷ ns) s.frames → IsSafe g (config (Unwind Normal) ks (emptied b s)) →
    ((row : RowId) (n : ℕ) → IsSafe g (config (Await (op.Drop row) WasDropped) ks (record (emptied b s) { units = n }))) → IsSafe g (drop_step row b ks s)
drop_safe g m ns None b ks s h x y = x
drop_safe g m ns (Some row) b ks s h x y =
    safe_if g ((s.level == 0) && not (is_row_in row (keep_of (b ∷ []) s))) _ _ (λ _. ask_safe g m ns (op.Drop row) WasDropped ks (emptied b s) (emptied_keeps g (m ∷ ns) b s h) (λ n. y row n)) (λ _. x)

on : (g : Ground) (m : ℕ) (ns : List ℕ) (b : Header) (o : Iteration) (act : Action) (retry : Bool) (ks : List StackEntry) (c : Config) → IsUndone g (m ∷ ns) b o act ks → Undoing g (m ∷ ns) b o act retry ks c → IsSafe g c
on g m ns b o act retry ks c u x = inr (m, ns, record { block = b; iteration = o; action = act; retry = retry; below = ks; undone = u; undoing = x })

-- the action
act_safe : (g : Ground) (m : ℕ) (ns : List ℕ) (b : Header) (o : Iteration) (all act : Action) (retry : Bool) (ks : List StackEntry) (s : State) → IsUndone g (m ∷ ns) b o all ks → names_one_of (b.number ∷ (allows ks).blocks) act ≡ true → AreClear b.scoped s → AreFrames g (m ∷ ns) s.frames →
    IsSafe g (act_step g.program act b o retry ks s)
act_safe g m ns b o all ThenRetry retry ks s u n e h =
    safe_if g b.flags.retry_seen _ _ (λ _. inl (m, ns, (h, (u.iteration.again, u.stack)))) (λ _. on g m ns b o all retry ks _ u (closes _ s (instead_over (iterates b) b.number (allows ks).blocks) e h))
act_safe g m ns b o all (ThenLeave l) retry ks s u n e h = on g m ns b o all retry ks _ u (closes _ s n e h)
act_safe g m ns b o all (ThenNext l) retry ks s u n e h = on g m ns b o all retry ks _ u (closes _ s n e h)
act_safe g m ns b o all (ThenReturn error value) retry ks s u n e h = on g m ns b o all retry ks _ u (closes _ (returns_with g.program value retry s) tt (returned_clear b.scoped s _ e) h)
act_safe g m ns b o all ThenError retry ks s u n e h = on g m ns b o all retry ks _ u (closes _ s tt e h)

undoing_step : (g : Ground) (m : ℕ) (ns : List ℕ) (b : Header) (o : Iteration) (act : Action) (retry : Bool) (ks : List StackEntry) (c : Config) → IsUndone g (m ∷ ns) b o act ks → Undoing g (m ∷ ns) b o act retry ks c → IsSafe g (step g.code g.program c)
undoing_step g m ns b o act retry ks _ u (goes copy more s saved h) = ask_safe g m ns (op.Back copy.depth) (WasBack copy (b.scoped ++ more)) (ThenDo (Acts b o act retry) ∷ ks) s h (λ n. on g m ns b o act retry ks _ u (awaits_back copy more (op.Back copy.depth) (record s { units = n }) tt saved h))
undoing_step g m ns b o act retry ks _ u (bare more s e h) = on g m ns b o act retry ks _ u (has_emptied s e h)
undoing_step g m ns b o act retry ks _ u (awaits_back copy more q s w saved h) = on g m ns b o act retry ks _ u (awaits_back copy more q s w saved h)
undoing_step g m ns b o act retry ks _ u (restores copy more s saved h) = on g m ns b o act retry ks _ u (updates copy.made (all_places (put_back copy s)) more (put_back copy s) (put_back_keeps g (m ∷ ns) copy s saved h))
undoing_step g m ns b o act retry ks _ u (updates mark [] more s h) = on g m ns b o act retry ks _ u (updated more s h)
undoing_step g m ns b o act retry ks _ u (updates mark (place ∷ places) more s h) =
    safe_if g (is_left_out (b.scoped ++ more) place) _ _ (λ _. on g m ns b o act retry ks _ u (updated_one mark places more s h)) (λ _. on g m ns b o act retry ks _ u (updates_one mark place places more s h))
undoing_step g m ns b o act retry ks _ u (updates_one mark place places more s h) =
    update_safe g m ns mark place (buffer_in place s).content (ThenDo (Updates mark (b.scoped ++ more) places) ∷ leaving b o act retry more ks) s h (place_has g (m ∷ ns) place s h).content (λ t f. on g m ns b o act retry ks _ u (updated_one mark places more t f))
    (λ row held made n there. on g m ns b o act retry ks _ u (awaits_get mark places more (op.Get (buffer_in place s).table row) place row held made (record s { units = n }) (subst (HasTable g.schema) (sym (place_has g (m ∷ ns) place s h).table) there) (gets_there g (m ∷ ns) place row s there h) h))
undoing_step g m ns b o act retry ks _ u (awaits_get mark places more q place row held made s w suits h) = on g m ns b o act retry ks _ u (awaits_get mark places more q place row held made s w suits h)
undoing_step g m ns b o act retry ks _ u (updated_one mark places more s h) = on g m ns b o act retry ks _ u (updates mark places more s h)
undoing_step g m ns b o act retry ks _ u (updated more s h) = on g m ns b o act retry ks _ u (leaves more s h)
undoing_step g m ns b o act retry ks _ u (leaves more s h) = ask_safe g m ns (op.Leave (keep_of (b.scoped ++ more) s)) WasLeft (emptying b o act retry more ks) s h (λ n. on g m ns b o act retry ks _ u (awaits_leave more (op.Leave (keep_of (b.scoped ++ more) s)) (record s { units = n }) tt h))
undoing_step g m ns b o act retry ks _ u (awaits_leave more q s w h) = on g m ns b o act retry ks _ u (awaits_leave more q s w h)
undoing_step g m ns b o act retry ks _ u (has_left more s h) = on g m ns b o act retry ks _ u (empties more s h)
undoing_step g m ns b o act retry ks _ u (empties more s h) = on g m ns b o act retry ks _ u (has_emptied (all_emptied (b.scoped ++ more) s) (all_clear b.scoped more s) (all_emptied_keeps g (m ∷ ns) (b.scoped ++ more) s h))
undoing_step g m ns b o act retry ks _ u (has_emptied s e h) = on g m ns b o act retry ks _ u (acts s e h)
undoing_step g m ns b o act retry ks _ u (acts s e h) = act_safe g m ns b o act act retry ks s u u.named e h
undoing_step g m ns b o act retry ks _ u (closes out s over e h) = on g m ns b o act retry ks _ u (releases b.scoped (after_iteration b o out) s (after_over g (m ∷ ns) (allows ks) b o out over u.iteration.again) e h)
undoing_step g m ns b o act retry ks _ u (releases [] out s a e h) = inl (m, ns, (h, (tt, (a, u.stack))))
undoing_step g m ns b o act retry ks _ u (releases (n ∷ bs) out s a e h) = on g m ns b o act retry ks _ u (enters n bs out s a e h)
undoing_step g m ns b o act retry ks _ u (enters n bs out s a e h) =
    enter_safe g g.program (own n) (buffer_in (own n) s).table (buffer_in (own n) s).content (ThenDo (Drops n) ∷ releasing bs out ks) s (own_content n s e.0) (on g m ns b o act retry ks _ u (has_entered n bs out s a e.1 h))
undoing_step g m ns b o act retry ks _ u (has_entered n bs out s a e h) = on g m ns b o act retry ks _ u (drops n bs out s a e h)
undoing_step g m ns b o act retry ks _ u (drops n bs out s a e h) =
    drop_safe g m ns (locked_row (content_of n s)) n (releasing bs out ks) s h (on g m ns b o act retry ks _ u (has_dropped bs out (emptied n s) a (stays_clear n bs s e) (emptied_keeps g (m ∷ ns) n s h)))
    (λ row i. on g m ns b o act retry ks _ u (awaits_drop bs out (op.Drop row) (record (emptied n s) { units = i }) tt a (units_clear bs (emptied n s) i (stays_clear n bs s e)) (emptied_keeps g (m ∷ ns) n s h)))
undoing_step g m ns b o act retry ks _ u (awaits_drop bs out q s w a e h) = on g m ns b o act retry ks _ u (awaits_drop bs out q s w a e h)
undoing_step g m ns b o act retry ks _ u (has_dropped bs out s a e h) = on g m ns b o act retry ks _ u (releases bs out s a e h)

pub retreat_step : (g : Ground) (m : ℕ) (ns : List ℕ) (c : Config) → IsRetreat g (m ∷ ns) c → IsSafe g (step g.code g.program c)
retreat_step g m ns c r = undoing_step g m ns r.block r.iteration r.action r.retry r.below c r.undone r.undoing

-- ---- answers

-- an answer, where the configuration awaits one
abbrev pub hears : Program → Answer → Config → Config
hears p a c = elim c.mode as (λ _. Config) [ Execute t ↦ c | Unwind completion ↦ c | Await q on ↦ answered p a q on c.stack c.state ]

abbrev pub IsFit : Ground → Answer → Config → Type 0
IsFit g a c = elim c.mode as (λ _. Type 0) [ Execute t ↦ Unit {0} | Unwind completion ↦ Unit {0} | Await q on ↦ Fits g.schema q a ]

undoing_answer : (g : Ground) (m : ℕ) (ns : List ℕ) (b : Header) (o : Iteration) (act : Action) (retry : Bool) (ks : List StackEntry) (a : Answer) (c : Config) → IsFit g a c → IsUndone g (m ∷ ns) b o act ks → Undoing g (m ∷ ns) b o act retry ks c →
    IsSafe g (hears g.program a c)
undoing_answer g m ns b o act retry ks a _ fit u (awaits_back copy more q s w saved h) =
    answered_safe g m ns a q (WasBack copy (b.scoped ++ more)) (ThenDo (Acts b o act retry) ∷ ks) s h (on g m ns b o act retry ks _ u (awaits_back copy more q s w saved h)) (on g m ns b o act retry ks _ u (restores copy more s saved h))
undoing_answer g m ns b o act retry ks a _ fit u (awaits_get mark places more q place row held made s w suits h) =
    answered_safe g m ns a q (WasGot place row held made) (ThenDo (Updates mark (b.scoped ++ more) places) ∷ leaving b o act retry more ks) s h (on g m ns b o act retry ks _ u (awaits_get mark places more q place row held made s w suits h))
    (on g m ns b o act retry ks _ u (updated_one mark places more _ (got_keeps g (m ∷ ns) q place row held made a s fit h suits)))
undoing_answer g m ns b o act retry ks a _ fit u (awaits_leave more q s w h) =
    answered_safe g m ns a q WasLeft (emptying b o act retry more ks) s h (on g m ns b o act retry ks _ u (awaits_leave more q s w h)) (on g m ns b o act retry ks _ u (has_left more (left s) (left_keeps g (m ∷ ns) s h)))
undoing_answer g m ns b o act retry ks a _ fit u (awaits_drop bs out q s w e d h) =
    answered_safe g m ns a q WasDropped (releasing bs out ks) s h (on g m ns b o act retry ks _ u (awaits_drop bs out q s w e d h)) (on g m ns b o act retry ks _ u (has_dropped bs out s e d h))
undoing_answer g m ns b o act retry ks a _ fit u (bare more s e h) = on g m ns b o act retry ks _ u (bare more s e h)
undoing_answer g m ns b o act retry ks a _ fit u (goes copy more s saved h) = on g m ns b o act retry ks _ u (goes copy more s saved h)
undoing_answer g m ns b o act retry ks a _ fit u (restores copy more s saved h) = on g m ns b o act retry ks _ u (restores copy more s saved h)
undoing_answer g m ns b o act retry ks a _ fit u (updates mark places more s h) = on g m ns b o act retry ks _ u (updates mark places more s h)
undoing_answer g m ns b o act retry ks a _ fit u (updates_one mark place places more s h) = on g m ns b o act retry ks _ u (updates_one mark place places more s h)
undoing_answer g m ns b o act retry ks a _ fit u (updated_one mark places more s h) = on g m ns b o act retry ks _ u (updated_one mark places more s h)
undoing_answer g m ns b o act retry ks a _ fit u (updated more s h) = on g m ns b o act retry ks _ u (updated more s h)
undoing_answer g m ns b o act retry ks a _ fit u (leaves more s h) = on g m ns b o act retry ks _ u (leaves more s h)
undoing_answer g m ns b o act retry ks a _ fit u (has_left more s h) = on g m ns b o act retry ks _ u (has_left more s h)
undoing_answer g m ns b o act retry ks a _ fit u (empties more s h) = on g m ns b o act retry ks _ u (empties more s h)
undoing_answer g m ns b o act retry ks a _ fit u (has_emptied s e h) = on g m ns b o act retry ks _ u (has_emptied s e h)
undoing_answer g m ns b o act retry ks a _ fit u (acts s e h) = on g m ns b o act retry ks _ u (acts s e h)
undoing_answer g m ns b o act retry ks a _ fit u (closes out s over e h) = on g m ns b o act retry ks _ u (closes out s over e h)
undoing_answer g m ns b o act retry ks a _ fit u (releases bs out s i e h) = on g m ns b o act retry ks _ u (releases bs out s i e h)
undoing_answer g m ns b o act retry ks a _ fit u (enters n bs out s i e h) = on g m ns b o act retry ks _ u (enters n bs out s i e h)
undoing_answer g m ns b o act retry ks a _ fit u (has_entered n bs out s i e h) = on g m ns b o act retry ks _ u (has_entered n bs out s i e h)
undoing_answer g m ns b o act retry ks a _ fit u (drops n bs out s i e h) = on g m ns b o act retry ks _ u (drops n bs out s i e h)
undoing_answer g m ns b o act retry ks a _ fit u (has_dropped bs out s i e h) = on g m ns b o act retry ks _ u (has_dropped bs out s i e h)

pub retreat_answer : (g : Ground) (m : ℕ) (ns : List ℕ) (a : Answer) (c : Config) → IsFit g a c → IsRetreat g (m ∷ ns) c → IsSafe g (hears g.program a c)
retreat_answer g m ns a c fit r = undoing_answer g m ns r.block r.iteration r.action r.retry r.below a c fit r.undone r.undoing

-- ---- frames

pub undoing_frames : (g : Ground) (ns : List ℕ) (b : Header) (o : Iteration) (act : Action) (retry : Bool) (ks : List StackEntry) (c : Config) → Undoing g ns b o act retry ks c → AreFrames g ns c.state.frames
undoing_frames g ns b o act retry ks _ (goes copy more s saved h) = h
undoing_frames g ns b o act retry ks _ (bare more s e h) = h
undoing_frames g ns b o act retry ks _ (awaits_back copy more q s w saved h) = h
undoing_frames g ns b o act retry ks _ (restores copy more s saved h) = h
undoing_frames g ns b o act retry ks _ (updates mark places more s h) = h
undoing_frames g ns b o act retry ks _ (updates_one mark place places more s h) = h
undoing_frames g ns b o act retry ks _ (awaits_get mark places more q place row held made s w suits h) = h
undoing_frames g ns b o act retry ks _ (updated_one mark places more s h) = h
undoing_frames g ns b o act retry ks _ (updated more s h) = h
undoing_frames g ns b o act retry ks _ (leaves more s h) = h
undoing_frames g ns b o act retry ks _ (awaits_leave more q s w h) = h
undoing_frames g ns b o act retry ks _ (has_left more s h) = h
undoing_frames g ns b o act retry ks _ (empties more s h) = h
undoing_frames g ns b o act retry ks _ (has_emptied s e h) = h
undoing_frames g ns b o act retry ks _ (acts s e h) = h
undoing_frames g ns b o act retry ks _ (closes out s over e h) = h
undoing_frames g ns b o act retry ks _ (releases bs out s i e h) = h
undoing_frames g ns b o act retry ks _ (enters n bs out s i e h) = h
undoing_frames g ns b o act retry ks _ (has_entered n bs out s i e h) = h
undoing_frames g ns b o act retry ks _ (drops n bs out s i e h) = h
undoing_frames g ns b o act retry ks _ (awaits_drop bs out q s w i e h) = h
undoing_frames g ns b o act retry ks _ (has_dropped bs out s i e h) = h

-- some procedures are open, whose values are of their kinds
pub frames_safe : (g : Ground) (c : Config) → IsSafe g c → (n : ℕ) × (ns : List ℕ) × AreFrames g (n ∷ ns) c.state.frames
frames_safe g c (inl k) = (k.0, k.1, k.2.0)
frames_safe g c (inr r) = (r.0, r.1, undoing_frames g (r.0 ∷ r.1) r.2.block r.2.iteration r.2.action r.2.retry r.2.below c r.2.undoing)

-- ---- operations

-- what is asked is of the schema
abbrev pub AsksOfSchema : Ground → Config → Type 0
AsksOfSchema g c = elim c.mode as (λ _. Type 0) [ Execute t ↦ Unit {0} | Unwind completion ↦ Unit {0} | Await q on ↦ IsOfSchema g.schema q ]

undoing_asks : (g : Ground) (ns : List ℕ) (b : Header) (o : Iteration) (act : Action) (retry : Bool) (ks : List StackEntry) (c : Config) → Undoing g ns b o act retry ks c → AsksOfSchema g c
undoing_asks g ns b o act retry ks _ (awaits_back copy more q s w saved h) = w
undoing_asks g ns b o act retry ks _ (awaits_get mark places more q place row held made s w suits h) = w
undoing_asks g ns b o act retry ks _ (awaits_leave more q s w h) = w
undoing_asks g ns b o act retry ks _ (awaits_drop bs out q s w i e h) = w
undoing_asks g ns b o act retry ks _ (goes copy more s saved h) = tt
undoing_asks g ns b o act retry ks _ (bare more s e h) = tt
undoing_asks g ns b o act retry ks _ (restores copy more s saved h) = tt
undoing_asks g ns b o act retry ks _ (updates mark places more s h) = tt
undoing_asks g ns b o act retry ks _ (updates_one mark place places more s h) = tt
undoing_asks g ns b o act retry ks _ (updated_one mark places more s h) = tt
undoing_asks g ns b o act retry ks _ (updated more s h) = tt
undoing_asks g ns b o act retry ks _ (leaves more s h) = tt
undoing_asks g ns b o act retry ks _ (has_left more s h) = tt
undoing_asks g ns b o act retry ks _ (empties more s h) = tt
undoing_asks g ns b o act retry ks _ (has_emptied s e h) = tt
undoing_asks g ns b o act retry ks _ (acts s e h) = tt
undoing_asks g ns b o act retry ks _ (closes out s over e h) = tt
undoing_asks g ns b o act retry ks _ (releases bs out s i e h) = tt
undoing_asks g ns b o act retry ks _ (enters n bs out s i e h) = tt
undoing_asks g ns b o act retry ks _ (has_entered n bs out s i e h) = tt
undoing_asks g ns b o act retry ks _ (drops n bs out s i e h) = tt
undoing_asks g ns b o act retry ks _ (has_dropped bs out s i e h) = tt

pub asks_safe : (g : Ground) (q : Op) (on : OnAnswer) (ks : List StackEntry) (s : State) → IsSafe g (config (Await q on) ks s) → IsOfSchema g.schema q
asks_safe g q on ks s (inl h) = h.2.1.0
asks_safe g q on ks s (inr r) = undoing_asks g (r.0 ∷ r.1) r.2.block r.2.iteration r.2.action r.2.retry r.2.below (config (Await q on) ks s) r.2.undoing
