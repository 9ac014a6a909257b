-- Parts of steps.
use Rattle.std.proofs.Common.{◌≡◌, ◌<◌, ◌≤◌, inl, inr, arith, refl, sym, ap, ◌∙◌, subst, ℕ, zero, suc, Bool, true, false, List, [], ◌∷◌, ◌++◌, Option, Some, None, map}
use Rattle.std.specs.Prelude.{◌==◌, ◌&&◌, ◌||◌, slice_index_or, slice_set}
use Rattle.std.proofs.lemmas.Bool.Decides.{eqb_tells}
use Rattle.abl_base.specs.declared.row.RowId.{RowId}
use Rattle.abl_base.specs.declared.value.Kind.{Kind}
use Rattle.abl_base.specs.declared.value.Value.{Value}
use Rattle.bound_tree.specs.declared.expression.Variable.{Variable}
use Rattle.bound_tree.specs.declared.statement.Target.{Target}
use Rattle.bound_tree.specs.declared.statement.Target.TheVariants as target
use Rattle.bound_tree.specs.Tree.{Argument, Body, Expr, In, InOut, Out}
use Rattle.database_protocol.specs.declared.operation.Op.{Op}
use Rattle.expression_meaning.specs.Operators.{holds}
use Rattle.block_meaning.specs.declared.wants.Piece.{Piece}
use Rattle.block_meaning.specs.Blocks.{complained, first_of_two, line_piece}
use Rattle.block_meaning.specs.Buffers.{Place, buffer_in, holding_in, is_left_out, own}
use Rattle.block_meaning.specs.Changes.{as_before, stored, stored_if, stored_in, stored_value, with_field}
use Rattle.block_meaning.specs.Frames.{all_emptied, assigned, buffer_at, content_of, emptied, holding, is_in, marked_locked, no_buffer, own_frame, with_own, with_spot}
use Rattle.block_meaning.specs.Lines.{Complaint}
use Rattle.block_meaning.specs.Meaning.{cleared, copied_out}
use Rattle.block_meaning.specs.Program.{Program}
use Rattle.block_meaning.specs.State.{Buffer, CallFrame, Completion, Content, Copy, Empty, EndKeys, Faults, Held, Normal, Pending, Raises, Record, Spot, State, Stops, Undoes, written_if, wrote}
use Rattle.block_meaning.specs.Streams.{read_to, read_up_to, stream_at}
use Rattle.block_meaning.specs.Values.{Evaluated, EvaluatedAll, Fails, FailsAll, Gives, GivesAll, fit, value_now}
use Rattle.flat_machine.specs.Config.{AfterClosing, AndAgain, AsBefore, Called, Config, Empties, ErrorComes, FetchedAs, FoundAs, Handles, In as InEntry, OnAnswer, OrDo, Quiet, StackEntry, ThenDo, Unwind}
use Rattle.flat_machine.specs.Means.{contents_back, first_of, less}
use Rattle.flat_machine.specs.Steps.{ask, asked_from, config, config_if, costing, given_all_step, given_step, judge_step, test_step}
use Rattle.machine_laws.proofs.LevelsLemmas.Kept.{Below, Comes, FirstAt, IsOver, StackAt, class, class_of_first}
use Rattle.machine_laws.proofs.PendingLemmas.Pends.{Claims, FramesClaim, IsClear, None_is, all_emptied_keeps, back_keeps, copied_keeps, emptied_keeps, holding_in_keeps, holding_keeps, marked_keeps, spot_keeps, stored_if_keeps, stored_keeps}
use Rattle.machine_laws.proofs.PendingLemmas.Places.{IsAmong, IsPending, IsPendingAt, among_either, among_left, clear_among, held_among, free_among}
use Rattle.machine_laws.proofs.PendingLemmas.Kept.{AfterLeave, AwaitFits, Carries, CarriesNone, Follows, HasPassedNone, IsCopyOf, IsIn, IsMarked, IsStack, LeavesTo, ModeFits, Moves, Rests, Want, rests_want, want_any, want_covers, want_moves}

-- ---- states

-- as many CREATEs, and no new pending record
pub record Keeps (s t : State) : Type 1 where
  pub made : t.made ≡ s.made
  pub claims : (held : ℕ → Type 0) → FramesClaim held s.frames → FramesClaim held t.frames

pub keeps_same : (s t : State) → t.made ≡ s.made → t.frames ≡ s.frames → Keeps s t
keeps_same s t m f = record { made = m; claims = λ held h. subst (FramesClaim held) (sym f) h }

pub cleared_keeps : (quiet : Bool) (s : State) → Keeps s (cleared quiet s)
cleared_keeps true s = record { made = refl; claims = λ held h. h }
cleared_keeps false s = record { made = refl; claims = λ held h. h }

written_keeps : (b : Bool) (piece : Piece) (s : State) → Keeps s (written_if b piece s).state
written_keeps true piece s = record { made = refl; claims = λ held h. h }
written_keeps false piece s = record { made = refl; claims = λ held h. h }

pub wrote_keeps : (piece : Piece) (s : State) → Keeps s (wrote piece s).state
wrote_keeps piece s = written_keeps _ piece s

pub complained_keeps : (p : Program) (c : Option Complaint) (s : State) → Keeps s (complained p c s).state
complained_keeps p None s = record { made = refl; claims = λ held h. h }
complained_keeps p (Some c) s = wrote_keeps (line_piece p c s) s

read_keeps : (o : Option ℕ) (n next : ℕ) (s : State) → Keeps s (read_up_to o n (stream_at n s) next s)
read_keeps None n next s = record { made = refl; claims = λ held h. h }
read_keeps (Some i) n next s = record { made = refl; claims = λ held h. h }

pub read_to_keeps : (n next : ℕ) (s : State) → Keeps s (read_to n next s)
read_to_keeps n next s = read_keeps (stream_at n s).input n next s

all_emptied_made : (bs : List ℕ) (s : State) → (all_emptied bs s).made ≡ s.made
all_emptied_made [] s = refl
all_emptied_made (b ∷ bs) s = all_emptied_made bs (emptied b s)

pub empties_keeps : (bs : List ℕ) (s : State) → Keeps s (all_emptied bs s)
empties_keeps bs s = record { made = all_emptied_made bs s; claims = λ held h. all_emptied_keeps held bs s h }

back_made : (cs : List Content) (bs : List ℕ) (s : State) → (contents_back cs bs s).made ≡ s.made
back_made cs [] s = refl
back_made cs (b ∷ bs) s = back_made (less cs) bs (holding b (as_before (first_of cs) (content_of b s)) s)

pub backs_keep : (cs : List Content) (bs : List ℕ) (s : State) → Keeps s (contents_back cs bs s)
backs_keep cs bs s = record { made = back_made cs bs s; claims = λ held h. back_keeps held cs bs s h }

copied_made : (args : List Argument) (xs : List Variable) (f : CallFrame) (s : State) → (copied_out args xs f s).made ≡ s.made
copied_made [] xs f s = refl
copied_made (a ∷ rest) [] f s = refl
copied_made (In w ∷ rest) (x ∷ xs) f s = copied_made rest xs f s
copied_made (InOut y ∷ rest) (x ∷ xs) f s = copied_made rest xs f _
copied_made (Out y ∷ rest) (x ∷ xs) f s = copied_made rest xs f _

pub copies_keep : (args : List Argument) (xs : List Variable) (f : CallFrame) (s : State) → Keeps s (copied_out args xs f s)
copies_keep args xs f s = record { made = copied_made args xs f s; claims = λ held h. copied_keeps held args xs f s h }

field_made : (f : ℕ) (v : Value) (b : ℕ) (c : Content) (s : State) → (with_field f v b c s).made ≡ s.made
field_made f v b Empty s = refl
field_made f v b (Record row values lock made) s = refl
field_made f v b (Pending values since made) s = refl

value_made : (x : Evaluated) (set : Value → State → State) (s : State) → ((v : Value) → (set v s).made ≡ s.made) → (stored_value x set s).state.made ≡ s.made
value_made (Gives v) set s h = h v
value_made (Fails c) set s h = refl

in_made : (c : Content) (b f : ℕ) (k : Kind) (v : Value) (s : State) → (stored_in c b f k v s).state.made ≡ s.made
in_made Empty b f k v s = refl
in_made (Record row values lock made) b f k v s = value_made (fit k v) (λ v. with_field f v b (Record row values lock made)) s (λ w. refl)
in_made (Pending values since made) b f k v s = value_made (fit k v) (λ v. with_field f v b (Pending values since made)) s (λ w. refl)

stored_made : (t : Target) (v : Value) (s : State) → (stored t v s).state.made ≡ s.made
stored_made (target.Variable x) v s = value_made (fit x.kind v) (assigned x) s (λ w. refl)
stored_made (target.Field b f k) v s = in_made (content_of b s) b f k v s

pub stores_keep : (t : Target) (v : Value) (s : State) → Keeps s (stored t v s).state
stores_keep t v s = record { made = stored_made t v s; claims = λ held h. stored_keeps held t v s h }

stored_if_made : (x : Evaluated) (t : Target) (s : State) → (stored_if x t s).state.made ≡ s.made
stored_if_made (Gives v) t s = stored_made t v s
stored_if_made (Fails c) t s = refl

pub stores_if_keep : (x : Evaluated) (t : Target) (s : State) → Keeps s (stored_if x t s).state
stores_if_keep x t s = record { made = stored_if_made x t s; claims = λ held h. stored_if_keeps held x t s h }

pub marked_in : (m : ℕ) (s t : State) → Keeps s t → IsMarked m s → IsMarked m t
marked_in m s t x h = (x.claims (λ made. m < made) h.0, subst (λ n. m ≤ n) (sym x.made) h.1)

pub to : (m k : ℕ) (ks : List StackEntry) (s t : State) → Keeps s t → IsIn m k ks s → IsIn m k ks t
to m k ks s t x i = (marked_in m s t x i.0, λ e. x.claims None_is (i.1 e), i.2)

-- ---- changes of a buffer move no pending record

-- no place has a pending record that had none
abbrev pub Fewer : List CallFrame → List CallFrame → Type 0
Fewer fs gs = (out n : ℕ) → IsPendingAt out n gs → IsPendingAt out n fs

fewer_in : (bs : List Buffer) (i n : ℕ) (b : Buffer) → (IsPending b.content → IsPending (slice_index_or bs i no_buffer).content) → IsPending (slice_index_or (slice_set bs i b) n no_buffer).content → IsPending (slice_index_or bs n no_buffer).content
fewer_in [] i n b x p = p
fewer_in (c ∷ bs) zero zero b x p = x p
fewer_in (c ∷ bs) zero (suc n) b x p = p
fewer_in (c ∷ bs) (suc i) zero b x p = p
fewer_in (c ∷ bs) (suc i) (suc n) b x p = fewer_in bs i n b x p

own_fewer : (fs : List CallFrame) (b : ℕ) (x : Buffer) → (IsPending x.content → IsPending (slice_index_or (own_frame fs).buffers b no_buffer).content) → Fewer fs (with_own (record (own_frame fs) { buffers = slice_set (own_frame fs).buffers b x }) fs)
own_fewer [] b x h out n p = p
own_fewer (f ∷ fs) b x h zero n p = fewer_in f.buffers b n x h p
own_fewer (f ∷ fs) b x h (suc out) n p = p

pub record Stays (s t : State) : Type 1 where
  pub keeps : Keeps s t
  pub fewer : Fewer s.frames t.frames

pub stays_same : (s : State) → Stays s s
stays_same s = record { keeps = record { made = refl; claims = λ held h. h }; fewer = λ out n p. p }

pub stays_then : (s t u : State) → Stays s t → Stays t u → Stays s u
stays_then s t u x y = record { keeps = record { made = y.keeps.made ∙ x.keeps.made; claims = λ held h. y.keeps.claims held (x.keeps.claims held h) }; fewer = λ out n p. x.fewer out n (y.fewer out n p) }

pub emptied_stays : (b : ℕ) (s : State) → Stays s (emptied b s)
emptied_stays b s = record { keeps = record { made = refl; claims = λ held h. emptied_keeps held b s h }; fewer = own_fewer s.frames b (record (buffer_at b s) { content = Empty }) (λ p. absurd p) }

pub shows_stays : (b : ℕ) (row : RowId) (values : List Value) (lock : Held) (made : Option ℕ) (s : State) → Stays s (holding b (Record row values lock made) s)
shows_stays b row values lock made s =
    record { keeps = record { made = refl; claims = λ held h. holding_keeps held b (Record row values lock made) s h tt }; fewer = own_fewer s.frames b (record (buffer_at b s) { content = Record row values lock made }) (λ p. absurd p) }

pub marked_stays : (b : ℕ) (is : Bool) (s : State) → Stays s (marked_locked b is s)
marked_stays b is s = record { keeps = record { made = refl; claims = λ held h. marked_keeps held b is s h }; fewer = own_fewer s.frames b (record (buffer_at b s) { locked = is }) (λ p. p) }

pub spot_stays : (b : ℕ) (spot : Option Spot) (s : State) → Stays s (with_spot b spot s)
spot_stays b spot s = record { keeps = record { made = refl; claims = λ held h. spot_keeps held b spot s h }; fewer = own_fewer s.frames b (record (buffer_at b s) { spot = spot }) (λ p. p) }

-- so what follows needs is kept
pub stays_want : (places : List Place) (ks : List StackEntry) (s t : State) (k : ℕ) → Stays s t → Want places ks s.frames k → Want places ks t.frames k
stays_want places ks s t k x w = want_moves places places ks s.frames t.frames k (record { places = λ rest h out n p. h out n (x.fewer out n p); claims = x.keeps.claims }) w

-- at a place is then no pending record
pub held_moves : (place : Place) (c : Content) (s : State) → (IsPending c → ⊥) → ((held : ℕ → Type 0) → Claims held c) → Moves (place ∷ []) [] s.frames (holding_in place c s).frames
held_moves place c s x y =
    record {
      places = λ rest h. held_among place c (rest ++ []) s x (λ out n p. turn rest out n (h out n p));
      claims = λ held h. holding_in_keeps held place c s h (y held);
    }
  where
    turn : (rest : List Place) (out n : ℕ) → IsAmong out n (rest ++ place ∷ []) → IsAmong out n (place ∷ (rest ++ []))
    turn rest out n h =
        elim (among_either out n rest (place ∷ []) h) [
          | inl a ↦ inr (among_left out n rest [] a)
          | inr b ↦ elim b [ inl e ↦ inl e | inr none ↦ absurd none ]
        ]

pub free_moves : (place : Place) (s : State) → (IsPending (buffer_in place s).content → ⊥) → Moves (place ∷ []) [] s.frames s.frames
free_moves place s x =
    record {
      places = λ rest h. free_among place (rest ++ []) s x (λ out n p. turn rest out n (h out n p));
      claims = λ held h. h;
    }
  where
    turn : (rest : List Place) (out n : ℕ) → IsAmong out n (rest ++ place ∷ []) → IsAmong out n (place ∷ (rest ++ []))
    turn rest out n h =
        elim (among_either out n rest (place ∷ []) h) [
          | inl a ↦ inr (among_left out n rest [] a)
          | inr b ↦ elim b [ inl e ↦ inl e | inr none ↦ absurd none ]
        ]

-- a place more
pub one_more : (place : Place) (ks : List StackEntry) (fs : List CallFrame) (k : ℕ) → Want [] ks fs k → Want (place ∷ []) ks fs k
one_more place ks fs k w = want_covers [] (place ∷ []) ks fs k (λ out n h. absurd h) w

-- a buffer that is left out is one of these
pub left_out_among : (but : List ℕ) (place : Place) → is_left_out but place ≡ true → IsAmong place.out place.number (map own but)
left_out_among but place e = go (place.out == 0) refl e
  where
    number_among : (bs : List ℕ) → is_in place.number bs ≡ true → place.out ≡ 0 → IsAmong place.out place.number (map own bs)
    number_among [] e z = absurd (let x : false ≡ true = e in cc)
    number_among (b ∷ bs) e z =
        elim (eqb_tells place.number b) [
          | inl same ↦ inl (sym z, sym same.1)
          | inr other ↦ inr (number_among bs (sym (ap (λ c. c || is_in place.number bs) other.0) ∙ e) z)
        ]

    go : (c : Bool) → (place.out == 0) ≡ c → (c && is_in place.number but) ≡ true → IsAmong place.out place.number (map own but)
    go true is e =
        elim (eqb_tells place.out 0) [
          | inl zero_is ↦ number_among but e zero_is.1
          | inr other ↦ absurd (let x : false ≡ true = sym other.0 ∙ is in cc)
        ]
    go false is e = absurd (let x : false ≡ true = e in cc)

-- ---- copies and completions

pub first_copy : (m : ℕ) (copy passed : Option Copy) → IsCopyOf m copy → IsCopyOf m passed → IsCopyOf m (first_of_two copy passed)
first_copy m None passed x y = y
first_copy m (Some c) passed x y = x

pub over_none : (completion : Completion) → IsOver completion → CarriesNone completion
over_none (Undoes block act retry passed) h = absurd h
over_none (Raises passed) h = absurd h
over_none (EndKeys passed) h = absurd h
over_none completion h = tt

none_first : (o : Option Copy) (m l : ℕ) → l ≡ 0 → FirstAt m o l → HasPassedNone o
none_first None m l z h = tt
none_first (Some copy) m l z h = absurd (let x = h.1 in omega (arith, x, z))

pub comes_none : (completion : Completion) (m l : ℕ) → l ≡ 0 → Comes completion m m l → CarriesNone completion
comes_none (Undoes block act retry passed) m l z h = none_first passed.first m l z h
comes_none (Raises passed) m l z h = none_first passed.first m l z h
comes_none (EndKeys passed) m l z h = none_first passed.first m l z h
comes_none completion m l z h = tt

none_copy : (m : ℕ) (o : Option Copy) → HasPassedNone o → IsCopyOf m o
none_copy m None h = tt
none_copy m (Some copy) h = absurd h

pub none_carries : (m : ℕ) (completion : Completion) → CarriesNone completion → Carries m completion
none_carries m (Undoes block act retry passed) h = none_copy m passed.first h
none_carries m (Raises passed) h = none_copy m passed.first h
none_carries m (EndKeys passed) h = none_copy m passed.first h
none_carries m completion h = tt

-- ---- configurations

abbrev pub Fits : ℕ → ℕ → Config → Type 0
Fits m k c = ModeFits m k c.mode c.stack c.state

pub normal : (m k : ℕ) (ks : List StackEntry) (s : State) → IsIn m k ks s → Want [] ks s.frames k → Fits m k (config (Unwind Normal) ks s)
normal m k [] s i w = (i, tt, w)
normal m k (ThenDo (ErrorComes b o passed) ∷ ks) s i w = absurd i.2.0
normal m k (ThenDo (Empties but) ∷ ks) s i w = (i.0, w, i.2)
normal m k (x ∷ ks) s i w = (i, tt, w)

pub unwinds : (m k : ℕ) (completion : Completion) (ks : List StackEntry) (s : State) → IsIn m k ks s → Carries m completion → Follows completion ks s.frames k → Fits m k (config (Unwind completion) ks s)
unwinds m k Normal ks s i c w = normal m k ks s i w
unwinds m k (Stops end) ks s i c w = tt
unwinds m k completion [] s i c w = (i, c, w)
unwinds m k completion (ThenDo (ErrorComes b o passed) ∷ ks) s i c w = absurd i.2.0
unwinds m k completion (x ∷ ks) s i c w = (i, c, w)

pub rests_follow : (completion : Completion) (ks : List StackEntry) (fs : List CallFrame) (k : ℕ) → Rests ks → Follows completion ks fs k
rests_follow Normal ks fs k r = rests_want [] ks fs k r
rests_follow (Faults c) ks fs k r = tt
rests_follow completion ks fs k r = want_any ks fs k (rests_want [] ks fs k r)

pub want_follow : (completion : Completion) (ks : List StackEntry) (fs : List CallFrame) (k : ℕ) → Want [] ks fs k → Follows completion ks fs k
want_follow Normal ks fs k w = w
want_follow (Faults c) ks fs k w = tt
want_follow completion ks fs k w = want_any ks fs k w

pub faulted : (m k : ℕ) (c : Option Complaint) (ks : List StackEntry) (s : State) → IsIn m k ks s → Fits m k (config (Unwind (Faults c)) ks s)
faulted m k c ks s i = unwinds m k (Faults c) ks s i tt tt

pub done : (m k : ℕ) (ks : List StackEntry) (s : State) → IsIn m k ks s → Rests ks → Fits m k (config (Unwind Normal) ks s)
done m k ks s i r = normal m k ks s i (rests_want [] ks s.frames k r)

-- the end, a fault or a stop
pub plain_carries : (m : ℕ) (completion : Completion) → class completion ≡ 0 → Carries m completion
plain_carries m (Undoes block act retry passed) c = absurd (omega (arith, c))
plain_carries m (Raises passed) c = absurd (omega (arith, c))
plain_carries m (EndKeys passed) c = go passed.first c
  where
    go : (o : Option Copy) → class_of_first o ≡ 0 → IsCopyOf m o
    go None c = tt
    go (Some copy) c = absurd (omega (arith, c))
plain_carries m completion c = tt

pub fits_if : (b : Bool) (m k : ℕ) (one other : Config) → (b ≡ true → Fits m k one) → (b ≡ false → Fits m k other) → Fits m k (config_if b one other)
fits_if true m k one other x y = x refl
fits_if false m k one other x y = y refl

asked : (m k n : ℕ) (o : Op) (on : OnAnswer) (ks : List StackEntry) (s : State) → IsIn m k ks s → AwaitFits m k on ks s.frames → Fits m k (asked_from n o on ks s)
asked m k zero o on ks s i a = tt
asked m k (suc n) o on ks s i a = (i, a)

pub asks : (m k : ℕ) (o : Op) (on : OnAnswer) (ks : List StackEntry) (s : State) → IsIn m k ks s → AwaitFits m k on ks s.frames → Fits m k (ask o on ks s)
asks m k o on ks s i a = asked m k s.units o on ks s i a

charged : (m k n : ℕ) (go : State → Config) (ks : List StackEntry) (s : State) → IsIn m k ks s → ((t : State) → IsIn m k ks t → Fits m k (go t)) → Fits m k (costing n go ks s)
charged m k zero go ks s i x = tt
charged m k (suc n) go ks s i x = x (record s { units = n }) i

pub costs : (m k : ℕ) (go : State → Config) (ks : List StackEntry) (s : State) → IsIn m k ks s → ((t : State) → IsIn m k ks t → Fits m k (go t)) → Fits m k (costing s.units go ks s)
costs m k go ks s i x = charged m k s.units go ks s i x

pub given_fits : (m k : ℕ) (v : Evaluated) (go : Value → State → Config) (ks : List StackEntry) (s : State) → IsIn m k ks s → ((w : Value) → Fits m k (go w s)) → Fits m k (given_step v go ks s)
given_fits m k (Gives v) go ks s i x = x v
given_fits m k (Fails f) go ks s i x = faulted m k (Some f) ks s i

pub given_all_fits : (m k : ℕ) (v : EvaluatedAll) (go : List Value → State → Config) (ks : List StackEntry) (s : State) → IsIn m k ks s → ((ws : List Value) → Fits m k (go ws s)) → Fits m k (given_all_step v go ks s)
given_all_fits m k (GivesAll vs) go ks s i x = x vs
given_all_fits m k (FailsAll f) go ks s i x = faulted m k (Some f) ks s i

judged : (m k : ℕ) (v : Evaluated) (b : ℕ) (good bad : State → Config) (ks : List StackEntry) (s : State) → IsIn m k ks s → Want [] ks s.frames k → ((t : State) → IsIn m k ks t → Want [] ks t.frames k → Fits m k (good t)) → ((t : State) → IsIn m k ks t → Want [] ks t.frames k → Fits m k (bad t)) →
    Fits m k (judge_step v b good bad ks s)
judged m k (Gives v) b good bad ks s i w x y = fits_if (holds v) m k (good s) (bad (emptied b s)) (λ _. x s i w) (λ _. y (emptied b s) (to m k ks s (emptied b s) (emptied_stays b s).keeps i) (stays_want [] ks s (emptied b s) k (emptied_stays b s) w))
judged m k (Fails f) b good bad ks s i w x y = faulted m k (Some f) ks (emptied b s) (to m k ks s (emptied b s) (emptied_stays b s).keeps i)

-- after WHERE
pub tests : (m k : ℕ) (p : Program) (e : Option Expr) (b : ℕ) (retry : Bool) (good bad : State → Config) (ks : List StackEntry) (s : State) → IsIn m k ks s → Want [] ks s.frames k → ((t : State) → IsIn m k ks t → Want [] ks t.frames k → Fits m k (good t)) →
    ((t : State) → IsIn m k ks t → Want [] ks t.frames k → Fits m k (bad t)) → Fits m k (test_step p e b retry good bad ks s)
tests m k p None b retry good bad ks s i w x y = x s i w
tests m k p (Some e) b retry good bad ks s i w x y = judged m k (value_now p e retry s) b good bad ks s i w x y

-- ---- a new mark

-- an iteration outside of all levels has no copy
none_live : (tree : ℕ → Body) (other : ℕ) (copy : Option Copy) (ks : List StackEntry) (l : ℕ) → Below copy 0 l → StackAt tree ks l l → IsCopyOf other copy × StackAt tree ks l 0
none_live tree other None ks l e at = (tt, subst (λ j. StackAt tree ks l j) (sym e) at)
none_live tree other (Some c) ks l e at = absurd (let x = e.1 in omega (arith, x))

-- where no level is open the stack has no copy
pub fresh : (tree : ℕ → Body) (m other n : ℕ) (ks : List StackEntry) → StackAt tree ks n 0 → IsStack m ks → IsStack other ks
fresh tree m other n [] st h = tt
fresh tree m other n (ThenDo t ∷ ks) st h = (h.0, fresh tree m other st.1.0 ks st.1.1 h.1)
fresh tree m other n (OrDo t ∷ ks) st h = (h.0, fresh tree m other 0 ks st.1 h.1)
fresh tree m other n (FoundAs word b ∷ ks) st h = (h.0, fresh tree m other 0 ks st.1 h.1)
fresh tree m other n (AsBefore olds bs ∷ ks) st h = (h.0, fresh tree m other n ks st h.1)
fresh tree m other n (Quiet quiet ∷ ks) st h = (h.0, fresh tree m other 0 ks st.1 h.1)
fresh tree m other n (Handles quiet ∷ ks) st h = (h.0, fresh tree m other 0 ks st.1 h.1)
fresh tree m other n (AndAgain i b outer body d ∷ ks) st h = (h.0, fresh tree m other 0 ks st.2 h.1)
fresh tree m other n (Called args i ∷ ks) st h = (h.0, fresh tree m other 0 ks st.1 h.1)
fresh tree m other n (InEntry b o ∷ ks) st h =
    let x = none_live tree other o.copy ks st.1.0 st.1.1 st.1.2 in
    ((x.0, h.0.1), fresh tree m other st.1.0 ks x.1 h.1)
fresh tree m other n (FetchedAs b copy t buffer body d retry ∷ ks) st h =
    let x = none_live tree other copy ks st.2.0 st.2.1 st.2.2 in
    ((x.0, h.0.1), fresh tree m other st.2.0 ks x.1 h.1)
fresh tree m other n (AfterClosing b o completion ∷ ks) st h =
    let x = none_live tree other o.copy ks n st.0 st.1 in
    ((x.0, h.0.1), fresh tree m other n ks x.1 h.1)

-- ---- leaving a level

pub rests_leaves : (ks : List StackEntry) → Rests ks → LeavesTo ks
rests_leaves (ThenDo (Empties but) ∷ ks) r = absurd r.0
rests_leaves ks r = r

pub clear_leaves : (ks : List StackEntry) (fs : List CallFrame) (k : ℕ) → (k ≡ 1 → IsClear fs) → AfterLeave [] ks fs k
clear_leaves (ThenDo (Empties but) ∷ ks) fs k h = λ e. clear_among (map own but) fs (h e)
clear_leaves ks fs k h = λ e. clear_among [] fs (h e)
