-- Parts of steps.
use Rattle.std.proofs.Common.{◌≡◌, refl, sym, ◌∙◌, subst, ℕ, zero, suc, Bool, true, false, List, [], ◌∷◌, Option, Some, None}
use Rattle.std.specs.Prelude.{slice_index_or, slice_set}
use Rattle.abl_base.specs.declared.row.RowId.{RowId}
use Rattle.abl_base.specs.declared.value.Kind.{Kind}
use Rattle.abl_base.specs.declared.value.Value.{Value}
use Rattle.bound_tree.specs.declared.expression.Variable.{Variable}
use Rattle.bound_tree.specs.declared.statement.Target.{Target}
use Rattle.bound_tree.specs.declared.statement.Target.TheVariants as target
use Rattle.bound_tree.specs.Tree.{Expr}
use Rattle.database_protocol.specs.declared.operation.Op.{Op}
use Rattle.expression_meaning.specs.Operators.{holds}
use Rattle.block_meaning.specs.declared.wants.Piece.{Piece}
use Rattle.block_meaning.specs.Blocks.{complained, line_piece}
use Rattle.block_meaning.specs.Buffers.{Place, buffer_in, holding_in}
use Rattle.block_meaning.specs.Changes.{stored, stored_if, stored_in, stored_value, with_field}
use Rattle.block_meaning.specs.Frames.{assigned, buffer_at, content_of, emptied, frame_for, holding, last_frame, no_buffer, no_frame, own_frame, set_in, with_frame_for, with_last, with_own}
use Rattle.block_meaning.specs.Lines.{Complaint}
use Rattle.block_meaning.specs.Meaning.{cleared}
use Rattle.block_meaning.specs.Program.{Program}
use Rattle.block_meaning.specs.State.{Buffer, CallFrame, Completed, Completion, Content, Empty, Exclusive, Held, NoLock, Normal, Pending, Record, Share, State, written_if, wrote}
use Rattle.block_meaning.specs.Streams.{read_to, read_up_to, stream_at}
use Rattle.block_meaning.specs.Values.{Evaluated, EvaluatedAll, Fails, FailsAll, Gives, GivesAll, fit, value_now}
use Rattle.flat_machine.specs.Config.{Config, OnAnswer, StackEntry, Unwind}
use Rattle.flat_machine.specs.Steps.{ask, asked_from, config, config_if, costing, ends_as, given_all_step, given_step, judge_step, test_step}
use Rattle.machine_laws.proofs.OperationsLemmas.Claims.{Claims, FramesClaim, assigned_keeps, content_claims, emptied_keeps, holding_keeps, of_values}
use Rattle.machine_laws.proofs.OperationsLemmas.Kept.{Awaits, Calm, Good, IsLocked, IsShaped, Needs, Sound, free_needs, needs_more}

-- ---- states

-- the state has the same levels, and claims no more
pub record Keeps (s t : State) : Type 0 where
  pub level : t.level ≡ s.level
  pub claims : (held : ℕ → Bool) → FramesClaim held s.frames → FramesClaim held t.frames

pub same_frames : (s t : State) → t.level ≡ s.level → t.frames ≡ s.frames → Keeps s t
same_frames s t l f = record { level = l; claims = λ held h. subst (FramesClaim held) (sym f) h }

pub good_to : (held : ℕ → Bool) (k : ℕ) (s t : State) → Keeps s t → Good held k s → Good held k t
good_to held k s t x h = (x.level ∙ h.0, x.claims held h.1)

pub to : (held : ℕ → Bool) (k : ℕ) (ks : List StackEntry) (s t : State) → Keeps s t → Calm held k ks s → Calm held k ks t
to held k ks s t x c = record { good = good_to held k s t x c.good; shaped = c.shaped; free = c.free }

pub cleared_state : (quiet : Bool) (s : State) → Keeps s (cleared quiet s)
cleared_state true s = record { level = refl; claims = λ held h. h }
cleared_state false s = record { level = refl; claims = λ held h. h }

written_state : (b : Bool) (piece : Piece) (s : State) → Keeps s (written_if b piece s).state
written_state true piece s = record { level = refl; claims = λ held h. h }
written_state false piece s = record { level = refl; claims = λ held h. h }

pub wrote_state : (piece : Piece) (s : State) → Keeps s (wrote piece s).state
wrote_state piece s = written_state _ piece s

pub complained_state : (p : Program) (c : Option Complaint) (s : State) → Keeps s (complained p c s).state
complained_state p None s = record { level = refl; claims = λ held h. h }
complained_state p (Some c) s = wrote_state (line_piece p c s) s

read_state : (o : Option ℕ) (n next : ℕ) (s : State) → Keeps s (read_up_to o n (stream_at n s) next s)
read_state None n next s = record { level = refl; claims = λ held h. h }
read_state (Some i) n next s = record { level = refl; claims = λ held h. h }

pub read_to_state : (n next : ℕ) (s : State) → Keeps s (read_to n next s)
read_to_state n next s = read_state (stream_at n s).input n next s

pub emptied_state : (b : ℕ) (s : State) → Keeps s (emptied b s)
emptied_state b s = record { level = refl; claims = λ held h. emptied_keeps held b s h }

pub assigned_state : (x : Variable) (v : Value) (s : State) → Keeps s (assigned x v s)
assigned_state x v s = record { level = refl; claims = λ held h. assigned_keeps held x v s h }

-- ---- assignments lose no lock

pub record Assigns (s t : State) : Type 0 where
  pub keeps : Keeps s t
  pub locks : (b : ℕ) → IsLocked (content_of b s) → IsLocked (content_of b t)

pub assigns_nothing : (s : State) → Assigns s s
assigns_nothing s = record { keeps = record { level = refl; claims = λ held h. h }; locks = λ b h. h }

-- the buffers of the running procedure are the same
set_buffers : (u : Bool) (n : ℕ) (v : Value) (f : CallFrame) → (set_in u n v f).buffers ≡ f.buffers
set_buffers true n v f = refl
set_buffers false n v f = refl

last_buffers : (u : Bool) (n : ℕ) (v : Value) (fs : List CallFrame) → (own_frame (with_last (set_in u n v (last_frame fs)) fs)).buffers ≡ (own_frame fs).buffers
last_buffers u n v [] = refl
last_buffers u n v (f ∷ []) = set_buffers u n v f
last_buffers u n v (f ∷ g ∷ fs) = refl

own_buffers : (external u : Bool) (n : ℕ) (v : Value) (fs : List CallFrame) → (own_frame (with_frame_for external (set_in u n v (frame_for external fs)) fs)).buffers ≡ (own_frame fs).buffers
own_buffers true u n v fs = last_buffers u n v fs
own_buffers false u n v [] = refl
own_buffers false u n v (f ∷ fs) = set_buffers u n v f

pub variable_assigns : (x : Variable) (v : Value) (s : State) → Assigns s (assigned x v s)
variable_assigns x v s =
    record {
      keeps = assigned_state x v s;
      locks = λ b h. subst (λ bs. IsLocked (slice_index_or bs b no_buffer).content) (sym (own_buffers x.external x.undoable x.number v s.frames)) h;
    }

-- a content that is locked where the one before it was
set_locks : (bs : List Buffer) (i j : ℕ) (b : Buffer) → (IsLocked (slice_index_or bs i no_buffer).content → IsLocked b.content) → IsLocked (slice_index_or bs j no_buffer).content → IsLocked (slice_index_or (slice_set bs i b) j no_buffer).content
set_locks [] i j b l h = h
set_locks (c ∷ bs) zero zero b l h = l h
set_locks (c ∷ bs) zero (suc j) b l h = h
set_locks (c ∷ bs) (suc i) zero b l h = h
set_locks (c ∷ bs) (suc i) (suc j) b l h = set_locks bs i j b l h

set_same : (bs : List Buffer) (i : ℕ) (b : Buffer) → IsLocked b.content → IsLocked (slice_index_or (slice_set bs i b) i no_buffer).content
set_same [] i b l = tt
set_same (c ∷ bs) zero b l = l
set_same (c ∷ bs) (suc i) b l = set_same bs i b l

own_locks : (b n : ℕ) (x : Buffer) (fs : List CallFrame) → (IsLocked (slice_index_or (own_frame fs).buffers b no_buffer).content → IsLocked x.content) → IsLocked (slice_index_or (own_frame fs).buffers n no_buffer).content →
    IsLocked (slice_index_or (own_frame (with_own (record (own_frame fs) { buffers = slice_set (own_frame fs).buffers b x }) fs)).buffers n no_buffer).content
own_locks b n x [] l h = h
own_locks b n x (f ∷ fs) l h = set_locks f.buffers b n x l h

own_same : (b : ℕ) (x : Buffer) (fs : List CallFrame) → IsLocked x.content → IsLocked (slice_index_or (own_frame (with_own (record (own_frame fs) { buffers = slice_set (own_frame fs).buffers b x }) fs)).buffers b no_buffer).content
own_same b x [] l = tt
own_same b x (f ∷ fs) l = set_same f.buffers b x l

lock_stays : (b : ℕ) (c : Content) (s : State) → (IsLocked (content_of b s) → IsLocked c) → (n : ℕ) → IsLocked (content_of n s) → IsLocked (content_of n (holding b c s))
lock_stays b c s l n h = own_locks b n (record (buffer_at b s) { content = c }) s.frames l h

pub holding_locks : (b : ℕ) (c : Content) (s : State) → IsLocked c → (n : ℕ) → IsLocked (content_of n s) → IsLocked (content_of n (holding b c s))
holding_locks b c s l n h = lock_stays b c s (λ _. l) n h

pub held_locks : (b : ℕ) (c : Content) (s : State) → IsLocked c → IsLocked (content_of b (holding b c s))
held_locks b c s l = own_same b (record (buffer_at b s) { content = c }) s.frames l

place_locks : (out number n : ℕ) (x : Buffer) (fs : List CallFrame) → IsLocked x.content → IsLocked (slice_index_or (own_frame fs).buffers n no_buffer).content →
    IsLocked (slice_index_or (own_frame (slice_set fs out (record (slice_index_or fs out no_frame) { buffers = slice_set (slice_index_or fs out no_frame).buffers number x }))).buffers n no_buffer).content
place_locks out number n x [] l h = h
place_locks zero number n x (f ∷ fs) l h = set_locks f.buffers number n x (λ _. l) h
place_locks (suc out) number n x (f ∷ fs) l h = h

pub holding_in_locks : (place : Place) (c : Content) (s : State) → IsLocked c → (n : ℕ) → IsLocked (content_of n s) → IsLocked (content_of n (holding_in place c s))
holding_in_locks place c s l n h = place_locks place.out place.number n (record (buffer_in place s) { content = c }) s.frames l h

of_lock : (row : RowId) (lock : Held) (vs ws : List Value) (m n : Option ℕ) → IsLocked (Record row vs lock m) → IsLocked (Record row ws lock n)
of_lock row NoLock vs ws m n h = absurd h
of_lock row Share vs ws m n h = absurd h
of_lock row Exclusive vs ws m n h = tt

-- a field of the record in a buffer
field_assigns : (f : ℕ) (v : Value) (b : ℕ) (c : Content) (s : State) → content_of b s ≡ c → Assigns s (with_field f v b c s)
field_assigns f v b Empty s e = assigns_nothing s
field_assigns f v b (Record row values lock made) s e =
    record {
      keeps = record { level = refl; claims = λ held h. holding_keeps held b (Record row (slice_set values f v) lock made) s h (of_values held row lock values (slice_set values f v) made made (subst (Claims held) e (content_claims held b s h))) };
      locks = λ n h. lock_stays b (Record row (slice_set values f v) lock made) s (λ is. of_lock row lock values (slice_set values f v) made made (subst IsLocked e is)) n h;
    }
field_assigns f v b (Pending values since made) s e =
    record { keeps = record { level = refl; claims = λ held h. holding_keeps held b (Pending (slice_set values f v) (f ∷ since) made) s h tt }; locks = λ n h. holding_locks b (Pending (slice_set values f v) (f ∷ since) made) s tt n h }

value_assigns : (x : Evaluated) (set : Value → State → State) (s : State) → ((v : Value) → Assigns s (set v s)) → Assigns s (stored_value x set s).state
value_assigns (Gives v) set s h = h v
value_assigns (Fails c) set s h = assigns_nothing s

in_assigns : (c : Content) (b f : ℕ) (k : Kind) (v : Value) (s : State) → content_of b s ≡ c → Assigns s (stored_in c b f k v s).state
in_assigns Empty b f k v s e = assigns_nothing s
in_assigns (Record row values lock made) b f k v s e = value_assigns (fit k v) (λ v. with_field f v b (Record row values lock made)) s (λ w. field_assigns f w b (Record row values lock made) s e)
in_assigns (Pending values since made) b f k v s e = value_assigns (fit k v) (λ v. with_field f v b (Pending values since made)) s (λ w. field_assigns f w b (Pending values since made) s e)

pub stored_assigns : (t : Target) (v : Value) (s : State) → Assigns s (stored t v s).state
stored_assigns (target.Variable x) v s = value_assigns (fit x.kind v) (assigned x) s (λ w. variable_assigns x w s)
stored_assigns (target.Field b f k) v s = in_assigns (content_of b s) b f k v s refl

pub stored_if_assigns : (x : Evaluated) (t : Target) (s : State) → Assigns s (stored_if x t s).state
stored_if_assigns (Gives v) t s = stored_assigns t v s
stored_if_assigns (Fails c) t s = assigns_nothing s

-- ---- configurations

pub calm_done : (held : ℕ → Bool) (k : ℕ) (ks : List StackEntry) (s : State) → Calm held k ks s → Sound held k (config (Unwind Normal) ks s)
calm_done held k ks s c = (c.shaped, (c.good, free_needs held [] ks s c.free))

pub unwinds : (held : ℕ → Bool) (k : ℕ) (completion : Completion) (ks : List StackEntry) (s : State) → IsShaped ks → Good held k s → Needs held [] ks s → Sound held k (config (Unwind completion) ks s)
unwinds held k Normal ks s h g n = (h, (g, n))
unwinds held k completion ks s h g n = (h, g)

pub calm_unwinds : (held : ℕ → Bool) (k : ℕ) (completion : Completion) (ks : List StackEntry) (s : State) → Calm held k ks s → Sound held k (config (Unwind completion) ks s)
calm_unwinds held k completion ks s c = unwinds held k completion ks s c.shaped c.good (free_needs held [] ks s c.free)

pub sound_if : (b : Bool) (held : ℕ → Bool) (k : ℕ) (one other : Config) → (b ≡ true → Sound held k one) → (b ≡ false → Sound held k other) → Sound held k (config_if b one other)
sound_if true held k one other g h = g refl
sound_if false held k one other g h = h refl

asked : (held : ℕ → Bool) (k n : ℕ) (o : Op) (on : OnAnswer) (ks : List StackEntry) (s : State) → IsShaped ks → Good held k s → ((m : ℕ) → Awaits held o on ks (record s { units = m })) → Sound held k (asked_from n o on ks s)
asked held k zero o on ks s h g a = (h, g)
asked held k (suc n) o on ks s h g a = (h, (g, a n))

-- an operation is asked
pub asks : (held : ℕ → Bool) (k : ℕ) (o : Op) (on : OnAnswer) (ks : List StackEntry) (s : State) → IsShaped ks → Good held k s → ((m : ℕ) → Awaits held o on ks (record s { units = m })) → Sound held k (ask o on ks s)
asks held k o on ks s h g a = asked held k s.units o on ks s h g a

pub calm_asks : (held : ℕ → Bool) (k : ℕ) (o : Op) (on : OnAnswer) (ks : List StackEntry) (s : State) → Calm held k ks s → ((m : ℕ) → Awaits held o on ks (record s { units = m })) → Sound held k (ask o on ks s)
calm_asks held k o on ks s c a = asks held k o on ks s c.shaped c.good a

charged : (held : ℕ → Bool) (k n : ℕ) (go : State → Config) (ks : List StackEntry) (s : State) → Calm held k ks s → ((t : State) → Calm held k ks t → Sound held k (go t)) → Sound held k (costing n go ks s)
charged held k zero go ks s c x = (c.shaped, c.good)
charged held k (suc n) go ks s c x = x (record s { units = n }) (record { good = c.good; shaped = c.shaped; free = c.free })

-- what follows a charge
pub costs : (held : ℕ → Bool) (k : ℕ) (go : State → Config) (ks : List StackEntry) (s : State) → Calm held k ks s → ((t : State) → Calm held k ks t → Sound held k (go t)) → Sound held k (costing s.units go ks s)
costs held k go ks s c x = charged held k s.units go ks s c x

-- after an evaluation
pub given_sound : (held : ℕ → Bool) (k : ℕ) (v : Evaluated) (go : Value → State → Config) (ks : List StackEntry) (s : State) → Calm held k ks s → ((w : Value) → Sound held k (go w s)) → Sound held k (given_step v go ks s)
given_sound held k (Gives v) go ks s c x = x v
given_sound held k (Fails f) go ks s c x = (c.shaped, c.good)

pub given_all_sound : (held : ℕ → Bool) (k : ℕ) (v : EvaluatedAll) (go : List Value → State → Config) (ks : List StackEntry) (s : State) → Calm held k ks s → ((ws : List Value) → Sound held k (go ws s)) → Sound held k (given_all_step v go ks s)
given_all_sound held k (GivesAll vs) go ks s c x = x vs
given_all_sound held k (FailsAll f) go ks s c x = (c.shaped, c.good)

judged : (held : ℕ → Bool) (k : ℕ) (v : Evaluated) (b : ℕ) (good bad : State → Config) (ks : List StackEntry) (s : State) → Calm held k ks s → ((t : State) → Calm held k ks t → Sound held k (good t)) → ((t : State) → Calm held k ks t → Sound held k (bad t)) →
    Sound held k (judge_step v b good bad ks s)
judged held k (Gives v) b good bad ks s c x y = sound_if (holds v) held k (good s) (bad (emptied b s)) (λ _. x s c) (λ _. y (emptied b s) (to held k ks s (emptied b s) (emptied_state b s) c))
judged held k (Fails f) b good bad ks s c x y = (c.shaped, good_to held k s (emptied b s) (emptied_state b s) c.good)

-- after WHERE
pub tests : (held : ℕ → Bool) (k : ℕ) (p : Program) (e : Option Expr) (b : ℕ) (retry : Bool) (good bad : State → Config) (ks : List StackEntry) (s : State) → Calm held k ks s → ((t : State) → Calm held k ks t → Sound held k (good t)) →
    ((t : State) → Calm held k ks t → Sound held k (bad t)) → Sound held k (test_step p e b retry good bad ks s)
tests held k p None b retry good bad ks s c x y = x s c
tests held k p (Some e) b retry good bad ks s c x y = judged held k (value_now p e retry s) b good bad ks s c x y

-- a completion with its state
pub ends_sound : (held : ℕ → Bool) (k : ℕ) (x : Completed) (ks : List StackEntry) (s : State) → Keeps s x.state → Calm held k ks s → Sound held k (ends_as x ks)
ends_sound held k x ks s h c = calm_unwinds held k x.completion ks x.state (to held k ks s x.state h c)

-- the same where an assignment is not the last
pub assigns_sound : (held : ℕ → Bool) (k : ℕ) (x : Completed) (ks : List StackEntry) (s : State) → Assigns s x.state → IsShaped ks → Good held k s → Needs held [] ks s → Sound held k (ends_as x ks)
assigns_sound held k x ks s a h g n = unwinds held k x.completion ks x.state h (good_to held k s x.state a.keeps g) (needs_more held held [] ks s x.state (λ r e. e) a.locks n)
