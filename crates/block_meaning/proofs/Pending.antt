-- A record that is pending in the copy is pending again at the end of an UNDO.
use Rattle.std.proofs.Common.{◌≡◌, refl, sym, ap, ◌∙◌, subst, ℕ, zero, suc, ◌≤◌, ◌<◌, ◌==◌, nat_lt, List, [], ◌∷◌, length, Bool, true, false, ◌&&◌, ◌||◌, Some, inl, inr, arith}
use Rattle.std.specs.Prelude.{slice_index_or, slice_set}
use Rattle.std.proofs.lemmas.List.{get_or-set_other}
use Rattle.std.proofs.Math.ListN.{get_or-map}
use Rattle.std.proofs.lemmas.Bool.Decides.{eqb_tells}
use Rattle.std.proofs.lemmas.Bool.{eq-eqb}
use Rattle.abl_base.specs.declared.value.Value.{Value}
use Rattle.database_protocol.specs.declared.answer.Answer.{Answer}
use Rattle.block_meaning.specs.State.{State, CallFrame, Buffer, Saved, Copy, Content, Empty, Record, Pending, Normal, Done}
use Rattle.block_meaning.specs.Frames.{no_frame, no_buffer, own_frame, with_own, emptied, all_emptied, content_restored, contents_restored, frames_restored, is_in}
use Rattle.block_meaning.specs.Buffers.{Place, frame_out, as_share, buffer_shared, frame_shared, shared, left_if, is_left_out}
use Rattle.block_meaning.specs.Blocks.{goes_back}
use Rattle.block_meaning.specs.Undone.{no_saved, saved_content, content_in}
use Rattle.block_meaning.proofs.Undone.{MayChange, AllowsUpdates, Survives, undo_keeps}

-- a buffer by the numbers of its frame and its own, and the frames where it holds something else
abbrev pub at_numbers : List CallFrame → ℕ → ℕ → Buffer
at_numbers fs o n = slice_index_or (slice_index_or fs o no_frame).buffers n no_buffer

abbrev pub put_at : List CallFrame → ℕ → ℕ → Content → List CallFrame
put_at fs o n c = slice_set fs o (record (slice_index_or fs o no_frame) { buffers = slice_set (slice_index_or fs o no_frame).buffers n (record (at_numbers fs o n) { content = c }) })

-- what is the same of a frame that is replaced is the same of the list's
set_keeps : {B : Type 0} (g : CallFrame → B) (fs : List CallFrame) (o : ℕ) (f : CallFrame) → g f ≡ g (slice_index_or fs o no_frame) → g (slice_index_or (slice_set fs o f) o no_frame) ≡ g (slice_index_or fs o no_frame)
set_keeps g [] o f e = refl
set_keeps g (h ∷ fs) zero f e = e
set_keeps g (h ∷ fs) (suc o) f e = set_keeps g fs o f e

put_number : (fs : List CallFrame) (o n m : ℕ) (c : Content) → (n ≡ m → ⊥) → at_numbers (put_at fs o m c) o n ≡ at_numbers fs o n
put_number fs o n m c ne =
    set_keeps (λ f. slice_index_or f.buffers n no_buffer) fs o _ (get_or-set_other (slice_index_or fs o no_frame).buffers m n (record (at_numbers fs o m) { content = c }) no_buffer ne)

pub put_other : (fs : List CallFrame) (o n k m : ℕ) (c : Content) → (o ≡ k → n ≡ m → ⊥) → at_numbers (put_at fs k m c) o n ≡ at_numbers fs o n
put_other fs o n k m c ne =
    elim (eqb_tells o k) [
      | inl t ↦ subst (λ j. at_numbers (put_at fs j m c) o n ≡ at_numbers fs o n) t.1 (put_number fs o n m c (ne t.1))
      | inr t ↦ ap (λ (f : CallFrame). slice_index_or f.buffers n no_buffer) (get_or-set_other fs k o _ no_frame t.1)
    ]

-- ---- what keeps a pending record

-- the buffer at a place has this record pending
abbrev HasPending : Place → List Value → List ℕ → ℕ → State → Type 0
HasPending at values since made s = content_in at s ≡ Pending values since made

same_place : (fs : List CallFrame) (o n k m : ℕ) → o ≡ k → n ≡ m → at_numbers fs k m ≡ at_numbers fs o n
same_place fs o n k m e f = sym (ap (λ j. at_numbers fs j n) e ∙ ap (at_numbers fs k) f)

holding_pending : (at : Place) (values : List Value) (since : List ℕ) (made mark : ℕ) → made ≤ mark → AllowsUpdates (HasPending at values since made) mark
holding_pending at values since made mark l to c s may becomes h = ap (λ (b : Buffer). b.content) (put_other s.frames at.out at.number to.out to.number c apart) ∙ h
  where
    apart : at.out ≡ to.out → at.number ≡ to.number → ⊥
    apart e f =
        let there : content_in to s ≡ Pending values since made = ap (λ (b : Buffer). b.content) (same_place s.frames at.out at.number to.out to.number e f) ∙ h in
        let later : nat_lt mark made ≡ true = subst (MayChange mark) there may in
        grind arith

-- sharing leaves pending records
pub shared_at : (fs : List CallFrame) (o n : ℕ) → at_numbers (shared fs) o n ≡ buffer_shared (at_numbers fs o n)
shared_at fs o n =
    ap (λ (f : CallFrame). slice_index_or f.buffers n no_buffer) (get_or-map frame_shared fs o no_frame)
    ∙ get_or-map buffer_shared (slice_index_or fs o no_frame).buffers n no_buffer

left_pending : (at : Place) (values : List Value) (since : List ℕ) (made : ℕ) (b : Bool) (s : State) → HasPending at values since made s → HasPending at values since made (left_if b s)
left_pending at values since made true s h = ap (λ (b : Buffer). b.content) (shared_at s.frames at.out at.number) ∙ ap as_share h
left_pending at values since made false s h = h

-- emptying other buffers of the procedure leaves it
pub emptied_is : (b : ℕ) (fs : List CallFrame) → with_own (record (own_frame fs) { buffers = slice_set (own_frame fs).buffers b (record (slice_index_or (own_frame fs).buffers b no_buffer) { content = Empty }) }) fs ≡ put_at fs 0 b Empty
emptied_is b [] = refl
emptied_is b (f ∷ fs) = refl

emptied_pending : (at : Place) (values : List Value) (since : List ℕ) (made b : ℕ) (s : State) → (at.out ≡ 0 → at.number ≡ b → ⊥) → HasPending at values since made s → HasPending at values since made (emptied b s)
emptied_pending at values since made b s apart h =
    ap (λ fs. (at_numbers fs at.out at.number).content) (emptied_is b s.frames)
    ∙ ap (λ (b : Buffer). b.content) (put_other s.frames at.out at.number 0 b Empty apart) ∙ h

pub or_false : (x y : Bool) → (x || y) ≡ false → (x ≡ false) × (y ≡ false)
or_false true y h = (h, absurd (grind arith))
or_false false y h = (refl, h)

pub not_both : (x : Bool) → x ≡ true → x ≡ false → ⊥
not_both true a b = grind arith
not_both false a b = grind arith

all_emptied_pending : (at : Place) (values : List Value) (since : List ℕ) (made : ℕ) (bs : List ℕ) → (at.out ≡ 0 → is_in at.number bs ≡ false) → (s : State) → HasPending at values since made s → HasPending at values since made (all_emptied bs s)
all_emptied_pending at values since made [] out s h = h
all_emptied_pending at values since made (b ∷ bs) out s h =
    all_emptied_pending at values since made bs (λ e. (or_false (at.number == b) (is_in at.number bs) (out e)).1) (emptied b s)
    (emptied_pending at values since made b s (λ e f. not_both (at.number == b) (eq-eqb at.number b f) (or_false (at.number == b) (is_in at.number bs) (out e)).0) h)

pub and_false : (x y : Bool) → (x && y) ≡ false → x ≡ true → y ≡ false
and_false true y h e = h
and_false false y h e = absurd (grind arith)

pending_survives : (at : Place) (values : List Value) (since : List ℕ) (made mark : ℕ) (but : List ℕ) → made ≤ mark → is_left_out but at ≡ false → Survives (HasPending at values since made) mark but
pending_survives at values since made mark but l out = record {
  units = λ s n h. h;
  updates = holding_pending at values since made mark l;
  leaving = left_pending at values since made;
  emptying = all_emptied_pending at values since made but (λ e. and_false (at.out == 0) (is_in at.number but) out (eq-eqb at.out 0 e));
}

-- ---- the copy is restored

abbrev IsPending : Content → Type 0
IsPending Empty = ⊥
IsPending (Record row values held made) = ⊥
IsPending (Pending values since made) = Unit {0}

again_content : (c : Content) (b : Buffer) (values : List Value) (since : List ℕ) (made : ℕ) → c ≡ Pending values since made → (content_restored c b).content ≡ Pending values since made
again_content Empty b values since made e = absurd (subst IsPending (sym e) tt)
again_content (Record row vs held m) b values since made e = absurd (subst IsPending (sym e) tt)
again_content (Pending vs s m) b values since made e = e

again_at : (cs : List Content) (bs : List Buffer) (n : ℕ) (values : List Value) (since : List ℕ) (made : ℕ) → slice_index_or cs n Empty ≡ Pending values since made → n < length bs → (slice_index_or (contents_restored cs bs) n no_buffer).content ≡ Pending values since made
again_at [] bs n values since made e l = absurd (subst IsPending (sym e) tt)
again_at (c ∷ cs) [] n values since made e l = absurd (omega arith)
again_at (c ∷ cs) (b ∷ bs) zero values since made e l = again_content c b values since made e
again_at (c ∷ cs) (b ∷ bs) (suc n) values since made e l = again_at cs bs n values since made e (omega arith)

back_at : (cs : List Saved) (fs : List CallFrame) (o n : ℕ) (values : List Value) (since : List ℕ) (made : ℕ) → slice_index_or (slice_index_or cs o no_saved).contents n Empty ≡ Pending values since made → n < length (slice_index_or fs o no_frame).buffers → (at_numbers (frames_restored cs fs) o n).content ≡ Pending values since made
back_at [] fs o n values since made e l = absurd (subst IsPending (sym e) tt)
back_at (c ∷ cs) [] o n values since made e l = absurd (omega arith)
back_at (c ∷ cs) (f ∷ fs) zero n values since made e l = again_at c.contents f.buffers n values since made e l
back_at (c ∷ cs) (f ∷ fs) (suc o) n values since made e l = back_at cs fs o n values since made e l

pub undo_gives_pending : (copy : Copy) (but : List ℕ) (at : Place) (values : List Value) (since : List ℕ) (made : ℕ) (s s' : State) (ans left : List Answer) →
    saved_content at copy ≡ Pending values since made → made ≤ copy.made → at.number < length (frame_out at.out s).buffers → is_left_out but at ≡ false → goes_back (Some copy) but s ans ≡ Done Normal s' left → content_in at s' ≡ Pending values since made
undo_gives_pending copy but at values since made s s' ans left e l shape out r =
    undo_keeps (HasPending at values since made) copy but (pending_survives at values since made copy.made but l out) s s' ans left
    (back_at copy.frames s.frames at.out at.number values since made e shape) r
