-- A record that a buffer shows is held under a lock.
use Rattle.std.proofs.Common.{◌≡◌, ℕ, zero, suc, List, [], ◌∷◌, Option, None, ◌⊎◌, inl, inr, refl, sym, ap, ◌∙◌}
use Rattle.std.specs.Prelude.{slice_index_or, slice_set}
use Rattle.abl_base.specs.declared.row.RowId.{RowId}
use Rattle.abl_base.specs.declared.value.Value.{Value}
use Rattle.block_meaning.specs.State.{State, CallFrame, Buffer, Content, Empty, Record, Held, NoLock}
use Rattle.block_meaning.specs.Frames.{own_frame, with_own, no_buffer, holding, content_of}
use Rattle.block_meaning.specs.Reads.{shows}

-- ---- the buffers of a procedure

abbrev slot : List Buffer → ℕ → Content → List Buffer
slot bs n c = slice_set bs n (record (slice_index_or bs n no_buffer) { content = c })

slot_twice : (bs : List Buffer) (n : ℕ) (x y : Content) → slot (slot bs n x) n y ≡ slot bs n y
slot_twice [] n x y = refl
slot_twice (b ∷ bs) zero x y = refl
slot_twice (b ∷ bs) (suc n) x y = ap (λ (t : List Buffer). b ∷ t) (slot_twice bs n x y)

-- the buffer holds what it was given, or there is none
slot_has : (bs : List Buffer) (n : ℕ) (x : Content) → ((slice_index_or (slot bs n x) n no_buffer).content ≡ x) ⊎ (((y : Content) → slot bs n y ≡ bs) × ((slice_index_or (slot bs n x) n no_buffer).content ≡ Empty))
slot_has [] n x = inr (λ y. refl, refl)
slot_has (b ∷ bs) zero x = inl refl
slot_has (b ∷ bs) (suc n) x = elim (slot_has bs n x) [ inl e ↦ inl e | inr h ↦ inr (λ y. ap (λ (t : List Buffer). b ∷ t) (h.0 y), h.1) ]

-- ---- the frames

abbrev held : ℕ → Content → List CallFrame → List CallFrame
held b c fs = with_own (record (own_frame fs) { buffers = slot (own_frame fs).buffers b c }) fs

held_twice : (fs : List CallFrame) (b : ℕ) (x y : Content) → held b y (held b x fs) ≡ held b y fs
held_twice [] b x y = refl
held_twice (f ∷ fs) b x y = ap (λ (bs : List Buffer). let g : CallFrame = record f { buffers = bs } in g ∷ fs) (slot_twice f.buffers b x y)

abbrev HasOrNone : ℕ → Content → List CallFrame → Type 0
HasOrNone b x fs = ((slice_index_or (own_frame (held b x fs)).buffers b no_buffer).content ≡ x) ⊎ (((y z : Content) → held b y fs ≡ held b z fs) × ((slice_index_or (own_frame (held b x fs)).buffers b no_buffer).content ≡ Empty))

held_has : (fs : List CallFrame) (b : ℕ) (x : Content) → HasOrNone b x fs
held_has [] b x = inr (λ y z. refl, refl)
held_has (f ∷ fs) b x =
    elim (slot_has f.buffers b x) [ inl e ↦ inl e | inr h ↦ inr (λ y z. ap (λ (bs : List Buffer). let g : CallFrame = record f { buffers = bs } in g ∷ fs) (h.0 y ∙ sym (h.0 z)), h.1) ]

-- ---- the state

-- the second of two contents stays
pub holding_twice : (s : State) (b : ℕ) (x y : Content) → holding b y (holding b x s) ≡ holding b y s
holding_twice s b x y = ap (λ (fs : List CallFrame). record s { frames = fs }) (held_twice s.frames b x y)

-- a buffer holds what it was given, or there is none
holding_has : (s : State) (b : ℕ) (x : Content) → (content_of b (holding b x s) ≡ x) ⊎ (((y z : Content) → holding b y (holding b x s) ≡ holding b z (holding b x s)) × (content_of b (holding b x s) ≡ Empty))
holding_has s b x =
    elim (held_has s.frames b x) [
      | inl e ↦ inl e
      | inr h ↦ inr (λ y z. holding_twice s b x y ∙ ap (λ (fs : List CallFrame). record s { frames = fs }) (h.0 y z) ∙ sym (holding_twice s b x z), h.1)
    ]

same_lock : (b : ℕ) (s : State) (row row' : RowId) (values values' : List Value) (h held' : Held) (made' : Option ℕ) → Record row' values' held' made' ≡ Record row values NoLock None → holding b (Record row' values' h made') s ≡ holding b (Record row values h None) s
same_lock b s row row' values values' h held' made' e =
    let one : row' ≡ row = cc in
    let two : values' ≡ values = cc in
    let three : made' ≡ None = cc in
    ap (λ (r : RowId). holding b (Record r values' h made') s) one ∙ ap (λ (vs : List Value). holding b (Record row vs h made') s) two ∙ ap (λ (k : Option ℕ). holding b (Record row values h k) s) three

-- the record that a buffer shows, held under a lock
pub relocked : (b : ℕ) (s before : State) (row row' : RowId) (values values' : List Value) (h held' : Held) (made' : Option ℕ) → s ≡ shows b row values before → Record row' values' held' made' ≡ content_of b s →
    holding b (Record row' values' h made') s ≡ holding b (Record row values h None) s
relocked b s before row row' values values' h held' made' is has =
    let shown = shows b row values before in
    let now : Record row' values' held' made' ≡ content_of b shown = has ∙ ap (content_of b) is in
    elim (holding_has before b (Record row values NoLock None)) [
      | inl e ↦ same_lock b s row row' values values' h held' made' (now ∙ e)
      | inr none ↦ ap (holding b (Record row' values' h made')) is ∙ none.0 (Record row' values' h made') (Record row values h None) ∙ ap (holding b (Record row values h None)) (sym is)
    ]

-- a buffer that does not hold the record is none
pub unheld : (b : ℕ) (s before : State) (row : RowId) (values : List Value) (h : Held) (c x : Content) → s ≡ shows b row values before → c ≡ content_of b s → (c ≡ Record row values NoLock None → ⊥) →
    holding b x s ≡ holding b (Record row values h None) s
unheld b s before row values h c x is has other =
    elim (holding_has before b (Record row values NoLock None)) [
      | inl e ↦ absurd (other (has ∙ ap (content_of b) is ∙ e))
      | inr none ↦ ap (holding b x) is ∙ none.0 x (Record row values h None) ∙ ap (holding b (Record row values h None)) (sym is)
    ]
