-- What every step keeps: the open levels and the exclusive locks are those of the client's own events, and before a Put or Delete the row is
-- locked.
use Rattle.std.proofs.Common.{◌≡◌, ◌⊎◌, inl, inr, refl, sym, ap, ◌∙◌, subst, ℕ, Bool, true, false, List, [], ◌∷◌, ◌++◌, None, append_assoc}
use Rattle.std.specs.Prelude.{◌==◌, ◌||◌}
use Rattle.std.proofs.lemmas.Bool.Decides.{eqb_tells}
use Rattle.abl_base.specs.declared.row.RowId.{RowId}
use Rattle.abl_base.specs.declared.value.Value.{Value}
use Rattle.database_protocol.specs.declared.operation.Op.{Op}
use Rattle.database_protocol.specs.declared.operation.Op.TheVariants as op
use Rattle.block_meaning.specs.Frames.{content_of, is_in}
use Rattle.block_meaning.specs.Reads.{held_as, is_exclusive}
use Rattle.block_meaning.specs.State.{Content, NoLock, Normal, Record, Share, State}
use Rattle.flat_machine.specs.Config.{AfterBack, AsBefore, AssignsEach, AssignsOne, Await, Config, CurrentGranted, DeletesRow, EntersOne, Execute, LocksAll, LocksOne, Mode, OnAnswer, OrDo, SettlesAll, SettlesOne, StackEntry, Task, ThenDo, Unwind, WasBack, WasCounted, WasCurrent, WasDeleted, WasDropped, WasEntered, WasGot, WasGranted, WasInserted, WasLeft, WasNext, WasPut, WasRead, WasSecond, WasUpgraded}
use Rattle.machine_laws.proofs.OperationsLemmas.Claims.{AreAmong, Claims, FramesClaim, without_row}

-- ---- locked buffers

-- a record in it is held exclusively
abbrev pub IsLocked : Content → Type 0
IsLocked (Record row values NoLock made) = ⊥
IsLocked (Record row values Share made) = ⊥
IsLocked c = Unit {0}

-- each of these buffers is locked, unless it is one of the first ones
abbrev pub AreLocked : List ℕ → List ℕ → State → Type 0
AreLocked but bs s = (b : ℕ) → is_in b bs ≡ true → (is_in b but ≡ true) ⊎ IsLocked (content_of b s)

-- ---- the stack

-- what follows needs nothing of the locks
abbrev pub IsFree : List StackEntry → Type 0
IsFree (AsBefore olds bs ∷ ks) = ⊥
IsFree (ThenDo (LocksAll bs) ∷ ks) = ⊥
IsFree (ThenDo (AssignsEach xs retry) ∷ ks) = ⊥
IsFree (ThenDo (SettlesAll olds bs) ∷ ks) = ⊥
IsFree (ThenDo (DeletesRow b t row) ∷ ks) = ⊥
IsFree ks = Unit {0}

-- what follows a normal completion needs these buffers locked, but for those that are locked before; or a row that is held
abbrev pub Needs : (ℕ → Bool) → List ℕ → List StackEntry → State → Type 0
Needs held but (AsBefore olds bs ∷ ks) s = Needs held but ks s
Needs held but (ThenDo (LocksAll bs) ∷ ks) s = Needs held (bs ++ but) ks s
Needs held but (ThenDo (AssignsEach xs retry) ∷ ks) s = Needs held but ks s
Needs held but (ThenDo (SettlesAll olds bs) ∷ ks) s = AreLocked but bs s
Needs held but (ThenDo (DeletesRow b t row) ∷ ks) s = held row.0 ≡ true
Needs held but ks s = Unit {0}

-- the task needs nothing of the locks
abbrev pub IsPlain : Task → Type 0
IsPlain (EntersOne place) = ⊥
IsPlain (AfterBack copy but) = ⊥
IsPlain (AssignsOne t x retry) = ⊥
IsPlain (AssignsEach xs retry) = ⊥
IsPlain (LocksOne b) = ⊥
IsPlain (LocksAll bs) = ⊥
IsPlain (SettlesOne b) = ⊥
IsPlain (SettlesAll olds bs) = ⊥
IsPlain (DeletesRow b t row) = ⊥
IsPlain t = Unit {0}

-- an entry, over those below it
abbrev pub FitsEntry : StackEntry → List StackEntry → Type 0
FitsEntry (AsBefore olds bs) ks = Unit {0}
FitsEntry (ThenDo (LocksAll bs)) ks = Unit {0}
FitsEntry (ThenDo (AssignsEach xs retry)) ks = Unit {0}
FitsEntry (ThenDo (AfterBack copy but)) ks = ⊥
FitsEntry (ThenDo (SettlesOne b)) ks = ⊥
FitsEntry (OrDo t) ks = IsPlain t × IsFree ks
FitsEntry k ks = IsFree ks

abbrev pub IsShaped : List StackEntry → Type 0
IsShaped [] = Unit {0}
IsShaped (k ∷ ks) = FitsEntry k ks × IsShaped ks

-- ---- tasks and answers

-- with one row more
abbrev pub with_row : RowId → (ℕ → Bool) → ℕ → Bool
with_row row held = λ r. (row.0 == r) || held r

abbrev pub TaskFits : (ℕ → Bool) → Task → List StackEntry → State → Type 0
TaskFits held (EntersOne place) ks s = Needs held [] ks s
TaskFits held (AssignsOne t x retry) ks s = Needs held [] ks s
TaskFits held (AssignsEach xs retry) ks s = Needs held [] ks s
TaskFits held (LocksOne b) ks s = Needs held (b ∷ []) ks s
TaskFits held (LocksAll bs) ks s = Needs held (bs ++ []) ks s
TaskFits held (SettlesOne b) ks s = IsLocked (content_of b s) × Needs held [] ks s
TaskFits held (SettlesAll olds bs) ks s = AreLocked [] bs s × IsFree ks
TaskFits held (DeletesRow b t row) ks s = (held row.0 ≡ true) × IsFree ks
TaskFits held t ks s = IsFree ks

-- an operation that changes neither levels nor locks
abbrev pub IsReading : Op → Type 0
IsReading (op.Next table index prefix cursor forward) = Unit {0}
IsReading (op.Get table row) = Unit {0}
IsReading (op.NextValue sequence) = Unit {0}
IsReading (op.CurrentValue sequence) = Unit {0}
IsReading o = ⊥

-- the operation, and what is known of what follows its answer
abbrev pub Awaits : (ℕ → Bool) → Op → OnAnswer → List StackEntry → State → Type 0
Awaits held o (WasInserted place t values made) ks s = (o ≡ op.Insert t values) × Needs held [] ks s
Awaits held o WasDropped ks s = (row : RowId) × (o ≡ op.Drop row) × FramesClaim (without_row row held) s.frames × IsFree ks
Awaits held o WasLeft ks s = (keep : List RowId) × (o ≡ op.Leave keep) × IsFree ks
Awaits held o (WasBack copy but) ks s = (o ≡ op.Back copy.depth) × IsFree ks
Awaits held o (WasGot place row lock made) ks s = IsReading o × Claims held (Record row [] lock made) × IsFree ks
Awaits held o (WasSecond n k c values) ks s = IsReading o × IsFree ks
Awaits held o (WasNext n k) ks s = IsReading o × IsFree ks
Awaits held o (WasGranted r retry row) ks s = (t : ℕ) × (wait : Bool) × (o ≡ op.Lock t row (is_exclusive r.lock) wait) × IsFree ks
Awaits held o (WasRead r retry row lock) ks s = IsReading o × Claims held (Record row [] lock None) × IsFree ks
Awaits held o (CurrentGranted r row made) ks s = (t : ℕ) × (wait : Bool) × (o ≡ op.Lock t row (is_exclusive r.lock) wait) × IsFree ks
Awaits held o (WasCurrent r row made) ks s = IsReading o × Claims held (Record row [] (held_as r.lock) made) × IsFree ks
Awaits held o (WasCounted t) ks s = IsReading o × Needs held [] ks s
Awaits held o (WasUpgraded b row values made) ks s = (t : ℕ) × (o ≡ op.Lock t row true true) × Needs (with_row row held) (b ∷ []) ks s
Awaits held o (WasPut b t) ks s = (row : RowId) × (values : List Value) × (o ≡ op.Put t row values) × (held row.0 ≡ true) × Needs held [] ks s
Awaits held o (WasDeleted b) ks s = (t : ℕ) × (row : RowId) × (o ≡ op.Delete t row) × (held row.0 ≡ true) × IsFree ks
Awaits held o (WasEntered b t retry body d) ks s = (o ≡ op.Enter) × IsFree ks

-- ---- configurations

-- these many levels are open, and what the buffers claim is held
abbrev pub Good : (ℕ → Bool) → ℕ → State → Type 0
Good held k s = (s.level ≡ k) × FramesClaim held s.frames

-- after a Back the state has still the levels that were open before
abbrev pub AtMode : (ℕ → Bool) → ℕ → Mode → List StackEntry → State → Type 0
AtMode held k (Execute (AfterBack copy but)) ks s = (copy.depth ≡ k) × FramesClaim held s.frames × IsFree ks
AtMode held k (Execute t) ks s = Good held k s × TaskFits held t ks s
AtMode held k (Unwind Normal) ks s = Good held k s × Needs held [] ks s
AtMode held k (Unwind completion) ks s = Good held k s
AtMode held k (Await o on) ks s = Good held k s × Awaits held o on ks s

-- WHAT IS KEPT, where by its own events the client has these many levels open, and holds these rows exclusively
abbrev pub Sound : (ℕ → Bool) → ℕ → Config → Type 0
Sound held k c = IsShaped c.stack × AtMode held k c.mode c.stack c.state

-- a state and a stack where nothing is needed of the locks
pub record Calm (held : ℕ → Bool) (k : ℕ) (ks : List StackEntry) (s : State) : Type 0 where
  pub good : Good held k s
  pub shaped : IsShaped ks
  pub free : IsFree ks

-- ---- needs

pub free_needs : (held : ℕ → Bool) (but : List ℕ) (ks : List StackEntry) (s : State) → IsFree ks → Needs held but ks s
free_needs held but [] s f = tt
free_needs held but (AsBefore olds bs ∷ ks) s f = absurd f
free_needs held but (ThenDo (LocksAll bs) ∷ ks) s f = absurd f
free_needs held but (ThenDo (AssignsEach xs retry) ∷ ks) s f = absurd f
free_needs held but (ThenDo (SettlesAll olds bs) ∷ ks) s f = absurd f
free_needs held but (ThenDo (DeletesRow b t row) ∷ ks) s f = absurd f
free_needs held but (k ∷ ks) s f = tt

-- the second buffers are among the first
abbrev pub Covers : List ℕ → List ℕ → Type 0
Covers one other = (b : ℕ) → is_in b one ≡ true → is_in b other ≡ true

in_append : (b : ℕ) (xs ys : List ℕ) → is_in b (xs ++ ys) ≡ is_in b xs || is_in b ys
in_append b [] ys = refl
in_append b (x ∷ xs) ys = ap (λ c. (b == x) || c) (in_append b xs ys) ∙ or_assoc (b == x) (is_in b xs) (is_in b ys)
  where
    or_assoc : (p q r : Bool) → (p || (q || r)) ≡ ((p || q) || r)
    or_assoc true q r = refl
    or_assoc false q r = refl

or_further : (p q r : Bool) → (q ≡ true → r ≡ true) → (p || q) ≡ true → (p || r) ≡ true
or_further true q r x e = refl
or_further false q r x e = x e

pub covers_more : (bs one other : List ℕ) → Covers one other → Covers (bs ++ one) (bs ++ other)
covers_more bs one other x b e = in_append b bs other ∙ or_further (is_in b bs) (is_in b one) (is_in b other) (x b) (sym (in_append b bs one) ∙ e)

pub needs_cover : (held : ℕ → Bool) (one other : List ℕ) (ks : List StackEntry) (s : State) → Covers one other → Needs held one ks s → Needs held other ks s
needs_cover held one other [] s x h = tt
needs_cover held one other (AsBefore olds bs ∷ ks) s x h = needs_cover held one other ks s x h
needs_cover held one other (ThenDo (LocksAll bs) ∷ ks) s x h = needs_cover held (bs ++ one) (bs ++ other) ks s (covers_more bs one other x) h
needs_cover held one other (ThenDo (AssignsEach xs retry) ∷ ks) s x h = needs_cover held one other ks s x h
needs_cover held one other (ThenDo (SettlesAll olds bs) ∷ ks) s x h = λ b e. elim (h b e) [ inl i ↦ inl (x b i) | inr l ↦ inr l ]
needs_cover held one other (ThenDo (DeletesRow b t row) ∷ ks) s x h = h
needs_cover held one other (k ∷ ks) s x h = tt

-- more rows are held, and no lock of a buffer is lost
pub needs_more : (held more : ℕ → Bool) (but : List ℕ) (ks : List StackEntry) (s t : State) → AreAmong held more → ((b : ℕ) → IsLocked (content_of b s) → IsLocked (content_of b t)) → Needs held but ks s → Needs more but ks t
needs_more held more but [] s t x l h = tt
needs_more held more but (AsBefore olds bs ∷ ks) s t x l h = needs_more held more but ks s t x l h
needs_more held more but (ThenDo (LocksAll bs) ∷ ks) s t x l h = needs_more held more (bs ++ but) ks s t x l h
needs_more held more but (ThenDo (AssignsEach xs retry) ∷ ks) s t x l h = needs_more held more but ks s t x l h
needs_more held more but (ThenDo (SettlesAll olds bs) ∷ ks) s t x l h = λ b e. elim (h b e) [ inl i ↦ inl i | inr is ↦ inr (l b is) ]
needs_more held more but (ThenDo (DeletesRow b u row) ∷ ks) s t x l h = x row.0 h
needs_more held more but (k ∷ ks) s t x l h = tt

-- all but this one were locked, and now it is
pub needs_locked : (held : ℕ → Bool) (b : ℕ) (but : List ℕ) (ks : List StackEntry) (s : State) → IsLocked (content_of b s) → Needs held (but ++ b ∷ []) ks s → Needs held but ks s
needs_locked held b but [] s l h = tt
needs_locked held b but (AsBefore olds bs ∷ ks) s l h = needs_locked held b but ks s l h
needs_locked held b but (ThenDo (LocksAll bs) ∷ ks) s l h = needs_locked held b (bs ++ but) ks s l (subst (λ m. Needs held m ks s) (sym (append_assoc bs but (b ∷ []))) h)
needs_locked held b but (ThenDo (AssignsEach xs retry) ∷ ks) s l h = needs_locked held b but ks s l h
needs_locked held b but (ThenDo (SettlesAll olds bs) ∷ ks) s l h = λ c e. elim (h c e) [ inl i ↦ last c (is_in c but) refl (sym (in_append c but (b ∷ [])) ∙ i) | inr is ↦ inr is ]
  where
    last : (c : ℕ) (p : Bool) → is_in c but ≡ p → (p || ((c == b) || false)) ≡ true → (is_in c but ≡ true) ⊎ IsLocked (content_of c s)
    last c true is e = inl is
    last c false is e =
        elim (eqb_tells c b) [
          | inl same ↦ inr (subst (λ n. IsLocked (content_of n s)) (sym same.1) l)
          | inr other ↦ absurd (let x : false ≡ true = sym (ap (λ q. q || false) other.0) ∙ e in cc)
        ]
needs_locked held b but (ThenDo (DeletesRow c t row) ∷ ks) s l h = h
needs_locked held b but (k ∷ ks) s l h = tt
