-- What an answer says of the rows of the table above it.
use Rattle.std.proofs.Common.{◌≡◌, ℕ, true, false, List, refl, sym, ap, ◌∙◌, subst, inl, inr, ⊎_elim}
use Rattle.database_meaning.specs.Setting.{Setting}
use Rattle.database_meaning.specs.State.{State}
use Rattle.database_meaning.specs.Waiting.{HasConflict, Closes, IsHolders}
use Rattle.database_meaning.specs.Answers.{when◌comes◌otherwise◌, Answers, FromGone, IsRefused, Succeeds, IsGone, HasDuplicates}
use Rattle.database_meaning.specs.Steps.{is_success}
use Rattle.database_protocol.specs.declared.operation.Op.{Op}
use Rattle.database_protocol.specs.declared.operation.Op.TheVariants.{Enter, Leave, Back, Next, Get, Lock, Insert, Put, Delete, Drop as DropLock, NextValue, CurrentValue, End}
use Rattle.database_protocol.specs.declared.answer.Answer.{Answer}
use Rattle.database_protocol.specs.declared.answer.Answer.TheVariants.{Refused, Closed, TraceFull, Gone, KeyTooLong, Busy, Blocked, Deadlock, Duplicate, Full, TxFull, SequenceEnd, AtEnd, NoMemory}

-- the answer is not this row's
pub skip : {applies answer below : Type 0} → (answer → ⊥) → (when applies comes answer otherwise below) → (¬ applies) × below
skip never (inl p) = absurd (never p.1)
skip never (inr p) = p

-- the answer is this row's, since the rows below never say it
pub stop : {applies answer below : Type 0} → (below → ⊥) → (when applies comes answer otherwise below) → applies × answer
stop never (inl p) = p
stop never (inr p) = absurd (never p.1)

-- what a success says
pub record Success (f : Setting) (s : State) (c : ℕ) (op : Op) (a : Answer) : Type 0 where
  pub sound : ¬ IsRefused f s c op
  pub alone : ¬ HasConflict f s c op
  pub no_duplicates : ¬ HasDuplicates f s op
  pub succeeds : Succeeds f s c op a

-- what Blocked says
pub record Waiting (f : Setting) (s : State) (c : ℕ) (op : Op) (holders : List ℕ) : Type 0 where
  pub sound : ¬ IsRefused f s c op
  pub open_end : ¬ Closes f s c op
  pub waits_for : IsHolders f s c op holders

-- a refusal is no success
refusal : {a b : Answer} → is_success a ≡ true → is_success b ≡ false → a ≡ b → ⊥
refusal {a} {b} good bad e = let same : is_success a ≡ is_success b = ap is_success e in cc

from_gone_success : (f : Setting) (s : State) (c : ℕ) (op : Op) (a : Answer) → is_success a ≡ true → FromGone f s c op a → (¬ HasConflict f s c op) × (¬ HasDuplicates f s op) × Succeeds f s c op a
from_gone_success f s c op a h m =
    let m1 = skip {applies = IsGone f s c op} (λ (e : a ≡ Gone). refusal h refl e) m in
    let m2 = skip (λ e. refusal h refl e.2) m1.1 in
    let m3 = skip (λ e. refusal h refl e.2) m2.1 in
    let m4 = skip (λ e. refusal h refl e.2) m3.1 in
    let m5 = skip (λ e. refusal h refl e.2) m4.1 in
    let m6 = skip (λ e. refusal h refl e.3) m5.1 in
    let m7 = skip (λ e. refusal h refl e) m6.1 in
    let m8 = skip (λ e. refusal h refl e) m7.1 in
    let m9 = skip (λ e. refusal h refl e) m8.1 in
    let m10 = skip (λ e. refusal h refl e) m9.1 in
    (m5.0, m6.0, m10.1)

-- the answer is none of the two
pub neither : {applies answer below : Type 0} → (answer → ⊥) → (below → ⊥) → (when applies comes answer otherwise below) → ⊥
neither never nowhere (inl p) = never p.1
neither never nowhere (inr p) = nowhere p.1

is_one : {a b : Answer} → is_success b ≡ true → a ≡ b → is_success a ≡ true
is_one {a} {b} good e = ap is_success e ∙ good

-- what succeeds says is a success
pub succeeds_success : (f : Setting) (s : State) (c : ℕ) (op : Op) (a : Answer) → Succeeds f s c op a → is_success a ≡ true
succeeds_success f s c Enter a e = is_one refl e
succeeds_success f s c (Leave keep) a (inl p) = is_one refl p.2
succeeds_success f s c (Leave keep) a (inr p) = is_one refl p.1
succeeds_success f s c (Back depth) a e = is_one refl e
succeeds_success f s c (Next table index prefix cursor forward) a p = is_one refl p.3
succeeds_success f s c (Get table row) a p = is_one refl p.1
succeeds_success f s c (Lock table row exclusive wait) a e = is_one refl e
succeeds_success f s c (Insert table values) a p = is_one refl p.1
succeeds_success f s c (Put table row values) a e = is_one refl e
succeeds_success f s c (Delete table row) a e = is_one refl e
succeeds_success f s c (DropLock row) a e = is_one refl e
succeeds_success f s c (NextValue sequence) a e = is_one refl e
succeeds_success f s c (CurrentValue sequence) a e = is_one refl e
succeeds_success f s c End a e = is_one refl e

same_holders : {xs ys : List ℕ} → Blocked xs ≡ Blocked ys → xs ≡ ys
same_holders e = cc

from_gone_blocked : (f : Setting) (s : State) (c : ℕ) (op : Op) (holders : List ℕ) → FromGone f s c op (Blocked holders) → (¬ Closes f s c op) × IsHolders f s c op holders
from_gone_blocked f s c op holders m =
    let a : Answer = Blocked holders in
    let m1 = skip {applies = IsGone f s c op} {answer = a ≡ Gone} (λ e. cc) m in
    let m2 = skip (λ e. let x : a ≡ KeyTooLong e.0 = e.2 in cc) m1.1 in
    let m3 = skip (λ e. let x : a ≡ Busy e.0 = e.2 in cc) m2.1 in
    let m4 = stop (λ m5. neither (λ e. let x : a ≡ Deadlock e.0 = e.2 in cc) (neither (λ e. let x : a ≡ Duplicate e.0 e.1 = e.3 in cc)
    (neither (λ e. let x : a ≡ Full = e in cc) (neither (λ e. let x : a ≡ TxFull = e in cc) (neither (λ e. let x : a ≡ SequenceEnd = e in cc) (neither (λ e. let x : a ≡ AtEnd = e in cc)
    (λ m11. let x : false ≡ true = succeeds_success f s c op a m11 in cc))))))
    m5) m3.1 in
    ((λ closes. m4.0.1 closes), subst (λ hs. IsHolders f s c op hs) (same_holders (sym m4.1.2)) m4.1.1)

pub success_of : (f : Setting) (s : State) (c : ℕ) (op : Op) (a : Answer) → is_success a ≡ true → Answers f s c op a → Success f s c op a
success_of f s c op a h (inl free) = absurd (⊎_elim (λ e. refusal h refl e) (λ p. refusal h refl p.0) free.1)
success_of f s c op a h (inr t) =
    let t1 = skip {applies = IsRefused f s c op} (λ (e : a ≡ Refused). refusal h refl e) t in
    let t2 = skip (λ e. refusal h refl e) t1.1 in
    let fits : FromGone f s c op a = elim t2.1 [ inl p ↦ p.1 | inr p ↦ absurd (refusal h refl p.0) ] in
    let m = from_gone_success f s c op a h fits in
    record { sound = t1.0; alone = m.0; no_duplicates = m.1; succeeds = m.2 }

pub waiting_of : (f : Setting) (s : State) (c : ℕ) (op : Op) (holders : List ℕ) → Answers f s c op (Blocked holders) → Waiting f s c op holders
waiting_of f s c op holders (inl free) = absurd (⊎_elim (λ e. let x : Blocked holders ≡ NoMemory = e in cc) (λ p. let x : Blocked holders ≡ Closed = p.0 in cc) free.1)
waiting_of f s c op holders (inr t) =
    let t1 = skip {applies = IsRefused f s c op} {answer = Blocked holders ≡ Refused} (λ e. cc) t in
    let t2 = skip (λ e. let x : Blocked holders ≡ Closed = e in cc) t1.1 in
    let fits : FromGone f s c op (Blocked holders) = elim t2.1 [ inl p ↦ p.1 | inr p ↦ absurd (let x : Blocked holders ≡ TraceFull = p.0 in cc) ] in
    let m = from_gone_blocked f s c op holders fits in
    record { sound = t1.0; open_end = m.0; waits_for = m.1 }
