-- The slots by their numbers, and what a write of one does.
use Rattle.std.proofs.Common.{◌≡◌, ◌≢◌, inl, inr, ℕ, zero, suc, ◌+◌, ◌<◌, ◌≤◌, ◌==◌, ◌||◌, if◌then◌else◌, Bool, true, false, List, [], ◌∷◌, ◌++◌, length, take, drop, get_or, refl, sym, ◌∙◌, ap, subst, arith, length-append, Option, Some, None, cond, is_some, nat_eq, eq-eqb}
use Rattle.std.proofs.lemmas.Bool.{cases_eq, ne_eqb}
use Rattle.std.proofs.lemmas.Bool.Decides.{nat_tests}
use Rattle.std.proofs.lemmas.List.{drop_more, take-take, get_or-take, get_or_push}
use Rattle.storage.specs.Slots.{put, undone, wrote, joined}
use Rattle.storage.specs.declared.slots.Undo.{Undo}
use Rattle.new_database.specs.declared.slots.slot.Slot.{Slot}
use Rattle.new_database.specs.slots.Sparse.{zeros, part_of}

pub is_none : {A : Type 0} (o : Option A) → is_some o ≡ false → o ≡ None
is_none None h = refl
is_none (Some x) h = absurd (cc)

-- a slot that was never written has zeros
pub part_none : (part : Slot → List ℕ) (o : Option Slot) → o ≡ None → part_of part o ≡ zeros
part_none part o none = ap (part_of part) none

-- the slot of number n is x in new; each other one is as it was in old
abbrev pub IsWith : (ℕ → Option Slot) → (ℕ → Option Slot) → ℕ → Slot → Type 0
IsWith old new n x = (q : ℕ) → new q ≡ cond (nat_eq n q) (Some x) (old q)

with_here : (old new : ℕ → Option Slot) (n : ℕ) (x : Slot) → IsWith old new n x → new n ≡ Some x
with_here old new n x is = is n ∙ ap (λ (b : Bool). cond b (Some x) (old n)) (eq-eqb n n refl)

pub with_other : (old new : ℕ → Option Slot) (n k : ℕ) (x : Slot) → k ≢ n → IsWith old new n x → new k ≡ old k
with_other old new n k x ne is = is k ∙ ap (λ (b : Bool). cond b (Some x) (old k)) (ne_eqb n k (λ e. ne (sym e)))

put_id : (f : ℕ → List ℕ) (n : ℕ) (v : List ℕ) → f n ≡ v → (k : ℕ) → put f n v k ≡ f k
put_id f n v is k = elim (cases_eq k n) [
  | inl e ↦ subst (λ (m : ℕ). put f n v m ≡ f m) (sym e) (let p : put f n v n ≡ v = grind (arith, nat_tests) in p ∙ sym is)
  | inr ne ↦ grind (arith, nat_tests)
]

pub part_put : (part : Slot → List ℕ) (old new : ℕ → Option Slot) (n : ℕ) (x : Slot) → IsWith old new n x → (k : ℕ) → part_of part (new k) ≡ put (λ q. part_of part (old q)) n (part x) k
part_put part old new n x is k = elim (cases_eq k n) [
  | inl e ↦
      let here : put (λ q. part_of part (old q)) n (part x) n ≡ part x = grind (arith, nat_tests) in
      subst (λ (m : ℕ). part_of part (new m) ≡ put (λ q. part_of part (old q)) n (part x) m) (sym e) (ap (part_of part) (with_here old new n x is) ∙ sym here)
  | inr ne ↦
      let other : put (λ q. part_of part (old q)) n (part x) k ≡ part_of part (old k) = grind (arith, nat_tests) in
      ap (part_of part) (with_other old new n k x ne is) ∙ sym other
]

-- the slot had the same part before
pub part_same : (part : Slot → List ℕ) (old new : ℕ → Option Slot) (n : ℕ) (x : Slot) → IsWith old new n x → part_of part (old n) ≡ part x → (k : ℕ) → part_of part (new k) ≡ part_of part (old k)
part_same part old new n x is same k = part_put part old new n x is k ∙ put_id (λ q. part_of part (old q)) n (part x) same k

pub put_at : (f g : ℕ → List ℕ) (s : ℕ) (v : List ℕ) (k : ℕ) → f k ≡ g k → put f s v k ≡ put g s v k
put_at f g s v k is = ap (λ (x : List ℕ). put (λ _. x) s v k) is

wrote_more : (us : List Undo) (u : Undo) (k : ℕ) → wrote (us ++ u ∷ []) k ≡ (wrote us k || (k == u.slot))
wrote_more [] u k = grind (arith, nat_tests)
wrote_more (x ∷ us) u k = let rest = wrote_more us u k in grind (arith, nat_tests, rest)

pub joined_more : (us : List Undo) (u : Undo) (r committed : ℕ → List ℕ) (k : ℕ) → joined (us ++ u ∷ []) r committed k ≡ put (joined us r committed) u.slot (r u.slot) k
joined_more us u r committed k = let w = wrote_more us u k in elim (cases_eq k u.slot) [
  | inl e ↦
      let is : wrote (us ++ u ∷ []) k ≡ true = grind (arith, nat_tests, w) in
      let a : joined (us ++ u ∷ []) r committed k ≡ r k = grind (arith, nat_tests) in
      let b : put (joined us r committed) u.slot (r u.slot) k ≡ r u.slot = grind (arith, nat_tests) in
      a ∙ ap r e ∙ sym b
  | inr ne ↦
      let is : wrote (us ++ u ∷ []) k ≡ wrote us k = grind (arith, nat_tests, w) in
      let b : put (joined us r committed) u.slot (r u.slot) k ≡ joined us r committed k = grind (arith, nat_tests) in
      ap (λ (t : Bool). if t then r k else committed k) is ∙ sym b
]

take_front : {A : Type 0} (xs ys : List A) (n : ℕ) → length xs ≡ n → take n (xs ++ ys) ≡ xs
take_front [] ys zero is = refl
take_front [] ys (suc n) is = absurd (omega arith)
take_front (x ∷ xs) ys zero is = absurd (omega arith)
take_front (x ∷ xs) ys (suc n) is = ap (λ (l : List _). x ∷ l) (take_front xs ys n (omega arith))

-- the last write is undone
pub undone_pop : (us : List Undo) (n : ℕ) (u no_undo : Undo) (r : ℕ → List ℕ) (k : ℕ) → n < length us → get_or us n no_undo ≡ u → undone (drop n us) r k ≡ put (undone (drop (n + 1) us) r) u.slot u.old k
undone_pop us n u no_undo r k lt is =
    ap (λ (l : List Undo). undone l r k) (drop_more us n no_undo lt) ∙ ap (λ (x : Undo). put (undone (drop (n + 1) us) r) x.slot x.old k) is

-- what is left is a front of the list, after its last is taken out
pub pop_front : (U S T : List Undo) (u : Undo) → S ≡ take (length S) U → length S ≤ length U → S ≡ T ++ u ∷ [] → T ≡ take (length T) U
pop_front U S T u front le split =
    let long : length S ≡ length T + 1 = ap length split ∙ length-append T (u ∷ []) in
    let at : length T ≤ length S = omega (arith, long) in
    sym (take_front T (u ∷ []) (length T) refl) ∙ ap (λ (l : List Undo). take (length T) l) (sym split) ∙ ap (λ (l : List Undo). take (length T) l) front ∙ take-take (length T) (length S) U at

pub pop_last : (U S T : List Undo) (u no_undo : Undo) → S ≡ take (length S) U → length S ≤ length U → S ≡ T ++ u ∷ [] → get_or U (length T) no_undo ≡ u
pop_last U S T u no_undo front le split =
    let long : length S ≡ length T + 1 = ap length split ∙ length-append T (u ∷ []) in
    let less : length T < length S = omega (arith, long) in
    sym (get_or-take (length S) U (length T) no_undo less) ∙ ap (λ (l : List Undo). get_or l (length T) no_undo) (sym front ∙ split) ∙ get_or_push T u no_undo (length T) refl
