-- A cycle that would close can be answered with clients that all differ.
use Rattle.std.proofs.Common.{◌≡◌, ◌⊎◌, ℕ, zero, suc, ◌<◌, List, [], ◌∷◌, length, get_or, refl, subst, inl, inr, arith}
use Rattle.std.specs.List.{Contains}
use Rattle.std.proofs.lemmas.Bool.{cases_eq}
use Rattle.database_meaning.specs.Setting.{Setting}
use Rattle.database_meaning.specs.State.{State}
use Rattle.database_meaning.specs.Waiting.{Chain, IsDistinct, IsCycle, Closes, WouldWait}
use Rattle.database_protocol.specs.declared.operation.Op.{Op}

pub here : (a : ℕ) (xs : List ℕ) → Contains (a ∷ xs) a
here a xs = (0, omega arith, refl)

pub there : (a x : ℕ) (xs : List ℕ) → Contains xs a → Contains (x ∷ xs) a
there a x xs p = (suc p.0, omega (arith, p.1), p.2)

at : (a x : ℕ) (xs : List ℕ) (k : ℕ) → k < length (x ∷ xs) → get_or (x ∷ xs) k a ≡ a → (x ≡ a) ⊎ Contains xs a
at a x xs zero lt e = inl e
at a x xs (suc k) lt e = inr (k, omega arith, e)

pub uncons : (a x : ℕ) (xs : List ℕ) → Contains (x ∷ xs) a → (x ≡ a) ⊎ Contains xs a
uncons a x xs p = at a x xs p.0 p.1 p.2

in_cases : (a : ℕ) (xs : List ℕ) → Contains xs a ⊎ (Contains xs a → ⊥)
in_cases a [] = inr (λ p. absurd (omega (arith, p.1)))
in_cases a (x ∷ xs) =
    elim (cases_eq x a) [
      | inl e ↦ inl (subst (λ y. Contains (x ∷ xs) y) e (here x xs))
      | inr ne ↦ elim (in_cases a xs) [
        | inl p ↦ inl (there a x xs p)
        | inr none ↦ inr (λ p. elim (uncons a x xs p) [ inl e ↦ ne e | inr q ↦ none q ])
      ]
    ]

Simple : (ℕ → ℕ → Type 0) → ℕ → ℕ → Type 0
Simple W a b = (zs : List ℕ) × Chain W a zs b × IsDistinct (a ∷ zs)

-- from a client on the way, the rest of the way
cut : (W : ℕ → ℕ → Type 0) (a x : ℕ) (ys : List ℕ) (b : ℕ) → Chain W x ys b → IsDistinct (x ∷ ys) → Contains (x ∷ ys) a → Simple W a b
unfolding Simple
cut W a x [] b p d c =
    elim (uncons a x [] c) [
      | inl e ↦ subst (λ y. (zs : List ℕ) × Chain W y zs b × IsDistinct (y ∷ zs)) e ([], p, d)
      | inr none ↦ absurd (omega (arith, none.1))
    ]
cut W a x (y ∷ ys) b p d c =
    elim (uncons a x (y ∷ ys) c) [
      | inl e ↦ subst (λ z. (zs : List ℕ) × Chain W z zs b × IsDistinct (z ∷ zs)) e (y ∷ ys, p, d)
      | inr more ↦ cut W a y ys b p.1 d.1 more
    ]

simplify : (W : ℕ → ℕ → Type 0) (a : ℕ) (xs : List ℕ) (b : ℕ) → Chain W a xs b → Simple W a b
unfolding Simple
simplify W a [] b p = ([], p, ((λ c. absurd (omega (arith, c.1))), tt))
simplify W a (x ∷ xs) b p =
    let rest = simplify W x xs b p.1 in
    elim (in_cases a (x ∷ rest.0)) [
      | inl c ↦ cut W a x rest.0 b rest.1 rest.2 c
      | inr none ↦ (x ∷ rest.0, (p.0, rest.1), (none, rest.2))
    ]

-- where waiting would close a cycle, there is one to answer with
pub cycle_of : (f : Setting) (s : State) (c : ℕ) (op : Op) → Closes f s c op → (cycle : List ℕ) × IsCycle f s c op cycle
unfolding Simple
cycle_of f s c op closes =
    let short = simplify (WouldWait f s c op) c closes.0 c closes.1 in
    (c ∷ short.0, (refl, short.2, short.1))
