-- Lists of passes: as they are made, taken out, put back and taken in.
use Rattle.std.proofs.Common.{◌≡◌, ◌⊎◌, ℕ, zero, suc, ◌+◌, List, [], ◌∷◌, ◌++◌, length, get_or, Option, Some, None, refl, sym, ap, ◌∙◌, ⊎_elim, inl, inr, arith, add-one, length-append, option_to_list, MatchOption, All}
use Rattle.std.proofs.lemmas.List.{get_or_default}
use Rattle.std.proofs.lemmas.List.Elements.{All-nil, All-push, All-pop}
use mathlib.Core.Option.{some}
use lib.ListN.{get_elem?}
use Rattle.atomic_table.proofs.Lists.{at_index, at_snoc, at_longer, at_last}
use Rattle.turn_lock.specs.Shared.{Lock}
use Rattle.turn_lock.specs.Passes.{ClientPass, IsPassOf, passes_from}
use Rattle.turn_lock.proofs.Sums.{in_range}

module _ {A : Type 0} (P : A → Type 0) where
  nothing : (xs : List A) → length xs ≡ 0 → xs ≡ []
  nothing [] e = refl
  nothing (x ∷ xs) e = absurd (omega arith)

  -- what holds of each of a list holds of the last and of each of the rest
  pub All-last : (old new : List A) (x : A) → old ≡ new ++ x ∷ [] → All P old → All P new × P x
  All-last old new x e all = All-pop P old new (Some x) e all

  -- what a pop gives, by its clauses on the items and on the lengths
  pub popped : (old new : List A) (r : Option A) (n m : ℕ) → n ≡ length old → m ≡ length new → old ≡ new ++ option_to_list r → MatchOption r ((n ≡ 0) × (m ≡ 0)) (λ _. m + 1 ≡ n) → All P old
      → MatchOption r ((old ≡ []) × (new ≡ [])) (λ p. (old ≡ new ++ p ∷ []) × P p)
  popped old new None n m a b e h all = (nothing old (sym a ∙ h.0), nothing new (sym b ∙ h.1))
  popped old new (Some x) n m a b e h all = (e, (All-last old new x e all).1)

module _ {T : Type 0} (E : Type 0) where
  pub passes_from-next : (lock : Lock T) (first k : ℕ) → passes_from {E = E} lock first (k + 1) ≡ passes_from lock first k ++ record { lock = lock; client = first + k; list = [] } ∷ []
  passes_from-next lock first k = ap (passes_from lock first) (add-one k)

  pub length-passes_from : (lock : Lock T) (first k : ℕ) → length (passes_from {E = E} lock first k) ≡ k
  length-passes_from lock first zero = refl
  length-passes_from lock first (suc k) = let h = length-passes_from lock first k in let a = length-append (passes_from {E = E} lock first k) (record { lock = lock; client = first + k; list = [] } ∷ []) in omega arith

  pub All-passes_from : (lock : Lock T) (first k : ℕ) → All (IsPassOf {E = E} lock) (passes_from lock first k)
  All-passes_from lock first zero = All-nil (IsPassOf lock)
  All-passes_from lock first (suc k) = All-push (IsPassOf lock) (passes_from lock first k) record { lock = lock; client = first + k; list = [] } (All-passes_from lock first k) refl

module _ {T E : Type 0} where
  -- each pass is still in hand, or was taken in, with its client and list
  abbrev pub Gathers : List (ClientPass T E) → List (ClientPass T E) → List (ℕ × List E) → Type 0
  Gathers all rest ls = (k : ℕ) (p : ClientPass T E) → get_elem? all k ≡ some p → (get_elem? rest k ≡ some p) ⊎ ((i : ℕ) × (get_elem? ls i ≡ some (p.client, p.list)))

  -- the last pass in hand is taken in
  pub gathers_one : (all rest new : List (ClientPass T E)) (ls : List (ℕ × List E)) (x : ClientPass T E) → rest ≡ new ++ x ∷ [] → Gathers all rest ls → Gathers all new (ls ++ (x.client, x.list) ∷ [])
  gathers_one all rest new ls x e h k p at = ⊎_elim
      (λ was. ⊎_elim (λ here. inl here) (λ (same : x ≡ p). inr (length ls, at_last ls (x.client, x.list) (length ls) refl ∙ ap (λ (z : ClientPass T E). some (z.client, z.list)) same)) (at_snoc new x p k (ap (λ (l : List (ClientPass T E)). get_elem? l k) (sym e) ∙ was)))
      (λ t. inr (t.0, at_longer ls ((x.client, x.list) ∷ []) t.0 (p.client, p.list) t.1))
      (h k p at)

  -- once none is in hand, all were taken in
  pub gathered : (all rest : List (ClientPass T E)) (ls : List (ℕ × List E)) (P : ℕ × List E → Type 0) → length rest ≡ 0 → Gathers all rest ls → ((i : ℕ) (q : ℕ × List E) → get_elem? ls i ≡ some q → P q) → All (λ p. P (p.client, p.list)) all
  gathered all rest ls P empty h each k d less =
      let p : ClientPass T E = get_or all k d in
      let at : get_elem? all k ≡ some p = at_index all k p less (get_or_default all k d p less) in
      ⊎_elim (λ was. let a = in_range rest k p was in absurd (omega arith)) (λ t. each t.0 (p.client, p.list) t.1) (h k p at)
