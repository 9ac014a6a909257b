-- Totals over lists, the entries of one client, and a function that is changed at one number.
use Rattle.std.proofs.Common.{◌≡◌, ◌≢◌, ℕ, zero, suc, ◌+◌, ◌<◌, ◌≤◌, List, [], ◌∷◌, ◌++◌, length, set, eqb, refl, sym, ap, arith, ne_eqb, eq-eqb, cond}
use Rattle.std.proofs.lemmas.List.Elements.{filter-append}
use Rattle.std.proofs.lemmas.List.{append-nil}
use mathlib.Core.Option.{some, some-ne-none, some-injective}
use lib.ListN.{get_elem?}
use Rattle.turn_lock.specs.Journal.{own_entries}
use Rattle.turn_lock.specs.Rule.{total}

module _ {A : Type 0} (f : A → ℕ) where
  -- the total after one element was set
  pub total-set : (l : List A) (i : ℕ) (a b : A) → get_elem? l i ≡ some a → total f (set l i b) + f a ≡ total f l + f b
  total-set [] i a b e = absurd (some-ne-none a (sym e))
  total-set (x ∷ l) zero a b e = let s : f x ≡ f a = ap f (some-injective x a e) in omega arith
  total-set (x ∷ l) (suc i) a b e = let s = total-set l i a b e in omega arith

  -- the total with one element more
  pub total-push : (l : List A) (a : A) → total f (l ++ a ∷ []) ≡ total f l + f a
  total-push [] a = omega arith
  total-push (x ∷ l) a = let s = total-push l a in omega arith

  -- one element, and two at different places, weigh no more than all
  pub get-le-total : (l : List A) (i : ℕ) (a : A) → get_elem? l i ≡ some a → f a ≤ total f l
  get-le-total [] i a e = absurd (some-ne-none a (sym e))
  get-le-total (x ∷ l) zero a e = let s : f x ≡ f a = ap f (some-injective x a e) in omega arith
  get-le-total (x ∷ l) (suc i) a e = let s = get-le-total l i a e in omega arith

  pub two-le-total : (l : List A) (i j : ℕ) (a b : A) → i ≢ j → get_elem? l i ≡ some a → get_elem? l j ≡ some b → f a + f b ≤ total f l
  two-le-total [] i j a b n e h = absurd (some-ne-none a (sym e))
  two-le-total (x ∷ l) zero zero a b n e h = absurd (n refl)
  two-le-total (x ∷ l) zero (suc j) a b n e h = let s : f x ≡ f a = ap f (some-injective x a e) in let t = get-le-total l j b h in omega arith
  two-le-total (x ∷ l) (suc i) zero a b n e h = let s : f x ≡ f b = ap f (some-injective x b h) in let t = get-le-total l i a e in omega arith
  two-le-total (x ∷ l) (suc i) (suc j) a b n e h = let t = two-le-total l i j a b (λ (q : i ≡ j). n (ap suc q)) e h in omega arith

-- two weights that agree at each place
pub total-same : {A : Type 0} (f g : A → ℕ) (l : List A) → ((j : ℕ) (a : A) → get_elem? l j ≡ some a → f a ≡ g a) → total f l ≡ total g l
total-same f g [] h = refl
total-same f g (x ∷ l) h = let s = total-same f g l (λ j a e. h (suc j) a e) in let t = h 0 x refl in omega arith

-- two sums that differ at one place
pub total-but : {A : Type 0} (f g : A → ℕ) (l : List A) (i : ℕ) (a : A) → get_elem? l i ≡ some a → ((j : ℕ) (b : A) → j ≢ i → get_elem? l j ≡ some b → f b ≡ g b) → total f l + g a ≡ total g l + f a
total-but f g [] i a e h = absurd (some-ne-none a (sym e))
total-but f g (x ∷ l) zero a e h = let s : f x ≡ f a = ap f (some-injective x a e) in let t : g x ≡ g a = ap g (some-injective x a e) in let u = total-same f g l (λ j b q. h (suc j) b (λ n. omega arith) q) in omega arith
total-but f g (x ∷ l) (suc i) a e h = let s = total-but f g l i a e (λ j b n q. h (suc j) b (λ (m : suc j ≡ suc i). n (omega arith)) q) in let t = h 0 x (λ n. omega arith) refl in omega arith

-- a weight that is no more at each place
pub total-le : {A : Type 0} (f g : A → ℕ) (l : List A) → ((j : ℕ) (a : A) → get_elem? l j ≡ some a → f a ≤ g a) → total f l ≤ total g l
total-le f g [] h = omega arith
total-le f g (x ∷ l) h = let s = total-le f g l (λ j a e. h (suc j) a e) in let t = h 0 x refl in omega arith

module _ {E : Type 0} (client : E → ℕ) where
  -- an entry more of another client changes nothing for this one
  pub own_entries-other : (n : ℕ) (log : List E) (e : E) → client e ≢ n → own_entries client n (log ++ e ∷ []) ≡ own_entries client n log
  own_entries-other n log e is = let b = ne_eqb (client e) n is in rw (filter-append, b, append-nil)

-- f, but a at n
abbrev pub put_at : ℕ → ℕ → (ℕ → ℕ) → ℕ → ℕ
put_at n a f k = cond (eqb k n) a (f k)

pub put_here : (n a : ℕ) (f : ℕ → ℕ) → put_at n a f n ≡ a
put_here n a f = let b = eq-eqb n n refl in rw b

pub put_else : (n a : ℕ) (f : ℕ → ℕ) (k : ℕ) → k ≢ n → put_at n a f k ≡ f k
put_else n a f k d = let b = ne_eqb k n d in rw b

-- a place that has an element is within the list
pub in_range : {A : Type 0} (l : List A) (i : ℕ) (a : A) → get_elem? l i ≡ some a → i < length l
in_range [] i a e = absurd (some-ne-none a (sym e))
in_range (x ∷ l) zero a e = omega arith
in_range (x ∷ l) (suc i) a e = let h = in_range l i a e in omega arith
