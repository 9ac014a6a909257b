-- The slots that a transaction wrote, one after another.
use Rattle.std.proofs.Common.{◌≡◌, ◌≢◌, ℕ, ◌==◌, ◌||◌, eqb, Bool, true, false, List, [], ◌∷◌, ◌++◌, refl, sym, ap, ◌∙◌, arith}
use Rattle.std.proofs.lemmas.Bool.Decides.{nat_tests}
use Rattle.byte_rows.specs.Freed.{has}

either_true : (a b : Bool) → b ≡ true → (a || b) ≡ true
either_true true b e = refl
either_true false b e = e

or_more : (a b c : Bool) → (a || b) ≡ true → (b ≡ true → c ≡ true) → (a || c) ≡ true
or_more true b c e f = refl
or_more false b c e f = f e

pub has_here : (k : ℕ) (xs : List ℕ) → has (k ∷ xs) k ≡ true
has_here k xs = let same : eqb k k ≡ true = grind (arith, nat_tests) in ap (λ (b : Bool). b || has xs k) same

pub has_last : (xs : List ℕ) (x : ℕ) → has (xs ++ x ∷ []) x ≡ true
has_last [] x = has_here x []
has_last (y ∷ ys) x = either_true (x == y) (has (ys ++ x ∷ []) x) (has_last ys x)

pub has_more : (xs : List ℕ) (x k : ℕ) → has xs k ≡ true → has (xs ++ x ∷ []) k ≡ true
has_more [] x k e = cc
has_more (y ∷ ys) x k e = or_more (k == y) (has ys k) (has (ys ++ x ∷ []) k) e (has_more ys x k)

pub has_less : (xs : List ℕ) (x k : ℕ) → k ≢ x → has (xs ++ x ∷ []) k ≡ true → has xs k ≡ true
has_less [] x k ne e = let other : eqb k x ≡ false = grind (arith, nat_tests, ne) in sym (ap (λ (b : Bool). b || false) other) ∙ e
has_less (y ∷ ys) x k ne e = or_more (k == y) (has (ys ++ x ∷ []) k) (has ys k) e (has_less ys x k ne)
