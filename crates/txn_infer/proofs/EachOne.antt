-- The elements of a list are changed one after the other.
use Rattle.std.proofs.Common.{◌≡◌, inl, inr, ℕ, zero, suc, ◌+◌, ◌<◌, ◌≤◌, List, [], ◌∷◌, Bool, ◌||◌, length, get_or, drop, refl, sym, ap, ◌∙◌, subst, add-one, arith}
use Rattle.std.specs.Prelude.{map, slice_set}
use Rattle.std.specs.List.{list_any}
use Rattle.std.proofs.Math.Bool.{or_assoc, or-false}
use Rattle.std.proofs.Math.Seq.{drop-cons}
use Rattle.std.proofs.lemmas.Bool.{cases_eq}
use Rattle.std.proofs.lemmas.List.{length-set, get_or-set_same, get_or-set_other, get_or_default, drop_all}

-- those from i on are unchanged
abbrev pub Unvisited : {A : Type 0} → List A → List A → ℕ → Type 0
Unvisited {A = A} xs ys i = (length xs ≡ length ys) × ((k : ℕ) (d : A) → i ≤ k → get_or xs k d ≡ get_or ys k d)

-- those before i are changed by h, as f sees them
abbrev pub Visited : {A B : Type 0} → (A → B) → (B → B) → List A → List A → ℕ → Type 0
Visited {A = A} f h xs ys i = (k : ℕ) (d : A) → k < i → f (get_or xs k d) ≡ h (f (get_or ys k d))

pub unvisited_next : {A : Type 0} (xs ys : List A) (i : ℕ) (t : A) → Unvisited xs ys i → Unvisited (slice_set xs i t) ys (i + 1)
unvisited_next xs ys i t rest = (length-set xs i t ∙ rest.0, λ k d above. get_or-set_other xs i k t d (λ e. absurd (omega (arith, e, above))) ∙ rest.1 k d (omega (arith, above)))

pub visited_next :
    {A B : Type 0} (f : A → B) (h : B → B) (xs ys : List A) (i : ℕ) (t u : A) → i < length ys → length xs ≡ length ys → u ≡ get_or ys i u →
    f t ≡ h (f u) → Visited f h xs ys i → Visited f h (slice_set xs i t) ys (i + 1)
visited_next {A = A} f h xs ys i t u within same is changed done k d below =
    elim (cases_eq k i) [
      | inl e ↦ subst (λ j. f (get_or (slice_set xs i t) j d) ≡ h (f (get_or ys j d))) (sym e)
          (ap f (get_or-set_same xs i t d (omega (arith, within, same))) ∙ changed ∙ ap (λ (v : A). h (f v)) (is ∙ get_or_default ys i u d within))
      | inr n ↦ ap f (get_or-set_other xs i k t d n) ∙ done k d (omega (arith, below, n))
    ]

-- all are
pub all_visited : {A B : Type 0} (f : A → B) (h : B → B) (xs ys : List A) → length xs ≡ length ys → Visited f h xs ys (length ys) → map f xs ≡ map h (map f ys)
all_visited f h [] [] same done = refl
all_visited f h [] (y ∷ ys) same done = absurd (omega (arith, same))
all_visited f h (x ∷ xs) [] same done = absurd (omega (arith, same))
all_visited f h (x ∷ xs) (y ∷ ys) same done =
    ap (λ t. t ∷ map f xs) (done zero x (omega arith))
    ∙ ap (λ ts. h (f y) ∷ ts) (all_visited f h xs ys (omega (arith, same)) (λ k d below. done (suc k) d (omega (arith, below))))

-- one more is tested
pub one_more_tested :
    {A : Type 0} (test : A → Bool) (ts : List A) (i : ℕ) (t : A) (all before next both : Bool) → i < length ts → t ≡ get_or ts i t →
    all ≡ before || list_any test (drop i ts) → next ≡ test t → both ≡ before || next → all ≡ both || list_any test (drop (i + 1) ts)
one_more_tested test ts i t all before next both below is so_far now joins =
    let rest = list_any test (drop (i + 1) ts) in
    so_far
    ∙ ap (λ xs. before || list_any test xs) (drop-cons ts i t below)
    ∙ ap (λ j. before || (test (get_or ts i t) || list_any test (drop j ts))) (sym (add-one i))
    ∙ ap (λ x. before || (test x || rest)) (sym is)
    ∙ ap (λ b. before || (b || rest)) (sym now)
    ∙ sym (or_assoc before next rest)
    ∙ ap (λ b. b || rest) (sym joins)

-- none is left to be tested
pub none_left_tested : {A : Type 0} (test : A → Bool) (ts : List A) (i : ℕ) (all before : Bool) → length ts ≤ i → all ≡ before || list_any test (drop i ts) → all ≡ before
none_left_tested test ts i all before above so_far = so_far ∙ ap (λ xs. before || list_any test xs) (drop_all i ts above) ∙ or-false before
