-- The arguments of a function that fit: the function is well-kinded.
use Rattle.std.proofs.Common.{◌≡◌, ◌<◌, ◌≤◌, ◌+◌, ℕ, Bool, true, false, List, [], ◌∷◌, length, refl, ap, sym, ◌∙◌, arith}
use Rattle.std.specs.Prelude.{◌&&◌, ◌==◌, not, if◌then◌else◌, nat_le, nat_lt}
use Rattle.std.proofs.lemmas.Bool.Decides.{nat_tests}
use Rattle.abl_base.specs.declared.value.Kind.{Kind}
use Rattle.abl_base.specs.declared.value.Kind.TheVariants as kind
use Rattle.bound_tree.specs.declared.expression.Binary.TheVariants as two
use Rattle.bound_tree.specs.declared.expression.Ternary.TheVariants as three
use Rattle.bound_tree.specs.declared.expression.Unary.TheVariants as one
use Rattle.bound_tree.specs.Tree as b
use Rattle.bound_tree.specs.Tree.{Expr}
use Rattle.syntax_tree.specs.declared.word.Function.{Function}
use Rattle.syntax_tree.specs.declared.word.Function.TheVariants as f
use Rattle.bind_names.specs.declared.sort.Sort.{Sort}
use Rattle.bind_names.specs.declared.sort.Sort.TheVariants.{Of, Broken}
use Rattle.bind_names.specs.Sorts.{fewest, is_broken, kind_of_function, may_be_converted, may_be_date, may_be_text, may_be_whole, most, result_sort, sort_or_broken, takes}
use Rattle.bind_expressions.specs.Expressions.{Typed, all_fit, call, comma, exprs, missing, nth, the_rest}
use Rattle.bind_expressions.specs.WellKinded.{given, sort_of}
use Rattle.bind_expressions.proofs.Calls.{all_fit_is, each_fits}

-- the sort is p where it is x, unless x is broken
abbrev pub Agrees : Sort → Sort → Type 0
Agrees p x = is_broken x ≡ false → p ≡ x

abbrev pub IsRight : Typed → Type 0
IsRight x = Agrees (sort_of x.expr) x.sort

abbrev pub AllRight : List Typed → Type 0
AllRight [] = Unit {0}
AllRight (a ∷ as_) = IsRight a × AllRight as_

-- ---- parts of a conjunction

both_left : (p q : Bool) → (p && q) ≡ true → p ≡ true
both_left true q e = refl
both_left false q e = absurd cc

both_right : (p q : Bool) → (p && q) ≡ true → q ≡ true
both_right true q e = e
both_right false q e = absurd cc

not_true : (p : Bool) → not p ≡ true → p ≡ false
not_true true e = absurd cc
not_true false e = refl

-- ---- arguments that fit

pub record FitsFirst (x : Function) (i : ℕ) (a : Typed) (as_ : List Typed) : Type 0 where
  pub taken : takes x i a.sort ≡ true
  pub unbroken : is_broken a.sort ≡ false
  pub rest : all_fit x (i + 1) as_ ≡ true

fits_first : (x : Function) (i : ℕ) (a : Typed) (as_ : List Typed) → all_fit x i (a ∷ as_) ≡ true → FitsFirst x i a as_
fits_first x i a as_ e =
    let later = both_right (takes x i a.sort) (not (is_broken a.sort) && all_fit x (i + 1) as_) e in
    record {
      taken = both_left (takes x i a.sort) (not (is_broken a.sort) && all_fit x (i + 1) as_) e;
      unbroken = not_true (is_broken a.sort) (both_left (not (is_broken a.sort)) (all_fit x (i + 1) as_) later);
      rest = both_right (not (is_broken a.sort)) (all_fit x (i + 1) as_) later;
    }

not_above : (i m : ℕ) → nat_le i m ≡ true → m < i → ⊥
not_above i m e lt = grind (arith, nat_tests)

too_many : (x : Function) (i : ℕ) (as_ : List Typed) → most x < i → all_fit x i as_ ≡ true → ⊥
too_many x i [] lt e = not_above i (most x) (both_right (nat_le (fewest x) i) (nat_le i (most x)) e) lt
too_many x i (a ∷ as_) lt e = let h = fits_first x i a as_ e in too_many x (i + 1) as_ (omega arith) h.rest

-- ---- the sorts of functions

given_is : (test : Sort → Bool) (a : Typed) (s : Sort) → IsRight a → test a.sort ≡ true → is_broken a.sort ≡ false → given (test (sort_of a.expr)) (sort_of a.expr) s ≡ s
given_is test a s right taken unbroken = let e : sort_of a.expr ≡ a.sort = right unbroken in rw (e, taken, unbroken) refl

one_called : (x : Function) (build : Expr → Expr) (test : Sort → Bool) (k : Kind) (as_ : List Typed) → most x ≡ 1 → fewest x ≡ 1 → ((s : Sort) → takes x 0 s ≡ test s) →
    ((e : Expr) → sort_of (build e) ≡ given (test (sort_of e)) (sort_of e) (Of k)) → AllRight as_ → all_fit x 0 as_ ≡ true → sort_of (build (nth (exprs as_) 0 missing)) ≡ Of k
one_called x build test k [] most_is fewest_is takes_is build_is right e = absurd (never (both_left (nat_le (fewest x) 0) (nat_le 0 (most x)) e))
  where
    never : nat_le (fewest x) 0 ≡ true → ⊥
    never h = let h1 = rw fewest_is at h in absurd cc
one_called x build test k (a ∷ []) most_is fewest_is takes_is build_is right e =
    let h = fits_first x 0 a [] e in
    build_is a.expr ∙ given_is test a (Of k) right.0 (sym (takes_is a.sort) ∙ h.taken) h.unbroken
one_called x build test k (a ∷ c ∷ as_) most_is fewest_is takes_is build_is right e =
    let h = fits_first x 0 a (c ∷ as_) e in
    let h2 = fits_first x 1 c as_ h.rest in
    absurd (too_many x 2 as_ (omega arith) h2.rest)

called_sort : (x : Function) (as_ : List Typed) → AllRight as_ → all_fit x 0 as_ ≡ true → sort_of (call x (exprs as_)) ≡ Of (kind_of_function x)
called_sort f.Integer as_ right e = one_called f.Integer (b.One one.ToInteger) may_be_converted kind.Integer as_ refl refl (λ s. refl) (λ a. refl) right e
called_sort f.Int64 as_ right e = one_called f.Int64 (b.One one.ToInt64) may_be_converted kind.Int64 as_ refl refl (λ s. refl) (λ a. refl) right e
called_sort f.Decimal as_ right e = one_called f.Decimal (b.One one.ToDecimal) may_be_converted kind.Decimal as_ refl refl (λ s. refl) (λ a. refl) right e
called_sort f.Length as_ right e = one_called f.Length (b.One one.Length) may_be_text kind.Int64 as_ refl refl (λ s. refl) (λ a. refl) right e
called_sort f.Year as_ right e = one_called f.Year (b.One one.Year) may_be_date kind.Int64 as_ refl refl (λ s. refl) (λ a. refl) right e
called_sort f.Month as_ right e = one_called f.Month (b.One one.Month) may_be_date kind.Int64 as_ refl refl (λ s. refl) (λ a. refl) right e
called_sort f.Day as_ right e = one_called f.Day (b.One one.Day) may_be_date kind.Int64 as_ refl refl (λ s. refl) (λ a. refl) right e
called_sort f.NumEntries [] right e = absurd cc
called_sort f.NumEntries (a ∷ []) right e =
    let h = fits_first f.NumEntries 0 a [] e in
    let s : sort_of a.expr ≡ a.sort = right.0 h.unbroken in
    let t : may_be_text a.sort ≡ true = h.taken in
    let u : is_broken a.sort ≡ false = h.unbroken in
    rw (s, u, t) refl
called_sort f.NumEntries (a ∷ c ∷ []) right e =
    let h = fits_first f.NumEntries 0 a (c ∷ []) e in
    let h2 = fits_first f.NumEntries 1 c [] h.rest in
    let s : sort_of a.expr ≡ a.sort = right.0 h.unbroken in
    let t : may_be_text a.sort ≡ true = h.taken in
    let u : is_broken a.sort ≡ false = h.unbroken in
    let s2 : sort_of c.expr ≡ c.sort = right.1.0 h2.unbroken in
    let t2 : may_be_text c.sort ≡ true = h2.taken in
    let u2 : is_broken c.sort ≡ false = h2.unbroken in
    rw (s, s2, u, u2, t, t2) refl
called_sort f.NumEntries (a ∷ c ∷ d ∷ as_) right e =
    let h = fits_first f.NumEntries 0 a (c ∷ d ∷ as_) e in
    let h2 = fits_first f.NumEntries 1 c (d ∷ as_) h.rest in
    let h3 = fits_first f.NumEntries 2 d as_ h2.rest in
    absurd (too_many f.NumEntries 3 as_ (omega arith) h3.rest)
called_sort f.Substring [] right e = absurd cc
called_sort f.Substring (a ∷ []) right e = let h = fits_first f.Substring 0 a [] e in let r : false ≡ true = h.rest in absurd cc
called_sort f.Substring (a ∷ c ∷ []) right e =
    let h = fits_first f.Substring 0 a (c ∷ []) e in
    let h2 = fits_first f.Substring 1 c [] h.rest in
    given_is may_be_text a _ right.0 h.taken h.unbroken ∙ given_is may_be_whole c (Of kind.Character) right.1.0 h2.taken h2.unbroken
called_sort f.Substring (a ∷ c ∷ d ∷ []) right e =
    let h = fits_first f.Substring 0 a (c ∷ d ∷ []) e in
    let h2 = fits_first f.Substring 1 c (d ∷ []) h.rest in
    let h3 = fits_first f.Substring 2 d [] h2.rest in
    given_is may_be_text a _ right.0 h.taken h.unbroken ∙ given_is may_be_whole c _ right.1.0 h2.taken h2.unbroken ∙ given_is may_be_whole d (Of kind.Character) right.1.1.0 h3.taken h3.unbroken
called_sort f.Substring (a ∷ c ∷ d ∷ g ∷ as_) right e =
    let h = fits_first f.Substring 0 a (c ∷ d ∷ g ∷ as_) e in
    let h2 = fits_first f.Substring 1 c (d ∷ g ∷ as_) h.rest in
    let h3 = fits_first f.Substring 2 d (g ∷ as_) h2.rest in
    let h4 = fits_first f.Substring 3 g as_ h3.rest in
    absurd (too_many f.Substring 4 as_ (omega arith) h4.rest)
called_sort f.Entry [] right e = absurd cc
called_sort f.Entry (a ∷ []) right e = let h = fits_first f.Entry 0 a [] e in let r : false ≡ true = h.rest in absurd cc
called_sort f.Entry (a ∷ c ∷ []) right e =
    let h = fits_first f.Entry 0 a (c ∷ []) e in
    let h2 = fits_first f.Entry 1 c [] h.rest in
    given_is may_be_whole a _ right.0 h.taken h.unbroken ∙ given_is may_be_text c (Of kind.Character) right.1.0 h2.taken h2.unbroken
called_sort f.Entry (a ∷ c ∷ d ∷ []) right e =
    let h = fits_first f.Entry 0 a (c ∷ d ∷ []) e in
    let h2 = fits_first f.Entry 1 c (d ∷ []) h.rest in
    let h3 = fits_first f.Entry 2 d [] h2.rest in
    given_is may_be_whole a _ right.0 h.taken h.unbroken ∙ given_is may_be_text c _ right.1.0 h2.taken h2.unbroken ∙ given_is may_be_text d (Of kind.Character) right.1.1.0 h3.taken h3.unbroken
called_sort f.Entry (a ∷ c ∷ d ∷ g ∷ as_) right e =
    let h = fits_first f.Entry 0 a (c ∷ d ∷ g ∷ as_) e in
    let h2 = fits_first f.Entry 1 c (d ∷ g ∷ as_) h.rest in
    let h3 = fits_first f.Entry 2 d (g ∷ as_) h2.rest in
    let h4 = fits_first f.Entry 3 g as_ h3.rest in
    absurd (too_many f.Entry 4 as_ (omega arith) h4.rest)
called_sort f.Date [] right e = absurd cc
called_sort f.Date (a ∷ []) right e = let h = fits_first f.Date 0 a [] e in let r : false ≡ true = h.rest in absurd cc
called_sort f.Date (a ∷ c ∷ []) right e =
    let h = fits_first f.Date 0 a (c ∷ []) e in
    let h2 = fits_first f.Date 1 c [] h.rest in
    let r : false ≡ true = h2.rest in absurd cc
called_sort f.Date (a ∷ c ∷ d ∷ []) right e =
    let h = fits_first f.Date 0 a (c ∷ d ∷ []) e in
    let h2 = fits_first f.Date 1 c (d ∷ []) h.rest in
    let h3 = fits_first f.Date 2 d [] h2.rest in
    given_is may_be_whole a _ right.0 h.taken h.unbroken ∙ given_is may_be_whole c _ right.1.0 h2.taken h2.unbroken ∙ given_is may_be_whole d (Of kind.Date) right.1.1.0 h3.taken h3.unbroken
called_sort f.Date (a ∷ c ∷ d ∷ g ∷ as_) right e =
    let h = fits_first f.Date 0 a (c ∷ d ∷ g ∷ as_) e in
    let h2 = fits_first f.Date 1 c (d ∷ g ∷ as_) h.rest in
    let h3 = fits_first f.Date 2 d (g ∷ as_) h2.rest in
    let h4 = fits_first f.Date 3 g as_ h3.rest in
    absurd (too_many f.Date 4 as_ (omega arith) h4.rest)

pub called_right : (x : Function) (as_ : List Typed) → AllRight as_ → Agrees (sort_of (call x (exprs as_))) (if all_fit x 0 as_ then Of (kind_of_function x) else Broken)
called_right x as_ right = go (all_fit x 0 as_) (called_sort x as_ right)
  where
    go : (t : Bool) → (t ≡ true → sort_of (call x (exprs as_)) ≡ Of (kind_of_function x)) → Agrees (sort_of (call x (exprs as_))) (if t then Of (kind_of_function x) else Broken)
    go true k h = k refl
    go false k h = absurd cc

-- ---- where no rule is broken

pub nothing_taken : (x : Function) → 0 ≤ most x
nothing_taken x = omega arith

-- an argument that breaks no rule is taken, and its number is one of the function's
pub taken : (x : Function) (i : ℕ) (s : Sort) → i ≤ most x → (if nat_lt i (most x) then takes x i s else not (i == most x)) ≡ true → (takes x i s ≡ true) × (i < most x)
taken x i s le e = go (nat_lt i (most x)) refl e
  where
    below : nat_lt i (most x) ≡ true → i < most x
    below h = grind (arith, nat_tests)

    never : nat_lt i (most x) ≡ false → not (i == most x) ≡ true → ⊥
    never h n = let m : (i == most x) ≡ false = not_true (i == most x) n in grind (arith, nat_tests)

    go : (t : Bool) → nat_lt i (most x) ≡ t → (if t then takes x i s else not (i == most x)) ≡ true → (takes x i s ≡ true) × (i < most x)
    go true h e = (e, below h)
    go false h e = absurd (never h e)

pub fits_more : (x : Function) (i : ℕ) (a : Typed) (as_ : List Typed) → takes x i a.sort ≡ true → is_broken a.sort ≡ false → each_fits x (i + 1) as_ ≡ true → i + 1 + length as_ ≤ most x →
    (each_fits x i (a ∷ as_) ≡ true) × (i + length (a ∷ as_) ≤ most x)
fits_more x i a as_ taken unbroken rest le = (rw (taken, unbroken, rest) refl, omega arith)

pub all_fit_true : (x : Function) (as_ : List Typed) → each_fits x 0 as_ ≡ true → 0 + length as_ ≤ most x → nat_le (fewest x) (length as_) ≡ true → all_fit x 0 as_ ≡ true
all_fit_true x as_ each le enough =
    let within : nat_le (length as_) (most x) ≡ true = at_most (length as_) (most x) (omega arith) in
    all_fit_is x 0 (length as_) as_ (omega arith) ∙ rw (each, enough, within) refl
  where
    at_most : (i m : ℕ) → i ≤ m → nat_le i m ≡ true
    at_most i m le = grind (arith, nat_tests)
