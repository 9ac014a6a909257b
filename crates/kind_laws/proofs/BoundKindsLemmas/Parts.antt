-- Parts of conjunctions, of lists and of options.
use Rattle.std.proofs.Common.{◌≡◌, ℕ, Bool, true, false, List, [], ◌∷◌, ◌++◌, Option, Some, None, zero, suc, refl, arith}
use Rattle.std.specs.Prelude.{◌&&◌, ◌==◌, not, slice_get, slice_index_or}
use Rattle.std.specs.List.{list_all}
use Rattle.std.specs.Option.{option_map}
use Rattle.std.proofs.lemmas.Bool.Decides.{nat_tests}
use Rattle.abl_base.specs.declared.place.Place.{Place}
use Rattle.abl_base.specs.declared.rule.Rule.{Rule}
use Rattle.bind_names.specs.Judged.{unless}
use Rattle.bind_names.specs.Names.{from, or_else}

-- ---- conjunctions

pub both : (p q : Bool) → p ≡ true → q ≡ true → (p && q) ≡ true
both true q e f = f
both false q e f = absurd cc

pub both_left : (p q : Bool) → (p && q) ≡ true → p ≡ true
both_left true q e = refl
both_left false q e = absurd cc

pub both_right : (p q : Bool) → (p && q) ≡ true → q ≡ true
both_right true q e = e
both_right false q e = absurd cc

pub not_false : (p : Bool) → p ≡ false → not p ≡ true
not_false true e = absurd cc
not_false false e = refl

pub equal : (m n : ℕ) → (m == n) ≡ true → m ≡ n
equal m n e = grind (arith, nat_tests)

-- ---- lists

pub nil_left : {A : Type 0} (xs ys : List A) → xs ++ ys ≡ [] → xs ≡ []
nil_left [] ys e = refl
nil_left (x ∷ xs) ys e = absurd cc

pub nil_right : {A : Type 0} (xs ys : List A) → xs ++ ys ≡ [] → ys ≡ []
nil_right [] ys e = e
nil_right (x ∷ xs) ys e = absurd cc

-- a rule that is not broken
pub holds : (t : Bool) (broken : Rule) (place : Place) → unless t broken place ≡ [] → t ≡ true
holds true broken place e = refl
holds false broken place e = absurd cc

-- it holds of each element
abbrev pub Each : {A : Type 0} → (A → Type 0) → List A → Type 0
Each P [] = Unit {0}
Each P (x ∷ xs) = P x × Each P xs

pub each_left : {A : Type 0} (P : A → Type 0) (xs ys : List A) → Each P (xs ++ ys) → Each P xs
each_left P [] ys h = tt
each_left P (x ∷ xs) ys h = (h.0, each_left P xs ys h.1)

pub each_right : {A : Type 0} (P : A → Type 0) (xs ys : List A) → Each P (xs ++ ys) → Each P ys
each_right P [] ys h = h
each_right P (x ∷ xs) ys h = each_right P xs ys h.1

pub each_join : {A : Type 0} (P : A → Type 0) (xs ys : List A) → Each P xs → Each P ys → Each P (xs ++ ys)
each_join P [] ys g h = h
each_join P (x ∷ xs) ys g h = (g.0, each_join P xs ys g.1 h)

pub each_map : {A : Type 0} (P Q : A → Type 0) (xs : List A) → ((x : A) → P x → Q x) → Each P xs → Each Q xs
each_map P Q [] f h = tt
each_map P Q (x ∷ xs) f h = (f x h.0, each_map P Q xs f h.1)

pub all_join : {A : Type 0} (p : A → Bool) (xs ys : List A) → list_all p xs ≡ true → list_all p ys ≡ true → list_all p (xs ++ ys) ≡ true
all_join p [] ys g h = h
all_join p (x ∷ xs) ys g h = both (p x) _ (both_left (p x) _ g) (all_join p xs ys (both_right (p x) _ g) h)

-- an element, and what is taken where there is none
pub all_get : {A : Type 0} (p : A → Bool) (xs : List A) (i : ℕ) (d : A) → list_all p xs ≡ true → p d ≡ true → p (slice_index_or xs i d) ≡ true
all_get p [] i d h e = e
all_get p (x ∷ xs) zero d h e = both_left (p x) _ h
all_get p (x ∷ xs) (suc i) d h e = all_get p xs i d (both_right (p x) _ h) e

-- ---- options

-- it holds of what is there
abbrev pub Maybe : {A : Type 0} → (A → Type 0) → Option A → Type 0
Maybe P None = Unit {0}
Maybe P (Some a) = P a

pub each_get : {A : Type 0} (P : A → Type 0) (xs : List A) (i : ℕ) → Each P xs → Maybe P (slice_get xs i)
each_get P [] i h = tt
each_get P (x ∷ xs) zero h = h.0
each_get P (x ∷ xs) (suc i) h = each_get P xs i h.1

pub maybe_from : {A B : Type 0} (P : B → Type 0) (o : Option A) (f : A → Option B) → ((a : A) → Maybe P (f a)) → Maybe P (from o f)
maybe_from P None f h = tt
maybe_from P (Some a) f h = h a

pub maybe_or_else : {A : Type 0} (P : A → Type 0) (o p : Option A) → Maybe P o → Maybe P p → Maybe P (or_else o p)
maybe_or_else P None p g h = h
maybe_or_else P (Some a) p g h = g

pub maybe_map : {A B : Type 0} (P : B → Type 0) (f : A → B) (o : Option A) → Maybe (λ a. P (f a)) o → Maybe P (option_map f o)
maybe_map P f None h = tt
maybe_map P f (Some a) h = h
