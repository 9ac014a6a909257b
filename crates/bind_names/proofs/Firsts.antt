-- One more name, and what the index finds then.
use Rattle.std.proofs.Common.{◌≡◌, ◌<◌, ◌≤◌, ◌+◌, ℕ, suc, zero, Bool, true, false, List, [], ◌∷◌, ◌++◌, length, map, Option, Some, None, refl, sym, ap, ◌∙◌, arith, add-zero, zero-add, subst, take, IfSome}
use Rattle.std.specs.Prelude.{◌&&◌, ◌==◌, if◌then◌else◌, slice_index_or}
use Rattle.std.specs.Option.{is_some}
use Rattle.std.proofs.lemmas.Bool.Decides.{nat_tests}
use Rattle.abl_base.specs.declared.limits.TheConstants.{MAX_NAME_BYTES}
use Rattle.abl_values.specs.Masks.{same_bytes}
use Rattle.abl_values.specs.Order.{folded}
use Rattle.abl_values.specs.Schema.{number_of_name, same_name}
use Rattle.abl_values.proofs.SameNames.{same_name-length}
use Rattle.bind_names.specs.declared.listed.First.{First}
use Rattle.bind_names.specs.Listed.{Finds, number_in}
use Rattle.bind_names.proofs.Numbers.{number_is_within}
use Rattle.std.proofs.lemmas.List.{length-map}

-- ---- names that are alike

equal : (m n : ℕ) → (m == n) ≡ true → m ≡ n
equal m n e = grind (arith, nat_tests)

both_left : (p q : Bool) → (p && q) ≡ true → p ≡ true
both_left true q e = refl
both_left false q e = absurd cc

both_right : (p q : Bool) → (p && q) ≡ true → q ≡ true
both_right true q e = e
both_right false q e = absurd cc

same_is : (xs ys : List ℕ) → same_bytes xs ys ≡ true → xs ≡ ys
same_is [] [] h = refl
same_is [] (y ∷ ys) h = absurd cc
same_is (x ∷ xs) [] h = absurd cc
same_is (x ∷ xs) (y ∷ ys) h =
    let e : x ≡ y = equal x y (both_left (x == y) _ h) in
    let f : xs ≡ ys = same_is xs ys (both_right (x == y) _ h) in
    cc

alike : (a b c : List ℕ) → same_name a b ≡ true → same_name c a ≡ same_name c b
alike a b c h = ap (same_bytes (folded c)) (same_is (folded a) (folded b) h)

number_alike : (k : ℕ) (xs : List (List ℕ)) (a b : List ℕ) → same_name a b ≡ true → number_of_name k xs a ≡ number_of_name k xs b
number_alike k [] a b h = refl
number_alike k (x ∷ xs) a b h =
    ap (λ c. if c then Some k else number_of_name (k + 1) xs a) (alike a b x h) ∙ ap (λ o. if same_name x b then Some k else o) (number_alike (k + 1) xs a b h)

-- ---- the first of two

abbrev or_one : Option ℕ → Bool → ℕ → Option ℕ
or_one (Some i) c n = Some i
or_one None true n = Some n
or_one None false n = None

or_one_true : (o : Option ℕ) (c : Bool) (n : ℕ) → is_some o ≡ true → or_one o c n ≡ o
or_one_true (Some i) c n h = refl
or_one_true None c n h = absurd cc

or_one_false : (o : Option ℕ) (n : ℕ) → or_one o false n ≡ o
or_one_false (Some i) n = refl
or_one_false None n = refl

-- ---- one more name

number_more : (k : ℕ) (names : List (List ℕ)) (name q : List ℕ) → number_of_name k (names ++ name ∷ []) q ≡ or_one (number_of_name k names q) (same_name name q) (k + length names)
number_more k [] name q = go (same_name name q)
  where
    go : (c : Bool) → (if c then Some k else None) ≡ or_one None c (k + 0)
    go true = ap Some (sym (add-zero k))
    go false = refl
number_more k (x ∷ xs) name q = go (same_name x q) (number_more (k + 1) xs name q)
  where
    later : k + 1 + length xs ≡ k + length (x ∷ xs)
    later = omega arith

    go : (c : Bool) → number_of_name (k + 1) (xs ++ name ∷ []) q ≡ or_one (number_of_name (k + 1) xs q) (same_name name q) (k + 1 + length xs) →
        (if c then Some k else number_of_name (k + 1) (xs ++ name ∷ []) q) ≡ or_one (if c then Some k else number_of_name (k + 1) xs q) (same_name name q) (k + length (x ∷ xs))
    go true h = refl
    go false h = h ∙ ap (or_one (number_of_name (k + 1) xs q) (same_name name q)) later

number_last : (names : List (List ℕ)) (name q : List ℕ) → number_of_name 0 (names ++ name ∷ []) q ≡ or_one (number_of_name 0 names q) (same_name name q) (length names)
number_last names name q = number_more 0 names name q ∙ ap (or_one (number_of_name 0 names q) (same_name name q)) (zero-add (length names))

first_more : (fs : List First) (f : First) (q : List ℕ) → number_in (fs ++ f ∷ []) q ≡ or_one (number_in fs q) (same_name f.spelling q) f.number
first_more [] f q = go (same_name f.spelling q)
  where
    go : (c : Bool) → (if c then Some f.number else None) ≡ or_one None c f.number
    go true = refl
    go false = refl
first_more (e ∷ fs) f q = go (same_name e.spelling q) (first_more fs f q)
  where
    go : (c : Bool) → number_in (fs ++ f ∷ []) q ≡ or_one (number_in fs q) (same_name f.spelling q) f.number →
        (if c then Some e.number else number_in (fs ++ f ∷ []) q) ≡ or_one (if c then Some e.number else number_in fs q) (same_name f.spelling q) f.number
    go true h = refl
    go false h = h

pub finds_added : (fs more : List First) (names : List (List ℕ)) (f : First) (name : List ℕ) → more ≡ fs ++ f ∷ [] → f.spelling ≡ name → f.number ≡ length names → Finds fs names → Finds more (names ++ name ∷ [])
finds_added fs more names f name is same count h q lt =
    ap (λ l. number_in l q) is ∙ first_more fs f q ∙ ap (λ o. or_one o (same_name f.spelling q) f.number) (h q lt)
    ∙ ap (λ n. or_one (number_of_name 0 names q) (same_name n q) f.number) same ∙ ap (or_one (number_of_name 0 names q) (same_name name q)) count ∙ sym (number_last names name q)

-- a name that the index has
pub finds_taken : (fs : List First) (names : List (List ℕ)) (name : List ℕ) → length name ≤ MAX_NAME_BYTES → is_some (number_in fs name) ≡ true → Finds fs names → Finds fs (names ++ name ∷ [])
finds_taken fs names name short there h q lt = h q lt ∙ sym (number_last names name q ∙ go (same_name name q) refl)
  where
    go : (c : Bool) → same_name name q ≡ c → or_one (number_of_name 0 names q) c (length names) ≡ number_of_name 0 names q
    go true e = or_one_true (number_of_name 0 names q) true (length names) (ap is_some (sym (number_alike 0 names name q e) ∙ sym (h name short)) ∙ there)
    go false e = or_one_false (number_of_name 0 names q) (length names)

-- a name that is too long for it
pub finds_long : (fs : List First) (names : List (List ℕ)) (name : List ℕ) → MAX_NAME_BYTES < length name → Finds fs names → Finds fs (names ++ name ∷ [])
finds_long fs names name long h q lt =
    let other : same_name name q ≡ false = same_name-length name q (λ e. omega arith) in
    h q lt ∙ sym (number_last names name q ∙ ap (λ c. or_one (number_of_name 0 names q) c (length names)) other ∙ or_one_false (number_of_name 0 names q) (length names))

-- ---- the number at a place of the index

not_before : (k : ℕ) (fs : List First) (q : List ℕ) (n : ℕ) → number_of_name k (map (λ f. f.spelling) fs) q ≡ Some n → k ≤ n
not_before k [] q n e = absurd cc
not_before k (f ∷ fs) q n e = go (same_name f.spelling q) e (not_before (k + 1) fs q n)
  where
    go : (c : Bool) → (if c then Some k else number_of_name (k + 1) (map (λ f. f.spelling) fs) q) ≡ Some n → (number_of_name (k + 1) (map (λ f. f.spelling) fs) q ≡ Some n → k + 1 ≤ n) → k ≤ n
    go true h later = let same : k ≡ n = cc in omega arith
    go false h later = let above : k + 1 ≤ n = later h in omega arith

number_from : (k : ℕ) (fs : List First) (q : List ℕ) (n i : ℕ) → n ≡ k + i → number_of_name k (map (λ f. f.spelling) fs) q ≡ Some n → (d : First) → number_in fs q ≡ Some (slice_index_or fs i d).number
number_from k [] q n i is e d = absurd cc
number_from k (f ∷ fs) q n zero is e d = go (same_name f.spelling q) e (not_before (k + 1) fs q n)
  where
    go : (c : Bool) → (if c then Some k else number_of_name (k + 1) (map (λ f. f.spelling) fs) q) ≡ Some n → (number_of_name (k + 1) (map (λ f. f.spelling) fs) q ≡ Some n → k + 1 ≤ n) →
        (if c then Some f.number else number_in fs q) ≡ Some f.number
    go true h later = refl
    go false h later = absurd (let above : k + 1 ≤ n = later h in omega arith)
number_from k (f ∷ fs) q n (suc i) is e d = go (same_name f.spelling q) e (λ h. number_from (k + 1) fs q n i (omega arith) h d)
  where
    go : (c : Bool) → (if c then Some k else number_of_name (k + 1) (map (λ f. f.spelling) fs) q) ≡ Some n → (number_of_name (k + 1) (map (λ f. f.spelling) fs) q ≡ Some n → number_in fs q ≡ Some (slice_index_or fs i d).number) →
        (if c then Some f.number else number_in fs q) ≡ Some (slice_index_or fs i d).number
    go true h later = absurd (let same : k ≡ n = cc in omega arith)
    go false h later = later h

none_from : (k : ℕ) (fs : List First) (q : List ℕ) → number_of_name k (map (λ f. f.spelling) fs) q ≡ None → number_in fs q ≡ None
none_from k [] q e = refl
none_from k (f ∷ fs) q e = go (same_name f.spelling q) e (none_from (k + 1) fs q)
  where
    go : (c : Bool) → (if c then Some k else number_of_name (k + 1) (map (λ f. f.spelling) fs) q) ≡ None → (number_of_name (k + 1) (map (λ f. f.spelling) fs) q ≡ None → number_in fs q ≡ None) →
        (if c then Some f.number else number_in fs q) ≡ None
    go true h later = absurd cc
    go false h later = later h

pub number_at : (fs : List First) (q : List ℕ) (i : ℕ) → number_of_name 0 (map (λ f. f.spelling) fs) q ≡ Some i → (d : First) → number_in fs q ≡ Some (slice_index_or fs i d).number
number_at fs q i e d = number_from 0 fs q i i (sym (zero-add i)) e d

pub number_nowhere : (fs : List First) (q : List ℕ) → number_of_name 0 (map (λ f. f.spelling) fs) q ≡ None → number_in fs q ≡ None
number_nowhere fs q e = none_from 0 fs q e

-- it has a number where one of its names is this one
pub is_numbered : (fs : List First) (q : List ℕ) → is_some (number_of_name 0 (map (λ f. f.spelling) fs) q) ≡ is_some (number_in fs q)
is_numbered fs q = go 0 fs
  where
    go : (k : ℕ) (gs : List First) → is_some (number_of_name k (map (λ f. f.spelling) gs) q) ≡ is_some (number_in gs q)
    go k [] = refl
    go k (f ∷ gs) = on (same_name f.spelling q) (go (k + 1) gs)
      where
        on : (c : Bool) → is_some (number_of_name (k + 1) (map (λ f. f.spelling) gs) q) ≡ is_some (number_in gs q) →
            is_some {T = ℕ} (if c then Some k else number_of_name (k + 1) (map (λ f. f.spelling) gs) q) ≡ is_some {T = ℕ} (if c then Some f.number else number_in gs q)
        on true h = refl
        on false h = h

-- ---- lists of items

-- the number of a name is within the list
pub number_within : {T : Type 0} (f : T → List ℕ) (xs : List T) (q : List ℕ) (r : Option ℕ) → r ≡ number_of_name 0 (map f xs) q → IfSome r (λ n. n < length xs)
number_within f xs q None e = tt
number_within f xs q (Some n) e = let h : n < length (map f xs) = number_is_within (map f xs) q n (sym e) in simp length-map at h

map_more : {T : Type 0} (f : T → List ℕ) (xs : List T) (x : T) → map f (xs ++ x ∷ []) ≡ map f xs ++ f x ∷ []
map_more f [] x = refl
map_more f (y ∷ xs) x = ap (λ ns. f y ∷ ns) (map_more f xs x)

pub finds_pushed : {T : Type 0} (f : T → List ℕ) (fs : List First) (xs new : List T) (x : T) (name : List ℕ) → new ≡ xs ++ x ∷ [] → name ≡ f x → Finds fs (map f xs ++ name ∷ []) → Finds fs (map f new)
finds_pushed f fs xs new x name is same h = subst (Finds fs) (sym (ap (map f) is ∙ map_more f xs x ∙ ap (λ n. map f xs ++ n ∷ []) (sym same))) h

take_back : {T : Type 0} (xs : List T) (x : T) → take (length xs) (xs ++ x ∷ []) ≡ xs
take_back [] x = refl
take_back (y ∷ xs) x = ap (λ l. y ∷ l) (take_back xs x)

pub put_back : {T : Type 0} (xs ys zs : List T) (x : T) (n : ℕ) → ys ≡ xs ++ x ∷ [] → n ≡ length xs → zs ≡ take n ys → zs ≡ xs
put_back xs ys zs x n is count e = e ∙ ap (take n) is ∙ ap (λ k. take k (xs ++ x ∷ [])) count ∙ take_back xs x
