-- Names: in small letters, as one word of a line, and among other names.
use Rattle.std.proofs.Common.{◌≡◌, ◌≤◌, ◌<◌, ℕ, zero, suc, ◌+◌, inl, inr, Bool, true, false, ◌==◌, ◌&&◌, ◌||◌, cond, List, [], ◌∷◌, ◌++◌, length, get_or, map, Option, Some, None, refl, sym, ap, ◌∙◌, arith}
use Rattle.std.specs.Prelude.{is_some, nat_le}
use Rattle.std.specs.List.{list_all}
use Rattle.std.proofs.lemmas.Bool.{and_parts, and_from, both_ways, cases_Bool, eq-eqb, eqb-true, or_from, or_parts, or_right, leb-true}
use Rattle.std.proofs.lemmas.Bool.Decides.{nat_tests}
use Rattle.std.proofs.lemmas.List.{map-append}
use Rattle.std.proofs.lemmas.List.Folds.{list_any-append}
use Rattle.abl_base.specs.declared.limits.TheConstants.{MAX_NAME_BYTES}
use Rattle.abl_values.specs.Masks.{is_digit, same_bytes}
use Rattle.abl_values.specs.Names.{is_letter, is_name, is_name_byte}
use Rattle.abl_values.specs.Order.{folded, folded_byte}
use Rattle.abl_values.specs.Schema.{number_of_name, same_name}
use Rattle.abl_values.specs.Sound.{has_twice, is_among}

-- ---- in small letters

folded_byte-again : (b : ℕ) → folded_byte (folded_byte b) ≡ folded_byte b
folded_byte-again b = grind (arith, nat_tests)

pub folded-again : (name : List ℕ) → folded (folded name) ≡ folded name
folded-again [] = refl
folded-again (b ∷ bs) = ap (λ (c : ℕ). c ∷ folded (folded bs)) (folded_byte-again b) ∙ ap (λ (cs : List ℕ). folded_byte b ∷ cs) (folded-again bs)

small_letter : (b : ℕ) → is_letter b ≡ true → is_letter (folded_byte b) ≡ true
small_letter b h = grind (arith, nat_tests)

small_name_byte : (b : ℕ) → is_name_byte b ≡ true → is_name_byte (folded_byte b) ≡ true
small_name_byte b h = grind (arith, nat_tests)

small_name_bytes : (bs : List ℕ) → list_all is_name_byte bs ≡ true → list_all is_name_byte (folded bs) ≡ true
small_name_bytes [] h = refl
small_name_bytes (b ∷ bs) h =
    let parts = and_parts (is_name_byte b) (list_all is_name_byte bs) h in
    and_from (is_name_byte (folded_byte b)) (list_all is_name_byte (folded bs)) (small_name_byte b parts.0) (small_name_bytes bs parts.1)

length-folded : (xs : List ℕ) → length (folded xs) ≡ length xs
length-folded [] = refl
length-folded (x ∷ xs) = ap suc (length-folded xs)

pub small_name : (name : List ℕ) → is_name name ≡ true → is_name (folded name) ≡ true
small_name [] h = h
small_name (b ∷ bs) h =
    let parts = and_parts (is_letter b) (list_all is_name_byte bs && nat_le (length (b ∷ bs)) MAX_NAME_BYTES) h in
    let more = and_parts (list_all is_name_byte bs) (nat_le (length (b ∷ bs)) MAX_NAME_BYTES) parts.1 in
    and_from (is_letter (folded_byte b)) (list_all is_name_byte (folded bs) && nat_le (length (folded (b ∷ bs))) MAX_NAME_BYTES) (small_letter b parts.0)
    (and_from (list_all is_name_byte (folded bs)) (nat_le (length (folded (b ∷ bs))) MAX_NAME_BYTES) (small_name_bytes bs more.0)
    (ap (λ (n : ℕ). nat_le n MAX_NAME_BYTES) (length-folded (b ∷ bs)) ∙ more.1))

pub short_name : (name : List ℕ) → is_name name ≡ true → length name ≤ MAX_NAME_BYTES
short_name [] h = omega arith
short_name (b ∷ bs) h =
    let one = and_parts (is_letter b) (list_all is_name_byte bs && nat_le (length (b ∷ bs)) MAX_NAME_BYTES) h in
    let two = and_parts (list_all is_name_byte bs) (nat_le (length (b ∷ bs)) MAX_NAME_BYTES) one.1 in
    leb-true (length (b ∷ bs)) MAX_NAME_BYTES two.1

-- ---- one word

-- every byte is above the blank
abbrev pub IsPlain : List ℕ → Type 0
IsPlain [] = Unit {0}
IsPlain (b ∷ bs) = (32 < b) × IsPlain bs

name_byte-plain : (b : ℕ) → is_name_byte b ≡ true → 32 < b
name_byte-plain b h = grind (arith, nat_tests)

name_bytes-plain : (bs : List ℕ) → list_all is_name_byte bs ≡ true → IsPlain bs
name_bytes-plain [] h = tt
name_bytes-plain (b ∷ bs) h =
    let parts = and_parts (is_name_byte b) (list_all is_name_byte bs) h in
    (name_byte-plain b parts.0, name_bytes-plain bs parts.1)

pub plain_name : (name : List ℕ) → is_name name ≡ true → IsPlain name
plain_name [] h = tt
plain_name (b ∷ bs) h =
    let parts = and_parts (is_letter b) (list_all is_name_byte bs && nat_le (length (b ∷ bs)) MAX_NAME_BYTES) h in
    let more = and_parts (list_all is_name_byte bs) (nat_le (length (b ∷ bs)) MAX_NAME_BYTES) parts.1 in
    (name_byte-plain b (letter parts.0), name_bytes-plain bs more.0)
  where
    letter : is_letter b ≡ true → is_name_byte b ≡ true
    letter h = ap (λ c. (c || is_digit b) || ((nat_le 35 b && nat_le b 38) || ((b == 45) || (b == 95)))) h

-- ---- names that are the same in any case

eqb-swap : (x y : ℕ) → (x == y) ≡ (y == x)
eqb-swap x y = grind (arith, nat_tests)

same_bytes-swap : (xs ys : List ℕ) → same_bytes xs ys ≡ same_bytes ys xs
same_bytes-swap [] [] = refl
same_bytes-swap [] (y ∷ ys) = refl
same_bytes-swap (x ∷ xs) [] = refl
same_bytes-swap (x ∷ xs) (y ∷ ys) = ap (λ b. b && same_bytes xs ys) (eqb-swap x y) ∙ ap (λ b. (y == x) && b) (same_bytes-swap xs ys)

pub same_bytes-equal : (xs ys : List ℕ) → same_bytes xs ys ≡ true → xs ≡ ys
same_bytes-equal [] [] h = refl
same_bytes-equal [] (y ∷ ys) h = cc
same_bytes-equal (x ∷ xs) [] h = cc
same_bytes-equal (x ∷ xs) (y ∷ ys) h =
    let both = and_parts (x == y) (same_bytes xs ys) h in
    let heads = eqb-true x y both.0 in
    let tails = same_bytes-equal xs ys both.1 in
    cc

pub same_bytes-itself : (xs : List ℕ) → same_bytes xs xs ≡ true
same_bytes-itself [] = refl
same_bytes-itself (x ∷ xs) = ap (λ b. b && same_bytes xs xs) (eq-eqb x x refl) ∙ same_bytes-itself xs

same_name-folded : (a b : List ℕ) → same_name a b ≡ true → folded a ≡ folded b
same_name-folded a b h = same_bytes-equal (folded a) (folded b) h

same_if : (a b : List ℕ) → folded a ≡ folded b → same_name a b ≡ true
same_if a b h = ap (same_bytes (folded a)) (sym h) ∙ same_bytes-itself (folded a)

same_name-swap : (a b : List ℕ) → same_name a b ≡ same_name b a
same_name-swap a b = same_bytes-swap (folded a) (folded b)

pub same_name-small : (a b : List ℕ) → same_name (folded a) (folded b) ≡ same_name a b
same_name-small a b = ap (λ (k : List ℕ). same_bytes k (folded (folded b))) (folded-again a) ∙ ap (same_bytes (folded a)) (folded-again b)

-- ---- among names

is_among-append : (name : List ℕ) (xs ys : List (List ℕ)) → is_among name (xs ++ ys) ≡ (is_among name xs || is_among name ys)
is_among-append name xs ys = list_any-append (λ n. same_name n name) xs ys

-- one more name, which is not there
has_twice_push : (names : List (List ℕ)) (name : List ℕ) → has_twice names ≡ false → is_among name names ≡ false → has_twice (names ++ name ∷ []) ≡ false
has_twice_push [] name h new = refl
has_twice_push (n ∷ ns) name h new =
    let parts = or_parts (is_among n ns) (has_twice ns) h in
    let apart = or_parts (same_name n name) (is_among name ns) new in
    let others : is_among n (ns ++ name ∷ []) ≡ false = is_among-append n ns (name ∷ []) ∙ or_from (is_among n ns) (same_name name n || false) parts.0 (or_from (same_name name n) false (same_name-swap name n ∙ apart.0) refl) in
    or_from (is_among n (ns ++ name ∷ [])) (has_twice (ns ++ name ∷ [])) others (has_twice_push ns name parts.1 apart.1)

-- a name is found where it is among the names
found_among : (n : ℕ) (names : List (List ℕ)) (name : List ℕ) → is_some (number_of_name n names name) ≡ is_among name names
found_among n [] name = refl
found_among n (x ∷ xs) name = go (same_name x name) (found_among (n + 1) xs name)
  where
    go : (b : Bool) → is_some (number_of_name (n + 1) xs name) ≡ is_among name xs → is_some (cond b (Some n) (number_of_name (n + 1) xs name)) ≡ (b || is_among name xs)
    go true again = refl
    go false again = again

-- one more item, whose name is not found
pub apart_push : {X : Type 0} (name : X → List ℕ) (done : List X) (x : X) → has_twice (map name done) ≡ false → number_of_name 0 (map name done) (name x) ≡ None → has_twice (map name (done ++ x ∷ [])) ≡ false
apart_push name done x h free =
    ap has_twice (map-append name done (x ∷ [])) ∙ has_twice_push (map name done) (name x) h (sym (found_among 0 (map name done) (name x)) ∙ ap is_some free)

none_of : (o : Option ℕ) → is_some o ≡ false → o ≡ None
none_of None h = refl
none_of (Some n) h = cc

apart_before : (xs : List (List ℕ)) (n : List ℕ) (ys : List (List ℕ)) → has_twice (xs ++ n ∷ ys) ≡ false → is_among n xs ≡ false
apart_before [] n ys h = refl
apart_before (x ∷ xs) n ys h =
    let parts = or_parts (is_among x (xs ++ n ∷ ys)) (has_twice (xs ++ n ∷ ys)) h in
    let more = or_parts (is_among x xs) (is_among x (n ∷ ys)) (sym (is_among-append x xs (n ∷ ys)) ∙ parts.0) in
    let one = or_parts (same_name n x) (is_among x ys) more.1 in
    or_from (same_name x n) (is_among n xs) (same_name-swap x n ∙ one.0) (apart_before xs n ys parts.1)

-- the next of items that are apart has a name that is not there
pub next_free : {X : Type 0} (name : X → List ℕ) (all done : List X) (x : X) (more : List X) → has_twice (map name all) ≡ false → all ≡ done ++ x ∷ more → number_of_name 0 (map name done) (name x) ≡ None
next_free name all done x more h e =
    none_of (number_of_name 0 (map name done) (name x))
    (found_among 0 (map name done) (name x)
    ∙ apart_before (map name done) (name x) (map name more) (sym (ap (λ ys. has_twice (map name ys)) e ∙ ap has_twice (map-append name done (x ∷ more))) ∙ h))

among_at : (names : List (List ℕ)) (name : List ℕ) (q : ℕ) → q < length names → same_name (get_or names q []) name ≡ true → is_among name names ≡ true
among_at [] name q h e = absurd (omega arith)
among_at (n ∷ ns) name zero h e = ap (λ b. b || is_among name ns) e
among_at (n ∷ ns) name (suc q) h e = or_right (same_name n name) (is_among name ns) (among_at ns name q (omega arith) e)

-- where no name stands twice, one is found at its place
found_at : (names : List (List ℕ)) (name : List ℕ) (n k : ℕ) → has_twice names ≡ false → k < length names → same_name (get_or names k []) name ≡ true → number_of_name n names name ≡ Some (n + k)
found_at [] name n k once h e = absurd (omega arith)
found_at (x ∷ xs) name n zero once h e =
    let same : n ≡ n + 0 = omega arith in
    ap (λ (c : Bool). cond c (Some n) (number_of_name (n + 1) xs name)) e ∙ ap (λ (m : ℕ). Some m) same
found_at (x ∷ xs) name n (suc k) once h e =
    let parts = or_parts (is_among x xs) (has_twice xs) once in
    let more : n + 1 + k ≡ n + suc k = omega arith in
    elim (cases_Bool (same_name x name)) [
      | inl same ↦ absurd (both_ways (is_among x xs) parts.0 (among_at xs x k (omega arith) (same_if (get_or xs k []) x (same_name-folded (get_or xs k []) name e ∙ sym (same_name-folded x name same)))))
      | inr other ↦
          ap (λ (c : Bool). cond c (Some n) (number_of_name (n + 1) xs name)) other ∙ found_at xs name (n + 1) k parts.1 (omega arith) e ∙ ap (λ (m : ℕ). Some m) more
    ]

-- so is its text in small letters
pub found_small : (names : List (List ℕ)) (name : List ℕ) (k : ℕ) → has_twice names ≡ false → k < length names → get_or names k [] ≡ name → number_of_name 0 names (folded name) ≡ Some k
found_small names name k once h e =
    let number : 0 + k ≡ k = omega arith in
    found_at names (folded name) 0 k once h (same_if (get_or names k []) (folded name) (ap folded e ∙ sym (folded-again name))) ∙ ap (λ (m : ℕ). Some m) number
