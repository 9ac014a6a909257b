-- Runs of bytes that pass a test, and the bytes before a text.
use Rattle.std.proofs.Common.{ℕ, zero, suc, ◌+◌, ◌-◌, ◌<◌, ◌≤◌, ◌≡◌, Bool, true, false, cond, List, [], ◌∷◌, length, take, drop, refl, sym, ◌∙◌, ap, subst, arith}
use Rattle.std.specs.List.{list_all, prefix_len}
use Rattle.std.proofs.lemmas.List.{drop-drop, length-drop}
use Rattle.std.proofs.lemmas.List.Sums.{prefix_len-le-length}
use Rattle.lexer.specs.Bytes.{starts}
use Rattle.lexer.specs.Forms.{leading, after_separator, parted}
use Rattle.std.proofs.lemmas.Bool.{cond-true, cond-false, and_from, eqb-true}
use Rattle.abl_base.proofs.Bools.{left_of_and, right_of_and}

-- RUNS
all_leading : (p : ℕ → Bool) (x : ℕ) (xs : List ℕ) (v : Bool) → p x ≡ v → list_all p (take (prefix_len p xs) xs) ≡ true → list_all p (take (cond v (1 + prefix_len p xs) 0) (x ∷ xs)) ≡ true
all_leading p x xs true e h = let q : 1 + prefix_len p xs ≡ suc (prefix_len p xs) = omega arith in subst (λ n. list_all p (take n (x ∷ xs)) ≡ true) (sym q) (and_from (p x) _ e h)
all_leading p x xs false e h = refl

pub all_prefix : (p : ℕ → Bool) (xs : List ℕ) → list_all p (take (prefix_len p xs) xs) ≡ true
all_prefix p [] = refl
all_prefix p (x ∷ xs) = all_leading p x xs (p x) refl (all_prefix p xs)

pub prefix_more : (p : ℕ → Bool) (x : ℕ) (xs : List ℕ) → p x ≡ true → prefix_len p (x ∷ xs) ≡ 1 + prefix_len p xs
prefix_more p x xs e = cond-true (p x) _ _ e

pub prefix_stops : (p : ℕ → Bool) (x : ℕ) (xs : List ℕ) → p x ≡ false → prefix_len p (x ∷ xs) ≡ 0
prefix_stops p x xs e = cond-false (p x) (1 + prefix_len p xs) 0 e

pub all_take : (p : ℕ → Bool) (xs : List ℕ) (m : ℕ) → m ≤ length xs → list_all p (take m xs) ≡ true → m ≤ prefix_len p xs
all_take p xs zero h e = omega arith
all_take p [] (suc m) h e = omega arith
all_take p (x ∷ xs) (suc m) h e =
    let i = all_take p xs m (omega arith) (right_of_and (p x) _ e) in
    let q = prefix_more p x xs (left_of_and (p x) _ e) in
    omega arith

pub prefix_within : (p : ℕ → Bool) (xs : List ℕ) → prefix_len p xs ≤ length xs
prefix_within p xs = prefix_len-le-length p xs

pub length_take : (m : ℕ) (xs : List ℕ) → m ≤ length xs → length (take m xs) ≡ m
length_take zero xs h = refl
length_take (suc m) [] h = absurd (omega arith)
length_take (suc m) (x ∷ xs) h = let i = length_take m xs (omega arith) in omega arith

take_short : (p : ℕ → Bool) (m x : ℕ) (xs : List ℕ) (v : Bool) → p x ≡ v → cond v (1 + prefix_len p xs) 0 < suc m → (prefix_len p xs < m → prefix_len p (take m xs) ≡ prefix_len p xs) → cond v (1 + prefix_len p (take m xs)) 0 ≡ cond v (1 + prefix_len p xs) 0
take_short p m x xs true e h i = let q = i (omega arith) in omega arith
take_short p m x xs false e h i = refl

pub prefix_take : (p : ℕ → Bool) (m : ℕ) (xs : List ℕ) → prefix_len p xs < m → prefix_len p (take m xs) ≡ prefix_len p xs
prefix_take p zero xs h = absurd (omega arith)
prefix_take p (suc m) [] h = refl
prefix_take p (suc m) (x ∷ xs) h = take_short p m x xs (p x) refl h (prefix_take p m xs)

take_whole : (p : ℕ → Bool) (m x : ℕ) (xs : List ℕ) (v : Bool) → p x ≡ v → cond v (1 + prefix_len p (take m xs)) 0 < suc m → (prefix_len p (take m xs) < m → prefix_len p (take m xs) ≡ prefix_len p xs) → cond v (1 + prefix_len p (take m xs)) 0 ≡ cond v (1 + prefix_len p xs) 0
take_whole p m x xs true e h i = let q = i (omega arith) in omega arith
take_whole p m x xs false e h i = refl

pub prefix_whole : (p : ℕ → Bool) (m : ℕ) (xs : List ℕ) → prefix_len p (take m xs) < m → prefix_len p (take m xs) ≡ prefix_len p xs
prefix_whole p zero xs h = absurd (omega arith)
prefix_whole p (suc m) [] h = refl
prefix_whole p (suc m) (x ∷ xs) h = take_whole p m x xs (p x) refl h (prefix_whole p m xs)

-- FRONTS
pub take_take : (k m : ℕ) (xs : List ℕ) → k ≤ m → take k (take m xs) ≡ take k xs
take_take zero m xs h = refl
take_take (suc k) zero xs h = absurd (omega arith)
take_take (suc k) (suc m) [] h = refl
take_take (suc k) (suc m) (x ∷ xs) h = ap (λ l. x ∷ l) (take_take k m xs (omega arith))

take_nil : (j : ℕ) → take {A = ℕ} j [] ≡ []
take_nil zero = refl
take_nil (suc j) = refl

pub drop_take : (k j m : ℕ) (xs : List ℕ) → m ≡ k + j → drop k (take m xs) ≡ take j (drop k xs)
drop_take zero j m xs e = let q : m ≡ j = omega arith in ap (λ n. take n xs) q
drop_take (suc k) j zero xs e = absurd (omega arith)
drop_take (suc k) j (suc m) [] e = sym (take_nil j)
drop_take (suc k) j (suc m) (x ∷ xs) e = drop_take k j m xs (omega arith)

pub starts_take : (c j : ℕ) (xs : List ℕ) → 0 < j → starts c (take j xs) ≡ starts c xs
starts_take c zero xs h = absurd (omega arith)
starts_take c (suc j) [] h = refl
starts_take c (suc j) (x ∷ xs) h = refl

pub starts_inside : (c n : ℕ) (xs : List ℕ) → starts c (drop n xs) ≡ true → n < length xs
starts_inside c zero [] e = let z : false ≡ true = e in cc
starts_inside c (suc n) [] e = let z : false ≡ true = e in cc
starts_inside c zero (x ∷ xs) e = omega arith
starts_inside c (suc n) (x ∷ xs) e = let i = starts_inside c n xs e in omega arith

pub starts_one : (c d : ℕ) (xs : List ℕ) → starts c xs ≡ true → starts d xs ≡ true → c ≡ d
starts_one c d [] e h = let z : false ≡ true = e in cc
starts_one c d (x ∷ xs) e h = sym (eqb-true x c e) ∙ eqb-true x d h

-- how the parts of the m bytes at the start are the parts of the text
pub record Parts (p : ℕ → Bool) (c : ℕ) (xs : List ℕ) (m : ℕ) : Type 0 where
  pub short : prefix_len p xs < m
  pub len : prefix_len p (take m xs) ≡ prefix_len p xs
  pub leading_is : leading p (take m xs) ≡ leading p xs
  pub parted_is : parted p c (take m xs) ≡ parted p c xs
  pub after_separator_is : (j : ℕ) → m ≡ suc (prefix_len p xs) + j → after_separator p (take m xs) ≡ take j (after_separator p xs)

core : (p : ℕ → Bool) (c : ℕ) (xs : List ℕ) (m : ℕ) → prefix_len p xs < m → prefix_len p (take m xs) ≡ prefix_len p xs → Parts p c xs m
core p c xs m h e = record {
  short = h;
  len = e;
  leading_is = ap (λ n. take n (take m xs)) e ∙ take_take (prefix_len p xs) m xs (omega arith);
  parted_is = ap (λ n. starts c (drop n (take m xs))) e
      ∙ ap (starts c) (drop_take (prefix_len p xs) (m - prefix_len p xs) m xs (omega arith))
      ∙ starts_take c (m - prefix_len p xs) (drop (prefix_len p xs) xs) (omega arith);
  after_separator_is = λ j q. ap (λ n. drop (suc n) (take m xs)) e ∙ drop_take (suc (prefix_len p xs)) j m xs q;
}

pub parts_made : (p : ℕ → Bool) (c : ℕ) (xs : List ℕ) (m : ℕ) → prefix_len p xs < m → Parts p c xs m
parts_made p c xs m h = core p c xs m h (prefix_take p m xs h)

pub parts_of : (p : ℕ → Bool) (c : ℕ) (xs : List ℕ) (m : ℕ) → m ≤ length xs → parted p c (take m xs) ≡ true → Parts p c xs m
parts_of p c xs m w e =
    let i = starts_inside c (prefix_len p (take m xs)) (take m xs) e in
    let l = length_take m xs w in
    let q = prefix_whole p m xs (omega arith) in
    core p c xs m (omega arith) q

-- after the parts the same follows
pub follows : (p : ℕ → Bool) (xs : List ℕ) (m j : ℕ) → m ≡ suc (prefix_len p xs) + j → drop m xs ≡ drop j (after_separator p xs)
follows p xs m j e = ap (λ n. drop n xs) e ∙ sym (drop-drop j (suc (prefix_len p xs)) xs)

pub after_separator_length : (p : ℕ → Bool) (xs : List ℕ) → length (after_separator p xs) ≡ length xs - suc (prefix_len p xs)
after_separator_length p xs = length-drop (suc (prefix_len p xs)) xs

pub leading_length : (p : ℕ → Bool) (xs : List ℕ) → length (leading p xs) ≡ prefix_len p xs
leading_length p xs = length_take (prefix_len p xs) xs (prefix_within p xs)
