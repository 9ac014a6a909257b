-- Numbers as bytes: read back, in order, and each only once.
use Rattle.std.proofs.Common.{◌≡◌, ℕ, zero, suc, ◌+◌, ◌*◌, ◌^◌, ◌<◌, ◌≤◌, List, [], ◌∷◌, ◌++◌, length, get_or, take, drop, refl, sym, ap, ◌∙◌, arith, ⊎_elim, length-take, append-nil}
use Rattle.std.proofs.Math.Nat.{mul-le-mul_right}
use Rattle.std.proofs.Math.Seq.{drop-append_seam}
use Rattle.std.proofs.lemmas.Bool.{cases_lt}
use Rattle.std.proofs.lemmas.Bool.Decides.{nat_tests}
use Rattle.std.specs.Cmp.Lexicographic.{slice_cmp}
use Rattle.std.specs.Ordering.{nat_cmp, ordering_then}
use Rattle.std.specs.declared.cmp.Ordering.TheVariants.{Less, Equal, Greater}
use Rattle.std.specs.FinSet.{nat_cmp-IsAntisymmetric, slice_cmp-IsAntisymmetric}
use Rattle.std.specs.Int.{bytes_high_first, byte_at}
use Rattle.byteorder.specs.Endian.{big_from}
use Rattle.byteorder.specs.Numbers.{big_from-cons, big_from-lt, big_from-take, big_number-reads_back, length-bytes_high_first}
use Rattle.abl_values.specs.Rows.{number_bytes, number_at_head}
use Rattle.abl_values.specs.Keys.{AreBytes}

-- ---- orders of numbers

pub nat_cmp-less : (x y : ℕ) → x < y → nat_cmp x y ≡ Less
nat_cmp-less x y h = grind (arith, nat_tests)

pub nat_cmp-greater : (x y : ℕ) → y < x → nat_cmp x y ≡ Greater
nat_cmp-greater x y h = grind (arith, nat_tests)

pub nat_cmp-same : (x y : ℕ) → x ≡ y → nat_cmp x y ≡ Equal
nat_cmp-same x y h = grind (arith, nat_tests)

above : (b x y r s : ℕ) → x < y → r < b → x * b + r < y * b + s
above b x y r s h hr =
    let step : (x + 1) * b ≤ y * b = mul-le-mul_right b (omega arith) in
    omega arith

-- the higher digit decides, and where it is the same the rest does
pub nat_cmp-digit : (b x y r s : ℕ) → r < b → s < b → nat_cmp (x * b + r) (y * b + s) ≡ ordering_then (nat_cmp x y) (nat_cmp r s)
nat_cmp-digit b x y r s hr hs =
    ⊎_elim (λ h. nat_cmp-less (x * b + r) (y * b + s) (above b x y r s h hr) ∙ sym (ap (λ o. ordering_then o (nat_cmp r s)) (nat_cmp-less x y h)))
    (λ h. ⊎_elim (λ k. nat_cmp-greater (x * b + r) (y * b + s) (above b y x s r k hs) ∙ sym (ap (λ o. ordering_then o (nat_cmp r s)) (nat_cmp-greater x y k)))
    (λ k. let e : x ≡ y = omega arith in
    ap (λ (z : ℕ). nat_cmp (x * b + r) (z * b + s)) (sym e) ∙ same_top b x r s ∙ sym (ap (λ o. ordering_then o (nat_cmp r s)) (nat_cmp-same x y e)))
    (cases_lt y x))
    (cases_lt x y)
  where
    same_top : (b x r s : ℕ) → nat_cmp (x * b + r) (x * b + s) ≡ nat_cmp r s
    same_top b x r s = grind (arith, nat_tests)

-- ---- bytes

pub byte_at_place : (xs : List ℕ) → AreBytes xs → (k : ℕ) → get_or xs k 0 < 256
byte_at_place [] h k = omega arith
byte_at_place (x ∷ xs) h zero = h.0
byte_at_place (x ∷ xs) h (suc k) = byte_at_place xs h.1 k

-- lists of n bytes stand as their numbers do
big_cmp : (n : ℕ) (xs ys : List ℕ) → length xs ≡ n → length ys ≡ n → AreBytes xs → AreBytes ys → slice_cmp nat_cmp xs ys ≡ nat_cmp (big_from 0 n xs) (big_from 0 n ys)
big_cmp zero [] [] lx ly hx hy = refl
big_cmp zero (x ∷ xs) ys lx ly hx hy = absurd (omega arith)
big_cmp zero [] (y ∷ ys) lx ly hx hy = absurd (omega arith)
big_cmp (suc n) [] ys lx ly hx hy = absurd (omega arith)
big_cmp (suc n) (x ∷ xs) [] lx ly hx hy = absurd (omega arith)
big_cmp (suc n) (x ∷ xs) (y ∷ ys) lx ly hx hy =
    let rest = big_cmp n xs ys (omega arith) (omega arith) hx.1 hy.1 in
    let digit = nat_cmp-digit (256 ^ n) x y (big_from 0 n xs) (big_from 0 n ys) (big_from-lt 0 n xs (byte_at_place xs hx.1)) (big_from-lt 0 n ys (byte_at_place ys hy.1)) in
    ap (ordering_then (nat_cmp x y)) rest ∙ sym digit
    ∙ ap (λ (k : ℕ). nat_cmp (x * 256 ^ n + k) (y * 256 ^ n + big_from 0 n ys)) (sym (big_from-cons 0 n x xs))
    ∙ ap (λ (k : ℕ). nat_cmp (x * 256 ^ n + big_from 1 n (x ∷ xs)) (y * 256 ^ n + k)) (sym (big_from-cons 0 n y ys))

bytes_are_bytes : (n x : ℕ) → AreBytes (bytes_high_first n x)
bytes_are_bytes zero x = tt
bytes_are_bytes (suc n) x = (byte_at_lt n x, bytes_are_bytes n x)
  where
    byte_at_lt : (n x : ℕ) → byte_at n x < 256
    byte_at_lt zero x = omega arith
    byte_at_lt (suc n) x = omega arith

pub number_bytes-AreBytes : (n x : ℕ) → AreBytes (number_bytes n x)
unfolding number_bytes
number_bytes-AreBytes = bytes_are_bytes

pub length-number_bytes : (n x : ℕ) → length (number_bytes n x) ≡ n
unfolding number_bytes
length-number_bytes = length-bytes_high_first

pub number_at_head-bytes : (n x : ℕ) (rest : List ℕ) → x < 256 ^ n → number_at_head n (number_bytes n x ++ rest) ≡ x
unfolding number_bytes number_at_head
number_at_head-bytes = big_number-reads_back

pub number_at_head-lt : (n : ℕ) (bytes : List ℕ) → AreBytes bytes → number_at_head n bytes < 256 ^ n
unfolding number_at_head
number_at_head-lt n bytes h = big_from-lt 0 n bytes (byte_at_place bytes h)

-- the bytes of numbers stand as the numbers do
pub number_bytes-cmp : (n x y : ℕ) → x < 256 ^ n → y < 256 ^ n → slice_cmp nat_cmp (number_bytes n x) (number_bytes n y) ≡ nat_cmp x y
unfolding number_bytes
number_bytes-cmp n x y hx hy =
    let read : (z : ℕ) → z < 256 ^ n → big_from 0 n (bytes_high_first n z) ≡ z =
    λ z h. ap (big_from 0 n) (sym (append-nil (bytes_high_first n z))) ∙ big_number-reads_back n z [] h in
    big_cmp n (bytes_high_first n x) (bytes_high_first n y) (length-bytes_high_first n x) (length-bytes_high_first n y) (bytes_are_bytes n x) (bytes_are_bytes n y)
    ∙ ap (λ (k : ℕ). nat_cmp k (big_from 0 n (bytes_high_first n y))) (read x hx) ∙ ap (λ (k : ℕ). nat_cmp x k) (read y hy)

take-AreBytes : (n : ℕ) (xs : List ℕ) → AreBytes xs → AreBytes (take n xs)
take-AreBytes zero xs h = tt
take-AreBytes (suc n) [] h = tt
take-AreBytes (suc n) (x ∷ xs) h = (h.0, take-AreBytes n xs h.1)

pub drop-AreBytes : (n : ℕ) (xs : List ℕ) → AreBytes xs → AreBytes (drop n xs)
drop-AreBytes zero xs h = h
drop-AreBytes (suc n) [] h = tt
drop-AreBytes (suc n) (x ∷ xs) h = drop-AreBytes n xs h.1

-- bytes that were read as a number are the number's bytes
pub bytes-number_at_head : (n : ℕ) (bytes : List ℕ) → AreBytes bytes → n ≤ length bytes → number_bytes n (number_at_head n bytes) ≡ take n bytes
unfolding number_bytes number_at_head
bytes-number_at_head n bytes h room =
    let m = big_from 0 n bytes in
    let lt : m < 256 ^ n = big_from-lt 0 n bytes (byte_at_place bytes h) in
    let read : big_from 0 n (bytes_high_first n m) ≡ m =
    ap (big_from 0 n) (sym (append-nil (bytes_high_first n m))) ∙ big_number-reads_back n m [] lt in
    let cut : big_from 0 n (take n bytes) ≡ m = big_from-take 0 n n bytes (omega arith) in
    let taken : length (take n bytes) ≡ n = omega (arith, length-take n bytes) in
    slice_cmp-IsAntisymmetric nat_cmp-IsAntisymmetric (bytes_high_first n m) (take n bytes)
    (big_cmp n (bytes_high_first n m) (take n bytes) (length-bytes_high_first n m) taken (bytes_are_bytes n m) (take-AreBytes n bytes h)
    ∙ nat_cmp-same (big_from 0 n (bytes_high_first n m)) (big_from 0 n (take n bytes)) (read ∙ sym cut))

pub drop-number_bytes : (n x : ℕ) (rest : List ℕ) → drop n (number_bytes n x ++ rest) ≡ rest
drop-number_bytes n x rest =
    ap (λ (k : ℕ). drop k (number_bytes n x ++ rest)) (sym (length-number_bytes n x)) ∙ drop-append_seam (number_bytes n x) rest
