-- A row is read back from its bytes, and no other bytes give it.
use Rattle.std.proofs.Common.{◌≡◌, ℕ, zero, suc, ◌^◌, ◌<◌, ◌≤◌, Bool, true, false, nat_le, ◌==◌, List, [], ◌∷◌, ◌++◌, length, take, drop, Option, Some, None, ℤ, pos, negsuc, refl, sym, ap, ◌∙◌, arith, subst, ⊎_elim, FitsSigned, length-append, length-take, append_assoc, if◌then◌else◌}
use Rattle.std.proofs.lemmas.Bool.{false≢true, cases_lt}
use Rattle.std.proofs.lemmas.Bool.Decides.{nat_tests}
use Rattle.std.proofs.lemmas.List.{take-append-drop}
use Rattle.std.proofs.Math.Seq.{take-append_seam, drop-append_seam}
use Rattle.std.proofs.lemmas.Int.{to_z-of_z, of_z-to_z, to_z_pos}
use Rattle.std.specs.Int.{Width, w32, w64, w128, cast_signed, cast_unsigned}
use mir.Val.{hbits}
use Rattle.std.specs.List.{flat_map}
use Rattle.abl_base.specs.declared.value.Value.{Value}
use Rattle.abl_base.specs.declared.value.Value.TheVariants.{Text, Int, Int64, Dec, Logical, Date, Unknown}
use Rattle.abl_base.specs.declared.value.Kind.{Kind}
use Rattle.abl_base.specs.declared.value.Kind.TheVariants.{Character, Integer, Int64 as Whole64, Decimal, Logical as Truth, Date as Day}
use Rattle.abl_base.specs.declared.limits.TheConstants.{MAX_TEXT_BYTES}
use Rattle.abl_values.specs.Dates.{is_day}
use Rattle.abl_values.specs.Arithmetic.{fits_bits}
use Rattle.abl_values.specs.Fit.{IsOfKind, IsOfField}
use Rattle.abl_values.specs.Keys.{AreBytes}
use Rattle.abl_values.specs.Rows.{number_bytes, number_at_head, field_bytes, bytes_of_row, FitsFields, Found, number_in, day_in, text_in, value_in, field_in, with_first, row_in}
use Rattle.abl_values.proofs.Numbers.{length-number_bytes, number_at_head-bytes, number_at_head-lt, bytes-number_at_head, drop-number_bytes}
use Rattle.abl_values.proofs.RowReads.{row_in-read, row_in-none}

-- ---- signed numbers

pub fits_signed : (w : Width) (z : ℤ) → fits_bits (hbits w) z ≡ true → FitsSigned w z
fits_signed w (pos n) h = record { sfits = grind (arith, nat_tests) }
fits_signed w (negsuc n) h = record { sfits = grind (arith, nat_tests) }

bits_32 : (z : ℤ) → fits_bits 31 z ≡ true → cast_unsigned w32 z < 256 ^ 4
bits_32 (pos n) h = grind (arith, nat_tests)
bits_32 (negsuc n) h = omega arith

bits_64 : (z : ℤ) → fits_bits 63 z ≡ true → cast_unsigned w64 z < 256 ^ 8
bits_64 (pos n) h = grind (arith, nat_tests)
bits_64 (negsuc n) h = omega arith

bits_128 : (z : ℤ) → fits_bits 127 z ≡ true → cast_unsigned w128 z < 256 ^ 16
bits_128 (pos n) h = grind (arith, nat_tests)
bits_128 (negsuc n) h = omega arith

-- a day's number fits 32 bits
day_fits : (d : ℤ) → is_day d ≡ true → fits_bits 31 d ≡ true
day_fits (pos n) h = grind (arith, nat_tests)
day_fits (negsuc n) h = grind (arith, nat_tests)

-- ---- written, then read

number_in-bytes : (n : ℕ) (value : ℕ → Value) (x : ℕ) (rest : List ℕ) → x < 256 ^ n → number_in n value (number_bytes n x ++ rest) ≡ Some (value x, rest)
number_in-bytes n value x rest h =
    let len : n ≤ length (number_bytes n x ++ rest) = omega (arith, length-append (number_bytes n x) rest, length-number_bytes n x) in
    let test : nat_le n (length (number_bytes n x ++ rest)) ≡ true = grind (arith, nat_tests) in
    rw (test, number_at_head-bytes n x rest h, drop-number_bytes n x rest) refl

text_in-bytes : (t rest : List ℕ) → length t ≤ MAX_TEXT_BYTES → text_in (length t) (t ++ rest) ≡ Some (Text t, rest)
text_in-bytes t rest h =
    let len : length t ≤ length (t ++ rest) = omega (arith, length-append t rest) in
    let small : nat_le (length t) MAX_TEXT_BYTES ≡ true = grind (arith, nat_tests) in
    let test : nat_le (length t) (length (t ++ rest)) ≡ true = grind (arith, nat_tests) in
    rw (small, test, take-append_seam t rest, drop-append_seam t rest) refl

value_in-text : (t rest : List ℕ) → length t ≤ MAX_TEXT_BYTES → value_in Character ((number_bytes 2 (length t) ++ t) ++ rest) ≡ Some (Text t, rest)
value_in-text t rest h =
    let bytes = number_bytes 2 (length t) ++ (t ++ rest) in
    let len : 2 ≤ length bytes = omega (arith, length-append (number_bytes 2 (length t)) (t ++ rest), length-number_bytes 2 (length t)) in
    let test : nat_le 2 (length bytes) ≡ true = grind (arith, nat_tests) in
    rw (append_assoc (number_bytes 2 (length t)) t rest, test, number_at_head-bytes 2 (length t) (t ++ rest) (omega arith), drop-number_bytes 2 (length t) (t ++ rest))
    (text_in-bytes t rest h)

value_in-day : (d : ℤ) (rest : List ℕ) → is_day d ≡ true → value_in Day (number_bytes 4 (cast_unsigned w32 d) ++ rest) ≡ Some (Date d, rest)
value_in-day d rest h =
    let fits = day_fits d h in
    let same = to_z-of_z w32 d (fits_signed w32 d fits) in
    ap day_in (number_in-bytes 4 (λ n. Date (cast_signed w32 n)) (cast_unsigned w32 d) rest (bits_32 d fits))
    ∙ ap (λ e. day_in (Some (Date e, rest))) same ∙ rw h refl

pub field_in-bytes : (kind : Option Kind) (v : Value) (rest : List ℕ) → IsOfField kind v → field_in kind (field_bytes v ++ rest) ≡ Some (v, rest)
field_in-bytes None v rest h = subst (λ u. field_in None (field_bytes u ++ rest) ≡ Some (u, rest)) (sym h) refl
field_in-bytes (Some kind) Unknown rest h = refl
field_in-bytes (Some Character) (Text t) rest h = value_in-text t rest h
field_in-bytes (Some Integer) (Int n) rest h =
    number_in-bytes 4 (λ k. Int (cast_signed w32 k)) (cast_unsigned w32 n) rest (bits_32 n h)
    ∙ ap (λ k. Some (Int k, rest)) (to_z-of_z w32 n (fits_signed w32 n h))
field_in-bytes (Some Whole64) (Int64 n) rest h =
    number_in-bytes 8 (λ k. Int64 (cast_signed w64 k)) (cast_unsigned w64 n) rest (bits_64 n h)
    ∙ ap (λ k. Some (Int64 k, rest)) (to_z-of_z w64 n (fits_signed w64 n h))
field_in-bytes (Some Decimal) (Dec n) rest h =
    number_in-bytes 16 (λ k. Dec (cast_signed w128 k)) (cast_unsigned w128 n) rest (bits_128 n h)
    ∙ ap (λ k. Some (Dec k, rest)) (to_z-of_z w128 n (fits_signed w128 n h))
field_in-bytes (Some Truth) (Logical false) rest h = refl
field_in-bytes (Some Truth) (Logical true) rest h = refl
field_in-bytes (Some Day) (Date d) rest h = value_in-day d rest h
field_in-bytes (Some kind) v rest h = absurd h

pub row_in-bytes : (kinds : List (Option Kind)) (row : List Value) → FitsFields kinds row → row_in kinds (bytes_of_row row) ≡ Some row
unfolding bytes_of_row row_in
row_in-bytes [] [] h = refl
row_in-bytes [] (v ∷ row) h = absurd h
row_in-bytes (kind ∷ kinds) [] h = absurd h
row_in-bytes (kind ∷ kinds) (v ∷ row) h =
    row_in-read kind kinds (field_bytes v ++ flat_map field_bytes row) v (flat_map field_bytes row) (field_in-bytes kind v (flat_map field_bytes row) h.0)
    ∙ ap (with_first v) (row_in-bytes kinds row h.1)

-- ---- read, then written

some_if : (b : Bool) (x y : Value × List ℕ) → (if b then Some x else None) ≡ Some y → (b ≡ true) × (x ≡ y)
some_if true x y h = (refl, cc)
some_if false x y h = cc

-- bytes of a number, read and written again
number_back : (n x : ℕ) (bytes rest : List ℕ) → AreBytes bytes → n ≤ length bytes → x ≡ number_at_head n bytes → rest ≡ drop n bytes → number_bytes n x ++ rest ≡ bytes
number_back n x bytes rest h room is after =
    ap (λ (k : ℕ). number_bytes n k ++ rest) is ∙ ap (λ (xs : List ℕ). xs ++ rest) (bytes-number_at_head n bytes h room)
    ∙ ap (λ (xs : List ℕ). take n bytes ++ xs) after ∙ take-append-drop n bytes

-- what a reader of n bytes found
record IsNumberRead (n : ℕ) (value : ℕ → Value) (bytes : List ℕ) (v : Value) (rest : List ℕ) : Type 0 where
  room : n ≤ length bytes
  is : value (number_at_head n bytes) ≡ v
  after : drop n bytes ≡ rest

number_in-found : (n : ℕ) (value : ℕ → Value) (bytes : List ℕ) (v : Value) (rest : List ℕ) → number_in n value bytes ≡ Some (v, rest) → IsNumberRead n value bytes v rest
number_in-found n value bytes v rest e =
    let both = some_if (nat_le n (length bytes)) (value (number_at_head n bytes), drop n bytes) (v, rest) e in
    record { room = room_of (nat_le n (length bytes)) n (length bytes) refl both.0; is = ap (λ p. p.0) both.1; after = ap (λ p. p.1) both.1 }
  where
    room_of : (b : Bool) (n m : ℕ) → nat_le n m ≡ b → b ≡ true → n ≤ m
    room_of b n m e h = grind (arith, nat_tests)

-- the field's bytes before the rest are the bytes that were read, and the value is one of the kind
abbrev IsBack : Kind → Value → List ℕ → List ℕ → Type 0
IsBack kind v bytes rest = (field_bytes v ++ rest ≡ 1 ∷ bytes) × IsOfKind kind v

signed_32 : (n : ℕ) → n < 256 ^ 4 → fits_bits 31 (cast_signed w32 n) ≡ true
signed_32 n h = ⊎_elim (λ k. low n k) (λ k. high n k h) (cases_lt n (2 ^ 31))
  where
    low : (n : ℕ) → n < 2 ^ 31 → fits_bits 31 (cast_signed w32 n) ≡ true
    low n h = ap (fits_bits 31) (to_z_pos w32 n h) ∙ grind (arith, nat_tests)

    high : (n : ℕ) → 2 ^ 31 ≤ n → n < 256 ^ 4 → fits_bits 31 (cast_signed w32 n) ≡ true
    high n h k = grind (arith, nat_tests)

signed_64 : (n : ℕ) → n < 256 ^ 8 → fits_bits 63 (cast_signed w64 n) ≡ true
signed_64 n h = ⊎_elim (λ k. low n k) (λ k. high n k h) (cases_lt n (2 ^ 63))
  where
    low : (n : ℕ) → n < 2 ^ 63 → fits_bits 63 (cast_signed w64 n) ≡ true
    low n h = ap (fits_bits 63) (to_z_pos w64 n h) ∙ grind (arith, nat_tests)

    high : (n : ℕ) → 2 ^ 63 ≤ n → n < 256 ^ 8 → fits_bits 63 (cast_signed w64 n) ≡ true
    high n h k = grind (arith, nat_tests)

signed_128 : (n : ℕ) → n < 256 ^ 16 → fits_bits 127 (cast_signed w128 n) ≡ true
signed_128 n h = ⊎_elim (λ k. low n k) (λ k. high n k h) (cases_lt n (2 ^ 127))
  where
    low : (n : ℕ) → n < 2 ^ 127 → fits_bits 127 (cast_signed w128 n) ≡ true
    low n h = ap (fits_bits 127) (to_z_pos w128 n h) ∙ grind (arith, nat_tests)

    high : (n : ℕ) → 2 ^ 127 ≤ n → n < 256 ^ 16 → fits_bits 127 (cast_signed w128 n) ≡ true
    high n h k = grind (arith, nat_tests)

number_is_back : (n k : ℕ) (bytes rest : List ℕ) → AreBytes bytes → n ≤ length bytes → k ≡ number_at_head n bytes → drop n bytes ≡ rest → 1 ∷ number_bytes n k ++ rest ≡ 1 ∷ bytes
number_is_back n k bytes rest h room is after = ap (λ (xs : List ℕ). 1 ∷ xs) (number_back n k bytes rest h room is (sym after))

back_integer : (bytes : List ℕ) (v : Value) (rest : List ℕ) → AreBytes bytes → value_in Integer bytes ≡ Some (v, rest) → IsBack Integer v bytes rest
back_integer bytes v rest h e =
    let read = number_in-found 4 (λ k. Int (cast_signed w32 k)) bytes v rest e in
    let m = number_at_head 4 bytes in
    let small : m < 256 ^ 4 = number_at_head-lt 4 bytes h in
    subst (λ u. IsBack Integer u bytes rest) read.is
    (number_is_back 4 (cast_unsigned w32 (cast_signed w32 m)) bytes rest h read.room (of_z-to_z w32 m small) read.after, signed_32 m small)

back_whole : (bytes : List ℕ) (v : Value) (rest : List ℕ) → AreBytes bytes → value_in Whole64 bytes ≡ Some (v, rest) → IsBack Whole64 v bytes rest
back_whole bytes v rest h e =
    let read = number_in-found 8 (λ k. Int64 (cast_signed w64 k)) bytes v rest e in
    let m = number_at_head 8 bytes in
    let small : m < 256 ^ 8 = number_at_head-lt 8 bytes h in
    subst (λ u. IsBack Whole64 u bytes rest) read.is
    (number_is_back 8 (cast_unsigned w64 (cast_signed w64 m)) bytes rest h read.room (of_z-to_z w64 m small) read.after, signed_64 m small)

back_decimal : (bytes : List ℕ) (v : Value) (rest : List ℕ) → AreBytes bytes → value_in Decimal bytes ≡ Some (v, rest) → IsBack Decimal v bytes rest
back_decimal bytes v rest h e =
    let read = number_in-found 16 (λ k. Dec (cast_signed w128 k)) bytes v rest e in
    let m = number_at_head 16 bytes in
    let small : m < 256 ^ 16 = number_at_head-lt 16 bytes h in
    subst (λ u. IsBack Decimal u bytes rest) read.is
    (number_is_back 16 (cast_unsigned w128 (cast_signed w128 m)) bytes rest h read.room (of_z-to_z w128 m small) read.after, signed_128 m small)

-- a day was found among the days
day_in-found : (found : Found) (v : Value) (rest : List ℕ) → day_in found ≡ Some (v, rest) → (d : ℤ) × (found ≡ Some (Date d, rest)) × (v ≡ Date d) × (is_day d ≡ true)
day_in-found None v rest e = cc
day_in-found (Some (Date d, r)) v rest e =
    let both = some_if (is_day d) (Date d, r) (v, rest) e in
    (d, ap (λ (xs : List ℕ). Some (Date d, xs)) (ap (λ p. p.1) both.1), sym (ap (λ p. p.0) both.1), both.0)
day_in-found (Some (u, r)) v rest e = cc

back_day : (bytes : List ℕ) (v : Value) (rest : List ℕ) → AreBytes bytes → value_in Day bytes ≡ Some (v, rest) → IsBack Day v bytes rest
back_day bytes v rest h e =
    let found = day_in-found (number_in 4 (λ k. Date (cast_signed w32 k)) bytes) v rest e in
    let read = number_in-found 4 (λ k. Date (cast_signed w32 k)) bytes (Date found.0) rest found.1 in
    let m = number_at_head 4 bytes in
    let small : m < 256 ^ 4 = number_at_head-lt 4 bytes h in
    subst (λ u. IsBack Day u bytes rest) (sym found.2) (
      subst (λ u. field_bytes u ++ rest ≡ 1 ∷ bytes) read.is
          (number_is_back 4 (cast_unsigned w32 (cast_signed w32 m)) bytes rest h read.room (of_z-to_z w32 m small) read.after),
      found.3,
    )

found_if : (b : Bool) (o : Found) (q : Value × List ℕ) → (if b then o else None) ≡ Some q → (b ≡ true) × (o ≡ Some q)
found_if true o q e = (refl, e)
found_if false o q e = cc

otherwise : (b : Bool) (o p q : Found) → b ≡ false → (if b then o else p) ≡ q → p ≡ q
otherwise true o p q h e = absurd (false≢true (sym h))
otherwise false o p q h e = e

eq_from_test : (n m : ℕ) → (n == m) ≡ true → n ≡ m
eq_from_test n m h = grind (arith, nat_tests)

pair_of : (p q : Value × List ℕ) → Some p ≡ Some q → p ≡ q
pair_of p q e = cc

back_truth : (bytes : List ℕ) (v : Value) (rest : List ℕ) → value_in Truth bytes ≡ Some (v, rest) → IsBack Truth v bytes rest
back_truth [] v rest e = cc
back_truth (zero ∷ bytes) v rest e =
    subst (λ q. IsBack Truth q.0 (0 ∷ bytes) q.1) (pair_of (Logical false, bytes) (v, rest) e) (refl, tt)
back_truth (suc zero ∷ bytes) v rest e =
    subst (λ q. IsBack Truth q.0 (1 ∷ bytes) q.1) (pair_of (Logical true, bytes) (v, rest) e) (refl, tt)
back_truth (suc (suc b) ∷ bytes) v rest e =
    let other = otherwise (suc (suc b) == 0) (Some (Logical false, bytes)) (if suc (suc b) == 1 then Some (Logical true, bytes) else None) (Some (v, rest)) (grind (arith, nat_tests)) e in
    let is : suc (suc b) ≡ 1 = eq_from_test (suc (suc b)) 1 (found_if (suc (suc b) == 1) (Some (Logical true, bytes)) (v, rest) other).0 in
    absurd (omega arith)

le_from_test : (n m : ℕ) → nat_le n m ≡ true → n ≤ m
le_from_test n m h = grind (arith, nat_tests)

back_text : (bytes : List ℕ) (v : Value) (rest : List ℕ) → AreBytes bytes → value_in Character bytes ≡ Some (v, rest) → IsBack Character v bytes rest
back_text bytes v rest h e =
    let r = drop 2 bytes in
    let n = number_at_head 2 bytes in
    let a = found_if (nat_le 2 (length bytes)) (text_in n r) (v, rest) e in
    let b = found_if (nat_le n MAX_TEXT_BYTES) (if nat_le n (length r) then Some (Text (take n r), drop n r) else None) (v, rest) a.1 in
    let c = found_if (nat_le n (length r)) (Some (Text (take n r), drop n r)) (v, rest) b.1 in
    let head : 2 ≤ length bytes = le_from_test 2 (length bytes) a.0 in
    let room : n ≤ length r = le_from_test n (length r) c.0 in
    let small : n ≤ MAX_TEXT_BYTES = le_from_test n MAX_TEXT_BYTES b.0 in
    let taken : length (take n r) ≡ n = omega (arith, length-take n r) in
    subst (λ q. IsBack Character q.0 bytes q.1) (pair_of (Text (take n r), drop n r) (v, rest) c.1) (
      ap (λ (xs : List ℕ). 1 ∷ xs)
          (append_assoc (number_bytes 2 (length (take n r))) (take n r) (drop n r)
          ∙ ap (λ (xs : List ℕ). number_bytes 2 (length (take n r)) ++ xs) (take-append-drop n r)
          ∙ number_back 2 (length (take n r)) bytes r h head taken refl),
      omega arith,
    )

back_known : (kind : Kind) (bytes : List ℕ) (v : Value) (rest : List ℕ) → AreBytes bytes → value_in kind bytes ≡ Some (v, rest) → IsBack kind v bytes rest
back_known Character bytes v rest h e = back_text bytes v rest h e
back_known Integer bytes v rest h e = back_integer bytes v rest h e
back_known Whole64 bytes v rest h e = back_whole bytes v rest h e
back_known Decimal bytes v rest h e = back_decimal bytes v rest h e
back_known Truth bytes v rest h e = back_truth bytes v rest e
back_known Day bytes v rest h e = back_day bytes v rest h e

unknown_of_field : (kind : Option Kind) → IsOfField kind Unknown
unknown_of_field None = refl
unknown_of_field (Some kind) = tt

pub field_in-back : (kind : Option Kind) (bytes : List ℕ) (v : Value) (rest : List ℕ) → AreBytes bytes → field_in kind bytes ≡ Some (v, rest) → (field_bytes v ++ rest ≡ bytes) × IsOfField kind v
field_in-back kind [] v rest h e = cc
field_in-back None (zero ∷ bytes) v rest h e =
    subst (λ q. (field_bytes q.0 ++ q.1 ≡ 0 ∷ bytes) × IsOfField None q.0) (pair_of (Unknown, bytes) (v, rest) e) (refl, refl)
field_in-back None (suc b ∷ bytes) v rest h e =
    let is : suc b ≡ 0 = eq_from_test (suc b) 0 (found_if (suc b == 0) (Some (Unknown, bytes)) (v, rest) e).0 in
    absurd (omega arith)
field_in-back (Some kind) (zero ∷ bytes) v rest h e =
    subst (λ q. (field_bytes q.0 ++ q.1 ≡ 0 ∷ bytes) × IsOfField (Some kind) q.0) (pair_of (Unknown, bytes) (v, rest) e) (refl, tt)
field_in-back (Some kind) (suc zero ∷ bytes) v rest h e = back_known kind bytes v rest h.1 e
field_in-back (Some kind) (suc (suc b) ∷ bytes) v rest h e =
    let other = otherwise (suc (suc b) == 0) (Some (Unknown, bytes)) (if suc (suc b) == 1 then value_in kind bytes else None) (Some (v, rest)) (grind (arith, nat_tests)) e in
    let is : suc (suc b) ≡ 1 = eq_from_test (suc (suc b)) 1 (found_if (suc (suc b) == 1) (value_in kind bytes) (v, rest) other).0 in
    absurd (omega arith)

pub rest_are_bytes : (xs ys : List ℕ) → AreBytes (xs ++ ys) → AreBytes ys
rest_are_bytes [] ys h = h
rest_are_bytes (x ∷ xs) ys h = rest_are_bytes xs ys h.1

rest_of_row : (v : Value) (o : Option (List Value)) (row : List Value) → with_first v o ≡ Some row → (vs : List Value) × (o ≡ Some vs) × (v ∷ vs ≡ row)
rest_of_row v None row e = cc
rest_of_row v (Some vs) row e = (vs, refl, cc)

-- one field more
row_in-back_more : (kind : Option Kind) (kinds : List (Option Kind)) (bytes : List ℕ) (row : List Value) → AreBytes bytes → row_in (kind ∷ kinds) bytes ≡ Some row
    → ((rest : List ℕ) (vs : List Value) → AreBytes rest → row_in kinds rest ≡ Some vs → (bytes_of_row vs ≡ rest) × FitsFields kinds vs)
    → (found : Found) → field_in kind bytes ≡ found → (bytes_of_row row ≡ bytes) × FitsFields (kind ∷ kinds) row
unfolding bytes_of_row
row_in-back_more kind kinds bytes row h e again None is =
    absurd (no_row (sym (row_in-none kind kinds bytes is) ∙ e))
  where
    no_row : None ≡ Some row → ⊥
    no_row n = cc
row_in-back_more kind kinds bytes row h e again (Some (v, rest)) is =
    let first = field_in-back kind bytes v rest h is in
    let others = rest_of_row v (row_in kinds rest) row (sym (row_in-read kind kinds bytes v rest is) ∙ e) in
    let after : AreBytes rest = rest_are_bytes (field_bytes v) rest (subst AreBytes (sym first.0) h) in
    let back = again rest others.0 after others.1 in
    subst (λ r. (flat_map field_bytes r ≡ bytes) × FitsFields (kind ∷ kinds) r) others.2
    (ap (λ (xs : List ℕ). field_bytes v ++ xs) back.0 ∙ first.0, (first.1, back.1))

-- the row that was read from the bytes has these bytes and fits the fields
pub row_in-back : (kinds : List (Option Kind)) (bytes : List ℕ) (row : List Value) → AreBytes bytes → row_in kinds bytes ≡ Some row → (bytes_of_row row ≡ bytes) × FitsFields kinds row
unfolding bytes_of_row row_in
row_in-back [] [] row h e = subst (λ r. (flat_map field_bytes r ≡ []) × FitsFields [] r) (rows_of [] row e) (refl, tt)
  where
    rows_of : (a b : List Value) → Some a ≡ Some b → a ≡ b
    rows_of a b e = cc
row_in-back [] (b ∷ bytes) row h e = cc
row_in-back (kind ∷ kinds) bytes row h e =
    row_in-back_more kind kinds bytes row h e (λ rest vs k f. row_in-back kinds rest vs k f) (field_in kind bytes) refl
