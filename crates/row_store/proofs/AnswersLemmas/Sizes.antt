-- The sizes of rows, and the ranges of numbers.
use Rattle.std.proofs.Common.{◌≡◌, ℕ, ◌+◌, ◌<◌, ◌^◌, ℤ, pos, negsuc, List, [], ◌∷◌, ◌++◌, length, refl, sym, ap, ◌∙◌, arith, length-append}
use Rattle.std.specs.Prelude.{IsTrue}
use lib.Signed.{mag}
use borrow.Author.Tests.{lt-ltb}
use Rattle.abl_base.specs.declared.value.Value.{Value}
use Rattle.abl_base.specs.declared.value.Value.TheVariants.{Text, Int, Int64, Dec, Date}
use Rattle.abl_values.specs.Arithmetic.{fits_bits}
use Rattle.abl_values.specs.Rows.{field_bytes, bytes_of_row, number_bytes}
use Rattle.abl_values.proofs.Numbers.{length-number_bytes}
use Rattle.database_meaning.specs.Setting.{row_size}

pub fits_small : (z : ℤ) → mag z < 2 ^ 31 → IsTrue (fits_bits 31 z)
fits_small (pos n) h = lt-ltb n (2 ^ 31) h
fits_small (negsuc n) h = lt-ltb n (2 ^ 31) h

pub fits_whole : (z : ℤ) → mag z < 2 ^ 63 → IsTrue (fits_bits 63 z)
fits_whole (pos n) h = lt-ltb n (2 ^ 63) h
fits_whole (negsuc n) h = lt-ltb n (2 ^ 63) h

pub fits_decimal : (z : ℤ) → mag z < 2 ^ 127 → IsTrue (fits_bits 127 z)
fits_decimal (pos n) h = lt-ltb n (2 ^ 127) h
fits_decimal (negsuc n) h = lt-ltb n (2 ^ 127) h

size_one : (n : ℕ) (xs : List ℕ) → length xs ≡ n → n + 1 ≡ length (1 ∷ xs)
size_one n xs e = omega arith

pub size-Int : (v : Value) (n : ℤ) → v ≡ Int n → 5 ≡ length (field_bytes v)
size-Int v n e = size_one 4 _ (length-number_bytes 4 _) ∙ ap (λ x. length (field_bytes x)) (sym e)

pub size-Int64 : (v : Value) (n : ℤ) → v ≡ Int64 n → 9 ≡ length (field_bytes v)
size-Int64 v n e = size_one 8 _ (length-number_bytes 8 _) ∙ ap (λ x. length (field_bytes x)) (sym e)

pub size-Dec : (v : Value) (n : ℤ) → v ≡ Dec n → 17 ≡ length (field_bytes v)
size-Dec v n e = size_one 16 _ (length-number_bytes 16 _) ∙ ap (λ x. length (field_bytes x)) (sym e)

pub size-Date : (v : Value) (n : ℤ) → v ≡ Date n → 5 ≡ length (field_bytes v)
size-Date v n e = size_one 4 _ (length-number_bytes 4 _) ∙ ap (λ x. length (field_bytes x)) (sym e)

pub size-Text : (v : Value) (t : List ℕ) → v ≡ Text t → length t + 3 ≡ length (field_bytes v)
size-Text v t e =
    let known = length-number_bytes 2 (length t) in
    let joined = length-append (number_bytes 2 (length t)) t in
    let all : length t + 3 ≡ length (1 ∷ number_bytes 2 (length t) ++ t) = omega arith in
    all ∙ ap (λ x. length (field_bytes x)) (sym e)

pub row_size-none : row_size [] ≡ 0
unfolding bytes_of_row
row_size-none = refl

pub row_size-empty : (vs : List Value) → length vs ≡ 0 → 0 ≡ row_size vs
unfolding bytes_of_row
row_size-empty [] e = refl
row_size-empty (v ∷ vs) e = absurd (omega arith)

pub row_size-more : (v : Value) (vs : List Value) → row_size (v ∷ vs) ≡ length (field_bytes v) + row_size vs
unfolding bytes_of_row
row_size-more v vs = length-append (field_bytes v) (bytes_of_row vs)

pub ruleset sizes = (row_size-none, row_size-more)
