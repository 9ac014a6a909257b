-- The number of bytes of a row.
use Rattle.std.proofs.Common.{◌≡◌, ℕ, ◌+◌, ◌<◌, ◌≤◌, List, ◌∷◌, length, drop, get_or, true, false, ap, sym, ◌∙◌, length-append, arith, nat_lt}
use Rattle.std.proofs.Math.ListN.{drop_of_length-le}
use Rattle.std.proofs.lemmas.Bool.{lt-ltb, le-ltb}
use Rattle.abl_base.specs.declared.value.Value.{Value}
use Rattle.abl_base.specs.declared.value.Value.TheVariants.{Text}
use Rattle.abl_values.specs.Rows.{bytes_of_row, field_bytes, number_bytes}
use Rattle.abl_values.proofs.Numbers.{length-number_bytes}
use Rattle.record_rules.proofs.Rest.{rest_from}

-- a number written in n bytes has length n
pub number_lengths : (n x : ℕ) → length (number_bytes n x) ≡ n
number_lengths n x = length-number_bytes n x

pub length-row : (v : Value) (vs : List Value) → length (bytes_of_row (v ∷ vs)) ≡ length (field_bytes v) + length (bytes_of_row vs)
unfolding bytes_of_row
length-row v vs = length-append (field_bytes v) (bytes_of_row vs)

-- the bytes from a value on are its own and those after it
pub length_from : (vs : List Value) (i : ℕ) (v : Value) → i < length vs → v ≡ get_or vs i v → length (bytes_of_row (drop i vs)) ≡ length (field_bytes v) + length (bytes_of_row (drop (i + 1) vs))
length_from vs i v below is = ap (λ (ws : List Value). length (bytes_of_row ws)) (rest_from vs i v below is) ∙ length-row v (drop (i + 1) vs)

-- a text has three bytes more in a row
pub text_length : (v : Value) (t : List ℕ) (n : ℕ) → v ≡ Text t → n ≡ length t → n + 3 ≡ length (field_bytes v)
text_length v t n e h = omega (arith, ap (λ (x : Value). length (field_bytes x)) e, length-append (number_bytes 2 (length t)) t, number_lengths 2 (length t))

-- one value more makes the row too long
pub too_long_at : (vs : List Value) (i : ℕ) (v : Value) (before limit : ℕ) → i < length vs → v ≡ get_or vs i v → before + length (bytes_of_row (drop i vs)) ≡ length (bytes_of_row vs) → limit < before + length (field_bytes v) → true ≡ nat_lt limit (length (bytes_of_row vs))
too_long_at vs i v before limit below is sum over =
    let step = length_from vs i v below is in
    sym (lt-ltb limit (length (bytes_of_row vs)) (omega (arith, step)))

-- all values make a row that is not too long
pub short_row : (vs : List Value) (i before limit : ℕ) → length vs ≤ i → before ≤ limit → before + length (bytes_of_row (drop i vs)) ≡ length (bytes_of_row vs) → false ≡ nat_lt limit (length (bytes_of_row vs))
unfolding bytes_of_row
short_row vs i before limit past within sum =
    let none : length (bytes_of_row (drop i vs)) ≡ 0 = ap (λ (ws : List Value). length (bytes_of_row ws)) (drop_of_length-le vs past) in
    sym (le-ltb limit (length (bytes_of_row vs)) (omega (arith, none)))
