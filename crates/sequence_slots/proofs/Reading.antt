-- The values that slots hold are those that are read from them.
use Rattle.std.proofs.Common.{◌≡◌, ℕ, zero, suc, ◌+◌, ◌*◌, ◌<◌, ◌≤◌, ◌^◌, List, [], ◌∷◌, ◌++◌, length, take, drop, true, ℤ, pos, negsuc, refl, sym, ap, ◌∙◌, arith, length-take}
use Rattle.std.proofs.lemmas.Bool.Decides.{nat_tests}
use Rattle.std.proofs.lemmas.Grind.{flat_map-append}
use Rattle.std.proofs.lemmas.Int.{to_z-of_z}
use Rattle.std.proofs.lemmas.List.{take_all}
use Rattle.std.proofs.Math.Seq.{drop-drop, take-add}
use Rattle.std.specs.Int.{w64, cast_unsigned}
use Rattle.abl_values.specs.Arithmetic.{fits_bits}
use Rattle.abl_values.specs.Rows.{number_at_head, number_bytes}
use Rattle.abl_values.proofs.Numbers.{drop-number_bytes, number_at_head-bytes}
use Rattle.abl_values.proofs.RowLaws.{fits_signed}
use Rattle.row_fragments.specs.Fragments.{content_in}
use Rattle.row_fragments.proofs.Encoded.{content_read}
use Rattle.sequence_slots.specs.Values.{Have64Bits, HoldValues, bytes_of, contents_from, part, slot_bytes, values_in, values_of}
use Rattle.sequence_slots.proofs.Laid.{length_bytes}

-- ---- values from their bytes

below : (z : ℤ) → fits_bits 63 z ≡ true → cast_unsigned w64 z < 256 ^ 8
below (pos n) h = grind (arith, nat_tests)
below (negsuc n) h = omega arith

pub values_back : (values : List ℤ) → Have64Bits values → values_of (length values) (bytes_of values) ≡ values
values_back [] whole = refl
values_back (value ∷ values) whole =
    rw (number_at_head-bytes 8 (cast_unsigned w64 value) (bytes_of values) (below value whole.0), drop-number_bytes 8 (cast_unsigned w64 value) (bytes_of values), to_z-of_z w64 value (fits_signed w64 value whole.0), values_back values whole.1) refl

-- ---- bytes from their slots

content_none : content_in (slot_bytes []) ≡ []
unfolding number_at_head
content_none = refl

content_of : (values : List ℤ) → length values ≤ 30 → content_in (slot_bytes values) ≡ bytes_of values
content_of [] few = content_none
content_of (value ∷ values) few = content_read 4 0 0 0 (bytes_of (value ∷ values)) (omega (arith, length_bytes (value ∷ values)))

bytes_both : (xs ys : List ℤ) → bytes_of xs ++ bytes_of ys ≡ bytes_of (xs ++ ys)
bytes_both xs ys = sym (flat_map-append (λ (value : ℤ). number_bytes 8 (cast_unsigned w64 value)) xs ys)

later_part : (i : ℕ) (values : List ℤ) → part (suc i) values ≡ part i (drop 30 values)
later_part i values = ap (take 30) (ap (λ (n : ℕ). drop n values) (omega arith) ∙ sym (drop-drop (30 * i) 30 values))

contents_are : (n : ℕ) (slots : ℕ → List ℕ) (at : ℕ) (values : List ℤ) → ((i : ℕ) → i < n → slots (at + i) ≡ slot_bytes (part i values)) → contents_from n slots at ≡ bytes_of (take (30 * n) values)
contents_are zero slots at values each = refl
contents_are (suc n) slots at values each =
    let here : slots at ≡ slot_bytes (take 30 values) = ap slots (omega arith) ∙ each 0 (omega arith) in
    let first : content_in (slots at) ≡ bytes_of (take 30 values) = ap content_in here ∙ content_of (take 30 values) (omega (arith, length-take 30 values)) in
    let later : contents_from n slots (suc at) ≡ bytes_of (take (30 * n) (drop 30 values)) =
    contents_are n slots (suc at) (drop 30 values) (λ i lt. ap slots (omega arith) ∙ (each (suc i) (omega arith) ∙ ap slot_bytes (later_part i values))) in
    ap (λ (xs : List ℕ). xs ++ contents_from n slots (suc at)) first
    ∙ (ap (λ (xs : List ℕ). bytes_of (take 30 values) ++ xs) later
    ∙ (bytes_both (take 30 values) (take (30 * n) (drop 30 values))
    ∙ ap bytes_of (sym (take-add 30 (30 * n) values) ∙ ap (λ (m : ℕ). take m values) (omega arith))))

pub values_read : (slots : ℕ → List ℕ) (values : List ℤ) → HoldValues slots values → values_in (length values) slots ≡ values
unfolding values_in
values_read slots values h =
    ap (values_of (length values)) (contents_are 9 slots 5000 values h.each ∙ ap bytes_of (take_all 270 values h.few)) ∙ values_back values h.whole
