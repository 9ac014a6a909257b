-- The contents of the slots of values, and the values in them.
use Rattle.std.proofs.Common.{◌≡◌, ⊎_elim, ℕ, zero, suc, ◌+◌, ◌*◌, ◌<◌, ◌≤◌, min, List, [], ◌∷◌, ◌++◌, length, take, drop, get_or, ℤ, refl, sym, ap, ◌∙◌, arith, length-take}
use Rattle.std.proofs.lemmas.Bool.{cases_lt}
use Rattle.std.proofs.lemmas.Grind.{flat_map-append}
use Rattle.std.proofs.lemmas.List.{take_all, drop_all}
use Rattle.std.proofs.Math.Seq.{drop-drop, take-add}
use Rattle.std.specs.Int.{w64, cast_signed, cast_unsigned}
use Rattle.std.specs.List.{flat_map}
use Rattle.abl_values.specs.Rows.{number_at_head, number_bytes}
use Rattle.row_fragments.specs.Fragments.{content_in}
use Rattle.row_fragments.proofs.Encoded.{content_read}
use Rattle.sequence_slots.specs.Values.{HoldValues, bytes_of, contents_from, part, slot_bytes, values_in, values_of}
use Rattle.sequence_slots.proofs.Laid.{length_bytes}

-- ---- values in bytes

pub values_more : (k : ℕ) (bytes : List ℕ) → values_of (suc k) bytes ≡ values_of k bytes ++ cast_signed w64 (number_at_head 8 (drop (8 * k) bytes)) ∷ []
values_more zero bytes = refl
values_more (suc k) bytes =
    ap (λ (xs : List ℤ). cast_signed w64 (number_at_head 8 bytes) ∷ xs)
    (values_more k (drop 8 bytes)
    ∙ ap (λ (xs : List ℕ). values_of k (drop 8 bytes) ++ cast_signed w64 (number_at_head 8 xs) ∷ []) (drop-drop (8 * k) 8 bytes ∙ ap (λ (n : ℕ). drop n bytes) (omega arith)))

pub length_values : (n : ℕ) (bytes : List ℕ) → length (values_of n bytes) ≡ n
length_values zero bytes = refl
length_values (suc n) bytes = ap suc (length_values n (drop 8 bytes))

-- ---- contents of slots

-- the contents of slots in memory are those of the slots from one on
pub from_taken : (taken : List (List ℕ)) (slots : ℕ → List ℕ) (at : ℕ) → ((i : ℕ) → i < length taken → get_or taken i [] ≡ slots (at + i)) → flat_map content_in taken ≡ contents_from (length taken) slots at
from_taken [] slots at each = refl
from_taken (one ∷ others) slots at each =
    let first : content_in one ≡ content_in (slots at) = ap content_in (each 0 (omega arith) ∙ ap slots (omega arith)) in
    let later : flat_map content_in others ≡ contents_from (length others) slots (suc at) = from_taken others slots (suc at) (λ i lt. each (suc i) (omega (arith, lt)) ∙ ap slots (omega arith)) in
    ap (λ (xs : List ℕ). xs ++ flat_map content_in others) first ∙ ap (λ (xs : List ℕ). content_in (slots at) ++ xs) later

content_none : content_in (slot_bytes []) ≡ []
unfolding number_at_head
content_none = refl

content_of : (values : List ℤ) → length values ≤ 30 → content_in (slot_bytes values) ≡ bytes_of values
content_of [] few = content_none
content_of (value ∷ values) few = content_read 4 0 0 0 (bytes_of (value ∷ values)) (omega (arith, length_bytes (value ∷ values)))

bytes_both : (xs ys : List ℤ) → bytes_of xs ++ bytes_of ys ≡ bytes_of (xs ++ ys)
bytes_both xs ys = sym (flat_map-append (λ (value : ℤ). number_bytes 8 (cast_unsigned w64 value)) xs ys)

later_part : (i : ℕ) (values : List ℤ) → part (suc i) values ≡ part i (drop 30 values)
later_part i values = ap (take 30) (ap (λ (n : ℕ). drop n values) (omega arith) ∙ sym (drop-drop (30 * i) 30 values))

contents_are : (n : ℕ) (slots : ℕ → List ℕ) (at : ℕ) (values : List ℤ) → ((i : ℕ) → i < n → slots (at + i) ≡ slot_bytes (part i values)) → contents_from n slots at ≡ bytes_of (take (30 * n) values)
contents_are zero slots at values each = refl
contents_are (suc n) slots at values each =
    let here : slots at ≡ slot_bytes (take 30 values) = ap slots (omega arith) ∙ each 0 (omega arith) in
    let first : content_in (slots at) ≡ bytes_of (take 30 values) = ap content_in here ∙ content_of (take 30 values) (omega (arith, length-take 30 values)) in
    let later : contents_from n slots (suc at) ≡ bytes_of (take (30 * n) (drop 30 values)) =
    contents_are n slots (suc at) (drop 30 values) (λ i lt. ap slots (omega arith) ∙ (each (suc i) (omega arith) ∙ ap slot_bytes (later_part i values))) in
    ap (λ (xs : List ℕ). xs ++ contents_from n slots (suc at)) first
    ∙ (ap (λ (xs : List ℕ). bytes_of (take 30 values) ++ xs) later
    ∙ (bytes_both (take 30 values) (take (30 * n) (drop 30 values))
    ∙ ap bytes_of (sym (take-add 30 (30 * n) values) ∙ ap (λ (m : ℕ). take m values) (omega arith))))

-- nine slots that hold values have eight bytes of content for each
pub held_length : (slots : ℕ → List ℕ) (values : List ℤ) → HoldValues slots values → length (contents_from 9 slots 5000) ≡ 8 * length values
held_length slots values h = ap (length {A = ℕ}) (contents_are 9 slots 5000 values h.each ∙ ap bytes_of (take_all 270 values h.few)) ∙ length_bytes values

-- ---- nine slots in memory

module _ (taken : List (List ℕ)) (slots : ℕ → List ℕ) (nine : length taken ≡ 9) (each : (i : ℕ) → i < 9 → get_or taken i [] ≡ slots (5000 + i)) where
  pub contents_taken : flat_map content_in taken ≡ contents_from 9 slots 5000
  contents_taken = from_taken taken slots 5000 (λ i lt. each i (omega (arith, lt, nine))) ∙ ap (λ (n : ℕ). contents_from n slots 5000) nine

  pub values_taken : (count : ℕ) → values_of count (flat_map content_in taken) ≡ values_in count slots
  unfolding values_in
  values_taken count = ap (values_of count) contents_taken

pub length_values_in : (count : ℕ) (slots : ℕ → List ℕ) → length (values_in count slots) ≡ count
unfolding values_in
length_values_in count slots = length_values count (contents_from 9 slots 5000)

-- ---- the values of one slot

pub part_is : (number from : ℕ) (values : List ℤ) → from ≡ min (length values) (30 * number) → take (min (length (drop from values)) 30) (drop from values) ≡ part number values
part_is number from values e = ⊎_elim
    (λ (lt : 30 * number < length values). let is : from ≡ 30 * number = omega (arith, e, lt) in shorter (drop from values) ∙ ap (λ (n : ℕ). take 30 (drop n values)) is)
    (λ (le : length values ≤ 30 * number).
    let is : from ≡ length values = omega (arith, e, le) in
    let none : drop from values ≡ [] = drop_all from values (omega (arith, is)) in
    let none_there : drop (30 * number) values ≡ [] = drop_all (30 * number) values le in
    shorter (drop from values) ∙ ap (take 30) (none ∙ sym none_there))
    (cases_lt (30 * number) (length values))
  where
    shorter : (xs : List ℤ) → take (min (length xs) 30) xs ≡ take 30 xs
    shorter xs = ⊎_elim
        (λ (lt : length xs < 30). let is : min (length xs) 30 ≡ length xs = omega (arith, lt) in ap (λ (n : ℕ). take n xs) is ∙ (take_all (length xs) xs (omega arith) ∙ sym (take_all 30 xs (omega (arith, lt)))))
        (λ (le : 30 ≤ length xs). let is : min (length xs) 30 ≡ 30 = omega (arith, le) in ap (λ (n : ℕ). take n xs) is)
        (cases_lt (length xs) 30)
