-- What is written under a mask has the mask's width.
use Rattle.std.proofs.Common.{◌≡◌, ℕ, ◌≤◌, ◌-◌, true, false, List, [], ◌∷◌, length, inl, inr, sym, ap, subst, ◌∙◌, arith}
use Rattle.std.specs.Prelude.{codes}
use Rattle.std.proofs.lemmas.List.{length-append}
use Rattle.std.proofs.lemmas.Bool.{cases_Bool, cond-true, cond-false}
use Rattle.abl_base.specs.declared.value.Value.TheVariants.{Text, Int, Int64, Dec, Logical, Date, Unknown}
use Rattle.abl_values.specs.Dates.{CivilDate, date_of_day}
use Rattle.abl_values.specs.Masks.{is_date_mask, is_number_mask, mask_is_for}
use Rattle.abl_values.specs.Order.{scaled}
use Rattle.value_masks.specs.Put.{date_under, on_the_left, on_the_right, put, text_width, unknown_under, width_of, word_for, word_width}
use Rattle.value_masks.specs.Laws.{TextsHaveTheMasksWidth}
use Rattle.value_masks.proofs.MaskKinds.{date_mask_is, number_is_some, width_of_number, width_of_text, width_of_word}
use Rattle.value_masks.proofs.Widths.{length_last_digits, length_number_under, length_on_the_left, length_on_the_right}

length_date_under : (mask : List ℕ) (d : CivilDate) → 6 ≤ length mask → length (date_under mask d) ≡ length mask
length_date_under mask d h =
    let month = length_last_digits 2 d.month in
    let day = length_last_digits 2 d.day in
    let year = length_last_digits (length mask - 6) d.year in
    simp length-append (omega arith)

date_width : (mask : List ℕ) (d : CivilDate) → is_date_mask mask ≡ true → length (date_under mask d) ≡ width_of mask
date_width mask d h = elim (date_mask_is mask h) [
  | inl e ↦ subst (λ (m : List ℕ). length (date_under m d) ≡ width_of m) (sym e) (length_date_under (codes "99/99/99") d (omega arith))
  | inr e ↦ subst (λ (m : List ℕ). length (date_under m d) ≡ width_of m) (sym e) (length_date_under (codes "99/99/9999") d (omega arith))
]

unknown_width : (mask : List ℕ) → length (unknown_under mask) ≡ width_of mask
unknown_width mask = elim (cases_Bool (is_number_mask true mask)) [
  | inl e ↦
      let some = number_is_some true mask e in
      let width = width_of_number true mask e in
      let room : 1 ≤ width_of mask = omega arith in
      ap length (cond-true (is_number_mask true mask) (on_the_right (width_of mask) (63 ∷ [])) (on_the_left (width_of mask) (63 ∷ [])) e)
      ∙ length_on_the_right (width_of mask) (63 ∷ []) room
  | inr e ↦
      ap length (cond-false (is_number_mask true mask) (on_the_right (width_of mask) (63 ∷ [])) (on_the_left (width_of mask) (63 ∷ [])) e)
      ∙ length_on_the_left (width_of mask) (63 ∷ [])
]

pub length_put : TextsHaveTheMasksWidth
unfolding put mask_is_for
length_put mask (Text t) h = length_on_the_left (text_width mask) t ∙ sym (width_of_text mask h)
length_put mask (Int n) h = length_number_under mask (scaled n) ∙ sym (width_of_number false mask h)
length_put mask (Int64 n) h = length_number_under mask (scaled n) ∙ sym (width_of_number false mask h)
length_put mask (Dec n) h = length_number_under mask n ∙ sym (width_of_number true mask h)
length_put mask (Logical b) h = length_on_the_left (word_width mask) (word_for mask b) ∙ sym (width_of_word mask h)
length_put mask (Date d) h = date_width mask (date_of_day d) h
length_put mask Unknown h = unknown_width mask
