-- What holds of what is written under masks.
use Rattle.std.specs.Prelude.{◌≡◌, IsTrue, ℕ, List, length}
use Rattle.abl_base.specs.declared.value.Value.{Value}
use Rattle.value_masks.specs.Put.{is_mask_for, put, width_of}

-- what is written of a value under a mask that is one for it has the mask's width
abbrev pub TextsHaveTheMasksWidth : Type 0
TextsHaveTheMasksWidth =
    (mask : List ℕ) (v : Value) → IsTrue (is_mask_for mask v) → length (put mask v) ≡ width_of mask
