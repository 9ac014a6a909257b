-- What PUT and STRING write of a value under any mask.
use Rattle.std.specs.Prelude.{ℕ, List, length, if◌then◌else◌}
use Rattle.abl_base.specs.declared.value.Value.{Value}
use Rattle.value_masks.specs.Put.{is_mask_for, put, question_marks}

-- What is written of a value under a mask. A mask that is none for the value is one question mark a byte, as a mask without room for a
-- number is. A binder refuses such a mask, so no program writes this
unfoldable pub masked : List ℕ → Value → List ℕ
masked mask v = if is_mask_for mask v then put mask v else question_marks (length mask)
