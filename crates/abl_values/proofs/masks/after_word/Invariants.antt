use Rattle.std.proofs.Common.{◌≡◌, length}
use Rattle.abl_values.specs.Masks.{after_run, is_mask_word_byte}
use Rattle.abl_values.proofs.masks.after_word.Given as goal

abbrev pub invariant-loop-rest : goal.invariant-loop-rest
invariant-loop-rest l = after_run is_mask_word_byte l.rest ≡ after_run is_mask_word_byte l.bytes

abbrev pub decreases-loop-rest : goal.decreases-loop-rest
decreases-loop-rest l = length l.rest
