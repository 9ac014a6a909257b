use Rattle.std.proofs.Common.{◌≡◌, ◌≤◌, length}
use Rattle.abl_values.specs.Masks.{after_run}
use Rattle.schema_text.specs.Words.{is_word_byte}
use Rattle.schema_text.proofs.words.after_word.Given as goal

abbrev pub invariant-loop-rest : goal.invariant-loop-rest
invariant-loop-rest l = (after_run is_word_byte l.rest ≡ after_run is_word_byte l.text) × (length l.rest ≤ length l.text)

abbrev pub decreases-loop-rest : goal.decreases-loop-rest
decreases-loop-rest l = length l.rest
