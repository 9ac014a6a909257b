use Rattle.std.proofs.Common.{◌∙◌, ap, ◌-◌, List, ℕ, length, take}
use Rattle.abl_values.specs.Masks.{is_mask_word_byte}
use Rattle.schema_lines.proofs.Runs.{take-run}
use Rattle.schema_lines.proofs.initials.first_word.Goals as goal

pub returns : goal.returns
returns c =
    c.front_of.ensures
    ∙ ap (λ (end : List ℕ). take (length c.args.mask.now - length end) c.args.mask.now) c.after_letters.ensures.rest
    ∙ take-run is_mask_word_byte c.args.mask.now
