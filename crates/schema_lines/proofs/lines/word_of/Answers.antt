use Rattle.std.proofs.Common.{◌∙◌, ap, ◌-◌, List, ℕ, length, take}
use Rattle.schema_lines.specs.Lines.{is_word_byte}
use Rattle.schema_lines.proofs.Runs.{take-run}
use Rattle.schema_lines.proofs.lines.word_of.Goals as goal

pub returns : goal.returns
returns c =
    c.front_of.ensures
    ∙ ap (λ (end : List ℕ). take (length c.args.line.now - length end) c.args.line.now) c.after_word_bytes.ensures.rest
    ∙ take-run is_word_byte c.args.line.now
