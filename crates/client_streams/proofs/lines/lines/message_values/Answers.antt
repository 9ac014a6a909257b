use Rattle.std.proofs.Common.{sym, ap, ◌∙◌, ℕ, List}
use Rattle.std.specs.Prelude.{map}
use Rattle.abl_values.specs.Texts.{plain_text}
use Rattle.block_meaning.specs.Values.{EvaluatedAll, IsText, text_line, message_line}
use Rattle.client_streams.specs.declared.lines.read.Read.{Read}
use Rattle.client_streams.specs.lines.Reads.{value_read}
use Rattle.client_streams.specs.lines.Writes.{line_text}
use Rattle.client_streams.proofs.lines.lines.message_values.Goals as goal

pub returns : goal.returns
returns g c p retry s h =
    ap (λ (r : EvaluatedAll). line_text message_line r) (c.in_ok-values.ensures p retry s h)
    ∙ ap (λ (t : List ℕ). IsText t) (sym (c.in_ok-line.ensures ∙ ap (λ (rs : List Read). text_line plain_text (map value_read rs)) c.deref.ensures.value))
