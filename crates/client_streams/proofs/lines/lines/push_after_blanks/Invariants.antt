use Rattle.std.proofs.Common.{◌≡◌, ◌++◌, ◌∷◌, take}
use Rattle.std.specs.Prelude.{flat_map}
use Rattle.client_streams.specs.lines.Reads.{value_read}
use Rattle.client_streams.specs.lines.Writes.{text_in}
use Rattle.client_streams.proofs.lines.lines.push_after_blanks.Given as goal

abbrev pub invariant-loop-value : goal.invariant-loop-value
invariant-loop-value l = l.text.items ≡ l.fn.text.items ++ flat_map (λ v. 32 ∷ text_in l.form (value_read v)) (take l.value-index l.values)
