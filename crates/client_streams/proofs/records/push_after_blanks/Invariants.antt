use Rattle.std.proofs.Common.{◌≡◌, ◌++◌, ◌∷◌, take}
use Rattle.std.specs.Prelude.{flat_map}
use Rattle.abl_values.specs.Texts.{export_text}
use Rattle.client_streams.proofs.records.push_after_blanks.Given as goal

abbrev pub invariant-loop-value : goal.invariant-loop-value
invariant-loop-value l = l.text.items ≡ l.fn.text.items ++ flat_map (λ v. 32 ∷ export_text v) (take l.value-index l.values)
