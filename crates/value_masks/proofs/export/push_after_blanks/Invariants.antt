use Rattle.std.proofs.Common.{◌≡◌, ◌++◌, ◌∷◌, [], take}
use Rattle.std.specs.Prelude.{flat_map}
use Rattle.abl_values.specs.Texts.{export_text}
use Rattle.value_masks.proofs.export.push_after_blanks.Given as goal

abbrev pub invariant-loop-value : goal.invariant-loop-value
invariant-loop-value l = l.line.items ≡ l.fn.line.items ++ flat_map (λ v. (32 ∷ []) ++ export_text v) (take l.value-index l.values)
