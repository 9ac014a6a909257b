-- What EXPORT writes.
use Rattle.std.specs.Prelude.{ℕ, List, [], ◌∷◌, ◌++◌}
use Rattle.std.specs.List.{join_by}
use Rattle.abl_base.specs.declared.value.Value.{Value}
use Rattle.abl_values.specs.Texts.{export_text}

-- the values in order with one blank between, and a line feed
abbrev pub export : List Value → List ℕ
export row = join_by export_text (32 ∷ []) row ++ 10 ∷ []
