-- Laws of the definitions.
use Rattle.std.specs.Prelude.{◌≡◌, ◌≤◌, ◌+◌, ℕ, List, [], ◌∷◌, ◌++◌, length, map, Option, Some}
use Rattle.abl_base.specs.declared.value.Value.{Value}
use Rattle.abl_base.specs.declared.value.Kind.{Kind}
use Rattle.abl_values.specs.Fit.{IsOfKind}
use Rattle.abl_base.specs.text_forms.TextForms.{Imported, Elements}
use Rattle.value_masks.specs.Export.{export}
use Rattle.value_formats.specs.Imports.{IsImport, line_at}

-- what the function reads of a line is what the line is by its elements
abbrev pub LinesAreAsImported : Type 0
LinesAreAsImported =
    (input : List ℕ) (from : ℕ) (kinds : List (Option Kind)) → from ≤ length input
    → IsImport input from kinds (line_at input from kinds)

-- a line by its elements is read in one way only
abbrev pub LinesHaveOneReading : Type 0
LinesHaveOneReading =
    (input : List ℕ) (from : ℕ) (kinds : List (Option Kind)) (a b : Imported) → from ≤ length input
    → IsImport input from kinds a → IsImport input from kinds b → a ≡ b

-- each value is unknown, or of the kind at its place and in its range
abbrev pub AreOfKinds : List Kind → List Value → Type 0
AreOfKinds [] [] = Unit {0}
AreOfKinds [] (v ∷ vs) = ⊥
AreOfKinds (k ∷ ks) [] = ⊥
AreOfKinds (k ∷ ks) (v ∷ vs) = IsOfKind k v × AreOfKinds ks vs

-- the line that EXPORT writes of a row gives the row to targets of its kinds, whatever follows it
abbrev pub RowsAreReadBack : Type 0
RowsAreReadBack =
    (row : List Value) (kinds : List Kind) (more : List ℕ) → AreOfKinds kinds row
    → line_at (export row ++ more) 0 (map (λ k. Some k) kinds) ≡ Elements (map (λ v. Some v) row) (length (export row))

-- and so it does wherever the line stands in an input
abbrev pub RowsAreReadBackAnywhere : Type 0
RowsAreReadBackAnywhere =
    (front : List ℕ) (row : List Value) (kinds : List Kind) (more : List ℕ) → AreOfKinds kinds row
    → line_at (front ++ (export row ++ more)) (length front) (map (λ k. Some k) kinds)
    ≡ Elements (map (λ v. Some v) row) (length front + length (export row))
