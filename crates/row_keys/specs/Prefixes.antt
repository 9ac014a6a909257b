-- The leading values that a search asks for, as the first bytes of a key.
use Rattle.std.specs.Prelude.{ℕ, List, [], ◌∷◌, ◌++◌, Option, Some, None}
use Rattle.abl_base.specs.declared.value.Value.{Value}
use Rattle.abl_base.specs.declared.value.Kind.{Kind}
use Rattle.abl_values.specs.declared.schema.KeyPart.{KeyPart}
use Rattle.abl_values.specs.Fit.{IsOfField}
use Rattle.abl_values.specs.Keys.{component_bytes}
use Rattle.abl_values.specs.Schema.{SchemaData}
use Rattle.database_meaning.specs.Setting.{kinds_of, parts_of}
use Rattle.database_meaning.specs.Search.{kind_at}

-- there are no more values than components, and each is one that the component's field holds
abbrev pub FitsParts : List (Option Kind) → List KeyPart → List Value → Type 0
FitsParts kinds parts [] = Unit {0}
FitsParts kinds [] (p ∷ ps) = ⊥
FitsParts kinds (part ∷ parts) (p ∷ ps) = IsOfField (kind_at kinds part.field) p × FitsParts kinds parts ps

-- the bytes of the values as leading components
abbrev pub leading_bytes : List KeyPart → List Value → List ℕ
leading_bytes parts [] = []
leading_bytes [] (p ∷ ps) = []
leading_bytes (part ∷ parts) (p ∷ ps) = component_bytes part.descending p ++ leading_bytes parts ps

-- a row may have these leading values; without an index only where there are none
abbrev pub FitsPrefix : SchemaData → ℕ → Option ℕ → List Value → Type 0
FitsPrefix schema table None [] = Unit {0}
FitsPrefix schema table None (p ∷ ps) = ⊥
FitsPrefix schema table (Some index) prefix = FitsParts (kinds_of schema table) (parts_of schema table index) prefix

abbrev pub prefix_bytes : SchemaData → ℕ → Option ℕ → List Value → List ℕ
prefix_bytes schema table None prefix = []
prefix_bytes schema table (Some index) prefix = leading_bytes (parts_of schema table index) prefix
