-- Works of source texts over the schema of a file.
use Rattle.std.specs.Prelude.{◌≡◌, ℕ, List, [], ◌∷◌, None}
use Rattle.schema_reader.specs.Meaning.{schema_of}
use Rattle.schema_reader.specs.Rules.{violation_of}
use Rattle.source_reader.specs.Sources.{IsTreeOf}
use Rattle.abl_values.specs.Schema.{SchemaData}
use Rattle.schema_lines.specs.Files.{items_of}
use Rattle.client_threads.specs.served.Works.{Work}

-- the schema is that of this file, which breaks no rule
pub record IsSchemaOfFile (file : List ℕ) (schema : SchemaData) : Type 0 where
  pub clean : violation_of file ≡ None
  pub is : schema ≡ schema_of (items_of file)

-- these works are of these source texts over the schema. None of the texts breaks a rule
abbrev pub AreOfTexts : SchemaData → List (List ℕ) → List Work → Type 0
AreOfTexts schema [] [] = Unit {0}
AreOfTexts schema (text ∷ texts) (w ∷ ws) = (IsTreeOf schema text w.tree × (w.tables ≡ schema.tables)) × AreOfTexts schema texts ws
AreOfTexts schema texts works = ⊥
