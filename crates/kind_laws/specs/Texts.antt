-- The runs of a source text over a schema file.
use Rattle.std.specs.Prelude.{◌≡◌, ℕ, List, None}
use Rattle.schema_lines.specs.Files.{items_of}
use Rattle.schema_reader.specs.Meaning.{schema_of}
use Rattle.schema_reader.specs.Rules.{violation_of}
use Rattle.source_reader.specs.Sources.{IsTreeOf}
use Rattle.kind_laws.specs.bound_kinds.Kinds.{kinds_of_source}
use Rattle.flat_machine.specs.Code.{IsCodeOf}
use Rattle.kind_laws.specs.Reached.{Ground}

-- THE CODE DENOTES THE PROGRAM OF A TEXT over the schema of a file, and neither breaks a rule. The kinds of its variables are those of its
-- definitions
pub record IsOfText (file text : List ℕ) (g : Ground) : Type 0 where
  pub clean : violation_of file ≡ None
  pub schema : g.schema ≡ schema_of (items_of file)
  pub tables : g.program.tables ≡ g.schema.tables
  pub read : IsTreeOf g.schema text g.program.source
  pub kinds : g.kinds ≡ kinds_of_source read.syntax_of
  pub denotes : IsCodeOf g.code g.program g.tree
