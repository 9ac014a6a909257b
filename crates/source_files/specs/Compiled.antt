-- The schema and the codes that texts denote, and which rule the first source that breaks one breaks first.
use Rattle.std.specs.Prelude.{◌≡◌, ◌+◌, ℕ, List, [], ◌∷◌, Some}
use Rattle.abl_base.specs.declared.rule.Rule.{Rule}
use Rattle.abl_base.specs.declared.place.Place.{Place}
use Rattle.abl_values.specs.Schema.{SchemaData}
use Rattle.schema_reader.specs.Rules.{violation_of}
use Rattle.schema_reader.specs.Meaning.{schema_of}
use Rattle.schema_lines.specs.Files.{items_of}
use Rattle.bound_tree.specs.Tree.{Source as Tree}
use Rattle.bound_tree.specs.Bound.{source_of}
use Rattle.bound_tree.specs.declared.procedure.Bound.{Bound}
use Rattle.source_reader.specs.Sources.{BreaksRule, IsTreeOf}
use Rattle.block_code.specs.declared.code.Code.{Code}
use Rattle.block_code.specs.Code.{IsCompiled}
use Rattle.run_report.specs.declared.refusal.Refusal.{Refusal}
use Rattle.run_report.specs.declared.refusal.Refusal.TheVariants.{Schema, Source, NoMemory}
use Rattle.preprocessor.specs.declared.expanded.Origin.{Origin}
use Rattle.preprocessor.specs.declared.texts.NamedText.{NamedText}
use Rattle.preprocessor.specs.declared.texts.Outcome.TheVariants.{Breaks}
use Rattle.preprocessor.specs.Expansion.{expansion}
use Rattle.source_files.specs.declared.files.ClientTexts.{ClientTexts}
use Rattle.source_files.specs.Expansions.{IsExpanded, expanded, file_of, origin_in}

-- why the text of a schema file is refused: the first rule that it breaks, or out of memory
pub data BreaksSchema (text : List ℕ) : Refusal → Type 0 where
  breaks_f : {rule : Rule} {line : ℕ} → violation_of text ≡ Some (record { rule = rule; line = line }) → BreaksSchema text (Schema rule line)
  schema_wants : BreaksSchema text NoMemory

-- the schema that the text of a schema file denotes
abbrev pub schema_in : List ℕ → SchemaData
schema_in text = schema_of (items_of text)

-- THE TREE OF A SOURCE with these texts over the schema: they break no rule E, and their expansion denotes it
pub record IsSourceTree (schema : SchemaData) (texts : List NamedText) (tree : Tree) : Type 0 where
  pub expands : IsExpanded texts
  pub denotes : IsTreeOf schema (expanded texts) tree

-- THE FIRST RULE THAT A SOURCE with these texts breaks over the schema, and where: a rule E, else the first rule L, G, Y, S or U that its
-- expansion breaks, which is where the place of the expansion was taken from
pub data BreaksFirst (schema : SchemaData) (texts : List NamedText) : Rule → Origin → Type 0 where
  in_expanding : {rule : Rule} {text : ℕ} {place : Place} → expansion texts ≡ Breaks rule text place → BreaksFirst schema texts rule (record { text = text; place = place })
  in_expansion : {rule : Rule} {place : Place} → IsExpanded texts → BreaksRule schema (expanded texts) rule place → BreaksFirst schema texts rule (origin_in texts place)

-- why the source of this number is refused over the schema: the first rule that it breaks, or out of memory
pub data BreaksSource (schema : SchemaData) (number : ℕ) (texts : List NamedText) : Refusal → Type 0 where
  breaks_rule : {rule : Rule} (at : Origin) → BreaksFirst schema texts rule at → BreaksSource schema number texts (Source number (file_of texts at.text) rule at.place)
  source_wants : BreaksSource schema number texts NoMemory

-- why the first of these sources that is refused is; they have the numbers from this one on
pub data OneSourceBreaks (schema : SchemaData) : ℕ → List ClientTexts → Refusal → Type 0 where
  this_source : {number : ℕ} {t : ClientTexts} {ts : List ClientTexts} {refusal : Refusal} → BreaksSource schema number t.source refusal → OneSourceBreaks schema number (t ∷ ts) refusal
  later_source : {number : ℕ} {t : ClientTexts} {ts : List ClientTexts} {refusal : Refusal} (tree : Tree) → IsSourceTree schema t.source tree → OneSourceBreaks schema (number + 1) ts refusal → OneSourceBreaks schema number (t ∷ ts) refusal

-- the code is that of the source with these texts over the schema
pub record IsCodeOf (schema : SchemaData) (texts : List NamedText) (code : Code) : Type 0 where
  pub bound : Bound
  pub form : IsSourceTree schema texts (source_of bound)
  pub compiled : IsCompiled code bound

-- the codes are those of these sources
abbrev pub HaveCodes : SchemaData → List ClientTexts → List Code → Type 0
HaveCodes schema [] [] = Unit {0}
HaveCodes schema [] (code ∷ codes) = ⊥
HaveCodes schema (t ∷ ts) [] = ⊥
HaveCodes schema (t ∷ ts) (code ∷ codes) = IsCodeOf schema t.source code × HaveCodes schema ts codes
