-- The command `check`: which sources are listed, which one is refused, and the text that is written.
use Rattle.std.specs.Prelude.{◌≡◌, ◌+◌, ℕ, List, [], ◌∷◌, ◌++◌}
use Rattle.abl_values.specs.Schema.{SchemaData}
use Rattle.bound_tree.specs.Tree.{Source as Tree}
use Rattle.source_reader.specs.listing.Listing.{listing}
use Rattle.preprocessor.specs.declared.texts.NamedText.{NamedText}
use Rattle.run_report.specs.declared.refusal.Refusal.{Refusal}
use Rattle.run_report.specs.Report.{part_of}
use Rattle.source_files.specs.Compiled.{BreaksSource, IsSourceTree}
use Rattle.source_files.specs.Expansions.{own_line}

-- The source with these texts breaks no rule over the schema, and these are the lines of its blocks, in the order of the expansion. Each has the line
-- that the word of the block has in its own text
pub record IsListing (schema : SchemaData) (texts : List NamedText) (lines : List ℕ) : Type 0 where
  pub tree : Tree
  pub denotes : IsSourceTree schema texts tree
  pub lines_are : lines ≡ listing (own_line texts) tree

-- each of these sources likewise
abbrev pub HaveListings : SchemaData → List (List NamedText) → List (List ℕ) → Type 0
HaveListings schema [] [] = Unit {0}
HaveListings schema [] (lines ∷ more) = ⊥
HaveListings schema (texts ∷ sources) [] = ⊥
HaveListings schema (texts ∷ sources) (lines ∷ more) = IsListing schema texts lines × HaveListings schema sources more

-- why the first of these sources that is refused is; they have the numbers from this one on
pub data OneBreaks (schema : SchemaData) : ℕ → List (List NamedText) → Refusal → Type 0 where
  this_breaks : {number : ℕ} {texts : List NamedText} {sources : List (List NamedText)} {refusal : Refusal} → BreaksSource schema number texts refusal → OneBreaks schema number (texts ∷ sources) refusal
  later_breaks : {number : ℕ} {texts : List NamedText} {lines : List ℕ} {sources : List (List NamedText)} {refusal : Refusal} → IsListing schema texts lines → OneBreaks schema (number + 1) sources refusal → OneBreaks schema number (texts ∷ sources) refusal

-- THE TEXT OF A CHECK: for each source its heading and the lines of its blocks
abbrev pub check_text : List (List ℕ) → List (List ℕ) → List ℕ
check_text [] listings = []
check_text (name ∷ names) [] = []
check_text (name ∷ names) (lines ∷ listings) = part_of name lines ++ check_text names listings
