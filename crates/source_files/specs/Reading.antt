-- A source of which some texts were read: it is complete, or needs a further file.
use Rattle.std.specs.Prelude.{◌≡◌, ◌≤◌, ◌++◌, ℕ, List, [], ◌∷◌, All, length}
use Rattle.host_io.specs.Files.{FileState}
use Rattle.preprocessor.specs.declared.texts.NamedText.{NamedText}
use Rattle.preprocessor.specs.declared.texts.Outcome.TheVariants.{Needs}
use Rattle.preprocessor.specs.Expansion.{expansion}
use Rattle.source_files.specs.declared.texts.Progress.{Progress}
use Rattle.source_files.specs.declared.texts.Progress.TheVariants.{Ends, Goes}
use Rattle.source_files.specs.declared.sources.Step.{Step}
use Rattle.source_files.specs.declared.sources.Step.TheVariants.{Ends as AllRead, Goes as OneMore}
use Rattle.source_files.specs.declared.files.TheConstants.{MAX_FILE_BYTES}
use Rattle.source_files.specs.Expansions.{AsksForNone}
use Rattle.source_files.specs.Files.{HasText}

-- no text is longer than a file may be
abbrev pub AreShort : List NamedText → Type 0
AreShort = All (λ (t : NamedText). length t.bytes ≤ MAX_FILE_BYTES)

-- these texts are those of the source and ask for no further file, or they ask for this one
abbrev pub IsProgress : List NamedText → Progress → Type 0
IsProgress texts (Ends source) = (source ≡ texts) × AsksForNone (expansion texts)
IsProgress texts (Goes same name) = (same ≡ texts) × (expansion texts ≡ Needs name)

-- these texts are those of the source and ask for no further file, or the longer ones have that of the file for which they ask too
abbrev pub IsStep : FileState → List NamedText → Step → Type 0
IsStep files texts (AllRead source) = (source ≡ texts) × AsksForNone (expansion texts)
IsStep files texts (OneMore longer) = (t : NamedText) × (longer ≡ texts ++ t ∷ []) × (expansion texts ≡ Needs t.name) × HasText files t.name t.bytes
