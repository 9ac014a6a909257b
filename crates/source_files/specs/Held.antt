-- What a source that was read holds besides its texts.
use Rattle.std.specs.Prelude.{◌≡◌, List, Result, Ok, Err}
use Rattle.preprocessor.specs.declared.expanded.Expansion.{Expansion}
use Rattle.preprocessor.specs.declared.answer.PreFault.{PreFault}
use Rattle.preprocessor.specs.declared.answer.PreFault.TheVariants.{Broken as BrokenIn}
use Rattle.preprocessor.specs.declared.texts.NamedText.{NamedText}
use Rattle.preprocessor.specs.Answers.{IsAnswer}
use Rattle.preprocessor.specs.Expansion.{expansion}
use Rattle.source_files.specs.declared.texts.Expanded.{Expanded}
use Rattle.source_files.specs.declared.texts.Expanded.TheVariants.{Text, Broken}

-- it as an answer of the preprocessor
abbrev pub answer_of : Expanded → Result Expansion PreFault
answer_of (Text expansion) = Ok expansion
answer_of (Broken rule text place) = Err (BrokenIn rule text place)

-- this is what the texts expand to
abbrev pub HasExpanded : List NamedText → Expanded → Type 0
HasExpanded texts expanded = IsAnswer texts (answer_of expanded) (expansion texts)
