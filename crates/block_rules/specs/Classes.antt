-- Phrases and options by class and place, as the code asks for them.
use Rattle.std.specs.Prelude.{ℕ, List, map}
use Rattle.syntax_tree.specs.declared.block.Phrase.{Phrase}
use Rattle.syntax_tree.specs.declared.record.RecordOption.{RecordOption}
use Rattle.syntax_tree.specs.Typed.{phrase_of, record_option_of}
use Rattle.block_rules.specs.Options.{Marked, of_phrase, of_option}

abbrev pub mark_of_phrase : Phrase → Marked
mark_of_phrase p = of_phrase (phrase_of p)

abbrev pub mark_of_option : RecordOption → Marked
mark_of_option o = of_option (record_option_of o)

-- the classes of marks
abbrev pub classes : List Marked → List ℕ
classes = map (λ (m : Marked). m.class)
