use Rattle.std.proofs.Common.{◌≡◌, drop, map}
use Rattle.syntax_tree.specs.Typed.{phrase_of}
use Rattle.block_rules.specs.Blocks.{has_undo_phrase}
use Rattle.block_rules.proofs.around.has_undo_phrase.Given as goal

abbrev pub invariant-loop-phrase : goal.invariant-loop-phrase
invariant-loop-phrase l = has_undo_phrase (map phrase_of l.phrases) ≡ has_undo_phrase (map phrase_of (drop l.phrase-index l.phrases))
