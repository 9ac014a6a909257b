use Rattle.std.proofs.Common.{◌≡◌, drop, map}
use Rattle.syntax_tree.specs.Typed.{phrase_of}
use Rattle.block_rules.specs.Blocks.{has_while}
use Rattle.block_rules.proofs.around.has_while.Given as goal

abbrev pub invariant-loop-phrase : goal.invariant-loop-phrase
invariant-loop-phrase l = has_while (map phrase_of l.phrases) ≡ has_while (map phrase_of (drop l.phrase-index l.phrases))
