use Rattle.std.proofs.Common.{◌≡◌, drop, map}
use Rattle.block_rules.specs.Classes.{classes}
use Rattle.block_rules.specs.Options.{is_one_of}
use Rattle.block_rules.specs.Classes.{mark_of_phrase}
use Rattle.block_rules.proofs.options.has_phrase.Given as goal

abbrev pub invariant-loop-phrase : goal.invariant-loop-phrase
invariant-loop-phrase l = is_one_of (classes (map mark_of_phrase l.phrases)) l.class ≡ is_one_of (classes (map mark_of_phrase (drop l.phrase-index l.phrases))) l.class
