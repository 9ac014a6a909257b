use Rattle.std.proofs.Common.{◌≡◌, drop, map, take}
use Rattle.block_rules.specs.Classes.{classes}
use Rattle.block_rules.specs.Options.{repeats, repeats_after}
use Rattle.block_rules.specs.Classes.{mark_of_phrase}
use Rattle.block_rules.proofs.options.repeated_phrases.Given as goal

abbrev pub invariant-loop-i : goal.invariant-loop-i
invariant-loop-i l = record {
  same : l.first ≡ l.initial.first;
  rest : repeats (map mark_of_phrase l.phrases) ≡ repeats_after (classes (map mark_of_phrase (take l.i l.phrases))) (map mark_of_phrase (drop l.i l.phrases));
}
