use Rattle.std.proofs.Common.{◌≡◌, drop, map, take}
use Rattle.block_rules.specs.Classes.{classes}
use Rattle.block_rules.specs.Options.{repeats, repeats_after}
use Rattle.block_rules.specs.Classes.{mark_of_option}
use Rattle.block_rules.proofs.options.repeated_options.Given as goal

abbrev pub invariant-loop-i : goal.invariant-loop-i
invariant-loop-i l = record {
  same : l.first ≡ l.initial.first;
  rest : repeats (map mark_of_option l.options) ≡ repeats_after (classes (map mark_of_option (take l.i l.options))) (map mark_of_option (drop l.i l.options));
}
