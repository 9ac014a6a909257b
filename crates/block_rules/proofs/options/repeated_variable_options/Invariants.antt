use Rattle.std.proofs.Common.{◌≡◌, drop, map, take}
use Rattle.block_rules.specs.Classes.{classes}
use Rattle.block_rules.specs.Options.{repeats, repeats_after}
use Rattle.block_rules.specs.Options.{of_variable_option}
use Rattle.block_rules.proofs.options.repeated_variable_options.Given as goal

abbrev pub invariant-loop-i : goal.invariant-loop-i
invariant-loop-i l = record {
  same : l.first ≡ l.initial.first;
  rest : repeats (map of_variable_option l.options) ≡ repeats_after (classes (map of_variable_option (take l.i l.options))) (map of_variable_option (drop l.i l.options));
}
