use Rattle.std.proofs.Common.{◌≡◌, drop, map}
use Rattle.block_rules.specs.Classes.{classes}
use Rattle.block_rules.specs.Options.{is_one_of}
use Rattle.block_rules.specs.Classes.{mark_of_option}
use Rattle.block_rules.proofs.options.has_option.Given as goal

abbrev pub invariant-loop-option : goal.invariant-loop-option
invariant-loop-option l = is_one_of (classes (map mark_of_option l.options)) l.class ≡ is_one_of (classes (map mark_of_option (drop l.option-index l.options))) l.class
