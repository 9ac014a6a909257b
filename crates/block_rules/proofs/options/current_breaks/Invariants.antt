use Rattle.std.proofs.Common.{◌≡◌, drop, map}
use Rattle.bind_names.specs.Judged.{first_of}
use Rattle.syntax_tree.specs.Typed.{record_option_of}
use Rattle.block_rules.specs.Rules.{current_breaks}
use Rattle.block_rules.proofs.options.current_breaks.Given as goal

abbrev pub invariant-loop-option : goal.invariant-loop-option
invariant-loop-option l = first_of l.initial.first (current_breaks (map record_option_of l.options)) ≡ first_of l.first (current_breaks (map record_option_of (drop l.option-index l.options)))
