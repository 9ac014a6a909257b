use Rattle.std.proofs.Common.{◌≡◌, drop, map}
use Rattle.bind_names.specs.Judged.{first_of}
use Rattle.syntax_tree.specs.Typed.{item_of}
use Rattle.block_rules.specs.Rules.{program_breaks}
use Rattle.block_rules.proofs.rules.program_breaks.Given as goal

abbrev pub invariant-loop-item : goal.invariant-loop-item
invariant-loop-item l = first_of l.initial.first (program_breaks (map item_of l.items)) ≡ first_of l.first (program_breaks (map item_of (drop l.item-index l.items)))
