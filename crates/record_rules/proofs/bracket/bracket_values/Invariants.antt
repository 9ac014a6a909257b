use Rattle.std.proofs.Common.{◌≡◌, ◌++◌, drop}
use Rattle.std.specs.Prelude.{map, reverse}
use Rattle.bound_tree.specs.Bound.{bracket_value_of}
use Rattle.block_meaning.specs.Reads.{bracket_of}
use Rattle.record_rules.proofs.bracket.bracket_values.Given as goal

-- the values so far, and those of the rest
abbrev pub invariant-loop-part : goal.invariant-loop-part
invariant-loop-part l = l.row.items ++ bracket_of (map bracket_value_of (drop l.part-index l.bracket)) (reverse l.given.items) ≡ bracket_of (map bracket_value_of l.bracket) l.fn.values
