use Rattle.std.proofs.Common.{◌≡◌, length, drop}
use Rattle.parse_tree.specs.Keywords.{spells}
use Rattle.parse_tree.proofs.keyword.spells.Given as goal

abbrev pub invariant-loop-i : goal.invariant-loop-i
invariant-loop-i l = record { same_length : length l.capitals ≡ length l.word; so_far : spells l.capitals l.word ≡ spells (drop l.i l.capitals) (drop l.i l.word) }
