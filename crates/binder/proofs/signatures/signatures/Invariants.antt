use Rattle.std.proofs.Common.{◌≡◌, ◌++◌, drop, map}
use Rattle.syntax_tree.specs.Typed.{item_of}
use Rattle.binder.specs.Sources.{signatures}
use Rattle.binder.proofs.signatures.signatures.Given as goal

abbrev pub invariant-loop-item : goal.invariant-loop-item
invariant-loop-item l = l.found ++ signatures (map item_of (drop l.item-index l.program.items.items)) ≡ signatures (map item_of l.program.items.items)
