use Rattle.std.proofs.Common.{◌≡◌, drop, map}
use Rattle.syntax_tree.specs.Typed.{item_of}
use Rattle.buffer_scope.specs.Blocks.{through_items}
use Rattle.buffer_scope.specs.Views.{all_of}
use Rattle.buffer_scope.proofs.blocks.through_items.Given as goal

abbrev pub invariant-loop-item : goal.invariant-loop-item
invariant-loop-item l = through_items (all_of l.initial.blocks.items) (map item_of l.items) ≡ through_items (all_of l.blocks.items) (map item_of (drop l.item-index l.items))
