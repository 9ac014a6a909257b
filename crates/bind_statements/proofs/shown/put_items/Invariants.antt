use Rattle.std.proofs.Common.{drop, map}
use Rattle.syntax_tree.specs.Typed.{put_item_of}
use Rattle.bound_tree.specs.Bound.{item_of}
use Rattle.bind_names.specs.Views.{scene_of}
use Rattle.bind_statements.specs.Shown.{put_item}
use Rattle.bind_statements.proofs.Lists.{ListContinues}
use Rattle.bind_statements.proofs.shown.put_items.Given as goal

abbrev pub invariant-loop-one : goal.invariant-loop-one
invariant-loop-one l = ListContinues (put_item (scene_of l.scene) l.plain) (map put_item_of l.all) (map put_item_of (drop l.one-index l.all)) (map item_of l.bound.items) l.notes l.fn.notes
