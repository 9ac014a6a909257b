use Rattle.std.proofs.Common.{◌≡◌, ◌++◌, drop, map}
use Rattle.bound_tree.specs.Bound.{bracket_value_of}
use Rattle.syntax_tree.specs.Typed.{expression_of}
use Rattle.bind_names.specs.Views.{buffer_of, scene_of}
use Rattle.bind_blocks.specs.Records.{and_parts, bracket_of}
use Rattle.bind_blocks.proofs.brackets.values_of.Given as goal

abbrev pub invariant-loop-component : goal.invariant-loop-component
invariant-loop-component l =
    map bracket_value_of l.bound.items ++ bracket_of (scene_of l.scene) (buffer_of l.buffer) l.fields (and_parts (expression_of l.e)) (drop l.component-index l.components)
    ≡ bracket_of (scene_of l.scene) (buffer_of l.buffer) l.fields (and_parts (expression_of l.e)) l.components
