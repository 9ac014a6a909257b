use Rattle.std.proofs.Common.{◌≡◌}
use Rattle.bound_tree.specs.Bound.{maybe_expr_of}
use Rattle.syntax_tree.specs.Syntax.{Expression}
use Rattle.bind_names.specs.Views.{buffer_of, scene_of}
use Rattle.bind_blocks.specs.Records.{and_parts, first_said}
use Rattle.bind_blocks.specs.Views.{lone_name, name_in}
use Rattle.bind_blocks.proofs.Anding.{LinksSay}
use Rattle.bind_blocks.proofs.brackets.+parts.Given as goal

abbrev pub invariant-said_in_links-loop-link : goal.invariant-said_in_links-loop-link
invariant-said_in_links-loop-link l = (a : Expression) → name_in l.fn.left ≡ lone_name a → maybe_expr_of l.fn.begun ≡ first_said (scene_of l.scene) (buffer_of l.buffer) l.field (and_parts a) →
    LinksSay (scene_of l.scene) (buffer_of l.buffer) l.field a l.rest l.link-index (name_in l.left) (maybe_expr_of l.found)
