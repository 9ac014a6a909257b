-- Which blocks have the undo property.
use Rattle.std.specs.Prelude.{Bool, true, false, not, ◌||◌}
use Rattle.std.specs.Option.{is_some}
use Rattle.bound_tree.specs.declared.block.BlockKind.{BlockKind}
use Rattle.bound_tree.specs.declared.block.BlockKind.TheVariants as kind
use Rattle.bound_tree.specs.Tree.{Header}

-- DO, which has the undo property only by its phrases
abbrev pub is_do : BlockKind → Bool
is_do kind.Do = true
is_do k = false

-- THE UNDO PROPERTY: procedure, FOR, REPEAT, and DO with TRANSACTION, ON ERROR or ON ENDKEY
abbrev pub has_undo : Header → Bool
has_undo h = not (is_do h.kind) || (h.transaction || (is_some h.on_error || is_some h.on_endkey))
