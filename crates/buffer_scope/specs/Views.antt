-- What the types of the code denote.
use Rattle.std.specs.Prelude.{List, map}
use Rattle.std.specs.Ordering.{nat_cmp}
use Rattle.std.specs.BTreeSet.{contains}
use Rattle.buffer_scope.specs.declared.blocks.Block.{Block}
use Rattle.buffer_scope.specs.declared.own.OwnBlocks.{OwnBlocks}
use Rattle.buffer_scope.specs.declared.buffer.BufferScopes.{BufferScopes}
use Rattle.buffer_scope.specs.Blocks.{Placed}
use Rattle.buffer_scope.specs.Scopes.{Own, Scopes}

abbrev pub block_of : Block → Placed
block_of b = record { keyword = b.keyword; may_scope = b.may_scope; around = b.around.items }

abbrev pub all_of : List Block → List Placed
all_of = map block_of

unfoldable pub own_of : OwnBlocks → Own
own_of o = record { strong = contains nat_cmp o.strong; weak = contains nat_cmp o.weak }

abbrev pub found_of : BufferScopes → Scopes
found_of s = record { own = own_of s.own; free = s.free }
