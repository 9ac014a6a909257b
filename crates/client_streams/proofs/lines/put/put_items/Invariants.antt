use Rattle.std.proofs.Common.{◌≡◌, Bool, drop}
use Rattle.std.specs.Prelude.{map}
use Rattle.bound_tree.specs.Bound.{item_of}
use Rattle.block_meaning.specs.Program.{Program}
use Rattle.block_meaning.specs.State.{State}
use Rattle.block_meaning.specs.Values.{put_text, before_text}
use Rattle.client_streams.specs.lines.Reads.{IsReadIn}
use Rattle.client_streams.proofs.lines.put.put_items.Given as goal

-- the text so far, before that of the items to come
abbrev pub invariant-loop-item : goal.invariant-loop-item
invariant-loop-item g l =
    (p : Program) (retry : Bool) (s : State) → IsReadIn p retry s (g.S.Surroundings.env l.surroundings) →
    put_text p (map item_of l.items) retry s ≡ before_text l.text.items (put_text p (map item_of (drop l.item-index l.items)) retry s)
