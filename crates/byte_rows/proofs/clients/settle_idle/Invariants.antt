use Rattle.std.proofs.Common.{◌≡◌, ◌≢◌, ℕ, ◌+◌, ◌<◌, false}
use Rattle.std.specs.BinaryHeap.{heap_items}
use Rattle.free_slots.specs.Free.{free_in}
use Rattle.row_fragments.specs.Fragments.{ends}
use Rattle.byte_rows.specs.Clients.{client_in}
use Rattle.byte_rows.specs.Noted.{AreSameClients, IsNoted}
use Rattle.byte_rows.specs.Places.{owner_in}
use Rattle.byte_rows.specs.Still.{Still}
use Rattle.byte_rows.proofs.clients.settle_idle.Given as goal

abbrev pub invariant-loop-client : goal.invariant-loop-client
invariant-loop-client g l = record {
  still : Still (g.S.Slots.state l.fn.slots) (g.S.Slots.state l.slots) (g.S.Slots.stop l.fn.slots) (g.S.Slots.stop l.slots);
  noted : IsNoted (g.S.Slots.state l.slots) l.places (free_in (heap_items l.free.back) l.free.end) l.clients;
  same : AreSameClients l.fn.clients l.clients;
  settled : (c k : ℕ) → c < l.client → (client_in l.clients c).begun ≡ false → ends k ≡ false → owner_in l.places k ≢ c + 1;
}
