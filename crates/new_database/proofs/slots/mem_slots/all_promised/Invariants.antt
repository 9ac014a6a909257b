use Rattle.std.proofs.Common.{◌≡◌, ◌≤◌, ◌*◌, take}
use Rattle.new_database.specs.slots.Promised.{promised}
use Rattle.new_database.proofs.slots.mem_slots.all_promised.Given as goal

abbrev pub invariant-loop-client : goal.invariant-loop-client
invariant-loop-client l = record {
  sum : l.total ≡ promised (take l.client-index l.clients);
  small : l.total ≤ 8000 * l.client-index;
}
