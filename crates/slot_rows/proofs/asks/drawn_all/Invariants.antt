use Rattle.std.proofs.Common.{◌≡◌, ◌≤◌, ◌*◌}
use Rattle.database_meaning.specs.Counts.{sum_below}
use Rattle.slot_rows.specs.Opens.{open_in}
use Rattle.slot_rows.proofs.asks.drawn_all.Given as goal

abbrev pub invariant-loop-client : goal.invariant-loop-client
invariant-loop-client l = record {
  sum : l.total ≡ sum_below l.client (λ c. (open_in l.opens c).drawn);
  few : l.total ≤ 998625 * l.client;
}
