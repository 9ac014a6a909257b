use Rattle.std.proofs.Common.{◌≡◌, ℕ, length}
use Rattle.slot_rows.specs.Opens.{no_open, open_in}
use Rattle.slot_rows.proofs.opened.idle_opens.Given as goal

abbrev pub invariant-loop : goal.invariant-loop
invariant-loop l = record {
  sixteen : length l.opens.items ≡ l.counter;
  idle : (c : ℕ) → open_in l.opens.items c ≡ no_open;
}
