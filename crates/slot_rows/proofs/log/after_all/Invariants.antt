use Rattle.std.proofs.Common.{◌≡◌, ◌≤◌, ◌*◌, take}
use Rattle.slot_rows.specs.Counted.{after_all}
use Rattle.slot_rows.proofs.log.after_all.Given as goal

abbrev pub invariant-loop-change : goal.invariant-loop-change
invariant-loop-change l = record {
  sum : l.total ≡ after_all (take l.change-index l.log);
  small : l.total ≤ 4294967295 * l.change-index;
}
