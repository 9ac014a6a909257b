use Rattle.std.proofs.Common.{◌≡◌, ◌≤◌, ◌*◌, take}
use Rattle.slot_rows.specs.Counted.{before_all}
use Rattle.slot_rows.proofs.log.before_all.Given as goal

abbrev pub invariant-loop-change : goal.invariant-loop-change
invariant-loop-change l = record {
  sum : l.total ≡ before_all (take l.change-index l.log);
  small : l.total ≤ 4294967295 * l.change-index;
}
