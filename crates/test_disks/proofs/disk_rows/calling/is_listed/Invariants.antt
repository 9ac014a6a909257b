use Rattle.std.proofs.Common.{◌≡◌, drop}
use Rattle.open_transactions.specs.Written.{has_written}
use Rattle.test_disks.proofs.disk_rows.calling.is_listed.Given as goal

abbrev pub invariant-loop-listed : goal.invariant-loop-listed
invariant-loop-listed l = has_written l.slots l.slot ≡ has_written (drop l.listed-index l.slots) l.slot
