use Rattle.std.proofs.Common.{◌≡◌, take}
use Rattle.client_memory.proofs.records.copy_records.Given as goal

abbrev pub invariant-loop-contents : goal.invariant-loop-contents
invariant-loop-contents l = l.copy.items ≡ take l.contents-index l.stored
