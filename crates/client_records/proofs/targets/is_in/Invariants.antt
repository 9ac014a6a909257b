use Rattle.std.proofs.Common.{◌≡◌, drop}
use Rattle.block_meaning.specs.Frames.{is_in}
use Rattle.client_records.proofs.targets.is_in.Given as goal

abbrev pub invariant-loop-other : goal.invariant-loop-other
invariant-loop-other l = is_in l.number l.numbers ≡ is_in l.number (drop l.other-index l.numbers)
