use Rattle.std.proofs.Common.{◌≡◌, ◌++◌, drop}
use Rattle.bind_statements.specs.Streams.{field_targets}
use Rattle.bind_statements.proofs.transfers.targets_of.Given as goal

abbrev pub invariant-loop-i : goal.invariant-loop-i
invariant-loop-i l = l.bound.items ++ field_targets l.buffer l.i (drop l.i l.fields) ≡ field_targets l.buffer 0 l.fields
