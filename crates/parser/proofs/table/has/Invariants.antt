use Rattle.std.proofs.Common.{◌≡◌, drop}
use Rattle.parser.specs.Table.{has}
use Rattle.parser.proofs.table.has.Given as goal

abbrev pub invariant-loop-k : goal.invariant-loop-k
invariant-loop-k l = has l.kinds l.kind ≡ has (drop l.k-index l.kinds) l.kind
