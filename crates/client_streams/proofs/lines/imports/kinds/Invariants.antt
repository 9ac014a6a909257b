use Rattle.std.proofs.Common.{◌≡◌, take}
use Rattle.std.specs.Prelude.{map}
use Rattle.client_streams.specs.lines.Imports.{kind_if}
use Rattle.client_streams.proofs.lines.imports.kinds.Given as goal

abbrev pub invariant-loop-target : goal.invariant-loop-target
invariant-loop-target l = l.kinds.items ≡ map kind_if (take l.target-index l.targets)
