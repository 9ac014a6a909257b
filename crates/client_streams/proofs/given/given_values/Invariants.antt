use Rattle.std.proofs.Common.{◌≡◌, ◌++◌, drop}
use Rattle.std.specs.Prelude.{map, reverse}
use Rattle.block_meaning.specs.Streams.{pairs_of}
use Rattle.client_machine.specs.Config.{given_of}
use Rattle.client_streams.proofs.given.given_values.Given as goal

-- those so far and those of the other targets
abbrev pub invariant-loop-target : goal.invariant-loop-target
invariant-loop-target l = map given_of l.given.items ++ pairs_of (drop l.target-index l.targets) (reverse l.values.items) ≡ pairs_of l.targets (reverse l.initial.values.items)
