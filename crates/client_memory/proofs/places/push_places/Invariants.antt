use Rattle.std.proofs.Common.{◌≡◌, ◌++◌, map, drop}
use Rattle.block_meaning.specs.Buffers.{places_from}
use Rattle.client_memory.specs.Buffers.{denoted_place}
use Rattle.client_memory.proofs.places.push_places.Given as goal

abbrev pub invariant-loop-number : goal.invariant-loop-number
invariant-loop-number l = map denoted_place l.places.items ++ places_from l.out l.number (drop l.number l.buffers) ≡ map denoted_place l.initial.places.items ++ places_from l.out 0 l.buffers
