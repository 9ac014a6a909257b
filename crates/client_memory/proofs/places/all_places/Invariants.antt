use Rattle.std.proofs.Common.{◌≡◌, ◌++◌, map, drop}
use Rattle.client_memory.specs.Buffers.{denoted_place, places_in}
use Rattle.client_memory.proofs.places.all_places.Given as goal

abbrev pub invariant-loop-index : goal.invariant-loop-index
invariant-loop-index l = map denoted_place l.places.items ++ places_in (drop l.index l.frames) ≡ places_in l.frames
