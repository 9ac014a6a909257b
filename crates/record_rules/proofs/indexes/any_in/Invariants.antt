use Rattle.std.proofs.Common.{◌≡◌, drop}
use Rattle.block_meaning.specs.Changes.{any_in}
use Rattle.record_rules.proofs.indexes.any_in.Given as goal

abbrev pub invariant-loop-part : goal.invariant-loop-part
invariant-loop-part l = any_in l.parts l.assigned ≡ any_in (drop l.part-index l.parts) l.assigned
