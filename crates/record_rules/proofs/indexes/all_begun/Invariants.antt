use Rattle.std.proofs.Common.{◌≡◌, drop}
use Rattle.block_meaning.specs.Changes.{all_begun}
use Rattle.record_rules.proofs.indexes.all_begun.Given as goal

abbrev pub invariant-loop-index : goal.invariant-loop-index
invariant-loop-index l = all_begun l.indexes l.assigned ≡ all_begun (drop l.index-index l.indexes) l.assigned
