use Rattle.std.proofs.Common.{take}
use Rattle.schema_reader.specs.Meaning.{indexes_of}
use Rattle.schema_reader.proofs.KeptItems.{AreListed}
use Rattle.schema_reader.proofs.meaning.indexes_of.Given as goal

abbrev pub invariant-loop-item : goal.invariant-loop-item
invariant-loop-item l = AreListed (indexes_of (take l.item-index l.items) l.fields l.t) l.indexes l.with_primary
