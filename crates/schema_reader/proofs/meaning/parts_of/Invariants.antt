use Rattle.std.proofs.Common.{◌≡◌, take}
use Rattle.schema_reader.specs.Meaning.{parts_of}
use Rattle.schema_reader.proofs.meaning.parts_of.Given as goal

abbrev pub invariant-loop-line : goal.invariant-loop-line
invariant-loop-line l = l.parts ≡ parts_of l.fields (take l.line-index l.attributes)
