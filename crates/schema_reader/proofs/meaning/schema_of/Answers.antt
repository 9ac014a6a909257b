use Rattle.std.proofs.Common.{rules}
use Rattle.schema_reader.specs.Meaning.{schema_of}
use Rattle.schema_reader.proofs.meaning.schema_of.Goals as goal

pub of-requires : goal.of-requires
unfolding schema_of
of-requires c = rw (c.in_ok-tables.ensures, c.in_ok-sequences.ensures, c.in_ok-order.ensures) c.requires.sound

pub returns : goal.returns
unfolding schema_of
returns c = search rules
