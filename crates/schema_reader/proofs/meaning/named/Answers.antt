use Rattle.std.proofs.Common.{map}
use Rattle.std.specs.Prelude.{reverse}
use Rattle.schema_reader.specs.InOrder.{field_of}
use Rattle.schema_reader.proofs.Placing.{reversed_next}
use Rattle.schema_reader.proofs.KeptItems.{next_free, next_short}
use Rattle.schema_reader.proofs.meaning.named.Goals as goal

pub add-requires-clause-short : goal.add-requires-clause-short
add-requires-clause-short c =
    let all = map field_of c.args.fields.items in
    let e = reversed_next c.loop-next.rest.items c.pop.new.self.items c.in-Some.next c.loop-next.list all c.loop-next.invariant c.in-Some.ensures.items in
    next_short all c.loop-next.list (map field_of (reverse c.pop.new.self.items)) c.in-Some.next.field e c.requires.short

pub add-requires-clause-free : goal.add-requires-clause-free
add-requires-clause-free c =
    let all = map field_of c.args.fields.items in
    let e = reversed_next c.loop-next.rest.items c.pop.new.self.items c.in-Some.next c.loop-next.list all c.loop-next.invariant c.in-Some.ensures.items in
    next_free all c.loop-next.list (map field_of (reverse c.pop.new.self.items)) c.in-Some.next.field e c.requires.apart
