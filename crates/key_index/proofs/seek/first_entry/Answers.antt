use Rattle.std.proofs.Common.{ap}
use Rattle.key_index.specs.Touched.{nodes_of}
use Rattle.key_index.proofs.Seeks.{up_more, up_found}
use Rattle.key_index.proofs.seek.first_entry.Goals as goal

pub loop-key-preserved : goal.loop-key-preserved
loop-key-preserved c =
    (tt, tt, up_more c.args.prefix.now (nodes_of c.args.nodes) (nodes_of c.loop-key.nodes) (nodes_of c.next.new.self) c.in-Some.key.now c.in-Some.keyed.now.node c.loop-key.invariant.2 (ap nodes_of c.in-Some.ensures.steps) c.in_default-least_with.ensures.none)

pub returns-in-Some-least_with : goal.returns-in-Some-least_with
returns-in-Some-least_with c =
    up_found c.args.prefix.now (nodes_of c.args.nodes) (nodes_of c.loop-key.nodes) (nodes_of c.next.new.self) c.in-Some.key.now c.in-Some.keyed.now.node c.in-Some-least_with.row c.loop-key.invariant.2 (ap nodes_of c.in-Some.ensures.steps)
    c.in-Some-least_with.ensures.begins c.in-Some-least_with.ensures.entry c.in-Some-least_with.ensures.least
