use Rattle.std.proofs.Common.{[], ◌∷◌, ap, ◌∙◌}
use Rattle.key_index.specs.Touched.{nodes_of}
use Rattle.key_index.proofs.NodesOf.{nodes_append}
use Rattle.key_index.proofs.Seeks.{down_more, down_found}
use Rattle.key_index.proofs.seek.last_entry.Goals as goal

pub loop-key-preserved : goal.loop-key-preserved
loop-key-preserved c =
    down_more c.args.prefix.now (nodes_of c.args.nodes) (nodes_of c.loop-key.nodes) (nodes_of c.next_back.new.self) c.in-Some.key.now c.in-Some.keyed.now.node c.loop-key.invariant (ap nodes_of c.in-Some.ensures.steps ∙ nodes_append c.next_back.new.self ((c.in-Some.key.now, c.in-Some.keyed.now) ∷ [])) c.in_default-greatest_with.ensures.none

pub returns-in-Some-greatest_with : goal.returns-in-Some-greatest_with
returns-in-Some-greatest_with c =
    down_found c.args.prefix.now (nodes_of c.args.nodes) (nodes_of c.loop-key.nodes) (nodes_of c.next_back.new.self) c.in-Some.key.now c.in-Some.keyed.now.node c.in-Some-greatest_with.row c.loop-key.invariant (ap nodes_of c.in-Some.ensures.steps ∙ nodes_append c.next_back.new.self ((c.in-Some.key.now, c.in-Some.keyed.now) ∷ []))
    c.in-Some-greatest_with.ensures.begins c.in-Some-greatest_with.ensures.entry c.in-Some-greatest_with.ensures.greatest
