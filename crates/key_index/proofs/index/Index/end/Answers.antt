use Rattle.key_index.proofs.NodesOf.{index_ended}
use Rattle.key_index.proofs.index.Index.end.Goals as goal

pub returns : goal.returns
returns c = index_ended c.args.client c.self.inside.nodes c.end_keys.new.nodes c.args.self.now c.self.view_is c.end_keys.ensures.ended
