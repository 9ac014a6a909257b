use Rattle.row_fragments.proofs.Keeping.{rewriting_keeps_chains}
use Rattle.row_fragments.proofs.laws.a_change_keeps_chains.Goals as goal

pub returns : goal.returns
returns c = rewriting_keeps_chains
