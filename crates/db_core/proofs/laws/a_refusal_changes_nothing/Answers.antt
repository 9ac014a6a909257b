use Rattle.db_core.proofs.Quiet.{refusal_represents}
use Rattle.db_core.proofs.laws.a_refusal_changes_nothing.Goals as goal

pub returns : goal.returns
returns c = refusal_represents
