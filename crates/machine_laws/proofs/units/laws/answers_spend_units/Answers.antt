use Rattle.machine_laws.proofs.UnitsLemmas.Answers.{answer_spends}
use Rattle.machine_laws.proofs.units.laws.answers_spend_units.Goals as goal

pub returns : goal.returns
returns c = answer_spends
