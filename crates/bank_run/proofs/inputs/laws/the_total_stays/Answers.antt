use Rattle.bank_run.proofs.InputsLemmas.Conserved.{total_stays}
use Rattle.bank_run.proofs.inputs.laws.the_total_stays.Goals as goal

pub returns : goal.returns
returns c = total_stays
