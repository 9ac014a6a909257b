use Rattle.key_index.proofs.Forgotten.{forgotten}
use Rattle.key_index.proofs.laws.forget_undoes_enter.Goals as goal

pub returns : goal.returns
returns c = λ before entered after client row key unique none puts forgets. forgotten before entered after client row key unique none puts forgets
