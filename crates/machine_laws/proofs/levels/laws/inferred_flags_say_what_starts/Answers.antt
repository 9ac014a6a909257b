use Rattle.machine_laws.proofs.LevelsLemmas.Inferred.{inferred_flagged}
use Rattle.machine_laws.proofs.levels.laws.inferred_flags_say_what_starts.Goals as goal

pub returns : goal.returns
returns c = inferred_flagged
