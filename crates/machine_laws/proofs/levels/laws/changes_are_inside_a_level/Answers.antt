use Rattle.machine_laws.proofs.LevelsLemmas.Runs.{changes_inside}
use Rattle.machine_laws.proofs.levels.laws.changes_are_inside_a_level.Goals as goal

pub returns : goal.returns
returns c = changes_inside
