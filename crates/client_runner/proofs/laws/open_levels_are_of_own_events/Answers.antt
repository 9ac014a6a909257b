use Rattle.database_meaning.specs.Traces.{opened}
use Rattle.client_runner.proofs.Levels.{levels_own}
use Rattle.client_runner.proofs.laws.open_levels_are_of_own_events.Goals as goal

pub returns : goal.returns
returns c setting contents n trace = levels_own setting (opened contents) n trace
