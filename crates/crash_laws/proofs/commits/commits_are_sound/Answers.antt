-- By the states that the beginnings of the trace leave.
use Rattle.crash_laws.proofs.CommitsLemmas.Commits.{commits_sound}
use Rattle.crash_laws.proofs.commits.commits_are_sound.Goals as goal

pub returns : goal.returns
returns c = commits_sound
