-- Before it each commit was answered, no later than it.
use Rattle.crash_laws.proofs.Acknowledged.{among_first}
use Rattle.crash_laws.proofs.laws.an_acknowledged_commit_is_among_the_first.Goals as goal

pub returns : goal.returns
returns c = λ f contents before later e from now m legal moments acknowledges. among_first f contents before later e from now m legal moments acknowledges
