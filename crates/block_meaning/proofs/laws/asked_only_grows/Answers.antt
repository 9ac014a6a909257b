use Rattle.block_meaning.specs.Meaning.{run}
use Rattle.block_meaning.proofs.Runs.{asked-append}
use Rattle.block_meaning.proofs.laws.asked_only_grows.Goals as goal

pub returns : goal.returns
returns c = λ p units ans more. asked-append (run p units) ans more
