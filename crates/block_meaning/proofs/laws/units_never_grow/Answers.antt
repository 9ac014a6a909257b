use Rattle.block_meaning.specs.Meaning.{meaning, context_at}
use Rattle.block_meaning.proofs.Whole.{meaning_continues, calls_go_on}
use Rattle.block_meaning.proofs.Runs.{units_fall}
use Rattle.block_meaning.proofs.laws.units_never_grow.Goals as goal

pub returns : goal.returns
returns c =
    λ p depth retry t s after ans left completion e.
    units_fall (meaning t (context_at p depth retry)) (meaning_continues t (context_at p depth retry) (calls_go_on p depth)) s after ans left completion e
