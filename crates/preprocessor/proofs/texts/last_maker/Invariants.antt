use Rattle.std.proofs.Common.{◌≡◌, ◌≤◌, length}
use Rattle.preprocessor.specs.Texts.{last_maker}
use Rattle.preprocessor.proofs.texts.last_maker.Given as goal

abbrev pub invariant-loop-rest : goal.invariant-loop-rest
invariant-loop-rest l = (last_maker l.n l.name l.rest ≡ last_maker l.found l.name l.definitions) × (l.n ≤ 3)

abbrev pub decreases-loop-rest : goal.decreases-loop-rest
decreases-loop-rest l = length l.rest
