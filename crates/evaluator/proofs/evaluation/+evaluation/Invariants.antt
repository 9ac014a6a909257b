use Rattle.std.proofs.Common.{◌≡◌, drop, Ok}
use Rattle.evaluator.specs.Chains.{chain_from}
use Rattle.evaluator.specs.Gives.{held_value}
use Rattle.evaluator.proofs.evaluation.+evaluation.Given as goal

abbrev pub invariant-links-loop-link : goal.invariant-links-loop-link
invariant-links-loop-link g l =
    chain_from (g.S.Surroundings.env l.surroundings) (Ok (held_value l.value)) (drop l.link-index l.rest)
    ≡ chain_from (g.S.Surroundings.env l.surroundings) (Ok (held_value l.initial.value)) l.rest
