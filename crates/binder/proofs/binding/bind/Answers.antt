use Rattle.binder.proofs.binding.bind.Goals as goal

pub returns-clause-ok : goal.returns-clause-ok
returns-clause-ok c = c.bound_with.ensures.ok c.in_ok-procedures.ensures

pub returns-clause-broken : goal.returns-clause-broken
returns-clause-broken c = λ v e. c.bound_with.ensures.broken v c.in_ok-procedures.ensures e
