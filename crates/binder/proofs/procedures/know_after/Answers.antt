use Rattle.binder.proofs.procedures.know_after.Goals as goal

pub returns-clause-after : goal.returns-clause-after
returns-clause-after c = λ own e. cc

pub returns-clause-defined : goal.returns-clause-defined
returns-clause-defined c = cc
