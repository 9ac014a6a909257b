use Rattle.binder.proofs.procedures.go_to.Goals as goal

pub returns-clause-scene : goal.returns-clause-scene
returns-clause-scene c = cc

pub returns-clause-before : goal.returns-clause-before
returns-clause-before c = cc
