use Rattle.std.proofs.Common.{◌≡◌, ◌∷◌}
use Rattle.std.specs.Prelude.{codes}
use Rattle.bank_run.specs.Texts.{transfer_names}
use Rattle.bank_run.proofs.texts.names_of.Given as goal

-- the names so far
abbrev pub invariant-loop-before : goal.invariant-loop-before
invariant-loop-before l = l.names.items ≡ codes "setup" ∷ transfer_names l.before
