use Rattle.std.proofs.Common.{drop}
use Rattle.binder.specs.Groups.{IsGrouping}
use Rattle.binder.proofs.groups.Groups.of.Given as goal

abbrev pub invariant-loop-naming : goal.invariant-loop-naming
invariant-loop-naming l = IsGrouping l.said (drop l.naming-index l.said) l.namings.items
