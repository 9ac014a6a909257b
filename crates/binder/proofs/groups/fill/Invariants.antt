use Rattle.std.proofs.Common.{List}
use Rattle.bind_names.specs.declared.names.Naming.{Naming}
use Rattle.binder.specs.Groups.{IsGrouping}
use Rattle.binder.proofs.groups.fill.Given as goal

abbrev pub invariant-loop : goal.invariant-loop
invariant-loop l = (all left : List Naming) → IsGrouping all left l.fn.groups.items → IsGrouping all left l.groups.items
