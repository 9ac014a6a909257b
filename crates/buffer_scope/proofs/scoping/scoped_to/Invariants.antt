use Rattle.std.proofs.Common.{◌≡◌, ◌++◌, drop, map}
use Rattle.buffer_scope.specs.Scoped.{scoped_among}
use Rattle.buffer_scope.specs.Views.{all_of, found_of}
use Rattle.buffer_scope.proofs.scoping.scoped_to.Given as goal

abbrev pub invariant-loop-i : goal.invariant-loop-i
invariant-loop-i l =
    scoped_among (all_of l.blocks) 0 (map found_of l.scopes) l.n ≡ l.found.items ++ scoped_among (all_of l.blocks) l.i (map found_of (drop l.i l.scopes)) l.n
