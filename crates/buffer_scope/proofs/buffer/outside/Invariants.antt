use Rattle.std.proofs.Common.{◌≡◌, ◌++◌, drop}
use Rattle.buffer_scope.specs.Scopes.{outside}
use Rattle.buffer_scope.specs.Views.{all_of, own_of}
use Rattle.buffer_scope.proofs.buffer.outside.Given as goal

abbrev pub invariant-loop-reference : goal.invariant-loop-reference
invariant-loop-reference l =
    outside (all_of l.blocks) (own_of l.own) l.references ≡ l.found.items ++ outside (all_of l.blocks) (own_of l.own) (drop l.reference-index l.references)
