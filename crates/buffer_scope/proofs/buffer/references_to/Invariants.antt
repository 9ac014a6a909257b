use Rattle.std.proofs.Common.{◌≡◌, ◌++◌, drop}
use Rattle.buffer_scope.specs.Scopes.{references_to}
use Rattle.buffer_scope.proofs.buffer.references_to.Given as goal

abbrev pub invariant-loop-reference : goal.invariant-loop-reference
invariant-loop-reference l = references_to l.buffer l.references ≡ l.found.items ++ references_to l.buffer (drop l.reference-index l.references)
