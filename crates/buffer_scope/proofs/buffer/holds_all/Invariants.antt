use Rattle.std.proofs.Common.{◌≡◌, drop}
use Rattle.buffer_scope.specs.Scopes.{holds_all}
use Rattle.buffer_scope.specs.Views.{all_of}
use Rattle.buffer_scope.proofs.buffer.holds_all.Given as goal

abbrev pub invariant-loop-reference : goal.invariant-loop-reference
invariant-loop-reference l = holds_all (all_of l.blocks) l.references l.n ≡ holds_all (all_of l.blocks) (drop l.reference-index l.references) l.n
