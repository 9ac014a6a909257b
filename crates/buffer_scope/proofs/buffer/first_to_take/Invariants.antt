use Rattle.std.proofs.Common.{◌≡◌, drop}
use Rattle.std.specs.List.{find}
use Rattle.buffer_scope.specs.Scopes.{takes_all}
use Rattle.buffer_scope.specs.Views.{all_of}
use Rattle.buffer_scope.proofs.buffer.first_to_take.Given as goal

abbrev pub invariant-loop-n : goal.invariant-loop-n
invariant-loop-n l = find (takes_all (all_of l.blocks) l.references) l.around ≡ find (takes_all (all_of l.blocks) l.references) (drop l.n-index l.around)
