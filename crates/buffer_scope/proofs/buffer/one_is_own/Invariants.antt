use Rattle.std.proofs.Common.{◌≡◌, drop}
use Rattle.std.specs.List.{list_any}
use Rattle.buffer_scope.specs.Scopes.{is_own}
use Rattle.buffer_scope.specs.Views.{own_of}
use Rattle.buffer_scope.proofs.buffer.one_is_own.Given as goal

abbrev pub invariant-loop-n : goal.invariant-loop-n
invariant-loop-n l = list_any (is_own (own_of l.own)) l.around ≡ list_any (is_own (own_of l.own)) (drop l.n-index l.around)
