use Rattle.std.proofs.Common.{◌≡◌, drop}
use Rattle.buffer_scope.specs.Scopes.{is_in}
use Rattle.buffer_scope.proofs.buffer.is_in.Given as goal

abbrev pub invariant-loop-m : goal.invariant-loop-m
invariant-loop-m l = is_in l.n l.around ≡ is_in l.n (drop l.m-index l.around)
