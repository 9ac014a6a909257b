use Rattle.std.proofs.Common.{◌≡◌, drop}
use Rattle.std.specs.List.{list_any}
use Rattle.buffer_scope.specs.Rules.{lies_in}
use Rattle.buffer_scope.specs.Scopes.{is_own}
use Rattle.buffer_scope.specs.Views.{all_of, own_of}
use Rattle.buffer_scope.proofs.rules.lies_in_own.Given as goal

abbrev pub invariant-loop-m : goal.invariant-loop-m
invariant-loop-m l = lies_in (all_of l.blocks) (is_own (own_of l.own)) l.n ≡ list_any (is_own (own_of l.own)) (drop l.m-index l.m-items)
