use Rattle.std.proofs.Common.{◌≡◌, drop}
use Rattle.std.specs.List.{list_any}
use Rattle.buffer_scope.specs.Rules.{lies_in}
use Rattle.buffer_scope.specs.Views.{all_of, own_of}
use Rattle.buffer_scope.proofs.rules.lies_in_weak.Given as goal

abbrev pub invariant-loop-m : goal.invariant-loop-m
invariant-loop-m l = lies_in (all_of l.blocks) (own_of l.own).weak l.n ≡ list_any (own_of l.own).weak (drop l.m-index l.m-items)
