use Rattle.std.proofs.Common.{◌≡◌, drop}
use Rattle.buffer_scope.specs.First.{first_of}
use Rattle.buffer_scope.specs.Rules.{nestings_break}
use Rattle.buffer_scope.specs.Views.{all_of, found_of}
use Rattle.buffer_scope.proofs.rules.nestings_break.Given as goal

abbrev pub invariant-loop-reference : goal.invariant-loop-reference
invariant-loop-reference l =
    first_of l.initial.first (nestings_break (all_of l.blocks) (found_of l.scopes) l.references)
    ≡ first_of l.first (nestings_break (all_of l.blocks) (found_of l.scopes) (drop l.reference-index l.references))
