use Rattle.std.proofs.Common.{◌≡◌, ℕ, List, [], drop}
use Rattle.std.specs.Ordering.{nat_cmp}
use Rattle.std.specs.BTreeSet.{contains}
use Rattle.bound_tree.specs.declared.procedure.Reference.{Reference}
use Rattle.buffer_scope.specs.First.{first_of}
use Rattle.buffer_scope.specs.Rules.{repeats}
use Rattle.buffer_scope.specs.Scopes.{in_header, is_strong}
use Rattle.buffer_scope.proofs.rules.repeats.Given as goal

abbrev pub invariant-loop-reference : goal.invariant-loop-reference
invariant-loop-reference l = record {
  before : List Reference;
  seen : (q : ℕ) → contains nat_cmp l.seen q ≡ in_header is_strong before q;
  so_far : first_of l.initial.first (repeats [] l.references) ≡ first_of l.first (repeats before (drop l.reference-index l.references));
}
