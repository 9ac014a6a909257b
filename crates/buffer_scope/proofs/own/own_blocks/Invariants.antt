use Rattle.std.proofs.Common.{◌≡◌, ℕ, ◌||◌, drop}
use Rattle.std.specs.Ordering.{nat_cmp}
use Rattle.std.specs.BTreeSet.{contains}
use Rattle.buffer_scope.specs.Scopes.{in_header, is_strong, is_weak}
use Rattle.buffer_scope.proofs.own.own_blocks.Given as goal

abbrev pub invariant-loop-reference : goal.invariant-loop-reference
invariant-loop-reference l = record {
  strong : (q : ℕ) → in_header is_strong l.references q ≡ contains nat_cmp l.strong q || in_header is_strong (drop l.reference-index l.references) q;
  weak : (q : ℕ) → in_header is_weak l.references q ≡ contains nat_cmp l.weak q || in_header is_weak (drop l.reference-index l.references) q;
}
