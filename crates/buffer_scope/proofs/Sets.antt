-- Two sets with the same numbers are one.
use Rattle.std.proofs.Common.{◌≡◌, ℕ, ◌≤◌, ◌||◌, Bool, List, length, drop, sym, ap, ◌∙◌}
use Rattle.std.proofs.Math.Bool.{or-false}
use Rattle.std.proofs.lemmas.List.{drop_all}
use Rattle.std.specs.Ordering.{nat_cmp}
use Rattle.std.specs.BTreeSet.{contains}
use Rattle.bound_tree.specs.declared.procedure.Reference.{Reference}
use Rattle.bound_tree.specs.declared.procedure.ReferenceKind.{ReferenceKind}
use Rattle.buffer_scope.specs.declared.own.OwnBlocks.{OwnBlocks}
use Rattle.buffer_scope.specs.Scopes.{in_header, is_strong, is_weak, own_blocks}
use Rattle.buffer_scope.specs.Views.{own_of}

pub own_is : (o : OwnBlocks) (rs : List Reference) → ((q : ℕ) → contains nat_cmp o.strong q ≡ in_header is_strong rs q) → ((q : ℕ) → contains nat_cmp o.weak q ≡ in_header is_weak rs q) → own_of o ≡ own_blocks rs
unfolding own_of own_blocks
own_is o rs strong weak = λ i. record { strong = λ q. strong q i; weak = λ q. weak q i }

-- no reference is left
pub none_left : (it : ReferenceKind → Bool) (rs : List Reference) (k q : ℕ) (found : Bool) → length rs ≤ k → in_header it rs q ≡ found || in_header it (drop k rs) q → found ≡ in_header it rs q
none_left it rs k q found past so_far = sym (so_far ∙ ap (λ xs. found || in_header it xs q) (drop_all k rs past) ∙ or-false found)
