use Rattle.std.proofs.Common.{◌≡◌, ◌⊎◌, inl, inr, ℕ, List, sym, ap, subst}
use Rattle.std.proofs.lemmas.Bool.{both_ways}
use Rattle.key_index.specs.Chain.{items_of}
use Rattle.key_index.specs.Left.{Lists, owner_at}
use Rattle.key_index.specs.Places.{IsLeft}
use Rattle.key_index.proofs.left.any_left.Goals as goal

past : (first row : ℕ) (rest : List ℕ) → (first ≡ row → ⊥) → (first ≡ row) ⊎ Lists rest row → Lists rest row
past first row rest differs (inl same) = absurd (differs same)
past first row rest differs (inr there) = there

pub loop-rest-preserved : goal.loop-rest-preserved
loop-rest-preserved c row listed was_left =
    rw c.as_ref-rest.ensures (past c.in-More.row row (items_of c.in-More.more.value)
    (λ same. both_ways c.is_left.result c.if-is_left.false (c.is_left.ensures.1 (subst (λ (r : ℕ). IsLeft (owner_at c.args.seats.now r)) (sym same) was_left)))
    (subst (λ (xs : List ℕ). Lists xs row) (ap items_of c.in-More.is) (c.loop-rest.invariant row listed was_left)))
