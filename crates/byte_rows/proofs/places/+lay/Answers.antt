use Rattle.std.proofs.Common.{◌≡◌, ◌≢◌, ◌+◌, ◌∷◌, ℕ, List, length, sym, ◌∙◌, subst, arith}
use Rattle.std.specs.List.{Contains}
use Rattle.row_fragments.specs.Fragments.{AreDistinct}
use Rattle.row_fragments.proofs.Within.{head_in, tail_in}
use Rattle.byte_rows.specs.Places.{place_in}
use Rattle.byte_rows.proofs.Kept.{not_here}
use Rattle.byte_rows.proofs.places.+lay.Goals as goal

pub set_place-requires : goal.set_place-requires
set_place-requires t c = c.requires.within c.in-Some.first.now (subst (λ (xs : List ℕ). Contains xs c.in-Some.first.now) (sym c.in-Some.ensures.cases.0) (head_in c.in-Some.first.now c.in-Some.rest.now))

pub lay-requires : goal.lay-requires
lay-requires t c = (
  let long : length c.in-Some.rest.now + 1 ≡ length c.args.slots.now = c.in-Some.ensures.cases.1 in let d = c.decreases in omega arith,
  (
    λ k there.
        let low = c.requires.within k (subst (λ (xs : List ℕ). Contains xs k) (sym c.in-Some.ensures.cases.0) (tail_in c.in-Some.first.now k c.in-Some.rest.now there)) in
        let long = c.set_place.ensures.long in omega (arith, low, long),
    (subst AreDistinct c.in-Some.ensures.cases.0 c.requires.distinct).1,
  ),
)

pub returns-in-Some-clause-rest : goal.returns-in-Some-clause-rest
returns-in-Some-clause-rest t c = λ k out.
    let apart : k ≢ c.in-Some.first.now = λ is. out (subst (λ (xs : List ℕ). Contains xs k) (sym c.in-Some.ensures.cases.0) (subst (Contains (c.in-Some.first.now ∷ c.in-Some.rest.now)) (sym is) (head_in c.in-Some.first.now c.in-Some.rest.now))) in
    c.lay.ensures.rest k (λ there. out (subst (λ (xs : List ℕ). Contains xs k) (sym c.in-Some.ensures.cases.0) (tail_in c.in-Some.first.now k c.in-Some.rest.now there)))
    ∙ (c.set_place.ensures.places k ∙ not_here k c.in-Some.first.now _ (place_in c.args.places.now k) apart)
