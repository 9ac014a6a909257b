use Rattle.std.proofs.Common.{◌≡◌, ◌≤◌, [], ◌∷◌, ◌++◌, sym, subst, arith, MatchOption}
use Rattle.std.proofs.lemmas.List.Elements.{All-pop}
use Rattle.turn_lock.specs.Shared.{seats_of}
use Rattle.turn_lock.specs.Passes.{IsPassOf}
use Rattle.turn_lock.specs.Seats.{lock_of}
use Rattle.turn_lock.proofs.PassLists.{popped}
use Rattle.turn_lock.proofs.passes.Passes.take_last.Goals as goal

pub invariant_of-self : goal.invariant_of-self
invariant_of-self g c =
    let i = c.self.invariant in
    let own_lock = lock_of c.self.inside.maker in (
      i.0,
      subst (λ n. seats_of own_lock ≤ n) (sym c.pop.ensures.capacity) i.1,
      (All-pop (IsPassOf own_lock) c.self.inside.list.items c.pop.new.self.items c.pop.result c.pop.ensures.items i.2).0,
    )

pub returns-clause-last : goal.returns-clause-last
returns-clause-last g c =
    let i = c.self.invariant in
    let own_lock = lock_of c.self.inside.maker in
    subst (λ z. MatchOption c.pop.result ((z.passes ≡ []) × (c.pop.new.self.items ≡ [])) (λ p. (z.passes ≡ c.pop.new.self.items ++ p ∷ []) × (p.lock ≡ z.lock))) c.self.view_is
    (popped (IsPassOf own_lock) c.self.inside.list.items c.pop.new.self.items c.pop.result _ _ (omega (arith, c.self.inside.list.ok.0)) (omega (arith, c.pop.new.self.ok.0)) c.pop.ensures.items c.pop.ensures.cases i.2)
