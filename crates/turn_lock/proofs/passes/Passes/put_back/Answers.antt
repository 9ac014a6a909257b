use Rattle.std.proofs.Common.{◌≤◌, sym, ap, ◌∙◌, subst, All}
use Rattle.std.proofs.lemmas.List.Elements.{All-push}
use Rattle.turn_lock.specs.Shared.{seats_of}
use Rattle.turn_lock.specs.Passes.{IsPassOf}
use Rattle.turn_lock.specs.Seats.{lock_of}
use Rattle.turn_lock.proofs.passes.Passes.put_back.Goals as goal

pub invariant_of-self : goal.invariant_of-self
invariant_of-self g c =
    let i = c.self.invariant in
    let own_lock = lock_of c.self.inside.maker in
    let of_lock = c.requires.lock ∙ ap (λ z. z.lock) (sym c.self.view_is) in (
      i.0,
      subst (λ n. seats_of own_lock ≤ n) (sym c.push_reserved.ensures.capacity) i.1,
      subst (All (IsPassOf own_lock)) (sym c.push_reserved.ensures.items) (All-push (IsPassOf own_lock) c.self.inside.list.items c.args.pass i.2 of_lock),
    )
