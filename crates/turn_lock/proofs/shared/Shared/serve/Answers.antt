use Rattle.std.proofs.Common.{rules, sym, ap, ◌∙◌, arith}
use Rattle.turn_lock.proofs.RuleKept.{rings}
use Rattle.turn_lock.proofs.Calls.{serves_one}
use Rattle.turn_lock.proofs.shared.Shared.serve.Goals as goal

pub fetch_add-served-requires : goal.fetch_add-served-requires
fetch_add-served-requires g c =
    let j = g.T.Journal in
    let lock = c.requires.lock ∙ sym c.self.view_is in
    (ap (λ z. z.table) lock, search rules, serves_one j.entries j.client j.origin c.args.place.now c.self.inside.table.shared.key c.args.self.now _ c.self.invariant.1 c.requires.value (ap (λ z. z.key) lock) (ap (λ z. z.key) (sym c.self.view_is)))

pub fetch_add-requires : goal.fetch_add-requires
fetch_add-requires g c =
    let j = g.T.Journal in
    let lock = c.requires.lock ∙ sym c.self.view_is in
    let words = c.self.invariant.0 in
    let bell = c.bell_of-bell.ensures in
    (c.fetch_add-served.ensures.0 ∙ ap (λ z. z.table) lock, omega arith, rings j.entries j.client j.origin c.self.inside.table.shared.key _ _ _ c.fetch_add-served.new.seat.me (omega arith))
