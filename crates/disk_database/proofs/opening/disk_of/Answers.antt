-- The disk of the slots of the rows.
use Rattle.std.proofs.Common.{sym, ap, ◌∙◌, subst, arith}
use Rattle.disk_database.proofs.Parts.{kept_hold}
use Rattle.disk_database.proofs.Survivals.{chains_of_stops}
use Rattle.disk_database.proofs.opening.disk_of.Goals as goal

pub returns-clause-stops : goal.returns-clause-stops
returns-clause-stops g c = rw (c.close.ensures.slots, c.close-slots.ensures.same) at c.close-2.ensures.stops

pub returns-clause-chains : goal.returns-clause-chains
returns-clause-chains g c =
    let slots = c.args.rows.rows.chains.slots.slots.slots in
    let disk = c.close-2.ensures.disk ∙ ap (λ x. x.slots.disk) c.close.ensures.slots ∙ ap (λ x. x.slots.slots.disk) c.close-slots.ensures.same in
    let have = rw (c.close-slots.ensures.same) at c.close-slots.ensures.chains in
    chains_of_stops (g.D.Disk.observable slots.disk) slots.since (g.D.Disk.time slots.disk) (g.D.Disk.left slots.disk) (g.D.Disk.left c.close-2.result)
    (λ image there. subst (λ d. g.D.Disk.left d slots.since image) (sym disk) there) (returns-clause-stops g c) have.stops

pub returns-clause-parts : goal.returns-clause-parts
returns-clause-parts g c = λ all m image left from there recovers.
    let since = ap (λ x. x.slots.since) c.close.ensures.slots ∙ ap (λ x. x.slots.slots.since) c.close-slots.ensures.same in
    kept_hold g.K.Opening.schema g.K.Opening.images left c.bounds.ensures.short c.bounds.ensures.few all (c.close.ensures.stops m left (c.close-2.ensures.stops m image left (omega (arith, from, since)) there recovers))
