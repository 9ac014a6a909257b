-- What is guarded stays so.
use Rattle.std.proofs.Common.{sym, ◌∙◌}
use Rattle.guarded_slots.proofs.Calls.{kept_ends}
use Rattle.guarded_slots.proofs.slots.GuardedSlots.abandon.Goals as goal

pub invariant_of-self : goal.invariant_of-self
invariant_of-self g c =
    let old = c.args.self.now in
    let e = c.abandon.ensures in
    record { guarded = kept_ends (g.G.Guard.allowed old.guard) old.tainted old.tainted (g.S.Slots.state old.slots) (g.S.Slots.state c.abandon.new.self) (g.S.Slots.stop old.slots) (g.S.Slots.stop c.abandon.new.self) old.guarded e.time (λ m left there. (g.met.S.Slots.stop_known c.abandon.new.self m left there).observable) (λ now. sym e.ended.failed ∙ now) (λ is. is) c.args.client e.ended; order = old.order }
