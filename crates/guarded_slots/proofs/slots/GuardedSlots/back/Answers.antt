-- What is guarded stays so.
use Rattle.guarded_slots.proofs.Keeping.{fine_before}
use Rattle.guarded_slots.proofs.Calls.{by_result, kept_back, kept_rests}
use Rattle.guarded_slots.proofs.slots.GuardedSlots.back.Goals as goal

pub invariant_of-self : goal.invariant_of-self
invariant_of-self g c =
    let old = c.args.self.now in
    let e = c.back.ensures in
    let fine = fine_before (g.S.Slots.state old.slots) (g.S.Slots.state c.back.new.self) c.back.result e.cause in
    record { guarded = by_result c.back.result e.ok e.err (kept_back (g.G.Guard.allowed old.guard) old.tainted old.tainted (g.S.Slots.state old.slots) (g.S.Slots.state c.back.new.self) (g.S.Slots.stop old.slots) (g.S.Slots.stop c.back.new.self) old.guarded e.time (λ m left there. (g.met.S.Slots.stop_known c.back.new.self m left there).observable) fine (λ is. is) c.args.client c.args.mark.at) (kept_rests (g.G.Guard.allowed old.guard) old.tainted old.tainted (g.S.Slots.state old.slots) (g.S.Slots.state c.back.new.self) (g.S.Slots.stop old.slots) (g.S.Slots.stop c.back.new.self) old.guarded e.time (λ m left there. (g.met.S.Slots.stop_known c.back.new.self m left there).observable) fine (λ is. is)); order = old.order }
