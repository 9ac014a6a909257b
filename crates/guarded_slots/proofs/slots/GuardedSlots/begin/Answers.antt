-- What is guarded stays so.
use Rattle.guarded_slots.proofs.Keeping.{fine_before}
use Rattle.guarded_slots.proofs.Calls.{by_result, kept_begins, kept_rests}
use Rattle.guarded_slots.proofs.slots.GuardedSlots.begin.Goals as goal

pub invariant_of-self : goal.invariant_of-self
invariant_of-self g c =
    let old = c.args.self.now in
    let e = c.begin.ensures in
    let fine = fine_before (g.S.Slots.state old.slots) (g.S.Slots.state c.begin.new.self) c.begin.result e.cause in
    record { guarded = by_result c.begin.result e.ok e.err (kept_begins (g.G.Guard.allowed old.guard) old.tainted old.tainted (g.S.Slots.state old.slots) (g.S.Slots.state c.begin.new.self) (g.S.Slots.stop old.slots) (g.S.Slots.stop c.begin.new.self) old.guarded e.time (λ m left there. (g.met.S.Slots.stop_known c.begin.new.self m left there).observable) fine (λ is. is) c.args.client) (kept_rests (g.G.Guard.allowed old.guard) old.tainted old.tainted (g.S.Slots.state old.slots) (g.S.Slots.state c.begin.new.self) (g.S.Slots.stop old.slots) (g.S.Slots.stop c.begin.new.self) old.guarded e.time (λ m left there. (g.met.S.Slots.stop_known c.begin.new.self m left there).observable) fine (λ is. is)); order = old.order }
