-- What is guarded stays so.
use Rattle.guarded_slots.proofs.Keeping.{fine_before}
use Rattle.guarded_slots.proofs.Calls.{by_result, kept_grows, kept_rests}
use Rattle.guarded_slots.proofs.slots.GuardedSlots.room.Goals as goal

pub invariant_of-self : goal.invariant_of-self
invariant_of-self g c =
    let old = c.args.self.now in
    let e = c.room.ensures in
    let fine = fine_before (g.S.Slots.state old.slots) (g.S.Slots.state c.room.new.self) c.room.result e.cause in
    record { guarded = by_result c.room.result e.ok e.err (kept_grows (g.G.Guard.allowed old.guard) old.tainted old.tainted (g.S.Slots.state old.slots) (g.S.Slots.state c.room.new.self) (g.S.Slots.stop old.slots) (g.S.Slots.stop c.room.new.self) old.guarded e.time (λ m left there. (g.met.S.Slots.stop_known c.room.new.self m left there).observable) fine (λ is. is) c.args.client c.args.writes) (kept_rests (g.G.Guard.allowed old.guard) old.tainted old.tainted (g.S.Slots.state old.slots) (g.S.Slots.state c.room.new.self) (g.S.Slots.stop old.slots) (g.S.Slots.stop c.room.new.self) old.guarded e.time (λ m left there. (g.met.S.Slots.stop_known c.room.new.self m left there).observable) fine (λ is. is)); order = old.order }
