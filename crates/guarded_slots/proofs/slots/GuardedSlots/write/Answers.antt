-- What is guarded stays so.
use Rattle.guarded_slots.proofs.Keeping.{fine_before}
use Rattle.guarded_slots.proofs.Calls.{by_result, kept_writes, kept_rests}
use Rattle.guarded_slots.proofs.slots.GuardedSlots.write.Goals as goal

pub invariant_of-self : goal.invariant_of-self
invariant_of-self g c =
    let old = c.args.self.now in
    let e = c.write.ensures in
    let clean = c.is_tainted-self.ensures in
    let fine = fine_before (g.S.Slots.state old.slots) (g.S.Slots.state c.write.new.self) c.write.result e.cause in
    record {
      guarded = by_result c.write.result e.ok e.err (kept_writes (g.G.Guard.allowed old.guard) old.tainted c.is_tainted-self.result (g.S.Slots.state old.slots) (g.S.Slots.state c.write.new.self) (g.S.Slots.stop old.slots) (g.S.Slots.stop c.write.new.self) old.guarded e.time (λ m left there. (g.met.S.Slots.stop_known c.write.new.self m left there).observable) fine (λ is. (clean is).0) c.args.client c.args.slot c.args.bytes.now (λ is. c.allows.ensures (clean is).1)) (kept_rests (g.G.Guard.allowed old.guard) old.tainted c.is_tainted-self.result (g.S.Slots.state old.slots) (g.S.Slots.state c.write.new.self) (g.S.Slots.stop old.slots) (g.S.Slots.stop c.write.new.self) old.guarded e.time (λ m left there. (g.met.S.Slots.stop_known c.write.new.self m left there).observable) fine (λ is. (clean is).0));
      order = λ is. old.order (clean is).0;
    }
