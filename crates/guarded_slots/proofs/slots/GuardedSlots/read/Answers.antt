-- What is guarded stays so, and the bytes are those of the slots below.
use Rattle.std.proofs.lemmas.Result.{on_ok_weaker}
use Rattle.guarded_slots.proofs.Keeping.{fine_before, readable_below}
use Rattle.guarded_slots.proofs.Calls.{kept_rests}
use Rattle.guarded_slots.proofs.slots.GuardedSlots.read.Goals as goal

pub returns-clause-bytes : goal.returns-clause-bytes
returns-clause-bytes g c = on_ok_weaker c.read.result (λ bytes readable. bytes (readable_below c.args.self.now.refused (g.S.Slots.state c.args.self.now.slots) readable)) c.read.ensures.bytes

pub invariant_of-self : goal.invariant_of-self
invariant_of-self g c =
    let old = c.args.self.now in
    let e = c.read.ensures in
    let fine = fine_before (g.S.Slots.state old.slots) (g.S.Slots.state c.read.new.self) c.read.result e.cause in
    record { guarded = kept_rests (g.G.Guard.allowed old.guard) old.tainted old.tainted (g.S.Slots.state old.slots) (g.S.Slots.state c.read.new.self) (g.S.Slots.stop old.slots) (g.S.Slots.stop c.read.new.self) old.guarded e.time (λ m left there. (g.met.S.Slots.stop_known c.read.new.self m left there).observable) fine (λ is. is) e.rest; order = old.order }
