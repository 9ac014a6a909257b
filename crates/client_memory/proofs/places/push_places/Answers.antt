use Rattle.std.proofs.Common.{arith}
use Rattle.client_memory.proofs.Everywhere.{place_step, places_end}
use Rattle.client_memory.proofs.places.push_places.Goals as goal

pub loop-number-preserved : goal.loop-number-preserved
loop-number-preserved c =
    place_step c.args.out c.loop-number.number c.args.buffers.now c.loop-number.places.items c.push.new.self.items _ (omega (arith, c.loop-number-test.true, c.len-number-end.ensures)) c.in_ok-push.ensures.items c.loop-number.invariant

pub returns : goal.returns
returns c = places_end c.args.out c.loop-number.number c.args.buffers.now c.loop-number.places.items _ (omega (arith, c.loop-number-test.false, c.len-number-end.ensures)) c.loop-number.invariant
