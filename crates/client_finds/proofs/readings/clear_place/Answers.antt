use Rattle.std.proofs.Common.{◌≡◌, None, ap}
use Rattle.block_meaning.specs.Frames.{with_spot}
use Rattle.block_meaning.specs.Program.{Program}
use Rattle.block_meaning.specs.State.{State}
use Rattle.buffer_steps.specs.reads.Fixed.{Fixed}
use Rattle.client_finds.proofs.Buffers.{still_goes, still_stays}
use Rattle.client_finds.proofs.readings.clear_place.Goals as goal

pub returns-clause-stays : goal.returns-clause-stays
returns-clause-stays c =
    let after = c.clear_place.new.self in
    still_stays c.args.machine.now c.as_slice.result.now c.as_slice-2.result.now after.procedures.now after.returned.now after.error after.memory.now c.as_slice.ensures.value c.as_slice-2.ensures (ap (λ (f : Fixed). f.procedures) c.clear_place.ensures.fixed) (ap (λ (f : Fixed). f.copies) c.clear_place.ensures.fixed) c.clear_place.ensures.fits

pub returns-clause-goes : goal.returns-clause-goes
returns-clause-goes c =
    let after = c.clear_place.new.self in
    still_goes c.args.machine.now c.as_slice.result.now c.as_slice-2.result.now after.procedures.now after.memory.now (λ (p : Program) (s t : State). t ≡ with_spot c.args.buffer None s) c.as_slice.ensures.value c.as_slice-2.ensures (ap (λ (f : Fixed). f.procedures) c.clear_place.ensures.fixed) c.clear_place.ensures.state
