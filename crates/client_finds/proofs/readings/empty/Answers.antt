use Rattle.std.proofs.Common.{◌≡◌, ap}
use Rattle.block_meaning.specs.Frames.{emptied}
use Rattle.block_meaning.specs.Program.{Program}
use Rattle.block_meaning.specs.State.{State}
use Rattle.buffer_steps.specs.reads.Fixed.{Fixed}
use Rattle.client_finds.proofs.Buffers.{still_goes, still_stays}
use Rattle.client_finds.proofs.readings.empty.Goals as goal

pub returns-clause-stays : goal.returns-clause-stays
returns-clause-stays c =
    let after = c.empty.new.self in
    still_stays c.args.machine.now c.as_slice.result.now c.as_slice-2.result.now after.procedures.now after.returned.now after.error after.memory.now c.as_slice.ensures.value c.as_slice-2.ensures (ap (λ (f : Fixed). f.procedures) c.empty.ensures.fixed) (ap (λ (f : Fixed). f.copies) c.empty.ensures.fixed) c.empty.ensures.fits

pub returns-clause-goes : goal.returns-clause-goes
returns-clause-goes c =
    let after = c.empty.new.self in
    still_goes c.args.machine.now c.as_slice.result.now c.as_slice-2.result.now after.procedures.now after.memory.now (λ (p : Program) (s t : State). t ≡ emptied c.args.buffer s) c.as_slice.ensures.value c.as_slice-2.ensures (ap (λ (f : Fixed). f.procedures) c.empty.ensures.fixed) c.empty.ensures.state
