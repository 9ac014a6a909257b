use Rattle.std.proofs.Common.{ap, subst}
use Rattle.buffer_steps.specs.reads.Steps.{SecondGoes}
use Rattle.record_rules.specs.Answers.{found_row_in}
use Rattle.block_meaning.specs.Program.{Program}
use Rattle.block_meaning.specs.State.{State}
use Rattle.bound_tree.specs.Tree.{Reading}
use Rattle.client_machine.specs.Config.{reading_at}
use Rattle.client_finds.specs.Steps.{instrs_in}
use Rattle.client_memory.specs.Frames.{state_with}
use Rattle.buffer_steps.specs.reads.Fixed.{Fixed}
use Rattle.client_finds.proofs.Buffers.{still_goes, still_stays}
use Rattle.client_finds.proofs.readings.show_other.Goals as goal

pub returns-clause-stays : goal.returns-clause-stays
returns-clause-stays c =
    let after = c.show_second.new.buffers in
    still_stays c.args.machine.now c.as_slice.result.now c.as_slice-2.result.now after.procedures.now after.returned.now after.error after.memory.now c.as_slice.ensures.value c.as_slice-2.ensures (ap (λ (f : Fixed). f.procedures) c.show_second.ensures.fixed) (ap (λ (f : Fixed). f.copies) c.show_second.ensures.fixed) c.show_second.ensures.fits

pub returns-clause-goes : goal.returns-clause-goes
returns-clause-goes c =
    let after = c.show_second.new.buffers in
    still_goes c.args.machine.now c.as_slice.result.now c.as_slice-2.result.now after.procedures.now after.memory.now (λ (p : Program) (s t : State). SecondGoes c.show_second.result p (reading_at (instrs_in c.args.machine.now) c.args.place) c.args.retry (found_row_in c.args.found) s t) c.as_slice.ensures.value c.as_slice-2.ensures (ap (λ (f : Fixed). f.procedures) c.show_second.ensures.fixed) (λ p rest fits. subst (λ (r : Reading). SecondGoes c.show_second.result p r c.args.retry (found_row_in c.args.found) (state_with rest c.as_slice.result.now c.args.machine.now.memory) (state_with rest after.procedures.now after.memory.now)) c.in-Some.ensures (c.show_second.ensures.goes p rest fits))
