use Rattle.std.proofs.Common.{◌≡◌, refl, subst}
use Rattle.bound_tree.specs.Tree.{Reading}
use Rattle.block_meaning.specs.Program.{Program}
use Rattle.block_meaning.specs.State.{State}
use Rattle.flat_machine.specs.Flat as flat
use Rattle.client_memory.specs.Frames.{state_with}
use Rattle.buffer_steps.specs.declared.reads.starts.FindStart.{FindStart}
use Rattle.client_machine.specs.Config.{reading_at}
use Rattle.client_finds.specs.Steps.{instrs_in}
use Rattle.client_finds.proofs.Buffers.{of_value, still_goes}
use Rattle.client_finds.proofs.readings.start_find.Goals as goal

pub returns-clause-goes : goal.returns-clause-goes
returns-clause-goes c =
    let old = c.args.machine.now in
    let ns = c.as_slice.result.now in
    let there = reading_at (instrs_in old) c.args.place in
    of_value c.find_start.result c.find_start.ensures (λ (start : FindStart) h. λ p rest wait retry ks reads.
    still_goes old ns c.as_slice-2.result.now ns old.memory
    (λ (q : Program) (s t : State). flat.find_step c.args.word there wait retry ks s ≡ flat.config (flat.Execute (flat.Searches there start.forward start.only wait retry start.from)) ks s)
    c.as_slice.ensures.value c.as_slice-2.ensures refl
    (λ q other fits. subst (λ (r : Reading). flat.find_step c.args.word r wait retry ks (state_with other ns old.memory) ≡ flat.config (flat.Execute (flat.Searches r start.forward start.only wait retry start.from)) ks (state_with other ns old.memory)) c.in-Some.ensures (h q other wait retry ks fits))
    p rest reads)
