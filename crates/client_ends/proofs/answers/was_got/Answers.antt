use Rattle.std.proofs.Common.{ap, ◌∙◌}
use Rattle.flat_machine.specs.Flat as flat
use Rattle.client_memory.specs.Buffers.{denoted_place}
use Rattle.client_machine.specs.declared.mode.Completion.TheVariants as completion
use Rattle.client_machine.specs.declared.mode.Mode.TheVariants as mode
use Rattle.client_machine.specs.declared.mode.OnAnswer.TheVariants as on_answer
use Rattle.client_machine.specs.declared.mode.ends.EndAnswer.TheVariants as end_answer
use Rattle.client_machine.specs.Machine.{stack_in, state_in}
use Rattle.block_meaning.specs.State.{State, Content, Normal}
use Rattle.block_meaning.specs.Buffers.{holding_in}
use Rattle.client_memory.specs.Buffers.{denoted_content}
use Rattle.client_memory.specs.Memory.{Remembered, holding}
use Rattle.client_machine.specs.declared.machine.Machine.{Machine}
use Rattle.client_ends.proofs.Buffers.{holding_here, shape_held}
use Rattle.client_ends.proofs.Moved.{answer_moved}
use Rattle.client_ends.proofs.answers.was_got.Goals as goal

pub returns-clause-ok : goal.returns-clause-ok
returns-clause-ok c =
    let old = c.args.machine.now in
    let at = denoted_place c.args.place in
    let content = denoted_content c.content_read-content.result in
    let mem = holding at content old.memory in
    answer_moved c.args.op (on_answer.End (end_answer.WasGot c.args.place c.args.row c.args.held c.args.made)) c.args.answer old c.set_mode.new.self (mode.Unwind completion.Normal) mem
    (c.set_mode.ensures ∙ ap (λ (m : Remembered). let x : Machine = record old { mode = mode.Unwind completion.Normal; memory = m } in x) c.replace.ensures.new) (shape_held at content old.memory)
    (λ p k ks s. c.requires p _ k ks s) (λ o. (tt, o))
    (λ p rest f.
    ap (λ (t : State). flat.config (flat.Unwind Normal) (stack_in old) t) (holding_here rest old.procedures.items old.memory old.units at content f.even)
    ∙ ap (λ (x : Content). flat.config (flat.Unwind Normal) (stack_in old) (holding_in at x (state_in rest old))) c.content_read-content.ensures)
