use Rattle.std.proofs.Common.{ℕ, sym, ap, ◌∙◌}
use Rattle.std.specs.Prelude.{reverse}
use Rattle.bound_tree.specs.declared.statement.FindWord.{FindWord}
use Rattle.flat_machine.specs.Flat as flat
use Rattle.client_machine.specs.declared.mode.StackEntry.TheVariants as stack
use Rattle.client_machine.specs.declared.mode.reads.ReadEntry.TheVariants as read_entry
use Rattle.client_machine.specs.Config.{completion_of, reading_at}
use Rattle.client_machine.specs.Machine.{stack_in, state_in}
use Rattle.client_machine.specs.Order.{nesting_of}
use Rattle.client_finds.specs.Steps.{instrs_in}
use Rattle.client_finds.proofs.Found.{entry_moved}
use Rattle.client_finds.proofs.find.found_as.Goals as goal

pub returns-clause-ok : goal.returns-clause-ok
returns-clause-ok c =
    let old = c.args.machine.now in
    let b = (reading_at (instrs_in old) c.args.place).buffer in
    let w = completion_of (instrs_in old) old.memory.copies c.args.completion in
    entry_moved (stack.Read (read_entry.FoundAs c.args.place)) c.args.completion old c.set_mode.new.self c.mode_found-mode.result c.set_mode.ensures
    (c.mode_found-mode.ensures.order (nesting_of old.memory) (reverse old.stack.items))
    (λ p rest.
    ap (λ (x : FindWord). flat.found_step w x b (stack_in old) (state_in rest old)) (sym c.in-Some.ensures)
    ∙ ap (λ (n : ℕ). flat.found_step w c.in-Some.word n (stack_in old) (state_in rest old)) (sym c.in-Some-buffer_at.ensures)
    ∙ sym (c.mode_found-mode.ensures.same (instrs_in old) old.memory.copies (stack_in old) (state_in rest old)))
