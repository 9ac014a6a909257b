use Rattle.std.proofs.Common.{◌≡◌, sym, ap, ◌∙◌, refl, length, subst}
use Rattle.std.specs.Prelude.{reverse}
use Rattle.std.proofs.lemmas.Bool.{eq-eqb, ne_eqb}
use Rattle.flat_machine.specs.Flat as flat
use Rattle.block_meaning.specs.State as state
use Rattle.block_meaning.specs.Blocks.{passed_with}
use Rattle.client_machine.specs.Config.{header_at, iteration_of, passed_of}
use Rattle.client_machine.specs.Undone.{phrase_of}
use Rattle.client_machine.specs.Machine.{stack_in, state_in}
use Rattle.client_machine.specs.Order.{nesting_of}
use Rattle.client_machine.specs.Step.{KeepsTask}
use Rattle.client_machine.specs.declared.mode.Completion.TheVariants as completion
use Rattle.client_machine.specs.declared.mode.Task.TheVariants as task
use Rattle.client_machine.proofs.RunKept.{on_three, task_kept_same}
use Rattle.client_machine.proofs.End.{passed_is}
use Rattle.client_machine.proofs.Passes.{error_undoes, error_passes, none_is_passed, outer_named, passes_ended, passes_left, ended_kept}
use Rattle.client_machine.proofs.machine.Machine.error_comes.Goals as goal

pub returns-then-can_undo-clause-ok : goal.returns-then-can_undo-clause-ok
returns-then-can_undo-clause-ok c =
    let old = c.args.self.now in
    let cs = old.memory.copies in
    let code = old.code.instrs.items in
    let b = header_at code c.args.place in
    let t = task.EndsWith c.args.place c.args.iteration (completion.Raises c.args.passed) in
    subst (KeepsTask t old) (sym c.set_mode.ensures)
    (task_kept_same t old _ refl (λ o. o)
    (λ tree p rest is f ans. error_undoes tree p b (iteration_of cs c.args.iteration) (passed_of code cs c.args.passed) (phrase_of code c.on_error_at-on.result) (stack_in old) (state_in rest old) ans (sym c.can_undo.ensures ∙ c.if-can_undo.true) c.on_error_at-on.ensures))

pub returns-then-depth-eq0-clause-ok : goal.returns-then-depth-eq0-clause-ok
returns-then-depth-eq0-clause-ok c =
    let old = c.args.self.now in
    let code = old.code.instrs.items in
    let cs = old.memory.copies in
    let b = header_at code c.args.place in
    let none : length cs ≡ 0 = sym c.depth.ensures ∙ c.if-depth-eq0.true in
    let x = passed_of code cs c.args.passed in
    on_three c.ends_passed.result (λ moved order same.
    ended_kept (task.EndsWith c.args.place c.args.iteration (completion.Raises c.args.passed)) (completion.Raises c.args.passed) c.args.place old c.ends_passed.new.self moved order same
    (λ o. none_is_passed old.memory c.args.place c.args.iteration c.args.passed.first (reverse old.stack.items) none o)
    (λ tree p s ans level. error_passes p b (iteration_of cs c.args.iteration) x s ans (sym c.can_undo.ensures ∙ c.if-can_undo.false) ∙ passes_ended p b (state.Raises x) _ s ans (eq-eqb s.level 0 (level ∙ none))))
    c.ends_passed.ensures.moved c.ends_passed.ensures.order c.ends_passed.ensures.same

pub returns-clause-ok : goal.returns-clause-ok
returns-clause-ok c =
    let old = c.args.self.now in
    let code = old.code.instrs.items in
    let cs = old.memory.copies in
    let b = header_at code c.args.place in
    let ks = reverse old.stack.items in
    let o = iteration_of cs c.args.iteration in
    let x = passed_of code cs c.args.passed in
    let y = c.in_ok-passed.passed in
    let t = task.EndsWith c.args.place c.args.iteration (completion.Raises c.args.passed) in
    subst (KeepsTask t old) (sym c.set_mode-2.ensures)
    (task_kept_same t old _ refl
    (outer_named (nesting_of old.memory) c.args.place c.args.iteration y.first c.args.passed.first ks c.in_ok-passed.ensures.first)
    (λ tree p rest is f ans.
    ap (flat.after_stack tree p (stack_in old))
    (error_passes p b o x (state_in rest old) ans (sym c.can_undo.ensures ∙ c.if-can_undo.false)
    ∙ passes_left p b (state.Raises x) (state.Raises (passed_with b o x)) (state_in rest old) ans (ne_eqb (length cs) 0 (λ e. c.if-depth-eq0.false (c.depth.ensures ∙ e)))
    ∙ ap (λ z. state.Done (state.Raises z) (state_in rest old) ans) (passed_is code cs b c.args.iteration y c.args.passed c.in_ok-passed.ensures.first c.in_ok-passed.ensures.buffers))))
