use Rattle.std.proofs.Common.{◌≡◌, sym, ap, ◌∙◌, refl, length, subst}
use Rattle.std.specs.Prelude.{reverse}
use Rattle.std.proofs.lemmas.Bool.{eq-eqb, ne_eqb}
use Rattle.flat_machine.specs.Flat as flat
use Rattle.block_meaning.specs.State as state
use Rattle.block_meaning.specs.Blocks.{passed_with}
use Rattle.client_machine.specs.Config.{header_at, iteration_of, passed_of}
use Rattle.client_machine.specs.Machine.{stack_in, state_in}
use Rattle.client_machine.specs.Order.{nesting_of}
use Rattle.client_machine.specs.Step.{KeepsTask}
use Rattle.client_machine.specs.declared.mode.Completion.TheVariants as completion
use Rattle.client_machine.specs.declared.mode.Task.TheVariants as task
use Rattle.client_machine.specs.declared.mode.IterationData.{IterationData}
use Rattle.client_machine.proofs.RunKept.{on_three, task_kept_same}
use Rattle.client_machine.proofs.End.{passed_is}
use Rattle.client_machine.proofs.Passes.{endkey_passes, none_is_passed, outer_named, passes_ended, passes_left, ended_kept}
use Rattle.client_machine.proofs.machine.Machine.endkey_passes.Goals as goal

pub returns-then-depth-eq0-clause-ok : goal.returns-then-depth-eq0-clause-ok
returns-then-depth-eq0-clause-ok c =
    let old = c.args.self.now in
    let code = old.code.instrs.items in
    let cs = old.memory.copies in
    let b = header_at code c.args.place in
    let none : length cs ≡ 0 = sym c.depth.ensures ∙ c.if-depth-eq0.true in
    let x = passed_of code cs c.args.passed in
    on_three c.ends_passed.result (λ moved order same turn.
    let it : IterationData = record { depth = c.args.depth; turn = turn } in
    ended_kept (task.EndsWith c.args.place it (completion.EndKeys c.args.passed)) (completion.EndKeys c.args.passed) c.args.place old c.ends_passed.new.self moved order same
    (λ o. none_is_passed old.memory c.args.place it c.args.passed.first (reverse old.stack.items) none o)
    (λ tree p s ans level. endkey_passes p b (iteration_of cs it) x s ans c.requires.passes ∙ passes_ended p b (state.EndKeys x) _ s ans (eq-eqb s.level 0 (level ∙ none))))
    c.ends_passed.ensures.moved c.ends_passed.ensures.order c.ends_passed.ensures.same

pub returns-clause-ok : goal.returns-clause-ok
returns-clause-ok c = λ turn.
    let old = c.args.self.now in
    let code = old.code.instrs.items in
    let cs = old.memory.copies in
    let b = header_at code c.args.place in
    let ks = reverse old.stack.items in
    let it : IterationData = record { depth = c.args.depth; turn = turn } in
    let o = iteration_of cs it in
    let x = passed_of code cs c.args.passed in
    let y = c.in_ok-passed.passed in
    let t = task.EndsWith c.args.place it (completion.EndKeys c.args.passed) in
    subst (KeepsTask t old) (sym c.set_mode.ensures)
    (task_kept_same t old _ refl
    (outer_named (nesting_of old.memory) c.args.place it y.first c.args.passed.first ks c.in_ok-passed.ensures.first)
    (λ tree p rest is f ans.
    ap (flat.after_stack tree p (stack_in old))
    (endkey_passes p b o x (state_in rest old) ans c.requires.passes
    ∙ passes_left p b (state.EndKeys x) (state.EndKeys (passed_with b o x)) (state_in rest old) ans (ne_eqb (length cs) 0 (λ e. c.if-depth-eq0.false (c.depth.ensures ∙ e)))
    ∙ ap (λ z. state.Done (state.EndKeys z) (state_in rest old) ans) (passed_is code cs b it y c.args.passed c.in_ok-passed.ensures.first c.in_ok-passed.ensures.buffers))))
