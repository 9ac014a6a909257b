use Rattle.std.proofs.Common.{◌≡◌, sym, refl, subst}
use Rattle.std.specs.Prelude.{Option, Some, None, MatchOption}
use Rattle.client_machine.specs.Config.{header_at, iteration_of, passed_of}
use Rattle.client_machine.specs.Machine.{stack_in, state_in}
use Rattle.client_machine.specs.Step.{KeepsTask}
use Rattle.client_machine.specs.declared.mode.Completion.TheVariants as completion
use Rattle.client_machine.specs.declared.mode.Task.TheVariants as task
use Rattle.client_machine.specs.Actions.{endkey_phrase}
use Rattle.client_machine.specs.Undone.{phrase_of}
use Rattle.client_machine.specs.declared.actions.OnCondition.{OnCondition}
use Rattle.client_machine.proofs.RunKept.{on_ok, task_kept_same}
use Rattle.client_machine.proofs.Passes.{endkey_undoes}
use Rattle.client_machine.proofs.machine.Machine.endkey_comes.Goals as goal

pub returns-in-None-clause-ok : goal.returns-in-None-clause-ok
returns-in-None-clause-ok c = on_ok c.endkey_passes.result (λ keeps. keeps c.args.iteration.turn) c.endkey_passes.ensures.ok

pub returns-in-Some-clause-ok : goal.returns-in-Some-clause-ok
returns-in-Some-clause-ok c =
    let old = c.args.self.now in
    let cs = old.memory.copies in
    let code = old.code.instrs.items in
    let b = header_at code c.args.place in
    let t = task.EndsWith c.args.place c.args.iteration (completion.EndKeys c.args.passed) in
    subst (KeepsTask t old) (sym c.set_mode.ensures)
    (task_kept_same t old _ refl (λ o. o)
    (λ tree p rest is f ans.
    endkey_undoes tree p b (iteration_of cs c.args.iteration) (passed_of code cs c.args.passed) (phrase_of code c.in-Some.on) (stack_in old) (state_in rest old) ans
    (subst (λ (x : Option OnCondition). MatchOption x (endkey_phrase b b.on_endkey ≡ None) (λ on. endkey_phrase b b.on_endkey ≡ Some (phrase_of code on))) c.in-Some.is c.on_endkey_at.ensures)))
