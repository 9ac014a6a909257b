use Rattle.std.proofs.Common.{rules, ◌≡◌, ◌∷◌, [], List, ap, refl, ◌∙◌}
use Rattle.std.specs.Prelude.{map, reverse}
use Rattle.std.proofs.lemmas.List.{reverse-append}
use Rattle.flat_machine.specs.Flat as flat
use Rattle.block_meaning.specs.Changes.{stored}
use Rattle.block_meaning.specs.Program.{Program}
use Rattle.block_meaning.specs.State as state
use Rattle.block_meaning.specs.State.{State}
use Rattle.client_machine.specs.Config.{assignments_of, given_of}
use Rattle.client_machine.specs.Machine.{stack_in, state_in}
use Rattle.client_machine.specs.Step.{code_in}
use Rattle.client_machine.specs.declared.mode.Completion.TheVariants as completion
use Rattle.client_machine.specs.declared.mode.Mode.TheVariants as mode
use Rattle.client_machine.specs.declared.mode.changes.AssignmentList.TheVariants as assignment_list
use Rattle.client_machine.specs.declared.mode.changes.ChangeTask.TheVariants as change_task
use Rattle.client_machine.specs.declared.mode.changes.GivenValue.{GivenValue}
use Rattle.client_records.proofs.Assigned.{given_goes, none_left}
use Rattle.client_records.proofs.Kept.{mode_kept, on_ok, task_from}
use Rattle.client_records.proofs.assigns.give_next.Goals as goal

pub returns-in-None-clause-ok : goal.returns-in-None-clause-ok
returns-in-None-clause-ok c =
    let old = c.args.machine.now in
    let xs = assignment_list.Given c.args.values in
    let none : c.args.values.items ≡ [] = search (rules, c.in-None.ensures.items) in
    let from = λ (p : Program) (s : State). flat.config (flat.Unwind state.Normal) (stack_in old) s in
    task_from (change_task.AssignsEach xs c.args.retry) from old c.complete.new.machine
    (λ tree p rest is f ans. none_left (code_in old) tree p is (assignments_of old.code.instrs.items xs) c.args.retry (stack_in old) (state_in rest old) ans (ap (λ (vs : List GivenValue). map given_of (reverse vs)) none))
    (mode_kept from old c.complete.new.machine (mode.Unwind completion.Normal) c.complete.ensures (λ o. o) (λ p rest f. refl))

pub returns-in-Some-clause-ok : goal.returns-in-Some-clause-ok
returns-in-Some-clause-ok c =
    let old = c.args.machine.now in
    let code = old.code.instrs.items in
    let xs = assignment_list.Given c.args.values in
    let more = map given_of (reverse c.pop.new.self.items) in
    let t = c.in-Some.next.target in
    let v = c.in-Some.next.value in
    let from = λ (p : Program) (s : State). flat.ends_as (stored t v s) (flat.ThenDo (flat.AssignsEach more c.args.retry) ∷ stack_in old) in
    let starts = ap (λ (vs : List GivenValue). map given_of vs) (ap reverse c.in-Some.ensures.items ∙ reverse-append c.pop.new.self.items (c.in-Some.next ∷ [])) in
    on_ok c.assign_then.result (λ kept.
    task_from (change_task.AssignsEach xs c.args.retry) from old c.assign_then.new.machine
    (λ tree p rest is f ans. given_goes (code_in old) tree p is (assignments_of code xs) more t v c.args.retry (stack_in old) (state_in rest old) ans starts) kept) c.assign_then.ensures.ok
