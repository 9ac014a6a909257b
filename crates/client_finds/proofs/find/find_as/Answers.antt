use Rattle.std.proofs.Common.{Bool, sym, ap, ◌∙◌, subst}
use Rattle.bound_tree.specs.declared.statement.FindWord.{FindWord}
use Rattle.flat_machine.specs.Flat as flat
use Rattle.client_machine.specs.declared.machine.Machine.{Machine}
use Rattle.client_machine.specs.declared.mode.Task.TheVariants as task
use Rattle.client_machine.specs.declared.mode.reads.ReadTask.TheVariants as read_task
use Rattle.client_machine.specs.Config.{instr_at, reading_at}
use Rattle.client_machine.specs.Machine.{stack_in, state_in}
use Rattle.client_machine.specs.Statements.{find_word_in, wait_in}
use Rattle.client_finds.specs.Steps.{instrs_in, KeepsExecuted}
use Rattle.client_finds.proofs.Kept.{on_ok, reads_now, rest_now, step_kept, task_from}
use Rattle.client_finds.proofs.find.find_as.Goals as goal

pub returns-clause-ok : goal.returns-clause-ok
returns-clause-ok c =
    let old = c.args.machine.now in
    let k = c.args.place in
    let r = reading_at (instrs_in old) k in
    let i = instr_at (instrs_in old) k in
    let start = c.in_ok-start.start in
    let wait = c.in-Some-waits_at.wait in
    let word = c.in-Some.word in
    on_ok c.search.result (λ keeps.
    task_from (task.Read (read_task.FindsAs k c.args.retry)) old c.search.new.machine (λ o. o.1)
    (step_kept (flat.FindsAs (find_word_in i) r (wait_in i) c.args.retry)
    (λ p s. flat.config (flat.Execute (flat.Searches r start.forward start.only wait c.args.retry start.from)) (stack_in old) s) old c.search.new.machine
    (λ p rest f.
    ap (λ (w : FindWord). flat.find_step w r (wait_in i) c.args.retry (stack_in old) (state_in rest old)) (sym c.in-Some.ensures)
    ∙ ap (λ (b : Bool). flat.find_step word r b c.args.retry (stack_in old) (state_in rest old)) (sym c.in-Some-waits_at.ensures)
    ∙ c.in_ok-start.ensures.goes p (rest_now rest old) wait c.args.retry (stack_in old) (reads_now p rest old f))
    (subst (λ (m : Machine). KeepsExecuted (flat.Searches (reading_at (instrs_in m) k) start.forward start.only wait c.args.retry start.from) m c.search.new.machine) c.start_find.ensures.same keeps))) c.search.ensures.ok
