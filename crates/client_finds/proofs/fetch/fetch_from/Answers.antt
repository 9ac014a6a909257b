use Rattle.std.proofs.Common.{◌∷◌, Some, false, true, refl, sym, ap, ◌∙◌}
use Rattle.bound_tree.specs.Tree.{Reading}
use Rattle.block_meaning.specs.Reads.{is_forward}
use Rattle.bound_tree.specs.declared.block.FetchWord.{FetchWord}
use Rattle.block_meaning.specs.State as state
use Rattle.block_meaning.specs.State.{State}
use Rattle.flat_machine.specs.Flat as flat
use Rattle.client_machine.specs.declared.mode.Task.TheVariants as task
use Rattle.client_machine.specs.declared.mode.reads.ReadTask.TheVariants as read_task
use Rattle.client_machine.specs.Config.{fetch_at, reading_at}
use Rattle.client_machine.specs.Machine.{stack_in, state_in}
use Rattle.client_finds.specs.Steps.{instrs_in}
use Rattle.client_finds.proofs.Kept.{on_ok, step_kept, task_from}
use Rattle.client_finds.proofs.fetch.fetch_from.Goals as goal

pub returns-in-Search-clause-ok : goal.returns-in-Search-clause-ok
returns-in-Search-clause-ok c =
    let old = c.args.machine.now in
    let k = c.args.place in
    let f = fetch_at (instrs_in old) k in
    let to : Reading → State → flat.Config = λ r s. flat.config (flat.Execute (flat.Searches r c.in-Search.forward false true c.args.retry c.in-Search.from)) (stack_in old) s in
    let goes = rw c.in-Search.is at (c.fetch_start.ensures f c.args.retry (sym c.in-Some.ensures.word)) in
    on_ok c.search.result (λ keeps.
    task_from (task.Read (read_task.FetchesFrom k c.args.again c.args.retry c.args.own)) old c.search.new.machine (λ o. o.1)
    (step_kept (flat.FetchesFrom c.args.again f c.args.retry c.args.own) (λ p s. to (reading_at (instrs_in old) k) s) old c.search.new.machine
    (λ p rest fits. goes (stack_in old) (state_in rest old) ∙ ap (λ (r : Reading). to r (state_in rest old)) (sym c.in-Some.ensures.reading)) keeps)) c.search.ensures.ok

pub returns-in-Again-clause-ok : goal.returns-in-Again-clause-ok
returns-in-Again-clause-ok c =
    let old = c.args.machine.now in
    let k = c.args.place in
    let f = fetch_at (instrs_in old) k in
    let own = c.in-Again.cursor in
    let to : Reading → FetchWord → State → flat.Config = λ r word s. flat.config (flat.Execute (flat.TakesAgain r c.args.retry own.row)) (flat.ThenDo (flat.Completes (state.Found own)) ∷ flat.OrDo (flat.Searches r (is_forward word) false true c.args.retry (Some own)) ∷ stack_in old) s in
    let goes = rw c.in-Again.is at (c.fetch_start.ensures f c.args.retry (sym c.in-Some.ensures.word)) in
    on_ok c.fetch_again.result (λ keeps.
    task_from (task.Read (read_task.FetchesFrom k c.args.again c.args.retry c.args.own)) old c.fetch_again.new.machine (λ o. o.1)
    (step_kept (flat.FetchesFrom c.args.again f c.args.retry c.args.own) (λ p s. to (reading_at (instrs_in old) k) c.in-Some.word s) old c.fetch_again.new.machine
    (λ p rest fits. goes (stack_in old) (state_in rest old) ∙ ap (λ w. to f.reading w (state_in rest old)) (sym c.in-Some.ensures.word) ∙ ap (λ (r : Reading). to r c.in-Some.word (state_in rest old)) (sym c.in-Some.ensures.reading)) keeps)) c.fetch_again.ensures.ok

pub returns-in-End-clause-ok : goal.returns-in-End-clause-ok
returns-in-End-clause-ok c =
    let old = c.args.machine.now in
    let k = c.args.place in
    let f = fetch_at (instrs_in old) k in
    let goes = rw c.in-End.is at (c.fetch_start.ensures f c.args.retry (sym c.in-Some.ensures.word)) in
    task_from (task.Read (read_task.FetchesFrom k c.args.again c.args.retry c.args.own)) old c.find_none.new.machine (λ o. o.1)
    (step_kept (flat.FetchesFrom c.args.again f c.args.retry c.args.own) (λ p s. flat.config (flat.Unwind state.NotFound) (stack_in old) s) old c.find_none.new.machine
    (λ p rest fits. goes (stack_in old) (state_in rest old)) c.find_none.ensures)
