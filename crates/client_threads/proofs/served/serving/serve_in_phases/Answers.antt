-- The clients of the tasks have run, or could not begin.
use Rattle.std.proofs.Common.{◌≡◌, ◌++◌, ◌∙◌, List, ap, sym, subst, arith, length}
use Rattle.std.specs.Prelude.{map}
use Rattle.client_core.specs.ClientView.{ClientView}
use Rattle.client_threads.specs.clients.Ran.{ClientTask}
use Rattle.client_threads.specs.declared.served.clients.EndedClient.{EndedClient}
use Rattle.client_threads.specs.served.Served.{HaveEndedOrNot, client_in, ended_in}
use Rattle.client_threads.proofs.ServedLemmas.Tasks.{have_ended_or_not}
use Rattle.client_threads.proofs.ServedLemmas.Vectors.{whole_of}
use Rattle.client_threads.proofs.served.serving.serve_in_phases.Goals as goal

pub returns-clause-ended : goal.returns-clause-ended
returns-clause-ended g c = λ f has.
    let old = c.as_mut_slice.result.now in
    let new = c.run_phases-database.new.tasks in
    let trace = g.B.Database.trace c.run_phases-database.result in
    let full : length new ≡ c.in-Ok-tasks_of.tasks.len = omega (arith, c.run_phases-database.auto.tasks, c.as_mut_slice.ensures.len) in
    let told : c.ended_clients.result.items ≡ c.in-Ok.ended.items ++ map ended_in new =
    subst (λ (tasks : List (ClientTask _)). c.ended_clients.result.items ≡ c.in-Ok.ended.items ++ map ended_in tasks) (whole_of c.in-Ok-tasks_of.tasks.len new _ full) c.ended_clients.ensures in
    let news : c.ended_clients.result.items ≡ map ended_in new = told ∙ ap (λ (ended : List EndedClient). ended ++ map ended_in new) c.in-Ok.ensures.items in
    let olds : map client_in old ≡ c.args.clients.items = ap (λ (tasks : List (ClientTask _)). map client_in tasks) c.as_mut_slice.ensures.value ∙ c.in-Ok-tasks_of.ensures in
    let ended = have_ended_or_not (g.B.Database.has_setting c.args.database) f has trace 0 old new c.run_phases-database.ensures.ran in
    subst (λ (clients : List ClientView). HaveEndedOrNot f trace 0 clients c.ended_clients.result.items) olds
    (subst (λ (clients : List EndedClient). HaveEndedOrNot f trace 0 (map client_in old) clients) (sym news) ended)
