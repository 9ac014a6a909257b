-- The clients of a phase have run, or none has begun.
use Rattle.std.proofs.Common.{ap, ◌∙◌, arith}
use Rattle.client_threads.specs.clients.Outcome.{own_events}
use Rattle.client_threads.proofs.ClientsLemmas.InPhases.{have_not_begun, have_run}
use Rattle.client_threads.proofs.clients.phases.run_phase.Goals as goal

pub returns-in-Ok-clause-ran : goal.returns-in-Ok-clause-ran
returns-in-Ok-clause-ran g c =
    let D = g.D.Database in
    have_run (D.has_setting c.args.database) (D.trace c.in-Ok.database) c.args.first c.args.tasks.now c.run_block_clients.new.tasks (omega (arith, c.run_block_clients.auto.tasks)) c.in-Ok.ensures.ran

pub returns-in-Err-clause-ran : goal.returns-in-Err-clause-ran
returns-in-Err-clause-ran g c =
    let D = g.D.Database in
    have_not_begun (D.has_setting c.args.database) (D.trace c.in-Err.database) c.args.first c.args.tasks.now c.leave_out.new.tasks (omega (arith, c.run_block_clients.auto.tasks, c.leave_out.auto.tasks)) c.leave_out.ensures
    (λ n from. ap (λ d. own_events n (D.trace d)) c.in-Err.ensures.back ∙ c.requires.fresh n from)
