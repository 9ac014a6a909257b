use Rattle.std.proofs.Common.{sym, ap, subst}
use Rattle.database_protocol.specs.declared.next_step.NextStep.TheVariants.{Ask}
use Rattle.client_machine.specs.Shows.{Shows}
use Rattle.client_machine.specs.declared.mode.Mode.{Mode}
use Rattle.client_machine.specs.Step.{NextStepIs, AsksOpenLevels}
use Rattle.client_machine.proofs.RunKept.{shows_asked, asks_open_levels}
use Rattle.client_machine.proofs.machine.Machine.next_step.Goals as goal

pub returns-in_ok-op-in-Await-clause-some : goal.returns-in_ok-op-in-Await-clause-some
returns-in_ok-op-in-Await-clause-some c = subst (λ o. NextStepIs (Ask o) c.args.self.now) (sym c.in_ok-op-in-Await.ensures) (shows_asked c.in-Await.op c.in-Await.on_answer c.args.self.now c.in-Await.is)

pub returns-in_ok-op-in-Await-clause-levels : goal.returns-in_ok-op-in-Await-clause-levels
returns-in_ok-op-in-Await-clause-levels c = subst (λ o. AsksOpenLevels (Ask o) c.args.self.now) (sym c.in_ok-op-in-Await.ensures) (asks_open_levels c.in-Await.op c.in-Await.on_answer c.args.self.now c.in-Await.is)

pub returns-in_ok-op-in-Await-clause-shows : goal.returns-in_ok-op-in-Await-clause-shows
returns-in_ok-op-in-Await-clause-shows c = subst (λ (m : Mode). Shows m c.args.self.now.stack.items (Ask c.in_ok-op-in-Await.op)) (sym c.in-Await.is) (ap Ask c.in_ok-op-in-Await.ensures)
