use Rattle.std.proofs.Common.{ap, ◌∙◌, refl, sym, subst}
use Rattle.std.specs.Prelude.{Option, IfSome}
use Rattle.database_protocol.specs.declared.next_step.NextStep.{NextStep}
use Rattle.client_machine.specs.Shows.{Shows}
use Rattle.client_machine.specs.Step.{NextStepIs}
use Rattle.client_output.specs.Written.{IsUnchanged}
use Rattle.client_output.proofs.Unchanged.{unchanged}
use Rattle.client_core.specs.declared.client.Client.{Client}
use Rattle.client_core.proofs.Resumes.{step_going, going_on_runs_on, fails_going}
use Rattle.client_core.proofs.Works.{fewer_left, shows_running}
use Rattle.client_core.proofs.client.Client.run_on.Goals as goal

-- ---- it asks

pub returns-in-Some-clause-follows : goal.returns-in-Some-clause-follows
returns-in-Some-clause-follows c =
    λ names m from run_from f. going_on_runs_on m names from c.loop.self c.in-Some.wants (c.loop.invariant.same ∙ run_from) (subst (λ (x : Option NextStep). IfSome x (λ w. NextStepIs w c.loop.self.machine)) c.in-Some.is c.in-Ok.ensures.some) (c.loop.invariant.going names m from run_from f)

pub returns-in-Some-clause-fewer : goal.returns-in-Some-clause-fewer
returns-in-Some-clause-fewer c = λ run_from.
    fewer_left c.loop.self.phase c.loop.self.machine.mode c.loop.self.machine.stack.items c.loop.self.machine.units c.args.limit c.in-Some.wants (c.loop.invariant.same ∙ run_from) (subst (λ (x : Option NextStep). IfSome x (λ w. Shows c.loop.self.machine.mode c.loop.self.machine.stack.items w)) c.in-Some.is c.in-Ok.ensures.shows) (c.asks_too_much.ensures c.if-asks_too_much.false)

pub returns-in-Some-clause-wants : goal.returns-in-Some-clause-wants
returns-in-Some-clause-wants c = λ run_from. shows_running c.loop.self.phase c.loop.self.machine.mode c.loop.self.machine.stack.items c.in-Some.wants (c.loop.invariant.same ∙ run_from)
    (subst (λ (x : Option NextStep). IfSome x (λ w. Shows c.loop.self.machine.mode c.loop.self.machine.stack.items w)) c.in-Some.is c.in-Ok.ensures.shows) (c.if-not-may_ask.ensures refl)

-- ---- out of memory

pub returns-then-asks_too_much-clause-follows : goal.returns-then-asks_too_much-clause-follows
returns-then-asks_too_much-clause-follows c =
    λ names m from run_from f. fails_going m names from c.loop.self.machine c.give_up-then-asks_too_much.new.self c.give_up-then-asks_too_much.result (ap (λ (x : Client). x.phase) c.give_up-then-asks_too_much.ensures.new) c.give_up-then-asks_too_much.ensures.asks
    (subst (λ (x : Client). IsUnchanged c.loop.self.machine.output x.machine.output) (sym c.give_up-then-asks_too_much.ensures.new) (unchanged c.loop.self.machine.output)) (c.loop.invariant.going names m from run_from f)

pub returns-then-not-may_ask-clause-follows : goal.returns-then-not-may_ask-clause-follows
returns-then-not-may_ask-clause-follows c =
    λ names m from run_from f. fails_going m names from c.loop.self.machine c.give_up-then-not-may_ask.new.self c.give_up-then-not-may_ask.result (ap (λ (x : Client). x.phase) c.give_up-then-not-may_ask.ensures.new) c.give_up-then-not-may_ask.ensures.asks
    (subst (λ (x : Client). IsUnchanged c.loop.self.machine.output x.machine.output) (sym c.give_up-then-not-may_ask.ensures.new) (unchanged c.loop.self.machine.output)) (c.loop.invariant.going names m from run_from f)

pub returns-in-Err-clause-follows : goal.returns-in-Err-clause-follows
returns-in-Err-clause-follows c =
    λ names m from run_from f. fails_going m names from c.loop.self.machine c.give_up.new.self c.give_up.result (ap (λ (x : Client). x.phase) c.give_up.ensures.new) c.give_up.ensures.asks
    (subst (λ (x : Client). IsUnchanged c.loop.self.machine.output x.machine.output) (sym c.give_up.ensures.new) (unchanged c.loop.self.machine.output)) (c.loop.invariant.going names m from run_from f)

pub returns-in-Err-step-clause-follows : goal.returns-in-Err-step-clause-follows
returns-in-Err-step-clause-follows c =
    λ names m from run_from f. fails_going m names from c.loop.self.machine c.give_up-in-Err-step.new.self c.give_up-in-Err-step.result (ap (λ (x : Client). x.phase) c.give_up-in-Err-step.ensures.new) c.give_up-in-Err-step.ensures.asks
    (subst (λ (x : Client). IsUnchanged c.loop.self.machine.output x.machine.output) (sym c.give_up-in-Err-step.ensures.new) c.in-Err-step.ensures.err) (c.loop.invariant.going names m from run_from f)

pub returns-clause-follows : goal.returns-clause-follows
returns-clause-follows c =
    λ names m from run_from f. fails_going m names from c.loop.self.machine c.give_up-2.new.self c.give_up-2.result (ap (λ (x : Client). x.phase) c.give_up-2.ensures.new) c.give_up-2.ensures.asks
    (subst (λ (x : Client). IsUnchanged c.loop.self.machine.output x.machine.output) (sym c.give_up-2.ensures.new) (unchanged c.loop.self.machine.output)) (c.loop.invariant.going names m from run_from f)

-- ---- a step

pub loop-preserved : goal.loop-preserved
loop-preserved c =
    record {
      same = c.loop.invariant.same;
      going = λ names m from run_from f. step_going m names from c.loop.self.machine c.step.new.machine c.in-Ok-step.ensures.ok (c.loop.invariant.going names m from run_from f);
    }
