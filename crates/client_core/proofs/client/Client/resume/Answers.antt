use Rattle.std.proofs.Common.{◌≡◌, ◌∙◌, Some, Option, ◌<◌, sym, subst}
use Rattle.std.specs.Prelude.{IfSome}
use Rattle.database_protocol.specs.declared.ends.ClientEnd.TheVariants.{NoMemory}
use Rattle.database_protocol.specs.declared.next_step.NextStep.TheVariants.{Ended}
use Rattle.database_protocol.specs.declared.answer.Answer.{Answer}
use Rattle.client_core.specs.NextStep.{IsPlain, IsEnded}
use Rattle.client_core.specs.ClientView.{HasWritten}
use Rattle.client_core.specs.Work.{most_operations, IsWaiting}
use Rattle.client_core.specs.Refines.{Refines, AfterResume, IsExpected, answers_with}
use Rattle.client_core.proofs.Works.{shows_waits}
use Rattle.client_core.proofs.client.Client.resume.Goals as goal

some_same : (a b : Answer) → Some a ≡ Some b → a ≡ b
some_same a b e = cc

pub returns-in-Some-clause-refines : goal.returns-in-Some-clause-refines
returns-in-Some-clause-refines c =
    λ names m answers.
    subst (λ (a : Option Answer). IsExpected a c.args.self.now answers → Refines c.args.self.now names m answers → AfterResume c.resume_with.new.self names m (answers_with answers a) c.resume_with.result) (sym c.in-Some.is)
    (λ waiting d. c.resume_with.ensures.refines names m answers waiting d)

pub returns-in-None-clause-refines : goal.returns-in-None-clause-refines
returns-in-None-clause-refines c =
    λ names m answers.
    subst (λ (a : Option Answer). IsExpected a c.args.self.now answers → Refines c.args.self.now names m answers → AfterResume c.begin.new.self names m (answers_with answers a) c.begin.result) (sym c.in-None.is)
    (λ expected d. c.begin.ensures.refines names m answers expected.0 expected.1 d)

pub returns-in-Some-clause-given_up : goal.returns-in-Some-clause-given_up
returns-in-Some-clause-given_up c =
    λ names m answers pieces given.
    subst (λ (a : Option Answer). IfSome a (λ _. (c.resume_with.result ≡ Ended NoMemory) × HasWritten c.resume_with.new.self names pieces)) (sym c.in-Some.is)
    (c.resume_with.ensures.given_up names m answers pieces given)

pub returns-in-Some-clause-waits : goal.returns-in-Some-clause-waits
returns-in-Some-clause-waits c = shows_waits c.resume_with.new.self c.resume_with.result c.resume_with.ensures.wants

pub returns-in-None-clause-waits : goal.returns-in-None-clause-waits
returns-in-None-clause-waits c = shows_waits c.begin.new.self c.begin.result c.begin.ensures.wants

pub returns-in-Some-clause-fewer : goal.returns-in-Some-clause-fewer
returns-in-Some-clause-fewer c =
    subst (λ (a : Option Answer). IfSome a (λ a. IsPlain a → IsWaiting c.args.self.now → most_operations c.resume_with.new.self < most_operations c.args.self.now)) (sym c.in-Some.is)
    c.resume_with.ensures.fewer

pub returns-in-Some-clause-ended : goal.returns-in-Some-clause-ended
returns-in-Some-clause-ended c =
    λ ending. subst (λ (a : Option Answer). IfSome a (λ _. IsEnded c.resume_with.result)) (sym c.in-Some.is) (c.resume_with.ensures.ended ending)

pub returns-in-Some-clause-gives_up : goal.returns-in-Some-clause-gives_up
returns-in-Some-clause-gives_up c = λ is waiting. c.resume_with.ensures.gives_up (some_same c.in-Some.answer _ (sym c.in-Some.is ∙ is)) waiting
