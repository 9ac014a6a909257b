use Rattle.std.proofs.Common.{ℕ, List, Bool, IsTrue, sym, subst}
use Rattle.std.specs.Prelude.{Option, None}
use Rattle.log_meaning.specs.steps.Steps.{Image}
use Rattle.log_meaning.specs.Images.{Recovers}
use Rattle.bi_log.specs.declared.header.Header.{Header}
use Rattle.bi_log.specs.Outcomes.{FindAnswer}
use Rattle.bi_recovery.proofs.Recovery.{none_opened}
use Rattle.bi_recovery.proofs.log_read.read_log.Goals as goal

pub returns-in-None-clause-none : goal.returns-in-None-clause-none
returns-in-None-clause-none g c = λ is known.
    let seen = g.D.Disk.seen c.args.disk.now in
    let says : FindAnswer seen None = subst (λ (r : Option (ℕ × Header)). FindAnswer seen r) c.in-None.is (c.in_ok-find.ensures.ok known) in
    none_opened seen (says.0) (says.1)

pub returns-in-Some-clause-none : goal.returns-in-Some-clause-none
returns-in-Some-clause-none g c = λ is known.
    let known1 : IsTrue (g.D.Disk.observable c.find.new.disk) = subst (λ (b : Bool). IsTrue b) (sym c.find.ensures.rest.same_observable) known in
    subst (λ (i : Image). (slots : ℕ → List ℕ) → Recovers i slots → ⊥) (c.find.ensures.rest.same known) (c.read_area.ensures.none is known1)
