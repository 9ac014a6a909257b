use Rattle.std.proofs.Common.{ℕ, List, Bool, IsTrue, sym, subst}
use Rattle.bi_log.specs.Outcomes.{HeaderAnswer}
use Rattle.bi_log.proofs.reader.find.Goals as goal

pub returns-clause-ok : goal.returns-clause-ok
returns-clause-ok g c = λ known.
    let known_one : IsTrue (g.D.Disk.observable c.header_at.new.disk) = subst (λ (b : Bool). IsTrue b) (sym c.header_at.ensures.rest.same_observable) known in
    c.newer.ensures.says (g.D.Disk.seen c.args.disk.now) (c.in_ok-one.ensures.ok known)
    (subst (λ (f : ℕ → List ℕ). HeaderAnswer (f 2) c.in_ok-two.two) (c.header_at.ensures.rest.same known) (c.in_ok-two.ensures.ok known_one))
