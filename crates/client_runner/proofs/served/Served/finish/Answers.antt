use Rattle.std.proofs.Common.{sym, subst}
use Rattle.client_runner.specs.Served.{Serving}
use Rattle.client_runner.proofs.served.Served.finish.Goals as goal

pub returns-clause-legal : goal.returns-clause-legal
returns-clause-legal g c = λ setting contents opened.
    g.met.D.Database.legal c.self.inside.database setting contents
    (c.self.invariant.0.opened setting contents (subst (λ (v : Serving g.row.D.Denot). g.D.Database.opened v.start.database.value setting contents) (sym c.self.view_is) opened))
