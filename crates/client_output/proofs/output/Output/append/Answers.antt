use Rattle.std.proofs.Common.{refl, subst}
use Rattle.client_output.specs.Written.{IsPlaceOf}
use Rattle.client_output.proofs.Written.{on_ok}
use Rattle.client_output.proofs.Kept.{wrote, wrote_none}
use Rattle.client_output.proofs.output.Output.append.Goals as goal

pub returns-in-Some-clause-ok : goal.returns-in-Some-clause-ok
returns-in-Some-clause-ok c =
    on_ok c.append_at.result (λ e names pieces h. wrote c.args.self.now _ names pieces c.args.section c.args.text.now c.in-Some.place (subst (IsPlaceOf c.args.self.now.opened.items c.args.section) c.in-Some.is c.place_of.ensures) refl e h) c.append_at.ensures.ok

pub returns-in-None-clause-ok : goal.returns-in-None-clause-ok
returns-in-None-clause-ok c names pieces h =
    wrote_none c.args.self.now names pieces c.args.section c.args.text.now (subst (IsPlaceOf c.args.self.now.opened.items c.args.section) c.in-None.is c.place_of.ensures) h
