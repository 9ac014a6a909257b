use Rattle.std.proofs.Common.{refl, sym, ap, ◌∙◌, subst, Some}
use Rattle.client_output.specs.Written.{IsPlaceOf}
use Rattle.client_output.proofs.Written.{on_ok_both, opened_at}
use Rattle.client_output.proofs.Kept.{opened_again, opened_first}
use Rattle.client_output.proofs.output.Output.open_section.Goals as goal

pub returns-then-not-append-clause-ok : goal.returns-then-not-append-clause-ok
returns-then-not-append-clause-ok c names pieces en h =
    opened_again c.args.self.now _ names pieces c.args.output c.args.append c.in-Some.place (subst (IsPlaceOf c.args.self.now.opened.items (Some c.args.output)) c.in-Some.is c.place_of.ensures) refl
    (c.empty_at.ensures ∙ ap (λ b. opened_at b c.in-Some.place c.args.self.now.sections.items) (sym c.if-not-append.true)) h

pub returns-else-not-append-clause-ok : goal.returns-else-not-append-clause-ok
returns-else-not-append-clause-ok c names pieces en h =
    opened_again c.args.self.now _ names pieces c.args.output c.args.append c.in-Some.place (subst (IsPlaceOf c.args.self.now.opened.items (Some c.args.output)) c.in-Some.is c.place_of.ensures) refl
    (ap (λ b. opened_at b c.in-Some.place c.args.self.now.sections.items) (sym c.if-not-append.false)) h

pub returns-in-None-clause-ok : goal.returns-in-None-clause-ok
returns-in-None-clause-ok c =
    on_ok_both c.add.result
    (λ sections opened names pieces en h. opened_first c.args.self.now c.add.new.self names pieces c.args.output c.args.name.now c.args.append en (subst (IsPlaceOf c.args.self.now.opened.items (Some c.args.output)) c.in-None.is c.place_of.ensures) opened sections h)
    c.add.ensures.ok c.add.ensures.opened
