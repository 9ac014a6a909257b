use Rattle.std.proofs.Common.{◌≢◌, IfSome, sym, subst}
use Rattle.database_protocol.specs.declared.answer.Answer.TheVariants.{Refused}
use Rattle.turn_lock.specs.Journal.{own_entries}
use Rattle.client_runner.specs.Meant.{IsSureOf, client_in}
use Rattle.client_runner.specs.Served.{Serving, IsOneOf}
use Rattle.client_runner.proofs.Steps.{stepped, served_longer, rightly, no_contents}
use Rattle.client_runner.proofs.served.Served.step.Goals as goal

pub invariant_of-self : goal.invariant_of-self
invariant_of-self g c =
    let D = g.D.Database in
    served_longer D.has_setting D.opened D.trace D.serves D.active c.self.inside.start c.self.inside.database c.step.new.self c.args.client c.args.op c.step.result c.self.invariant
    (subst (λ (v : Serving g.row.D.Denot). IsOneOf v.start c.args.client) (sym c.self.view_is) c.requires.one)
    c.step.ensures.end
    (stepped D.has_setting D.opened D.trace D.serves D.active c.self.inside.database c.step.new.self c.args.client c.args.op c.step.result c.step.ensures.event c.step.ensures.none)
    (record {
      active = c.step.ensures.active;
      others = c.step.ensures.others;
      setting = c.step.ensures.setting;
      opened = c.step.ensures.opened;
      serves = c.step.ensures.serves;
    })

pub returns-clause-sure : goal.returns-clause-sure
returns-clause-sure g c =
    λ setting.
    let D = g.D.Database in
    let d = c.self.inside.database in
    subst (λ (v : Serving g.row.D.Denot). D.has_setting v.start.database.value setting → IsSureOf setting c.args.client (own_entries client_in c.args.client (D.trace v.database)) c.args.op → ¬ D.blocked v.database c.args.client → IfSome c.step.result (λ answer. answer ≢ Refused)) c.self.view_is
    (λ has sure idle. rightly setting (D.trace d) (D.blocked d c.args.client) c.args.client c.args.op c.step.result no_contents (c.step.ensures.refused setting (c.self.invariant.0.setting setting has)) sure idle)
