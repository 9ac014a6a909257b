-- The clients so far, and one more.
use Rattle.std.proofs.Common.{◌≢◌, ◌++◌, ◌∷◌, [], ◌∙◌, sym, subst, List, ℕ, take, refl}
use Rattle.std.specs.Prelude.{All}
use Rattle.command_arguments.specs.CommandLine.{AreClients, ClientFiles, client_in}
use Rattle.command_arguments.proofs.Clients.{are_more, last_of_clients, same_client, more_is}
use Rattle.command_arguments.proofs.run.first_wrong.Goals as goal

pub returns-then-not-is_new-clause-wrong : goal.returns-then-not-is_new-clause-wrong
returns-then-not-is_new-clause-wrong c below are =
    let last = last_of_clients (take c.loop-at.at c.args.arguments.now) c.index-arguments-at.result (subst AreClients (more_is c.args.arguments.now c.loop-at.at c.index-arguments-at.result c.loop-at-test.true c.index-arguments-at.is) are) in
    let same = same_client last.client (client_in c.in-Some.client) last.good c.in-Some.ensures.some.0 (sym last.argument_is ∙ sym c.as_slice.ensures ∙ c.in-Some.ensures.some.1) in
    c.if-not-is_new.ensures.no refl last.before.clients last.before.arguments_are last.before.good (subst (λ (x : ClientFiles). All (λ (d : ClientFiles). d.name ≢ x.name) last.before.clients) same last.new)

pub returns-in-None-clause-wrong : goal.returns-in-None-clause-wrong
returns-in-None-clause-wrong c below are =
    let last = last_of_clients (take c.loop-at.at c.args.arguments.now) c.index-arguments-at.result (subst AreClients (more_is c.args.arguments.now c.loop-at.at c.index-arguments-at.result c.loop-at-test.true c.index-arguments-at.is) are) in
    c.in-None.ensures.none last.client last.good (c.as_slice.ensures ∙ last.argument_is)

pub loop-at-preserved : goal.loop-at-preserved
loop-at-preserved c =
    let more = are_more (take c.loop-at.at c.args.arguments.now) (client_in c.in-Some.client) c.loop-at.invariant c.in-Some.ensures.some.0 (c.if-not-is_new.ensures.yes refl c.loop-at.invariant.clients c.loop-at.invariant.arguments_are c.loop-at.invariant.good) in
    subst AreClients (sym (more_is c.args.arguments.now c.loop-at.at c.index-arguments-at.result c.loop-at-test.true c.index-arguments-at.is))
    (subst (λ (w : List ℕ). AreClients (take c.loop-at.at c.args.arguments.now ++ w ∷ [])) (sym c.in-Some.ensures.some.1 ∙ c.as_slice.ensures) more)
