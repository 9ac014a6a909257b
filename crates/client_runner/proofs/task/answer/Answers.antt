use Rattle.std.proofs.Common.{rules, ◌≡◌, List, sym, ap, ◌∙◌, subst}
use mathlib.Core.List.{IsPrefix}
use Rattle.database_protocol.specs.declared.event.Event.{Event}
use Rattle.turn_lock.specs.Journal.{own_entries}
use Rattle.client_runner.specs.Meant.{IsSureOf, client_in}
use Rattle.client_runner.proofs.Runs.{began_told}
use Rattle.client_runner.proofs.task.answer.Goals as goal

pub returns-then-not-waits-clause-sure : goal.returns-then-not-waits-clause-sure
returns-then-not-waits-clause-sure g c = λ setting has sure.
    let D = g.D.Database in
    let taken = c.take-served.result.0 in
    let inv = c.loop.invariant in
    let began : D.has_setting taken.start.database.value setting = began_told (λ (d : g.row.D.Denot). D.has_setting d setting) (λ k. IsPrefix (D.trace k.start.value.database) (D.trace taken.database)) c.args.shared.now.key taken.start c.take-served.ensures.start has in
    let own : own_entries client_in c.args.number (D.trace taken.database) ≡ c.args.pass.list =
    ap (λ n. own_entries client_in n (D.trace taken.database)) (sym inv.2) ∙ (c.take-served.ensures.own ∙ inv.3) in
    let idle : ¬ D.blocked taken.database c.args.number = search rules in
    c.step-answer.ensures.sure setting began (subst (λ (l : List Event). IsSureOf setting c.args.number l c.args.op) (sym own) sure) idle
