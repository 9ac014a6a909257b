use Rattle.std.proofs.Common.{refl}
use Rattle.bound_tree.specs.Tree.{OutputTo}
use Rattle.client_machine.proofs.RunKept.{on_ok}
use Rattle.client_streams.proofs.Paid.{paid_kept, unpaid_kept}
use Rattle.client_streams.proofs.outputs.open_output.Goals as goal

pub returns-then-not-charge-clause-ok : goal.returns-then-not-charge-clause-ok
returns-then-not-charge-clause-ok c =
    let o = c.in-Some.opening in
    unpaid_kept c.args.machine.now c.charge.new.self c.args.place o.next c.args.left c.args.retry (OutputTo o.stream o.output o.append) c.in-Some.ensures (c.if-not-charge.ensures.stopped refl) (λ rest go. c.if-not-charge.ensures.stops refl rest go)

pub returns-clause-ok : goal.returns-clause-ok
returns-clause-ok c =
    let o = c.in-Some.opening in
    on_ok c.redirect.result (λ keeps.
    paid_kept c.args.machine.now c.charge.new.self c.redirect.new.machine c.args.place o.next c.args.left c.args.retry (OutputTo o.stream o.output o.append) c.in-Some.ensures (c.if-not-charge.ensures.same refl) (λ rest ks go. c.if-not-charge.ensures.paid refl rest ks go) keeps)
    c.redirect.ensures.ok
