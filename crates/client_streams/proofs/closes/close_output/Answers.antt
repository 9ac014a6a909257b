use Rattle.std.proofs.Common.{None, refl, sym, ap, ◌∙◌}
use Rattle.std.specs.Prelude.{map}
use Rattle.bound_tree.specs.Tree.{OutputClose}
use Rattle.block_meaning.specs.State as state
use Rattle.client_machine.specs.declared.inputs.Stream.{Stream}
use Rattle.client_machine.specs.Inputs.{stream_of}
use Rattle.client_streams.proofs.Paid.{paid_kept, unpaid_kept}
use Rattle.client_streams.proofs.Effects.{changed_is, redirected_kept}
use Rattle.client_streams.proofs.closes.close_output.Goals as goal

pub returns-then-not-charge-clause-ok : goal.returns-then-not-charge-clause-ok
returns-then-not-charge-clause-ok c =
    unpaid_kept c.args.machine.now c.charge.new.self c.args.place c.in-Some.close.next c.args.left c.args.retry (OutputClose c.in-Some.close.stream) c.in-Some.ensures (c.if-not-charge.ensures.stopped refl) (λ rest go. c.if-not-charge.ensures.stops refl rest go)

pub returns-clause-ok : goal.returns-clause-ok
returns-clause-ok c =
    let m = c.charge.new.self in
    let change = λ (x : state.Stream). (let y : state.Stream = record x { output = None } in y) in
    let to = λ (x : Stream). (let y : Stream = record x { output = None } in y) in
    paid_kept c.args.machine.now m c.go_on.new.machine c.args.place c.in-Some.close.next c.args.left c.args.retry (OutputClose c.in-Some.close.stream) c.in-Some.ensures (c.if-not-charge.ensures.same refl) (λ rest ks go. c.if-not-charge.ensures.paid refl rest ks go)
    (redirected_kept c.in-Some.close.stream change m c.go_on.new.machine c.set_output.new.streams c.in-Some.close.next c.args.left c.args.retry c.go_on.ensures
    (changed_is to change (λ x. refl) m.streams.items c.in-Some.close.stream ∙ ap (map stream_of) (sym c.set_output.ensures)))
