use Rattle.std.proofs.Common.{[], sym, ap, ◌∙◌, arith}
use Rattle.turn_lock.specs.Journal.{own_entries}
use Rattle.turn_lock.specs.declared.view.Stage.TheVariants.{Idle}
use Rattle.turn_lock.specs.View.{with_stage}
use Rattle.turn_lock.specs.Steps.{caught_up}
use Rattle.turn_lock.proofs.Calls.{giving, longer_by_one}
use Rattle.turn_lock.proofs.shared.Shared.give.Goals as goal

pub record-requires-clause-value : goal.record-requires-clause-value
record-requires-clause-value g c =
    let j = g.T.Journal in
    let key = c.self.inside.table.shared.key in
    let lock = ap (λ z. z.lock) c.turn.view_is ∙ (c.requires.lock ∙ sym c.self.view_is) in
    let h = giving j.entries j.client j.origin c.turn.inside.place key c.turn.inside.count c.args.turn c.exchange-nothing.new.seat.me c.args.value c.turn.invariant (ap (λ z. z.key) lock) c.turn.view_is c.exchange-nothing.ensures.3 c.requires.adds in
    let count = c.entries.ensures in
    let room = c.entries.type_inv in
    (key, h.0, h.1, h.2, c.args.value, h.3, longer_by_one j.entries j.client j.origin h.0 c.turn.inside.count c.entries.result h.2 (j.entries c.args.value) h.6 h.4 count, omega arith)

pub serve-requires-clause-value : goal.serve-requires-clause-value
serve-requires-clause-value g c =
    let j = g.T.Journal in
    let key = c.self.inside.table.shared.key in
    let lock = ap (λ z. z.lock) c.turn.view_is ∙ (c.requires.lock ∙ sym c.self.view_is) in
    let h = giving j.entries j.client j.origin c.turn.inside.place key c.turn.inside.count c.args.turn c.exchange-nothing.new.seat.me c.args.value c.turn.invariant (ap (λ z. z.key) lock) c.turn.view_is c.exchange-nothing.ensures.3 c.requires.adds in
    (key, h.0, h.1, c.args.value, c.record.ensures.list ∙ ap (λ m. (caught_up j.entries j.client m.0 m.1, m.1)) h.3, c.requires.origin)

pub invariant_of-result : goal.invariant_of-result
invariant_of-result g c =
    let j = g.T.Journal in
    let key = c.self.inside.table.shared.key in
    let lock = ap (λ z. z.lock) c.turn.view_is ∙ (c.requires.lock ∙ sym c.self.view_is) in
    let h = giving j.entries j.client j.origin c.turn.inside.place key c.turn.inside.count c.args.turn c.exchange-nothing.new.seat.me c.args.value c.turn.invariant (ap (λ z. z.key) lock) c.turn.view_is c.exchange-nothing.ensures.3 c.requires.adds in
    let ready = c.record.ensures.list ∙ ap (λ m. (caught_up j.entries j.client m.0 m.1, m.1)) h.3 in
    (key, h.0, own_entries j.client h.0 (j.entries c.args.value), c.serve.ensures.idle ∙ ap (λ m. (with_stage m.0 Idle, [])) ready)
