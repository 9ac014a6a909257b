use Rattle.std.proofs.Common.{rules, [], ◌∷◌, Some, None, sym, ap, ◌∙◌, subst}
use Rattle.atomic_table.specs.Table.{rest}
use Rattle.turn_lock.specs.Journal.{own_entries}
use Rattle.turn_lock.specs.Shared.{Extends}
use Rattle.turn_lock.specs.View.{pass_view, client_in, list_out}
use Rattle.turn_lock.specs.declared.view.Stage.TheVariants.{Holds}
use Rattle.turn_lock.proofs.Calls.{pass_at, draws, looks_out, saw, waiting, took}
use Rattle.turn_lock.proofs.shared.Shared.take.Goals as goal

pub fetch_add-ticket-requires : goal.fetch_add-ticket-requires
fetch_add-ticket-requires g c =
    let lock = ap (λ z. z.lock) c.pass.view_is ∙ (c.requires ∙ sym c.self.view_is) in
    let j = g.T.Journal in
    let p = pass_at j.entries j.client j.origin c.pass.inside.place c.self.inside.table.shared.key c.pass.invariant (ap (λ z. z.key) lock) in
    (ap (λ z. z.table) lock, search rules, draws j.entries j.client j.origin _ _ _ _ p.0 p.1 p.2)

pub load-served-requires : goal.load-served-requires
load-served-requires g c =
    let lock = ap (λ z. z.lock) c.pass.view_is ∙ (c.requires ∙ sym c.self.view_is) in
    let j = g.T.Journal in
    let w = waiting j.entries j.client j.origin c.pass.inside.place c.self.inside.table.shared.key _ c.loop.place.me _ c.pass.invariant (ap (λ z. z.key) lock) c.fetch_add-ticket.ensures.2 c.loop.invariant.1 in
    (c.loop.invariant.0 ∙ (c.fetch_add-ticket.ensures.0 ∙ ap (λ z. z.table) lock), search rules, looks_out j.entries j.client j.origin _ _ _ _ w.0 w.2 w.1 w.4)

pub exchange-requires : goal.exchange-requires
exchange-requires g c =
    let lock = ap (λ z. z.lock) c.pass.view_is ∙ (c.requires ∙ sym c.self.view_is) in
    let j = g.T.Journal in
    let w = waiting j.entries j.client j.origin c.pass.inside.place c.self.inside.table.shared.key _ c.loop.place.me _ c.pass.invariant (ap (λ z. z.key) lock) c.fetch_add-ticket.ensures.2 c.loop.invariant.1 in
    let t = (saw j.entries j.client j.origin c.self.inside.table.shared.key _ _ _ w.0 w.2 w.1 w.4 c.load-served.ensures.2).0 (c.if-served-ticket.true ∙ w.3) in
    let e = ap (λ m. m.1) t.1 in
    (c.load-served.ensures.0 ∙ (c.loop.invariant.0 ∙ (c.fetch_add-ticket.ensures.0 ∙ ap (λ z. z.table) lock)), (Some t.0, e ∙ ap (λ l. (0, Some t.0) ∷ rest l) (sym e)))

pub loop-preserved : goal.loop-preserved
loop-preserved g c =
    let lock = ap (λ z. z.lock) c.pass.view_is ∙ (c.requires ∙ sym c.self.view_is) in
    let j = g.T.Journal in
    let w = waiting j.entries j.client j.origin c.pass.inside.place c.self.inside.table.shared.key _ c.loop.place.me _ c.pass.invariant (ap (λ z. z.key) lock) c.fetch_add-ticket.ensures.2 c.loop.invariant.1 in
    let t = (saw j.entries j.client j.origin c.self.inside.table.shared.key _ _ _ w.0 w.2 w.1 w.4 c.load-served.ensures.2).1 (λ e. c.if-served-ticket.false (e ∙ sym w.3)) in
    (c.load-served.ensures.0 ∙ c.loop.invariant.0, t ∙ c.loop.invariant.1)

pub invariant_of-result : goal.invariant_of-result
invariant_of-result g c =
    let lock = ap (λ z. z.lock) c.pass.view_is ∙ (c.requires ∙ sym c.self.view_is) in
    let j = g.T.Journal in
    let key = c.self.inside.table.shared.key in
    let w = waiting j.entries j.client j.origin c.pass.inside.place key _ c.loop.place.me _ c.pass.invariant (ap (λ z. z.key) lock) c.fetch_add-ticket.ensures.2 c.loop.invariant.1 in
    let t = (saw j.entries j.client j.origin key _ _ _ w.0 w.2 w.1 w.4 c.load-served.ensures.2).0 (c.if-served-ticket.true ∙ w.3) in
    let k = took j.entries j.client j.origin key w.0 w.2 w.1 c.load-served.new.seat.me c.exchange.new.seat.me c.exchange.result c.unwrap-value.result t c.exchange.ensures.2 c.exchange.ensures.3 c.unwrap-value.ensures in
    (key, w.0, w.2, j.entries c.unwrap-value.result, k.0 ∙ ap (λ l. (pass_view key w.0 l (Holds w.2 (j.entries c.unwrap-value.result)), (0, None) ∷ [])) (sym k.1), c.entries-count.ensures)

pub returns-then-served-ticket : goal.returns-then-served-ticket
returns-then-served-ticket g c =
    let lock = ap (λ z. z.lock) c.pass.view_is ∙ (c.requires ∙ sym c.self.view_is) in
    let j = g.T.Journal in
    let key = c.self.inside.table.shared.key in
    let w = waiting j.entries j.client j.origin c.pass.inside.place key _ c.loop.place.me _ c.pass.invariant (ap (λ z. z.key) lock) c.fetch_add-ticket.ensures.2 c.loop.invariant.1 in
    let t = (saw j.entries j.client j.origin key _ _ _ w.0 w.2 w.1 w.4 c.load-served.ensures.2).0 (c.if-served-ticket.true ∙ w.3) in
    let k = took j.entries j.client j.origin key w.0 w.2 w.1 c.load-served.new.seat.me c.exchange.new.seat.me c.exchange.result c.unwrap-value.result t c.exchange.ensures.2 c.exchange.ensures.3 c.unwrap-value.ensures in
    let table = c.exchange.ensures.0 ∙ (c.load-served.ensures.0 ∙ (c.loop.invariant.0 ∙ (c.fetch_add-ticket.ensures.0 ∙ ap (λ z. z.table) lock))) in
    let same_key = ap (λ m. m.0.key) k.0 in
    let client = sym w.5 ∙ ap (λ p. p.client) c.pass.view_is in
    record {
      own = ap (λ n. own_entries j.client n (j.entries c.unwrap-value.result)) (sym client) ∙ (k.1 ∙ (sym w.6 ∙ ap (λ p. p.list) c.pass.view_is));
      start = subst (λ l. Extends j.entries j.origin l c.unwrap-value.result) c.self.view_is (k.2, k.3);
      lock = (λ i. record { table = table i; key = same_key i }) ∙ c.self.view_is;
      client = ap (λ m. client_in m.0.lists) k.0 ∙ client;
      taken = ap (λ m. list_out m.0.stage) k.0;
    }
