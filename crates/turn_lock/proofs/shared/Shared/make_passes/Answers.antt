use Rattle.std.proofs.Common.{rules, ◌≡◌, ◌+◌, ◌-◌, ◌≤◌, [], ◌∷◌, ◌++◌, length, Some, vec_capacity, sym, ap, ◌∙◌, subst, arith, All}
use Rattle.turn_lock.specs.declared.view.Stage.TheVariants.{Idle}
use Rattle.turn_lock.specs.Shared.{seats_of, first_of}
use Rattle.turn_lock.specs.Passes.{IsPassOf, passes_from}
use Rattle.turn_lock.specs.View.{view, kept_part, handed_part, client_in, list_in}
use Rattle.turn_lock.specs.Seats.{lock_of, pass_of}
use Rattle.turn_lock.proofs.PassLists.{passes_from-next, length-passes_from, All-passes_from}
use Rattle.turn_lock.proofs.Calls.{numbers_one, numbered_one, splits_one}
use Rattle.turn_lock.proofs.shared.Shared.make_passes.Goals as goal

pub fetch_add-requires : goal.fetch_add-requires
fetch_add-requires g c =
    let j = g.T.Journal in
    let i = c.loop-i.invariant in
    let below = c.loop-i-test.true in
    let left = i.maker.1 in
    (i.table, search rules, numbers_one j.entries j.client j.origin c.self.inside.table.shared.key _ _ i.maker.0 _ i.maker.2 (omega arith))

pub split_seat-place-requires : goal.split_seat-place-requires
split_seat-place-requires g c =
    let j = g.T.Journal in
    let key = c.self.inside.table.shared.key in
    let i = c.loop-i.invariant in
    let n = numbered_one j.entries j.client j.origin key i.maker.0 c.fetch_add.result c.loop-i.maker.me c.fetch_add.new.seat.me i.maker.2 c.fetch_add.ensures.2 in
    let below = c.loop-i-test.true in
    let left = i.maker.1 in
    (c.fetch_add.ensures.0 ∙ i.table, search rules, splits_one j.entries j.client j.origin key _ i.maker.0 c.fetch_add.result _ (ap (λ m. m.0) n.0) (omega arith))

pub invariant_of-push_reserved : goal.invariant_of-push_reserved
invariant_of-push_reserved g c =
    let j = g.T.Journal in
    let key = c.self.inside.table.shared.key in
    let i = c.loop-i.invariant in
    let n = numbered_one j.entries j.client j.origin key i.maker.0 c.fetch_add.result c.loop-i.maker.me c.fetch_add.new.seat.me i.maker.2 c.fetch_add.ensures.2 in
    (key, c.fetch_add.result, [], c.split_seat-place.ensures.4 ∙ ap (λ m. (handed_part m.0, [])) n.0)

pub push_reserved-requires : goal.push_reserved-requires
push_reserved-requires g c =
    let i = c.loop-i.invariant in
    let below = c.loop-i-test.true in
    let cap = i.room in
    omega (arith, c.loop-i.list.ok.0, ap length i.list, length-passes_from g.row.T-Entry.Denot c.args.self.now (first_of c.args.self.now) c.loop-i._i)

pub loop-i-preserved : goal.loop-i-preserved
loop-i-preserved g c =
    let j = g.T.Journal in
    let key = c.self.inside.table.shared.key in
    let i = c.loop-i.invariant in
    let n = numbered_one j.entries j.client j.origin key i.maker.0 c.fetch_add.result c.loop-i.maker.me c.fetch_add.new.seat.me i.maker.2 c.fetch_add.ensures.2 in
    let below = c.loop-i-test.true in
    let all = i.maker.1 in
    let s = c.split_seat-place.ensures in
    let seats = c.requires.seats in
    let own = ap first_of c.self.view_is in
    let full = ap seats_of c.self.view_is in
    let found = n.1 in
    let place = s.4 ∙ ap (λ m. (handed_part m.0, [])) n.0 in
    let lock : lock_of c.split_seat-place.result ≡ c.args.self.now = (λ k. record { table = (s.3 ∙ (c.fetch_add.ensures.0 ∙ i.table)) k; key = ap (λ m. m.0.key) place k }) ∙ c.self.view_is in
    let number : client_in c.split_seat-place.result.me.0.lists ≡ first_of c.args.self.now + c.loop-i._i = ap (λ m. client_in m.0.lists) place ∙ (omega arith) in
    let pass : pass_of c.split_seat-place.result ≡ record { lock = c.args.self.now; client = first_of c.args.self.now + c.loop-i._i; list = [] } = λ k. record { lock = lock k; client = number k; list = ap (λ m. list_in m.0.lists) place k } in
    record {
      table = s.0 ∙ (c.fetch_add.ensures.0 ∙ i.table);
      maker = (i.maker.0 - 1, omega arith, s.2 ∙ ap (λ m. (kept_part m.0, m.1)) n.0);
      list = c.push_reserved.ensures.items ∙ ((λ k. i.list k ++ pass k ∷ []) ∙ sym (passes_from-next g.row.T-Entry.Denot c.args.self.now (first_of c.args.self.now) c.loop-i._i));
      room = subst (λ m. c.args.seats ≤ m) (sym c.push_reserved.ensures.capacity) i.room;
    }

pub invariant_of-result : goal.invariant_of-result
invariant_of-result g c =
    let i = c.loop-i.invariant in
    let key = c.self.inside.table.shared.key in
    let over = c.loop-i-test.false in
    let all = i.maker.1 in
    let none : i.maker.0 ≡ 0 = omega arith in
    let lock : lock_of c.loop-i.maker ≡ c.args.self.now = (λ k. record { table = i.table k; key = ap (λ m. m.0.key) i.maker.2 k }) ∙ c.self.view_is in (
      (key, i.maker.2 ∙ ap (λ p. (view (Some key) p [] Idle, [])) none),
      subst (λ m. m ≤ vec_capacity c.loop-i.list) (sym (ap seats_of lock ∙ c.requires.seats)) i.room,
      subst (All (IsPassOf (lock_of c.loop-i.maker))) (sym i.list) (subst (λ l. All (IsPassOf l) (passes_from c.args.self.now (first_of c.args.self.now) c.loop-i._i)) (sym lock) (All-passes_from g.row.T-Entry.Denot c.args.self.now (first_of c.args.self.now) c.loop-i._i)),
    )

pub returns : goal.returns
returns g c =
    let i = c.loop-i.invariant in
    let over = c.loop-i-test.false in
    let all = i.maker.1 in
    let last : c.loop-i._i ≡ c.args.seats = omega arith in
    ((λ k. record { table = i.table k; key = ap (λ m. m.0.key) i.maker.2 k }) ∙ c.self.view_is, i.list ∙ ap (passes_from c.args.self.now (first_of c.args.self.now)) last)
