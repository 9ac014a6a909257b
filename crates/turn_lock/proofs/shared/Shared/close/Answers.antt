use Rattle.std.proofs.Common.{rules, ◌≡◌, ◌+◌, ◌<◌, [], ◌∷◌, ◌++◌, sym, ap, ◌∙◌, subst, refl, arith, All, length, vec_len}
use mathlib.Core.Option.{some-injective}
use Rattle.std.specs.Prelude.{IsSome}
use Rattle.turn_lock.specs.Journal.{own_entries}
use Rattle.turn_lock.specs.Shared.{Extends, seats_of}
use Rattle.turn_lock.specs.Passes.{IsPassOf}
use Rattle.turn_lock.specs.View.{joined_view, client_in, list_in}
use Rattle.turn_lock.specs.Seats.{lock_of}
use Rattle.turn_lock.proofs.PassLists.{All-last, Gathers, gathers_one, gathered}
use Rattle.turn_lock.proofs.Calls.{pass_at, joins_one, closes, closes_with}
use Rattle.turn_lock.proofs.shared.Shared.close.Goals as goal

pub join_seat-requires : goal.join_seat-requires
join_seat-requires g c =
    let j = g.T.Journal in
    let key = c.self.inside.table.shared.key in
    let i = c.loop-pass.invariant in
    let parted = All-last (IsPassOf (lock_of c.loop-pass.maker)) c.loop-pass.list.items c.pop.new.self.items c.in-Some.pass c.in-Some.ensures.items i.locks in
    let lock = ap (λ z. z.lock) c.pass.view_is ∙ parted.1 in
    let q = pass_at j.entries j.client j.origin c.pass.inside.place key c.pass.invariant (ap (λ z. z.key) lock ∙ ap (λ m. m.0.key) i.maker.2) in
    (i.table, ap (λ z. z.table) lock ∙ i.table, ap (λ m. m.1) q.2, search rules, joins_one j.entries j.client j.origin key _ _ i.maker.0 i.maker.1 _ _ q.0 q.1 (ap (λ m. m.0) i.maker.2) (ap (λ m. m.0) q.2))

pub loop-pass-preserved : goal.loop-pass-preserved
loop-pass-preserved g c =
    let j = g.T.Journal in
    let key = c.self.inside.table.shared.key in
    let i = c.loop-pass.invariant in
    let parted = All-last (IsPassOf (lock_of c.loop-pass.maker)) c.loop-pass.list.items c.pop.new.self.items c.in-Some.pass c.in-Some.ensures.items i.locks in
    let lock = ap (λ z. z.lock) c.pass.view_is ∙ parted.1 in
    let q = pass_at j.entries j.client j.origin c.pass.inside.place key c.pass.invariant (ap (λ z. z.key) lock ∙ ap (λ m. m.0.key) i.maker.2) in
    let joined = c.join_seat.ensures in
    let one_less = c.in-Some.ensures.cases in
    let count = i.maker.3 in
    let same_sum : i.maker.0 + 1 + vec_len c.pop.new.self ≡ length c.args.passes.passes = omega arith in
    let pair = ap (λ z. (z.client, z.list)) (sym c.pass.view_is) ∙ ap (λ m. (client_in m.0.lists, list_in m.0.lists)) q.2 in
    let same_lock : lock_of c.loop-pass.maker ≡ lock_of c.join_seat.new.seat = λ k. record { table = sym joined.0 k; key = sym (ap (λ m. m.0.key) joined.2) k } in
    record {
      table = joined.0 ∙ i.table;
      maker = (
        i.maker.0 + 1,
        i.maker.1 ++ (q.0, q.1) ∷ [],
        joined.2 ∙ (λ k. (joined_view (i.maker.2 k).0 (q.2 k).0, (i.maker.2 k).1)),
        same_sum,
        subst (λ z. Gathers c.args.passes.passes c.pop.new.self.items (i.maker.1 ++ z ∷ [])) pair (gathers_one c.args.passes.passes c.loop-pass.list.items c.pop.new.self.items i.maker.1 c.in-Some.pass c.in-Some.ensures.items i.maker.4),
      );
      locks = subst (λ l. All (IsPassOf l) c.pop.new.self.items) same_lock parted.0;
    }

pub take-requires : goal.take-requires
take-requires g c =
    let slots = c.close_with-closed.ensures.counts.1 in
    let one = c.self.invariant.1 in
    let less : 0 < c.close_with-closed.result.slots.len = omega arith in
    (less, c.close_with-closed.ensures.values.1 0 (omega arith) less)

pub unwrap-value-requires : goal.unwrap-value-requires
unwrap-value-requires g c =
    let j = g.T.Journal in
    let key = c.self.inside.table.shared.key in
    let i = c.loop-pass.invariant in
    let empty = c.in_default.ensures.cases in
    let seats = c.requires.all ∙ sym (ap seats_of c.self.view_is) in
    let count = i.maker.3 in
    let e = closes j.entries j.client j.origin key _ _ _ i.maker.0 i.maker.1 _ (ap (λ m. m.0) i.maker.2) (omega arith) c.close_with-closed.ensures.values.2 in
    subst IsSome (some-injective _ _ (sym e.1 ∙ c.take.ensures.value)) refl

pub returns : goal.returns
returns g c =
    let j = g.T.Journal in
    let key = c.self.inside.table.shared.key in
    let i = c.loop-pass.invariant in
    let empty = c.in_default.ensures.cases in
    let seats = c.requires.all ∙ sym (ap seats_of c.self.view_is) in
    let count = i.maker.3 in
    let value = c.unwrap-value.result in
    let e = closes_with j.entries j.client j.origin key _ _ _ i.maker.0 i.maker.1 _ _ value (ap (λ m. m.0) i.maker.2) (omega arith) c.close_with-closed.ensures.values.2 c.take.ensures.value c.unwrap-value.ensures in
    record {
      own = gathered c.args.passes.passes c.loop-pass.list.items i.maker.1 (λ p. own_entries j.client p.0 (j.entries value) ≡ p.1) (omega (arith, c.loop-pass.list.ok.0)) i.maker.4 e.2;
      start = subst (λ l. Extends j.entries j.origin l value) c.self.view_is (e.0, e.1);
    }
