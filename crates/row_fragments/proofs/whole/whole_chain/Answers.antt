use Rattle.std.proofs.Common.{ℕ, List, [], ◌∷◌, ◌++◌, refl, sym, ap, ◌∙◌, arith}
use Rattle.row_fragments.specs.Fragments.{next_in}
use Rattle.row_fragments.proofs.Wholes.{looked_err, found_broken, found_whole, none_outside, not_both, other_first, too_long}
use Rattle.row_fragments.proofs.whole.whole_chain.Goals as goal

pub returns-then-ends-clause-broken : goal.returns-then-ends-clause-broken
returns-then-ends-clause-broken g c = λ readable. none_outside (g.S.Slots.state c.args.slots.now).reads c.args.row (sym c.ends.ensures ∙ c.if-ends.true)

pub returns-then-long-gt-MOST_IN_ROW-clause-broken : goal.returns-then-long-gt-MOST_IN_ROW-clause-broken
returns-then-long-gt-MOST_IN_ROW-clause-broken g c = λ readable.
    too_long (g.S.Slots.state c.args.slots.now).reads c.args.row c.total-long.result c.read.new.into (sym c.ends.ensures ∙ c.if-ends.false) (c.in_ok-read.ensures.bytes readable) c.total-long.ensures (let lt = c.if-long-gt-MOST_IN_ROW.true in omega (arith, lt))

pub returns-then-not-is_fragment-clause-broken : goal.returns-then-not-is_fragment-clause-broken
returns-then-not-is_fragment-clause-broken g c =
    other_first (g.S.Slots.state c.args.slots.now) (g.S.Slots.state c.read.new.slots) c.args.row c.total-long.result c.table.result c.min-many.result (next_in c.read.new.into) c.read.new.into c.in_ok-read.ensures.looked.rests (c.in_ok-read.ensures.looked.cause.stays (λ e. cc e))
    (sym c.ends.ensures ∙ c.if-ends.false) c.in_ok-read.ensures.bytes c.total-long.ensures c.table.ensures c.min-many.ensures refl
    (λ is. not_both c.is_fragment.result (c.is_fragment.ensures.1 is) c.if-not-is_fragment.true)

pub returns-then-not-whole-clause-broken : goal.returns-then-not-whole-clause-broken
returns-then-not-whole-clause-broken g c =
    found_broken (g.S.Slots.state c.args.slots.now) (g.S.Slots.state c.read.new.slots) c.args.row c.total-long.result c.table.result c.min-many.result c.next.result c.read.new.into c.in_ok-read.ensures.looked.rests (c.in_ok-read.ensures.looked.cause.stays (λ e. cc e))
    (sym c.ends.ensures ∙ c.if-ends.false) c.in_ok-read.ensures.bytes c.total-long.ensures c.table.ensures c.min-many.ensures c.next.ensures (c.in-Ok-list_parts.ensures.no c.if-not-whole.true)

pub returns-else-not-whole-clause-whole : goal.returns-else-not-whole-clause-whole
returns-else-not-whole-clause-whole g c =
    found_whole (g.S.Slots.state c.args.slots.now) (g.S.Slots.state c.read.new.slots) c.args.row c.total-long.result c.table.result c.min-many.result c.next.result c.read.new.into c.in_ok-read.ensures.looked.rests (c.in_ok-read.ensures.looked.cause.stays (λ e. cc e))
    (sym c.ends.ensures ∙ c.if-ends.false) c.in_ok-read.ensures.bytes c.total-long.ensures c.table.ensures c.min-many.ensures c.next.ensures c.push.new.self.items c.list_parts.new.into.items
    (c.in-Ok.ensures.items ∙ ap (λ (xs : List ℕ). xs ++ c.args.row ∷ []) c.new-chain.ensures.items) c.read.array_long (let le = c.if-long-gt-MOST_IN_ROW.false in omega (arith, le)) c.table.type_inv (c.is_fragment.ensures.0 c.if-not-is_fragment.false) (c.in-Ok-list_parts.ensures.yes c.if-not-whole.false)

pub returns-in-Err-list_parts-clause-looked : goal.returns-in-Err-list_parts-clause-looked
returns-in-Err-list_parts-clause-looked g c =
    looked_err (g.S.Slots.state c.args.slots.now) (g.S.Slots.state c.read.new.slots) (g.S.Slots.state c.list_parts.new.slots) (g.S.Slots.stop c.args.slots.now) (g.S.Slots.stop c.read.new.slots) (g.S.Slots.stop c.list_parts.new.slots)
    _ c.in-Err-list_parts.fault (λ e. cc e) (g.met.S.Slots.stop_known c.list_parts.new.slots) c.in_ok-read.ensures.looked c.in-Err-list_parts.ensures.looked
