use Rattle.std.proofs.Common.{ℕ, ap, sym, ◌∙◌, ◌++◌, ◌-◌}
use Rattle.row_fragments.specs.Fragments.{slots_from}
use Rattle.row_fragments.proofs.Listing.{none_listed, end_listed, one_listed}
use Rattle.row_fragments.proofs.chain.+list_from.Goals as goal

pub returns-then-most-eq0-clause-slots : goal.returns-then-most-eq0-clause-slots
returns-then-most-eq0-clause-slots g t c = λ readable. none_listed c.args.most (g.S.Slots.state c.args.slots.now).reads c.args.at c.args.into.now.items c.if-most-eq0.true

pub returns-then-ends-clause-slots : goal.returns-then-ends-clause-slots
returns-then-ends-clause-slots g t c = λ readable. end_listed c.args.most (g.S.Slots.state c.args.slots.now).reads c.args.at c.args.into.now.items (sym c.ends.ensures ∙ c.if-ends.true)

pub returns-clause-slots : goal.returns-clause-slots
returns-clause-slots g t c =
    one_listed (g.S.Slots.state c.args.slots.now) (g.S.Slots.state c.read.new.slots) c.args.most c.args.at c.read.new.into c.args.into.now.items c.push.new.self.items c.list_from.new.into.items
    c.in_ok-read.ensures.looked.rests (c.in_ok-read.ensures.looked.cause.stays (λ e. cc e)) c.if-most-eq0.false (sym c.ends.ensures ∙ c.if-ends.false) c.in_ok-read.ensures.bytes c.in-Ok.ensures.items
    (λ readable. c.in_ok-list_from.ensures.slots readable ∙ ap (λ (n : ℕ). c.push.new.self.items ++ slots_from (c.args.most - 1) (g.S.Slots.state c.read.new.slots).reads n) c.next.ensures)
