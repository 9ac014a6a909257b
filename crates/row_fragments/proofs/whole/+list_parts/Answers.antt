use Rattle.std.proofs.Common.{sym, ◌∙◌}
use Rattle.row_fragments.proofs.Composes.{looked_both}
use Rattle.row_fragments.proofs.Wholes.{looked_err, ended_early, listed_more, more_there, not_both, not_listed, nothing_left, other_fragment}
use Rattle.row_fragments.proofs.whole.+list_parts.Goals as goal

pub returns-then-left-eq0-clause-yes : goal.returns-then-left-eq0-clause-yes
returns-then-left-eq0-clause-yes g t c = λ e readable. nothing_left (g.S.Slots.state c.args.slots.now).reads c.args.at c.args.left c.args.into.now.items c.if-left-eq0.true e

pub returns-then-left-eq0-clause-no : goal.returns-then-left-eq0-clause-no
returns-then-left-eq0-clause-no g t c = λ e readable parts. more_there (g.S.Slots.state c.args.slots.now).reads c.args.at c.args.left parts c.if-left-eq0.true e

pub returns-then-ends-clause-no : goal.returns-then-ends-clause-no
returns-then-ends-clause-no g t c = λ e readable parts. ended_early (g.S.Slots.state c.args.slots.now).reads c.args.at c.args.left parts c.if-left-eq0.false (sym c.ends.ensures ∙ c.if-ends.true)

pub returns-then-not-is_fragment-clause-no : goal.returns-then-not-is_fragment-clause-no
returns-then-not-is_fragment-clause-no g t c = λ e readable parts.
    other_fragment (g.S.Slots.state c.args.slots.now).reads c.args.at c.args.left c.min-many.result c.read.new.into parts c.if-left-eq0.false c.min-many.ensures (c.in_ok-read.ensures.bytes readable)
    (λ is. not_both c.is_fragment.result (c.is_fragment.ensures.1 is) c.if-not-is_fragment.true)

pub returns-in-Ok-list_parts-clause-yes : goal.returns-in-Ok-list_parts-clause-yes
returns-in-Ok-list_parts-clause-yes g t c = λ e.
    listed_more (g.S.Slots.state c.args.slots.now) (g.S.Slots.state c.read.new.slots) c.args.at c.args.left c.min-many.result c.next.result c.read.new.into c.in_ok-read.ensures.looked.rests (c.in_ok-read.ensures.looked.cause.stays (λ e. cc e))
    c.if-left-eq0.false (sym c.ends.ensures ∙ c.if-ends.false) c.min-many.ensures c.in_ok-read.ensures.bytes c.next.ensures c.args.into.now.items c.push.new.self.items c.list_parts.new.into.items c.in-Ok.ensures.items c.read.array_long (c.is_fragment.ensures.0 c.if-not-is_fragment.false) (c.in-Ok-list_parts.ensures.yes e)

pub returns-in-Ok-list_parts-clause-no : goal.returns-in-Ok-list_parts-clause-no
returns-in-Ok-list_parts-clause-no g t c = λ e.
    not_listed (g.S.Slots.state c.args.slots.now) (g.S.Slots.state c.read.new.slots) c.args.at c.args.left c.min-many.result c.next.result c.read.new.into c.in_ok-read.ensures.looked.rests (c.in_ok-read.ensures.looked.cause.stays (λ e. cc e))
    c.if-left-eq0.false (sym c.ends.ensures ∙ c.if-ends.false) c.min-many.ensures c.in_ok-read.ensures.bytes c.next.ensures (c.in-Ok-list_parts.ensures.no e)

pub returns-in-Ok-list_parts-clause-looked : goal.returns-in-Ok-list_parts-clause-looked
returns-in-Ok-list_parts-clause-looked g t c =
    looked_both (g.S.Slots.state c.args.slots.now) (g.S.Slots.state c.read.new.slots) (g.S.Slots.state c.list_parts.new.slots) (g.S.Slots.stop c.args.slots.now) (g.S.Slots.stop c.read.new.slots) (g.S.Slots.stop c.list_parts.new.slots)
    _ _ (λ e. cc e) (g.met.S.Slots.stop_known c.list_parts.new.slots) c.in_ok-read.ensures.looked c.in-Ok-list_parts.ensures.looked

pub returns-in-Err-list_parts-clause-looked : goal.returns-in-Err-list_parts-clause-looked
returns-in-Err-list_parts-clause-looked g t c =
    looked_err (g.S.Slots.state c.args.slots.now) (g.S.Slots.state c.read.new.slots) (g.S.Slots.state c.list_parts.new.slots) (g.S.Slots.stop c.args.slots.now) (g.S.Slots.stop c.read.new.slots) (g.S.Slots.stop c.list_parts.new.slots)
    _ c.in-Err-list_parts.fault (λ e. cc e) (g.met.S.Slots.stop_known c.list_parts.new.slots) c.in_ok-read.ensures.looked c.in-Err-list_parts.ensures.looked
