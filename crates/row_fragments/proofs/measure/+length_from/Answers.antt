use Rattle.std.proofs.Common.{ℕ, ◌-◌, length, ap, sym, ◌∙◌, subst}
use Rattle.abl_values.specs.Keys.{AreBytes}
use Rattle.row_fragments.specs.Fragments.{bytes_from}
use Rattle.row_fragments.proofs.Lengths.{bytes_ended, bytes_more, bytes_none, length_ended, length_more, length_none}
use Rattle.row_fragments.proofs.measure.+length_from.Goals as goal

pub returns-then-most-eq0-clause-length : goal.returns-then-most-eq0-clause-length
returns-then-most-eq0-clause-length g t c = λ readable. length_none c.args.most (g.S.Slots.state c.args.slots.now).reads c.args.at c.if-most-eq0.true

pub returns-then-ends-clause-length : goal.returns-then-ends-clause-length
returns-then-ends-clause-length g t c = λ readable. length_ended c.args.most (g.S.Slots.state c.args.slots.now).reads c.args.at (sym c.ends.ensures ∙ c.if-ends.true)

pub returns-clause-length : goal.returns-clause-length
returns-clause-length g t c =
    length_more (g.S.Slots.state c.args.slots.now) (g.S.Slots.state c.read.new.slots) c.args.most c.args.at c.read.new.into c.content_length.result c.in_ok-more.more
    c.in_ok-read.ensures.looked.rests (c.in_ok-read.ensures.looked.cause.stays (λ e. cc e)) c.if-most-eq0.false (sym c.ends.ensures ∙ c.if-ends.false) c.in_ok-read.ensures.bytes c.content_length.ensures.is
    (λ readable. c.in_ok-more.ensures.length readable ∙ ap (λ (n : ℕ). length (bytes_from (c.args.most - 1) (g.S.Slots.state c.read.new.slots).reads n)) c.next.ensures)

pub returns-then-most-eq0-clause-bytes : goal.returns-then-most-eq0-clause-bytes
returns-then-most-eq0-clause-bytes g t c = λ readable. bytes_none c.args.most (g.S.Slots.state c.args.slots.now).reads c.args.at c.if-most-eq0.true

pub returns-then-ends-clause-bytes : goal.returns-then-ends-clause-bytes
returns-then-ends-clause-bytes g t c = λ readable. bytes_ended c.args.most (g.S.Slots.state c.args.slots.now).reads c.args.at (sym c.ends.ensures ∙ c.if-ends.true)

pub returns-clause-bytes : goal.returns-clause-bytes
returns-clause-bytes g t c =
    bytes_more (g.S.Slots.state c.args.slots.now) (g.S.Slots.state c.read.new.slots) c.args.most c.args.at c.read.new.into
    c.in_ok-read.ensures.looked.rests (c.in_ok-read.ensures.looked.cause.stays (λ e. cc e)) c.if-most-eq0.false (sym c.ends.ensures ∙ c.if-ends.false) c.in_ok-read.ensures.bytes c.content_length.ensures.bytes
    (λ readable. subst (λ (n : ℕ). AreBytes (bytes_from (c.args.most - 1) (g.S.Slots.state c.read.new.slots).reads n)) c.next.ensures (c.in_ok-more.ensures.bytes readable))
