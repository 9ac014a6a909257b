use Rattle.std.proofs.Common.{ℕ, ap, sym, ◌∙◌, ◌++◌, ◌-◌}
use Rattle.row_fragments.specs.Fragments.{bytes_from}
use Rattle.row_fragments.proofs.ChainReads.{none_left, ended, fragment_more}
use Rattle.row_fragments.proofs.read.+read_from.Goals as goal

pub returns-then-most-eq0-clause-bytes : goal.returns-then-most-eq0-clause-bytes
returns-then-most-eq0-clause-bytes g t c = λ readable. none_left c.args.most (g.S.Slots.state c.args.slots.now).reads c.args.at c.args.into.now.items c.if-most-eq0.true

pub returns-then-ends-clause-bytes : goal.returns-then-ends-clause-bytes
returns-then-ends-clause-bytes g t c = λ readable. ended c.args.most (g.S.Slots.state c.args.slots.now).reads c.args.at c.args.into.now.items (sym c.ends.ensures ∙ c.if-ends.true)

pub returns-clause-bytes : goal.returns-clause-bytes
returns-clause-bytes g t c =
    fragment_more (g.S.Slots.state c.args.slots.now) (g.S.Slots.state c.read.new.slots) c.args.most c.args.at c.read.new.into c.args.into.now.items c.push_content.new.into.items c.read_from.new.into.items
    c.in_ok-read.ensures.looked.rests (c.in_ok-read.ensures.looked.cause.stays (λ e. cc e)) c.if-most-eq0.false (sym c.ends.ensures ∙ c.if-ends.false) c.in_ok-read.ensures.bytes c.in-Ok.ensures
    (λ readable. c.in_ok-read_from.ensures.bytes readable ∙ ap (λ (n : ℕ). c.push_content.new.into.items ++ bytes_from (c.args.most - 1) (g.S.Slots.state c.read.new.slots).reads n) c.next.ensures)
