use Rattle.std.proofs.Common.{◌≡◌, ⊎_elim, ◌<◌, ◌≤◌, sym, ◌∙◌, arith}
use Rattle.log_meaning.proofs.LogStates.{may_write}
use Rattle.slot_area.proofs.Extended.{below_extended, view_extended, up, laid, whole_extended}
use Rattle.slot_area.proofs.slot_area.SlotArea.extend_to.Goals as goal

pub returns-in_err-extend-clause-time : goal.returns-in_err-extend-clause-time
returns-in_err-extend-clause-time g c = λ extent batches there noted. c.extend.ensures.time extent batches there (λ k from lt. may_write extent batches k (noted k from lt))

pub returns-in_err-extend-clause-view : goal.returns-in_err-extend-clause-view
returns-in_err-extend-clause-view g c = λ known.
    let old = g.D.Disk.seen c.args.disk.now 0 in
    let new = g.D.Disk.seen c.extend.new.disk 0 in
    let end = c.args.self.now.end in
    view_extended c.args.self.now.frames end end old new (below_extended end end old new (omega arith) (c.extend.ensures.elsewhere known (c.requires.kept known).there) (λ s from lt. absurd (omega (arith, from, lt))))

pub returns-in_err-extend-clause-kept : goal.returns-in_err-extend-clause-kept
returns-in_err-extend-clause-kept g c = λ known.
    let old = g.D.Disk.seen c.args.disk.now 0 in
    let new = g.D.Disk.seen c.extend.new.disk 0 in
    let end = c.args.self.now.end in
    let kept = c.requires.kept known in
    let there = kept.there in
    let long = c.extend.ensures.no_shorter known in
    let under = below_extended end end old new (omega arith) (c.extend.ensures.elsewhere known there) (λ s from lt. absurd (omega (arith, from, lt))) in
    record {
      unchanged = λ s none. view_extended c.args.self.now.frames end end old new under s ∙ kept.unchanged s none ∙ sym (under s);
      there = omega (arith, there, long);
    }

pub returns-clause-time : goal.returns-clause-time
returns-clause-time g c = λ extent batches there noted. c.extend.ensures.time extent batches there (λ k from lt. may_write extent batches k (noted k from lt))

pub returns-clause-view : goal.returns-clause-view
returns-clause-view g c = λ known.
    let old = g.D.Disk.seen c.args.disk.now 0 in
    let new = g.D.Disk.seen c.extend.new.disk 0 in
    let end = c.args.self.now.end in
    let last = c.later_end-last.result in
    let there = (c.requires.kept known).there in
    let which = c.later_end-last.ensures.later in
    view_extended c.args.self.now.frames end last old new (below_extended end last old new ((up end c.args.next last which).0) (c.extend.ensures.elsewhere known there)
    (λ s from lt. c.in_ok-extend.ensures.zeros known there s from (laid end c.args.next last which s from lt)))

pub returns-clause-kept : goal.returns-clause-kept
returns-clause-kept g c = λ known.
    let old = g.D.Disk.seen c.args.disk.now 0 in
    let new = g.D.Disk.seen c.extend.new.disk 0 in
    let end = c.args.self.now.end in
    let last = c.later_end-last.result in
    let kept = c.requires.kept known in
    let there = kept.there in
    let long = c.extend.ensures.no_shorter known in
    let which = c.later_end-last.ensures.later in
    let under = below_extended end last old new ((up end c.args.next last which).0) (c.extend.ensures.elsewhere known there) (λ s from lt. c.in_ok-extend.ensures.zeros known there s from (laid end c.args.next last which s from lt)) in
    record {
      unchanged = λ s none. view_extended c.args.self.now.frames end last old new under s ∙ kept.unchanged s (c.requires.written s) ∙ sym (under s);
      there = ⊎_elim
          (λ (e : (c.args.next ≤ end) × (last ≡ end)). let is = e.1 in omega (arith, is, there, long))
          (λ (e : (end < c.args.next) × (last ≡ c.args.next)). let is = e.1 in let lt = e.0 in let reach = c.in_ok-extend.ensures.reaches known there (omega (arith, lt)) in omega (arith, is, reach))
          which;
    }

pub returns-clause-whole : goal.returns-clause-whole
returns-clause-whole g c = λ known whole.
    let there = (c.requires.kept known).there in
    whole_extended c.args.self.now.end c.args.next c.later_end-last.result c.later_end-last.ensures.later (g.D.Disk.seen c.args.disk.now 0) (g.D.Disk.seen c.extend.new.disk 0) (c.extend.ensures.elsewhere known there) (c.in_ok-extend.ensures.after known there) whole

pub returns-clause-end : goal.returns-clause-end
returns-clause-end g c = (up c.args.self.now.end c.args.next c.later_end-last.result c.later_end-last.ensures.later).0

pub returns-clause-reaches : goal.returns-clause-reaches
returns-clause-reaches g c = (up c.args.self.now.end c.args.next c.later_end-last.result c.later_end-last.ensures.later).1
