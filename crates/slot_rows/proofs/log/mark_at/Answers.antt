use Rattle.std.proofs.Common.{length, ap, sym, ◌∙◌, ltb-true}
use Rattle.slot_rows.specs.declared.log.Undone.{Undone}
use Rattle.slot_rows.proofs.Marks.{mark_past, mark_some}
use Rattle.slot_rows.proofs.log.mark_at.Goals as goal

pub returns-in-None : goal.returns-in-None
returns-in-None c = sym (mark_past c.args.log.now c.args.number c.args.all c.in-None.ensures.lookup.3)

pub returns-in-Some : goal.returns-in-Some
returns-in-Some c =
    ap (λ (u : Undone). u.mark) c.in-Some.ensures.lookup.1
    ∙ mark_some c.args.log.now c.args.number c.args.all c.in-Some.change.now (ltb-true c.args.number (length c.args.log.now) (sym c.in-Some.ensures.lookup.0))
