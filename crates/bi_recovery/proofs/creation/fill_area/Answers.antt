use Rattle.std.proofs.Common.{ℕ, List, Bool, IsTrue, ◌∙◌, ap, subst}
use Rattle.log_meaning.specs.steps.Steps.{Image}
use Rattle.log_meaning.specs.Images.{slot_of}
use Rattle.bi_log.proofs.Preparing.{ok_both}
use Rattle.bi_recovery.proofs.Creating.{zeros_all}
use Rattle.bi_recovery.proofs.creation.fill_area.Goals as goal

pub returns-clause-ok : goal.returns-clause-ok
returns-clause-ok g c = ok_both c.put_back.result _ _ _ c.put_back.ensures.ok c.put_back.ensures.reads (λ ok reads image left s lt.
    let known3 = (g.met.D.Disk.image_known c.put_back.new.disk _ image left).same_observable in
    let known2 : IsTrue (g.D.Disk.observable c.write_zeros.new.disk) = subst (λ (b : Bool). IsTrue b) c.put_back.ensures.same_observable known3 in
    let known1 : IsTrue (g.D.Disk.observable c.zero_count.new.disk) = subst (λ (b : Bool). IsTrue b) c.write_zeros.ensures.same_observable known2 in
    let known : IsTrue (g.D.Disk.observable c.args.disk.now) = subst (λ (b : Bool). IsTrue b) c.zero_count.ensures.rest.same_observable known1 in
    ap (λ (l : List ℕ). slot_of l s) (ok image left) ∙ reads known2 s
    ∙ zeros_all c.args.slots.now (slot_of (g.D.Disk.seen c.write_zeros.new.disk 0)) (slot_of (g.D.Disk.seen c.zero_count.new.disk 0)) c.in_ok-count.count s
    (λ below. c.in_ok-write_zeros.ensures.laid known1 s below) (λ from. c.in_ok-write_zeros.ensures.left known1 s from)
    (λ from. ap (λ (i : Image). slot_of (i 0) s) (c.zero_count.ensures.rest.same known) ∙ c.in_ok-count.ensures.all known s from lt))
