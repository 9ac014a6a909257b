use Rattle.std.proofs.Common.{◌≡◌, ◌*◌, ℕ, List, length, ◌∙◌, ap, subst, arith}
use Rattle.storage.specs.Disk.{TornIn}
use Rattle.log_meaning.proofs.StepsLemmas.Runs.{call, wider}
use Rattle.log_meaning.specs.Images.{slot_of}
use Rattle.log_meaning.proofs.Filling.{writes_one, slot_overlaid}
use Rattle.bi_log.proofs.Preparing.{ok_then}
use Rattle.bi_recovery.proofs.slots_written.write_slot.Goals as goal

pub returns-clause-time : goal.returns-clause-time
returns-clause-time g c = λ extent batches there may.
    let long : length c.args.slot.now.old ≡ 256 = omega arith in
    wider _ _ _ _ _ _ (call _ _ _ _ _ _ c.write.ensures.time (λ m image left. (g.met.D.Disk.image_known c.write.new.self m image left).past))
    (λ d image was step. writes_one extent batches (256 * c.args.slot.now.slot) 256 d image (there d was) (subst (λ (n : ℕ). TornIn 0 (256 * c.args.slot.now.slot) n d image) long step) may)

pub returns-clause-reads : goal.returns-clause-reads
returns-clause-reads g c = ok_then c.write.result _ _ c.write.ensures.written (λ is known s.
    let long : length c.args.slot.now.old ≡ 256 = omega arith in
    ap (λ (l : List ℕ). slot_of l s) (is known) ∙ slot_overlaid c.args.slot.now.slot s c.args.slot.now.old (g.D.Disk.seen c.args.disk.now 0) long)

pub returns-clause-past : goal.returns-clause-past
returns-clause-past g c = wider _ _ _ _ _ _ (call _ _ _ _ _ _ c.write.ensures.time (λ m image left. (g.met.D.Disk.image_known c.write.new.self m image left).past)) (λ d image there step. step.others)
