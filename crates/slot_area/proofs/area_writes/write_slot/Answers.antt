use Rattle.std.proofs.Common.{◌≡◌, ◌*◌, ℕ, List, length, ◌∙◌, ap, subst, arith}
use Rattle.storage.specs.Disk.{TornIn}
use Rattle.log_meaning.proofs.StepsLemmas.Runs.{call, wider}
use Rattle.log_meaning.proofs.StepsLemmas.Writes.{length-overlaid}
use Rattle.log_meaning.specs.Images.{slot_of}
use Rattle.log_meaning.proofs.Filling.{writes_one, slot_overlaid}
use Rattle.slot_area.proofs.AreaRuns.{torn_elsewhere, ok_then}
use Rattle.slot_area.proofs.area_writes.write_slot.Goals as goal

pub returns-clause-past : goal.returns-clause-past
returns-clause-past g c = wider _ _ _ _ _ _ (call _ _ _ _ _ _ c.write.ensures.time (λ m image left. (g.met.D.Disk.image_known c.write.new.self m image left).past)) (λ d image there step. step.others)

pub returns-clause-time : goal.returns-clause-time
returns-clause-time g c = λ extent batches there may.
    let long : length c.args.bytes.now ≡ 256 = omega arith in
    wider _ _ _ _ _ _ (call _ _ _ _ _ _ c.write.ensures.time (λ m image left. (g.met.D.Disk.image_known c.write.new.self m image left).past))
    (λ d image was step. writes_one extent batches (256 * c.args.slot) 256 d image (there d was) (subst (λ (n : ℕ). TornIn 0 (256 * c.args.slot) n d image) long step) may)

pub returns-clause-reads : goal.returns-clause-reads
returns-clause-reads g c = ok_then c.write.result _ _ c.write.ensures.written (λ is known s.
    let long : length c.args.bytes.now ≡ 256 = omega arith in
    ap (λ (l : List ℕ). slot_of l s) (is known) ∙ slot_overlaid c.args.slot s c.args.bytes.now (g.D.Disk.seen c.args.disk.now 0) long)

pub returns-clause-elsewhere : goal.returns-clause-elsewhere
returns-clause-elsewhere g c = λ known reaches s ne.
    let long : length c.args.bytes.now ≡ 256 = omega arith in
    torn_elsewhere c.args.slot (length c.args.bytes.now) s (g.D.Disk.seen c.args.disk.now 0) (g.D.Disk.seen c.write.new.self 0) long (c.write.ensures.others known).torn reaches ne

pub returns-clause-no_shorter : goal.returns-clause-no_shorter
returns-clause-no_shorter g c = λ known. (c.write.ensures.others known).torn.no_shorter

pub returns-clause-reaches : goal.returns-clause-reaches
returns-clause-reaches g c = ok_then c.write.result _ _ c.write.ensures.written (λ is known.
    let long : length c.args.bytes.now ≡ 256 = omega arith in
    omega (arith, long, ap (length {A = ℕ}) (is known), length-overlaid (256 * c.args.slot) c.args.bytes.now (g.D.Disk.seen c.args.disk.now 0)))

pub returns-clause-others : goal.returns-clause-others
returns-clause-others g c = λ known. (c.write.ensures.others known).others
