use Rattle.std.proofs.Common.{Bool, IsTrue, refl, sym, ◌∙◌, ap, subst}
use Rattle.log_meaning.specs.steps.Steps.{Image}
use Rattle.log_meaning.proofs.StepsLemmas.Runs.{call, traced}
use Rattle.bi_log.proofs.Preparing.{ok_then}
use Rattle.bi_recovery.proofs.Writing.{same_twice, three_areas}
use Rattle.bi_recovery.proofs.slots_written.sync_all.Goals as goal

pub returns-in_err-sync-clause-time : goal.returns-in_err-sync-clause-time
returns-in_err-sync-clause-time g c = call _ _ _ _ _ _ c.sync.ensures.time (λ m image left. (g.met.D.Disk.image_known c.sync.new.self m image left).past)

pub returns-in_err-sync-2-clause-time : goal.returns-in_err-sync-2-clause-time
returns-in_err-sync-2-clause-time g c = same_twice _ _ _ _ _ _
    (call _ _ _ _ _ _ c.sync.ensures.time (λ m image left. (g.met.D.Disk.image_known c.sync.new.self m image left).past))
    (call _ _ _ _ _ _ c.sync-2.ensures.time (λ m image left. (g.met.D.Disk.image_known c.sync-2.new.self m image left).past))

pub returns-clause-time : goal.returns-clause-time
returns-clause-time g c = same_twice _ _ _ _ _ _ (same_twice _ _ _ _ _ _
    (call _ _ _ _ _ _ c.sync.ensures.time (λ m image left. (g.met.D.Disk.image_known c.sync.new.self m image left).past))
    (call _ _ _ _ _ _ c.sync-2.ensures.time (λ m image left. (g.met.D.Disk.image_known c.sync-2.new.self m image left).past)))
    (call _ _ _ _ _ _ c.sync-3.ensures.time (λ m image left. (g.met.D.Disk.image_known c.sync-3.new.self m image left).past))

pub returns-clause-ok : goal.returns-clause-ok
returns-clause-ok g c = ok_then c.sync-3.result _ _ c.sync-3.ensures.durable (λ durable image left.
    let known3 = (g.met.D.Disk.image_known c.sync-3.new.self _ image left).same_observable in
    let known2 : IsTrue (g.D.Disk.observable c.sync-2.new.self) = subst (λ (b : Bool). IsTrue b) c.sync-3.ensures.same_observable known3 in
    let known1 : IsTrue (g.D.Disk.observable c.sync.new.self) = subst (λ (b : Bool). IsTrue b) c.sync-2.ensures.same_observable known2 in
    let h = traced _ _ _ _ _ (call _ _ _ _ _ _ c.sync-3.ensures.time (λ m i l. (g.met.D.Disk.image_known c.sync-3.new.self m i l).past)) (λ d. refl) image left in
    let k = traced _ _ _ _ _ (call _ _ _ _ _ _ c.sync-2.ensures.time (λ m i l. (g.met.D.Disk.image_known c.sync-2.new.self m i l).past)) (λ d. refl) (h.0) (h.1) in
    let seen2 = c.sync-3.ensures.seen known2 in
    let seen1 = c.sync-2.ensures.seen known1 in
    three_areas _ image
    (ap (λ (i : Image). i 0) (h.2 ∙ k.2) ∙ c.in_ok-sync.ensures.durable (k.0) (k.1) ∙ ap (λ (i : Image). i 0) (sym seen1) ∙ ap (λ (i : Image). i 0) (sym seen2))
    (ap (λ (i : Image). i 1) (h.2) ∙ c.in_ok-sync-2.ensures.durable (h.0) (h.1) ∙ ap (λ (i : Image). i 1) (sym seen2))
    (durable image left))

pub returns-in_err-sync-2-clause-seen : goal.returns-in_err-sync-2-clause-seen
returns-in_err-sync-2-clause-seen g c = λ known. c.sync-2.ensures.seen (subst (λ (b : Bool). IsTrue b) (sym c.sync.ensures.same_observable) known) ∙ c.sync.ensures.seen known

pub returns-clause-seen : goal.returns-clause-seen
returns-clause-seen g c = λ known.
    let known1 : IsTrue (g.D.Disk.observable c.sync.new.self) = subst (λ (b : Bool). IsTrue b) (sym c.sync.ensures.same_observable) known in
    c.sync-3.ensures.seen (subst (λ (b : Bool). IsTrue b) (sym c.sync-2.ensures.same_observable) known1) ∙ c.sync-2.ensures.seen known1 ∙ c.sync.ensures.seen known
