use Rattle.std.proofs.Common.{◌≡◌, ℕ, ◌-◌, ◌≤◌, refl, sym, subst, arith}
use Rattle.log_meaning.proofs.StepsLemmas.Runs.{traced}
use Rattle.log_meaning.specs.Images.{IsOpened}
use Rattle.bi_log.specs.Generations.{IsClosed}
use Rattle.bi_log.proofs.Preparing.{ok_then}
use Rattle.bi_recovery.proofs.Creating.{one_or_two, back_same, back_stay, back_both, closing_run, shut_area, closed_both, older_in}
use Rattle.bi_log.proofs.Lengths.{run_same, run_twice}
use Rattle.bi_recovery.proofs.Lengths.{none_then, then_none}
use Rattle.bi_recovery.proofs.creation.close_logs.Goals as goal

pub returns-in_err-close_area-clause-time : goal.returns-in_err-close_area-clause-time
returns-in_err-close_area-clause-time g c =
    back_same _ _ _ _ _ _ c.sync_all.ensures.time
    (back_stay _ _ _ _ _ _ _ _ _ _ c.older_area.ensures.rest (λ m image left. (g.met.D.Disk.image_known c.sync_all.new.disk m image left).past)
    (closing_run _ _ _ _ c.in_ok-first.first (one_or_two c.in_ok-first.first (c.in_ok-first.ensures.place.0) (c.in_ok-first.ensures.place.1)) c.close_area.ensures.time
    (older_in _ _ _ _ _ _ _ _ c.in_ok-first.first (c.in_ok-first.ensures.place.0) (c.in_ok-first.ensures.place.1) c.older_area.ensures.rest (λ m image left. (g.met.D.Disk.image_known c.sync_all.new.disk m image left).same_observable) c.in_ok-sync_all.ensures.ok c.in_ok-first.ensures.older)))

pub returns-clause-time : goal.returns-clause-time
returns-clause-time g c =
    let place = one_or_two c.in_ok-first.first (c.in_ok-first.ensures.place.0) (c.in_ok-first.ensures.place.1) in
    back_same _ _ _ _ _ _ c.sync_all.ensures.time
    (back_stay _ _ _ _ _ _ _ _ _ _ c.older_area.ensures.rest (λ m image left. (g.met.D.Disk.image_known c.sync_all.new.disk m image left).past)
    (back_both _ _ _ _ _ _
    (closing_run _ _ _ _ c.in_ok-first.first place c.close_area.ensures.time
    (older_in _ _ _ _ _ _ _ _ c.in_ok-first.first (c.in_ok-first.ensures.place.0) (c.in_ok-first.ensures.place.1) c.older_area.ensures.rest (λ m image left. (g.met.D.Disk.image_known c.sync_all.new.disk m image left).same_observable) c.in_ok-sync_all.ensures.ok c.in_ok-first.ensures.older))
    (closing_run _ _ _ _ (3 - c.in_ok-first.first) (one_or_two (3 - c.in_ok-first.first) (let high = c.in_ok-first.ensures.place.1 in omega (arith, high)) (let low = c.in_ok-first.ensures.place.0 in omega (arith, low))) c.close_area-2.ensures.time
    (λ d there k h ok oh. absurd (shut_area (d c.in_ok-first.first) (c.in_ok-close_area.ensures.ok d there) k (subst (λ (x : ℕ). IsOpened (d x) k) (let high = c.in_ok-first.ensures.place.1 in omega (arith, high)) ok))))))

pub returns-clause-ok : goal.returns-clause-ok
returns-clause-ok g c = ok_then c.close_area-2.result _ _ c.close_area-2.ensures.ok (λ ok image left.
    let place = one_or_two c.in_ok-first.first (c.in_ok-first.ensures.place.0) (c.in_ok-first.ensures.place.1) in
    let h = traced _ _ _ _ _ c.close_area-2.ensures.time (λ d. record { others = λ k other. refl; beyond = λ i from. refl; opened = λ k o. o }) image left in
    closed_both image c.in_ok-first.first place (subst IsClosed (sym ((h.2).others c.in_ok-first.first (apart c.in_ok-first.first (c.in_ok-first.ensures.place.0) (c.in_ok-first.ensures.place.1)))) (c.in_ok-close_area.ensures.ok (h.0) (h.1))) (ok image left))
  where
    apart : (r : ℕ) → 1 ≤ r → r ≤ 2 → r ≡ 3 - r → ⊥
    apart r low high is = omega (arith, low, high, is)

pub returns-in_err-sync_all-clause-within : goal.returns-in_err-sync_all-clause-within
returns-in_err-sync_all-clause-within g c = run_same _ _ _ _ 1 c.sync_all.ensures.time

pub returns-in_err-first-clause-within : goal.returns-in_err-first-clause-within
returns-in_err-first-clause-within g c = then_none _ _ _ _ _ _ _ _ _ _ 1 (run_same _ _ _ _ 1 c.sync_all.ensures.time) c.older_area.ensures.rest (λ m image left. (g.met.D.Disk.image_known c.sync_all.new.disk m image left).past)

pub returns-in_err-close_area-clause-within : goal.returns-in_err-close_area-clause-within
returns-in_err-close_area-clause-within g c = run_twice _ _ _ _ _ _ 1 (run_same _ _ _ _ 1 c.sync_all.ensures.time) (none_then _ _ _ _ _ _ _ _ _ _ 1 c.older_area.ensures.rest (λ m image left. (g.met.D.Disk.image_known c.sync_all.new.disk m image left).past) c.close_area.ensures.within)

pub returns-clause-within : goal.returns-clause-within
returns-clause-within g c = run_twice _ _ _ _ _ _ 1 (run_twice _ _ _ _ _ _ 1 (run_same _ _ _ _ 1 c.sync_all.ensures.time) (none_then _ _ _ _ _ _ _ _ _ _ 1 c.older_area.ensures.rest (λ m image left. (g.met.D.Disk.image_known c.sync_all.new.disk m image left).past) c.close_area.ensures.within)) c.close_area-2.ensures.within
