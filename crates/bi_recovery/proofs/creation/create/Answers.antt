use Rattle.std.proofs.Common.{◌≡◌, inl, ℕ, ◌<◌, ◌^◌, List, refl, sym, ◌∙◌, ap, subst, arith}
use Rattle.storage.specs.Disk.{Others}
use Rattle.storage.specs.Slots.{undone}
use Rattle.log_meaning.specs.steps.Steps.{Image}
use Rattle.log_meaning.proofs.StepsLemmas.Runs.{wider, holds, traced}
use Rattle.log_meaning.specs.Images.{slot_of}
use Rattle.bi_log.specs.Appending.{fresh}
use Rattle.bi_log.specs.Generations.{IsClosed, AfterGate, Opens}
use Rattle.bi_log.proofs.Preparing.{ok_then}
use Rattle.bi_recovery.specs.Creating.{Back, Creates, zeros}
use Rattle.bi_recovery.proofs.Creating.{then_new, no_log, both_closed, behind_closed, new_only, shut_area}
use Rattle.bi_log.proofs.Lengths.{run_more, run_others, run_twice}
use Rattle.bi_recovery.proofs.creation.create.Goals as goal

pub returns-in_err-close_logs-clause-time : goal.returns-in_err-close_logs-clause-time
returns-in_err-close_logs-clause-time g c = wider _ _ _ _ Back (Creates c.args.slots.now) c.close_logs.ensures.time (λ d image there f slots r. inl (f slots r))

pub returns-in_err-fill_area-clause-time : goal.returns-in_err-fill_area-clause-time
returns-in_err-fill_area-clause-time g c = (then_new _ _ _ _ _ _ c.args.slots.now (Others 0) (wider _ _ _ _ Back (Creates c.args.slots.now) c.close_logs.ensures.time (λ d image there f slots r. inl (f slots r))) c.fill_area.ensures.time
    (λ e image m s slots r. absurd (let shut = both_closed e image s (c.in_ok-close_logs.ensures.ok e m) in no_log image (shut.0) (shut.1) slots r)))

pub returns-in_err-write_header-clause-time : goal.returns-in_err-write_header-clause-time
returns-in_err-write_header-clause-time g c =
    let filled : (image : Image) → g.D.Disk.left c.fill_area.new.disk (g.D.Disk.time c.fill_area.new.disk) image → IsClosed (image 1) × IsClosed (image 2) = (λ image left. holds _ _ _ _ (Others 0) (λ x. IsClosed (x 1) × IsClosed (x 2)) c.fill_area.ensures.time c.in_ok-close_logs.ensures.ok (λ d x there s. both_closed d x s (c.in_ok-close_logs.ensures.ok d there)) _ image c.fill_area.ensures.time.later left) in
    (then_new _ _ _ _ _ _ c.args.slots.now (AfterGate 1) (then_new _ _ _ _ _ _ c.args.slots.now (Others 0) (wider _ _ _ _ Back (Creates c.args.slots.now) c.close_logs.ensures.time (λ d image there f slots r. inl (f slots r))) c.fill_area.ensures.time
    (λ e image m s slots r. absurd (let shut = both_closed e image s (c.in_ok-close_logs.ensures.ok e m) in no_log image (shut.0) (shut.1) slots r))) c.write_header.ensures.time
    (λ e image m s slots r. absurd (let shut = behind_closed e image s (filled e m) in no_log image (shut.0) (shut.1) slots r)))

pub returns-clause-time : goal.returns-clause-time
returns-clause-time g c =
    let filled : (image : Image) → g.D.Disk.left c.fill_area.new.disk (g.D.Disk.time c.fill_area.new.disk) image → IsClosed (image 1) × IsClosed (image 2) = (λ image left. holds _ _ _ _ (Others 0) (λ x. IsClosed (x 1) × IsClosed (x 2)) c.fill_area.ensures.time c.in_ok-close_logs.ensures.ok (λ d x there s. both_closed d x s (c.in_ok-close_logs.ensures.ok d there)) _ image c.fill_area.ensures.time.later left) in
    let laid : (image : Image) → g.D.Disk.left c.write_header.new.disk (g.D.Disk.time c.write_header.new.disk) image → IsClosed (image 1) × IsClosed (image 2) =
    (λ image left. holds _ _ _ _ (AfterGate 1) (λ x. IsClosed (x 1) × IsClosed (x 2)) c.write_header.ensures.time filled (λ d x there s. behind_closed d x s (filled d there)) _ image c.write_header.ensures.time.later left) in
    let are : (image : Image) → g.D.Disk.left c.write_header.new.disk (g.D.Disk.time c.write_header.new.disk) image → (s : ℕ) → s < 2 ^ 20 → slot_of (image 0) s ≡ undone c.args.slots.now (λ k. zeros) s =
    (λ image left. holds _ _ _ _ (AfterGate 1) (λ x. (s : ℕ) → s < 2 ^ 20 → slot_of (x 0) s ≡ undone c.args.slots.now (λ k. zeros) s) c.write_header.ensures.time c.in_ok-fill_area.ensures.ok
    (λ d x there s k lt. ap (λ (l : List ℕ). slot_of l k) (s.others 0 (λ is. omega (arith, is))) ∙ c.in_ok-fill_area.ensures.ok d there k lt) _ image c.write_header.ensures.time.later left) in
    then_new _ _ _ _ _ _ c.args.slots.now (Opens 1 (fresh 1)) (then_new _ _ _ _ _ _ c.args.slots.now (AfterGate 1) (then_new _ _ _ _ _ _ c.args.slots.now (Others 0) (wider _ _ _ _ Back (Creates c.args.slots.now) c.close_logs.ensures.time (λ d image there f slots r. inl (f slots r))) c.fill_area.ensures.time
    (λ e image m s slots r. absurd (let shut = both_closed e image s (c.in_ok-close_logs.ensures.ok e m) in no_log image (shut.0) (shut.1) slots r))) c.write_header.ensures.time
    (λ e image m s slots r. absurd (let shut = behind_closed e image s (filled e m) in no_log image (shut.0) (shut.1) slots r))) (c.open_area.ensures.time (fresh 1) 32 c.in_ok-write_header.ensures.ok)
    (λ e image m s slots r. new_only image c.args.slots.now s.holds (subst IsClosed (sym (s.others 2 (λ is. omega (arith, is)))) ((laid e m).1))
    (λ k lt. ap (λ (l : List ℕ). slot_of l k) (s.others 0 (λ is. omega (arith, is))) ∙ are e m k lt) slots r)

pub returns-clause-ok : goal.returns-clause-ok
returns-clause-ok g c = ok_then c.open_area.result _ _ c.open_area.ensures.ok (λ ok image left.
    let filled : (image : Image) → g.D.Disk.left c.fill_area.new.disk (g.D.Disk.time c.fill_area.new.disk) image → IsClosed (image 1) × IsClosed (image 2) = (λ image left. holds _ _ _ _ (Others 0) (λ x. IsClosed (x 1) × IsClosed (x 2)) c.fill_area.ensures.time c.in_ok-close_logs.ensures.ok (λ d x there s. both_closed d x s (c.in_ok-close_logs.ensures.ok d there)) _ image c.fill_area.ensures.time.later left) in
    let laid : (image : Image) → g.D.Disk.left c.write_header.new.disk (g.D.Disk.time c.write_header.new.disk) image → IsClosed (image 1) × IsClosed (image 2) =
    (λ image left. holds _ _ _ _ (AfterGate 1) (λ x. IsClosed (x 1) × IsClosed (x 2)) c.write_header.ensures.time filled (λ d x there s. behind_closed d x s (filled d there)) _ image c.write_header.ensures.time.later left) in
    let are : (image : Image) → g.D.Disk.left c.write_header.new.disk (g.D.Disk.time c.write_header.new.disk) image → (s : ℕ) → s < 2 ^ 20 → slot_of (image 0) s ≡ undone c.args.slots.now (λ k. zeros) s =
    (λ image left. holds _ _ _ _ (AfterGate 1) (λ x. (s : ℕ) → s < 2 ^ 20 → slot_of (x 0) s ≡ undone c.args.slots.now (λ k. zeros) s) c.write_header.ensures.time c.in_ok-fill_area.ensures.ok
    (λ d x there s k lt. ap (λ (l : List ℕ). slot_of l k) (s.others 0 (λ is. omega (arith, is))) ∙ c.in_ok-fill_area.ensures.ok d there k lt) _ image c.write_header.ensures.time.later left) in
    let h = traced _ _ _ _ (Others 1) (wider _ _ _ _ (Opens 1 (fresh 1)) (Others 1) (c.open_area.ensures.time (fresh 1) 32 c.in_ok-write_header.ensures.ok) (λ d x there s. s.others)) (λ d k other. refl) image left in
    let shut : IsClosed (image 2) = subst IsClosed (sym (h.2 2 (λ is. omega (arith, is)))) ((laid (h.0) (h.1)).1) in
    record {
      newest = record { log = inl refl; newest = λ other o. absurd (shut_area (image 2) shut other o) };
      log = (ok (fresh 1) 32 c.in_ok-write_header.ensures.ok image left).log;
      there = omega arith;
      below = λ s none. refl;
    })

pub returns-clause-are : goal.returns-clause-are
returns-clause-are g c = ok_then c.open_area.result _ _ c.open_area.ensures.ok (λ ok image left s lt.
    let filled : (image : Image) → g.D.Disk.left c.fill_area.new.disk (g.D.Disk.time c.fill_area.new.disk) image → IsClosed (image 1) × IsClosed (image 2) = (λ image left. holds _ _ _ _ (Others 0) (λ x. IsClosed (x 1) × IsClosed (x 2)) c.fill_area.ensures.time c.in_ok-close_logs.ensures.ok (λ d x there s. both_closed d x s (c.in_ok-close_logs.ensures.ok d there)) _ image c.fill_area.ensures.time.later left) in
    let laid : (image : Image) → g.D.Disk.left c.write_header.new.disk (g.D.Disk.time c.write_header.new.disk) image → IsClosed (image 1) × IsClosed (image 2) =
    (λ image left. holds _ _ _ _ (AfterGate 1) (λ x. IsClosed (x 1) × IsClosed (x 2)) c.write_header.ensures.time filled (λ d x there s. behind_closed d x s (filled d there)) _ image c.write_header.ensures.time.later left) in
    let are : (image : Image) → g.D.Disk.left c.write_header.new.disk (g.D.Disk.time c.write_header.new.disk) image → (s : ℕ) → s < 2 ^ 20 → slot_of (image 0) s ≡ undone c.args.slots.now (λ k. zeros) s =
    (λ image left. holds _ _ _ _ (AfterGate 1) (λ x. (s : ℕ) → s < 2 ^ 20 → slot_of (x 0) s ≡ undone c.args.slots.now (λ k. zeros) s) c.write_header.ensures.time c.in_ok-fill_area.ensures.ok
    (λ d x there s k lt. ap (λ (l : List ℕ). slot_of l k) (s.others 0 (λ is. omega (arith, is))) ∙ c.in_ok-fill_area.ensures.ok d there k lt) _ image c.write_header.ensures.time.later left) in
    let h = traced _ _ _ _ (Others 1) (wider _ _ _ _ (Opens 1 (fresh 1)) (Others 1) (c.open_area.ensures.time (fresh 1) 32 c.in_ok-write_header.ensures.ok) (λ d x there s. s.others)) (λ d k other. refl) image left in
    ap (λ (l : List ℕ). slot_of l s) (h.2 0 (λ is. omega (arith, is))) ∙ are (h.0) (h.1) s lt)

pub returns-in_err-close_logs-clause-within : goal.returns-in_err-close_logs-clause-within
returns-in_err-close_logs-clause-within g c = run_more _ _ _ _ 33 1 (omega arith) c.close_logs.ensures.within

pub returns-in_err-fill_area-clause-within : goal.returns-in_err-fill_area-clause-within
returns-in_err-fill_area-clause-within g c = run_twice _ _ _ _ _ _ 33 (run_more _ _ _ _ 33 1 (omega arith) c.close_logs.ensures.within) (run_others _ _ _ _ 33 c.fill_area.ensures.time)

pub returns-in_err-write_header-clause-within : goal.returns-in_err-write_header-clause-within
returns-in_err-write_header-clause-within g c = run_twice _ _ _ _ _ _ 33 (run_twice _ _ _ _ _ _ 33 (run_more _ _ _ _ 33 1 (omega arith) c.close_logs.ensures.within) (run_others _ _ _ _ 33 c.fill_area.ensures.time)) c.write_header.ensures.within

pub returns-clause-within : goal.returns-clause-within
returns-clause-within g c = run_twice _ _ _ _ _ _ 33 (run_twice _ _ _ _ _ _ 33 (run_twice _ _ _ _ _ _ 33 (run_more _ _ _ _ 33 1 (omega arith) c.close_logs.ensures.within) (run_others _ _ _ _ 33 c.fill_area.ensures.time)) c.write_header.ensures.within) (run_more _ _ _ _ 33 1 (omega arith) c.open_area.ensures.within)
