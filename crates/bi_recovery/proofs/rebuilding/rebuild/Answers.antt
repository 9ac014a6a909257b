use Rattle.std.proofs.Common.{◌≢◌, ◌+◌, ◌-◌, Bool, IsTrue, refl, sym, ◌∙◌, subst, arith}
use Rattle.storage.specs.Disk.{Others}
use Rattle.log_meaning.specs.steps.Steps.{Any}
use Rattle.log_meaning.proofs.StepsLemmas.Runs.{joined, wider, traced}
use Rattle.bi_log.proofs.Preparing.{ok_then}
use Rattle.bi_recovery.specs.Reopening.{StepsTo}
use Rattle.bi_recovery.proofs.Reopening.{put_same, rebuilt, reopened}
use Rattle.bi_log.proofs.Lengths.{run_others, run_twice}
use Rattle.bi_recovery.proofs.rebuilding.rebuild.Goals as goal

pub next_generation-requires-clause-synced : goal.next_generation-requires-clause-synced
next_generation-requires-clause-synced g c = λ image left.
    let h = traced _ _ _ _ _ c.put_back.ensures.past (λ d k other. refl) image left in
    let known = (g.met.D.Disk.image_known c.args.disk.now _ (h.0) (h.1)).same_observable in
    let low = c.requires.area.0 in
    let high = c.requires.area.1 in
    let other : 3 - c.args.area ≢ 0 = λ is. omega (arith, is, high) in
    h.2 (3 - c.args.area) other ∙ c.requires.synced (h.0) (h.1) (3 - c.args.area) (omega (arith, low)) ∙ sym (c.put_back.ensures.others known (3 - c.args.area) other)

pub returns-in_err-put_back-clause-past : goal.returns-in_err-put_back-clause-past
returns-in_err-put_back-clause-past g c = wider _ _ _ _ _ _ c.put_back.ensures.past (λ d image there s. tt)

pub returns-clause-past : goal.returns-clause-past
returns-clause-past g c = joined _ _ _ _ _ _ (Others 0) (StepsTo (3 - c.args.area) (c.args.generation + 1)) Any c.put_back.ensures.past c.next_generation.ensures.time (λ d image there s. tt) (λ d image there m s. tt) (λ d e image there x m y. tt)

pub returns-in_err-put_back-clause-time : goal.returns-in_err-put_back-clause-time
returns-in_err-put_back-clause-time g c = λ extent batches base known agrees gives.
    put_same _ _ _ _ c.args.area c.args.generation extent batches base (c.put_back.ensures.time extent batches (λ image left. (agrees image left).there) gives.may) agrees

pub returns-clause-time : goal.returns-clause-time
returns-clause-time g c = λ extent batches base known agrees gives.
    rebuilt _ _ _ _ _ _ c.args.area c.args.generation extent batches base c.args.slots.now (g.D.Disk.seen c.args.disk.now) (g.D.Disk.seen c.put_back.new.disk) gives agrees (g.met.D.Disk.reads_left c.args.disk.now known)
    (c.put_back.ensures.time extent batches (λ image left. (agrees image left).there) gives.may) c.in_ok-put_back.ensures.ok (c.in_ok-put_back.ensures.reads known) c.next_generation.ensures.time

pub returns-clause-ok : goal.returns-clause-ok
returns-clause-ok g c = ok_then c.next_generation.result _ _ c.next_generation.ensures.ok (λ ok extent batches base known agrees gives image left.
    reopened _ _ _ _ _ _ c.args.area c.args.generation extent batches base c.args.slots.now (g.D.Disk.seen c.args.disk.now) (g.D.Disk.seen c.put_back.new.disk) gives agrees (g.met.D.Disk.reads_left c.args.disk.now known)
    (c.put_back.ensures.time extent batches (λ i l. (agrees i l).there) gives.may) c.in_ok-put_back.ensures.ok (c.in_ok-put_back.ensures.reads known) c.next_generation.ensures.time image left (ok image left).log)

pub returns-clause-zero : goal.returns-clause-zero
returns-clause-zero g c = ok_then c.next_generation.result _ _ c.next_generation.ensures.ok (λ ok image left.
    let known2 = (g.met.D.Disk.image_known c.next_generation.new.disk _ image left).same_observable in
    let known1 : IsTrue (g.D.Disk.observable c.put_back.new.disk) = subst (λ (b : Bool). IsTrue b) c.next_generation.ensures.same_observable known2 in
    let high = c.requires.area.1 in
    let other : 0 ≢ 3 - c.args.area = (λ is. omega (arith, is, high)) in
    let h = traced _ _ _ _ (Others (3 - c.args.area)) (wider _ _ _ _ (StepsTo (3 - c.args.area) (c.args.generation + 1)) (Others (3 - c.args.area)) c.next_generation.ensures.time (λ d i there s. s.others)) (λ d k o. refl) image left in
    h.2 0 other ∙ c.in_ok-put_back.ensures.ok (h.0) (h.1) ∙ sym (c.next_generation.ensures.seen known1 0 other))

pub returns-in_err-put_back-clause-within : goal.returns-in_err-put_back-clause-within
returns-in_err-put_back-clause-within g c = run_others _ _ _ _ 33 c.put_back.ensures.past

pub returns-clause-within : goal.returns-clause-within
returns-clause-within g c = run_twice _ _ _ _ _ _ 33 (run_others _ _ _ _ 33 c.put_back.ensures.past) c.next_generation.ensures.within
