use Rattle.std.specs.Prelude.{IfOk, IfSome, Option}
use Rattle.std.proofs.Common.{◌≡◌, ◌+◌, ◌-◌, ◌<◌, ◌≤◌, ℕ, Result, Ok, Err, true, subst, arith}
use Rattle.storage.specs.Disk.{Others}
use Rattle.storage.specs.Slots.{undone, wrote}
use Rattle.log_meaning.specs.steps.Steps.{Any}
use Rattle.log_meaning.proofs.StepsLemmas.Runs.{started, wider}
use Rattle.log_meaning.specs.Images.{slot_of}
use Rattle.bi_log.proofs.Lengths.{run_none}
use Rattle.bi_recovery.specs.Carried.{stills, CarriesTo}
use Rattle.bi_recovery.specs.Reopening.{SameRecovery}
use Rattle.bi_recovery.proofs.CarriedOver.{carried_same, carried_log}
use Rattle.bi_recovery.proofs.carried_recovery.reopen_carrying.Goals as goal

pub carried_generation-requires : goal.carried_generation-requires
carried_generation-requires g c =
    let low = c.requires.area.0 in
    let high = c.requires.area.1 in
    let few : c.in-Some.count ≤ 300000 = subst (λ (r : Option ℕ). IfSome r (λ n. n ≤ 300000)) c.in-Some.is c.carried_count.ensures.few in
    record { area = omega (arith, low); other = (omega (arith, high), omega (arith, few)); ascending = c.requires.ascending; fits = c.requires.fits; synced = λ image left. c.requires.synced image left (3 - c.args.area) (omega (arith, low)) }

pub returns-in-Some-clause-past : goal.returns-in-Some-clause-past
returns-in-Some-clause-past g c = wider _ _ _ _ (Others (3 - c.args.area)) Any c.carried_generation.ensures.past (λ d image there s. tt)

pub returns-in-Some-clause-time : goal.returns-in-Some-clause-time
returns-in-Some-clause-time g c = λ extent batches base known agrees are.
    let above : (s : ℕ) → wrote c.args.slots.now s ≡ true → s < c.in-Some.count = subst (λ (r : Option ℕ). IfSome r (λ n. (s : ℕ) → wrote c.args.slots.now s ≡ true → s < n)) c.in-Some.is c.carried_count.ensures.above in
    wider _ _ _ _ (CarriesTo (3 - c.args.area) (c.args.generation + 1) (stills (undone c.args.slots.now (slot_of (g.D.Disk.seen c.args.disk.now 0))) c.in-Some.count)) SameRecovery (c.carried_generation.ensures.time known)
    (λ d image there s. carried_same c.args.area c.args.generation extent batches base c.args.slots.now c.in-Some.count (g.D.Disk.seen c.args.disk.now) are above d image (c.requires.synced d there 0 (omega arith)) (agrees d there) s)

ok_map : {T E : Type 0} (r : Result T E) (P Q : T → Type 0) → IfOk r P → ((x : T) → P x → Q x) → IfOk r Q
ok_map (Ok x) P Q p f = f x p
ok_map (Err e) P Q p f = tt

pub returns-in-Some-clause-ok : goal.returns-in-Some-clause-ok
returns-in-Some-clause-ok g c =
    let above : (s : ℕ) → wrote c.args.slots.now s ≡ true → s < c.in-Some.count = subst (λ (r : Option ℕ). IfSome r (λ n. (s : ℕ) → wrote c.args.slots.now s ≡ true → s < n)) c.in-Some.is c.carried_count.ensures.above in
    ok_map c.carried_generation.result _ _ c.carried_generation.ensures.ok (λ gate open_log extent batches base known agrees are.
    carried_log c.args.area c.args.generation extent batches base c.args.slots.now c.in-Some.count (g.D.Disk.seen c.args.disk.now) are above _ _ _ _ gate c.carried_generation.ensures.past c.requires.synced agrees (open_log known))

pub returns-in-Some-clause-within : goal.returns-in-Some-clause-within
returns-in-Some-clause-within g c = c.carried_generation.ensures.within (subst (λ (r : Option ℕ). IfSome r (λ n. n ≤ 300000)) c.in-Some.is c.carried_count.ensures.few)

pub returns-in-None-clause-past : goal.returns-in-None-clause-past
returns-in-None-clause-past g c = started _ _ Any (λ m image left. (g.met.D.Disk.image_known c.args.disk.now m image left).past)

pub returns-in-None-clause-time : goal.returns-in-None-clause-time
returns-in-None-clause-time g c = λ extent batches base known agrees are. started _ _ SameRecovery (λ m image left. (g.met.D.Disk.image_known c.args.disk.now m image left).past)

pub returns-in-None-clause-within : goal.returns-in-None-clause-within
returns-in-None-clause-within g c = run_none _ _ 167772160 (λ m image left. (g.met.D.Disk.image_known c.args.disk.now m image left).past)
