use Rattle.std.proofs.Common.{◌≡◌, ◌≢◌, ⊎_elim, ◌+◌, ◌*◌, ◌<◌, ◌≤◌, ℕ, Bool, IsTrue, length, refl, sym, ◌∙◌, subst, arith}
use Rattle.std.proofs.lemmas.Bool.{cases_lt}
use Rattle.log_meaning.proofs.LogStates.{may_write}
use Rattle.slot_area.specs.Area.{below}
use Rattle.slot_area.proofs.AreaRuns.{more_written, more_past, more_cause, on_err_any, may_before, below_after, whole_after, below_failed}
use Rattle.slot_area.proofs.area_writes.write_within.Goals as goal

pub returns-in_err-extend-clause-time : goal.returns-in_err-extend-clause-time
returns-in_err-extend-clause-time g c = λ extent batches within there has. c.extend.ensures.time extent batches there (λ k from lt. may_before extent c.args.end batches c.args.slot k within has from lt)

pub returns-in_err-extend-clause-err : goal.returns-in_err-extend-clause-err
returns-in_err-extend-clause-err g c =
    let same : IsTrue (g.D.Disk.observable c.args.disk.now) → 256 * c.args.end ≤ length (g.D.Disk.seen c.args.disk.now 0) → (s : ℕ) → s ≢ c.args.slot
    → below c.args.end (g.D.Disk.seen c.extend.new.disk 0) s ≡ below c.args.end (g.D.Disk.seen c.args.disk.now 0) s =
    λ known reach s ne. below_failed c.args.end c.args.slot (g.D.Disk.seen c.args.disk.now 0) (g.D.Disk.seen c.extend.new.disk 0) (λ k lt other. c.extend.ensures.elsewhere known reach k lt) s ne in
    on_err_any _ _ same

pub returns-in_err-write_slot-clause-past : goal.returns-in_err-write_slot-clause-past
returns-in_err-write_slot-clause-past g c = more_past _ _ _ _ _ _ c.extend.ensures.past c.write_slot.ensures.past

pub returns-in_err-write_slot-clause-time : goal.returns-in_err-write_slot-clause-time
returns-in_err-write_slot-clause-time g c = λ extent batches within there has. more_written _ _ _ _ _ _ extent batches there
    (c.extend.ensures.time extent batches there (λ k from lt. may_before extent c.args.end batches c.args.slot k within has from lt))
    (λ still. c.write_slot.ensures.time extent batches still (may_write extent batches c.args.slot has))

pub returns-in_err-write_slot-clause-err : goal.returns-in_err-write_slot-clause-err
returns-in_err-write_slot-clause-err g c =
    let same : IsTrue (g.D.Disk.observable c.args.disk.now) → 256 * c.args.end ≤ length (g.D.Disk.seen c.args.disk.now 0) → (s : ℕ) → s ≢ c.args.slot
    → below c.args.end (g.D.Disk.seen c.write_slot.new.disk 0) s ≡ below c.args.end (g.D.Disk.seen c.args.disk.now 0) s =
    λ known reach s ne.
    let known_at : IsTrue (g.D.Disk.observable c.extend.new.disk) = subst (λ (b : Bool). IsTrue b) (sym c.extend.ensures.same_observable) known in
    let long = c.extend.ensures.no_shorter known in
    let reaches : 256 * c.args.slot ≤ length (g.D.Disk.seen c.extend.new.disk 0) = ⊎_elim
    (λ (lt : c.args.slot < c.args.end). omega (arith, lt, reach, long))
    (λ (le : c.args.end ≤ c.args.slot). c.in_ok-extend.ensures.reaches known reach le)
    (cases_lt c.args.slot c.args.end) in
    below_failed c.args.end c.args.slot (g.D.Disk.seen c.args.disk.now 0) (g.D.Disk.seen c.write_slot.new.disk 0) (λ k lt other. c.write_slot.ensures.elsewhere known_at reaches k other ∙ c.extend.ensures.elsewhere known reach k lt) s ne in
    on_err_any _ _ same

pub returns-in_err-write_slot-clause-no_shorter : goal.returns-in_err-write_slot-clause-no_shorter
returns-in_err-write_slot-clause-no_shorter g c = λ known.
    let known_at : IsTrue (g.D.Disk.observable c.extend.new.disk) = subst (λ (b : Bool). IsTrue b) (sym c.extend.ensures.same_observable) known in
    let a = c.extend.ensures.no_shorter known in
    let b = c.write_slot.ensures.no_shorter known_at in
    omega (arith, a, b)

pub returns-in_err-write_slot-clause-others : goal.returns-in_err-write_slot-clause-others
returns-in_err-write_slot-clause-others g c = λ known k other.
    let known_at : IsTrue (g.D.Disk.observable c.extend.new.disk) = subst (λ (b : Bool). IsTrue b) (sym c.extend.ensures.same_observable) known in
    c.write_slot.ensures.others known_at k other ∙ c.extend.ensures.others known k other

pub returns-clause-past : goal.returns-clause-past
returns-clause-past g c = more_past _ _ _ _ _ _ c.extend.ensures.past c.write_slot.ensures.past

pub returns-clause-time : goal.returns-clause-time
returns-clause-time g c = λ extent batches within there has. more_written _ _ _ _ _ _ extent batches there
    (c.extend.ensures.time extent batches there (λ k from lt. may_before extent c.args.end batches c.args.slot k within has from lt))
    (λ still. c.write_slot.ensures.time extent batches still (may_write extent batches c.args.slot has))

pub returns-clause-ok : goal.returns-clause-ok
returns-clause-ok g c = λ known reach s.
    let known_at : IsTrue (g.D.Disk.observable c.extend.new.disk) = subst (λ (b : Bool). IsTrue b) (sym c.extend.ensures.same_observable) known in
    below_after c.args.end c.end_after.result c.args.slot (g.D.Disk.seen c.args.disk.now 0) (g.D.Disk.seen c.extend.new.disk 0) (g.D.Disk.seen c.write_slot.new.disk 0) c.args.bytes.now c.end_after.ensures
    (c.extend.ensures.elsewhere known reach) (c.in_ok-extend.ensures.zeros known reach) (c.in_ok-write_slot.ensures.reads known_at) s

pub returns-clause-there : goal.returns-clause-there
returns-clause-there g c = λ known reach.
    let known_at : IsTrue (g.D.Disk.observable c.extend.new.disk) = subst (λ (b : Bool). IsTrue b) (sym c.extend.ensures.same_observable) known in
    let a = c.extend.ensures.no_shorter known in
    let b = c.write_slot.ensures.no_shorter known_at in
    let d = c.in_ok-write_slot.ensures.reaches known_at in
    ⊎_elim
    (λ (e : (c.args.slot < c.args.end) × (c.end_after.result ≡ c.args.end)). let is = e.1 in omega (arith, a, b, is, reach))
    (λ (e : (c.args.end ≤ c.args.slot) × (c.end_after.result ≡ c.args.slot + 1)). let is = e.1 in omega (arith, d, is))
    c.end_after.ensures

pub returns-clause-whole : goal.returns-clause-whole
returns-clause-whole g c = λ known reach.
    let known_at : IsTrue (g.D.Disk.observable c.extend.new.disk) = subst (λ (b : Bool). IsTrue b) (sym c.extend.ensures.same_observable) known in
    whole_after c.args.end c.end_after.result c.args.slot (g.D.Disk.seen c.args.disk.now 0) (g.D.Disk.seen c.extend.new.disk 0) (g.D.Disk.seen c.write_slot.new.disk 0) c.args.bytes.now c.end_after.ensures
    (c.extend.ensures.elsewhere known reach) (c.in_ok-extend.ensures.zeros known reach) (c.in_ok-write_slot.ensures.reads known_at) (c.in_ok-extend.ensures.after known reach)

pub returns-clause-end : goal.returns-clause-end
returns-clause-end g c = ⊎_elim
    (λ (e : (c.args.slot < c.args.end) × (c.end_after.result ≡ c.args.end)). let is = e.1 in let low = e.0 in (omega (arith, is), omega (arith, is, low), omega (arith, is)))
    (λ (e : (c.args.end ≤ c.args.slot) × (c.end_after.result ≡ c.args.slot + 1)). let is = e.1 in let up = e.0 in (omega (arith, is, up), omega (arith, is), omega (arith, is)))
    c.end_after.ensures

pub returns-clause-no_shorter : goal.returns-clause-no_shorter
returns-clause-no_shorter g c = λ known.
    let known_at : IsTrue (g.D.Disk.observable c.extend.new.disk) = subst (λ (b : Bool). IsTrue b) (sym c.extend.ensures.same_observable) known in
    let a = c.extend.ensures.no_shorter known in
    let b = c.write_slot.ensures.no_shorter known_at in
    omega (arith, a, b)

pub returns-clause-others : goal.returns-clause-others
returns-clause-others g c = λ known k other.
    let known_at : IsTrue (g.D.Disk.observable c.extend.new.disk) = subst (λ (b : Bool). IsTrue b) (sym c.extend.ensures.same_observable) known in
    c.write_slot.ensures.others known_at k other ∙ c.extend.ensures.others known k other

pub returns-clause-cause : goal.returns-clause-cause
returns-clause-cause g c = more_cause _ _ _ _ (c.in_ok-extend.ensures.cause.stays refl) c.in_ok-write_slot.ensures.cause
