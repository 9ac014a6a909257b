use Rattle.std.proofs.Common.{inr, ◌≤◌, ℕ, ◌+◌, length, Bool, IsTrue, refl, sym, ◌∙◌, ap, subst, arith}
use Rattle.log_meaning.specs.steps.Steps.{Image, Run}
use Rattle.log_meaning.proofs.StepsLemmas.Runs.{joined, wider, traced}
use Rattle.log_meaning.proofs.StepsLemmas.Writes.{has_torn, torn_none, torn_keeps_below}
use Rattle.bi_log.specs.Appending.{with_batch}
use Rattle.bi_log.specs.Generations.{AfterGate, IsPrepared}
use Rattle.bi_log.proofs.Preparing.{ok_then, after_none, after_twice, prepared_more, torn_both, batch_there, length-batch_after}
use Rattle.bi_log.proofs.Lengths.{run_torn, run_twice}
use Rattle.bi_log.proofs.generation.carry.Goals as goal

pub returns-in_err-write_through-clause-time : goal.returns-in_err-write_through-clause-time
returns-in_err-write_through-clause-time g c = wider _ _ _ _ _ _ c.write_through.ensures.time (λ d image was step.
    record { others = step.others; gate = torn_keeps_below 1 (c.args.gate + 1) (length c.args.bytes.now) (d c.args.area) (image c.args.area) (omega arith) (c.requires.closed d was).there step.torn })

pub returns-clause-time : goal.returns-clause-time
returns-clause-time g c =
    let a = c.args.area in
    let one : Run _ _ _ _ (AfterGate a) = wider _ _ _ _ _ _ c.write_through.ensures.time (λ d image was step.
    record { others = step.others; gate = torn_keeps_below 1 (c.args.gate + 1) (length c.args.bytes.now) (d a) (image a) (omega arith) (c.requires.closed d was).there step.torn }) in
    let there : (e : Image) → g.D.Disk.left c.write_through.new.disk (g.D.Disk.time c.write_through.new.disk) e → 1 ≤ length (e a) = (λ e mid.
    let h = traced _ _ _ _ (AfterGate a) one (λ d. after_none a d) e mid in
    let had = (c.requires.closed (h.0) (h.1)).there in
    let longer = (h.2).gate.no_shorter in
    omega (arith, had, longer)) in
    joined _ _ _ _ _ _ (AfterGate a) (AfterGate a) (AfterGate a) one
    (wider _ _ _ _ _ _ c.write_through-2.ensures.time (λ e image mid step. record { others = step.others; gate = torn_keeps_below 1 c.args.gate 1 (e a) (image a) c.requires.gate (there e mid) step.torn }))
    (λ d image was step. step) (λ d image was mid step. step) (λ d e image was x mid y. after_twice a d e image x y)

pub returns-clause-ok : goal.returns-clause-ok
returns-clause-ok g c = ok_then c.write_through-2.result _ _ c.write_through-2.ensures.ok (λ ok log batch is sound prepared image left.
    let a = c.args.area in
    let n = length c.args.bytes.now in
    let h = traced _ _ _ _ _ c.write_through-2.ensures.time (λ d. torn_none a c.args.gate 1 d d refl) image left in
    let k = traced _ _ _ _ _ c.write_through.ensures.time (λ d. torn_none a (c.args.gate + 1) n d d refl) (h.0) (h.1) in
    let bytes = has_torn c.args.gate 1 (c.args.gate + 1) c.args.bytes.now (h.0 a) (image a) (h.2).torn (inr (omega arith)) (c.in_ok-write_through.ensures.ok (h.0) (h.1)) in
    subst (λ (x : ℕ). IsPrepared (image a) (with_batch log batch) x) (ap (λ (x : ℕ). c.args.gate + x) (length-batch_after batch) ∙ ap (λ (x : ℕ). c.args.gate + x) (sym (ap (length {A = ℕ}) is)))
    (prepared_more (k.0 a) (image a) log batch c.args.gate (1 + n) sound (prepared (k.0) (k.1)) (torn_both (k.0 a) (h.0 a) (image a) c.args.gate n (k.2).torn (h.2).torn)
    (batch_there (image a) c.args.gate c.args.bytes.now batch is (ok image left) bytes)))

pub returns-in_err-write_through-clause-seen : goal.returns-in_err-write_through-clause-seen
returns-in_err-write_through-clause-seen g c = λ known. (c.write_through.ensures.seen known).others

pub returns-clause-seen : goal.returns-clause-seen
returns-clause-seen g c = λ known k other. (c.write_through-2.ensures.seen (subst (λ (b : Bool). IsTrue b) (sym c.write_through.ensures.same_observable) known)).others k other ∙ (c.write_through.ensures.seen known).others k other

pub returns-in_err-write_through-clause-within : goal.returns-in_err-write_through-clause-within
returns-in_err-write_through-clause-within g c = run_torn _ _ _ _ (c.args.gate + 1 + length c.args.bytes.now) c.args.area (c.args.gate + 1) (length c.args.bytes.now) (omega arith) c.write_through.ensures.time

pub returns-clause-within : goal.returns-clause-within
returns-clause-within g c = run_twice _ _ _ _ _ _ (c.args.gate + 1 + length c.args.bytes.now)
    (run_torn _ _ _ _ (c.args.gate + 1 + length c.args.bytes.now) c.args.area (c.args.gate + 1) (length c.args.bytes.now) (omega arith) c.write_through.ensures.time)
    (run_torn _ _ _ _ (c.args.gate + 1 + length c.args.bytes.now) c.args.area c.args.gate 1 (omega arith) c.write_through-2.ensures.time)
