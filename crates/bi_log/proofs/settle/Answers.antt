use Rattle.std.proofs.Common.{inl, ℕ, ◌+◌, List, length, Bool, IsTrue, Result, Ok, Err, OnOk, sym, ◌∙◌, ap, subst, arith}
use Rattle.storage.specs.Disk.{TornIn}
use Rattle.log_meaning.specs.steps.Steps.{Image, Has, Any}
use Rattle.log_meaning.proofs.StepsLemmas.Runs.{joined, wider, holds}
use Rattle.bi_log.specs.Appending.{with_batch, RestsAt, Appends}
use Rattle.bi_log.proofs.Batches.{Laid, rests_torn, laid_from, laid_torn, laid_either, laid_open}
use Rattle.bi_log.proofs.Lengths.{run_torn, run_twice}
use Rattle.bi_log.proofs.settle.Goals as goal

pub returns-in_err-write_through-clause-time : goal.returns-in_err-write_through-clause-time
returns-in_err-write_through-clause-time g c = λ held batch to_be. wider _ _ _ _ _ _ c.write_through.ensures.time (λ d image was step. record {
  others = step.others;
  log = inl (rests_torn (d c.args.area) (image c.args.area) held c.args.gate (length c.args.bytes.now) (to_be.rests d was) step.torn).log;
})

pub returns-clause-time : goal.returns-clause-time
returns-clause-time g c = λ held batch to_be.
    let n = length c.args.bytes.now in
    let a = c.args.area in
    joined _ _ _ _ _ _ (TornIn a (c.args.gate + 1) n) (TornIn a c.args.gate 1) (Appends a held batch) c.write_through.ensures.time c.write_through-2.ensures.time
    (λ d image was step. record {
      others = step.others;
      log = inl (rests_torn (d a) (image a) held c.args.gate n (to_be.rests d was) step.torn).log;
    })
    (λ d image was mid step. record {
      others = step.others;
      log = laid_either (image a) held batch c.args.gate to_be.sound (laid_torn (d a) (image a) held batch c.args.gate
          (laid_from (d a) held batch c.args.gate (to_be.rests d was) (subst (λ (l : List ℕ). Has (d a) (c.args.gate + 1) l) to_be.bytes_are (c.in_ok-write_through.ensures.ok d mid))) step.torn);
    })
    (λ d e image was one mid two. record {
      others = λ k other. two.others k other ∙ one.others k other;
      log = laid_either (image a) held batch c.args.gate to_be.sound (laid_torn (e a) (image a) held batch c.args.gate
          (laid_from (e a) held batch c.args.gate (rests_torn (d a) (e a) held c.args.gate n (to_be.rests d was) one.torn) (subst (λ (l : List ℕ). Has (e a) (c.args.gate + 1) l) to_be.bytes_are (c.in_ok-write_through.ensures.ok e mid))) two.torn);
    })

ok_then : {T E : Type 0} (r : Result T E) (P Q : Type 0) → OnOk r P → (P → Q) → OnOk r Q
ok_then (Ok x) P Q p f = f p
ok_then (Err e) P Q p f = tt

pub returns-clause-ok : goal.returns-clause-ok
returns-clause-ok g c = ok_then c.write_through-2.result _ _ c.write_through-2.ensures.ok (λ ok held batch to_be image left.
    let n = length c.args.bytes.now in
    let a = c.args.area in
    let at_mid : (x : Image) → g.D.Disk.left c.write_through.new.disk (g.D.Disk.time c.write_through.new.disk) x → Laid (x a) held batch c.args.gate = λ x mid.
    laid_from (x a) held batch c.args.gate
    (holds _ _ _ _ (TornIn a (c.args.gate + 1) n) (λ y. RestsAt (y a) held c.args.gate) c.write_through.ensures.time to_be.rests
    (λ d y was step. rests_torn (d a) (y a) held c.args.gate n (to_be.rests d was) step.torn) _ x c.write_through.ensures.time.later mid)
    (subst (λ (l : List ℕ). Has (x a) (c.args.gate + 1) l) to_be.bytes_are (c.in_ok-write_through.ensures.ok x mid)) in
    let laid : Laid (image a) held batch c.args.gate =
    holds _ _ _ _ (TornIn a c.args.gate 1) (λ x. Laid (x a) held batch c.args.gate) c.write_through-2.ensures.time at_mid
    (λ d x mid step. laid_torn (d a) (x a) held batch c.args.gate (at_mid d mid) step.torn)
    _ image c.write_through-2.ensures.time.later left in
    subst (λ (k : ℕ). RestsAt (image a) (with_batch held batch) (c.args.gate + k)) (sym (ap (length {A = ℕ}) to_be.bytes_are)) (laid_open (image a) held batch c.args.gate to_be.sound laid (ok image left)))

pub returns-in_err-write_through-clause-seen : goal.returns-in_err-write_through-clause-seen
returns-in_err-write_through-clause-seen g c = λ known. (c.write_through.ensures.seen known).others

pub returns-clause-seen : goal.returns-clause-seen
returns-clause-seen g c = λ known k other. (c.write_through-2.ensures.seen (subst (λ (b : Bool). IsTrue b) (sym c.write_through.ensures.same_observable) known)).others k other ∙ (c.write_through.ensures.seen known).others k other

pub returns-in_err-write_through-clause-past : goal.returns-in_err-write_through-clause-past
returns-in_err-write_through-clause-past g c = wider _ _ _ _ _ _ c.write_through.ensures.time (λ d image was step. tt)

pub returns-clause-past : goal.returns-clause-past
returns-clause-past g c = joined _ _ _ _ _ _ (TornIn c.args.area (c.args.gate + 1) (length c.args.bytes.now)) (TornIn c.args.area c.args.gate 1) Any c.write_through.ensures.time c.write_through-2.ensures.time (λ d image was step. tt) (λ d image was mid step. tt) (λ d e image was one mid two. tt)

pub returns-in_err-write_through-clause-within : goal.returns-in_err-write_through-clause-within
returns-in_err-write_through-clause-within g c = run_torn _ _ _ _ (c.args.gate + 1 + length c.args.bytes.now) c.args.area (c.args.gate + 1) (length c.args.bytes.now) (omega arith) c.write_through.ensures.time

pub returns-clause-within : goal.returns-clause-within
returns-clause-within g c = run_twice _ _ _ _ _ _ (c.args.gate + 1 + length c.args.bytes.now)
    (run_torn _ _ _ _ (c.args.gate + 1 + length c.args.bytes.now) c.args.area (c.args.gate + 1) (length c.args.bytes.now) (omega arith) c.write_through.ensures.time)
    (run_torn _ _ _ _ (c.args.gate + 1 + length c.args.bytes.now) c.args.area c.args.gate 1 (omega arith) c.write_through-2.ensures.time)
