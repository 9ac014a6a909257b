use Rattle.std.proofs.Common.{inl, inr, ⊎_elim, ◌<◌, ◌≤◌, Bool, IsTrue, replicate, refl, sym, ◌∙◌, subst, arith}
use Rattle.std.proofs.lemmas.Bool.{cases_eq, cases_lt, true≢false}
use Rattle.log_meaning.specs.Images.{slot_of}
use Rattle.log_meaning.proofs.Undone.{put-here}
use Rattle.slot_area.proofs.AreaRuns.{more_written, more_past}
use Rattle.slot_area.proofs.area_writes.extend.Goals as goal

pub zeros-preserved : goal.zeros-preserved
zeros-preserved g c =
    let inv = c.zeros.invariant in
    let lt : c.zeros.k < c.args.slot = c.zeros-test.true in
    let from : c.args.end ≤ c.zeros.k = inv.from in
    let known_at : IsTrue (g.D.Disk.observable c.args.disk.now) → IsTrue (g.D.Disk.observable c.zeros.disk) = λ known. subst (λ (b : Bool). IsTrue b) (sym inv.same_observable) known in
    record {
      from = omega (arith, from);
      upto = λ le. omega (arith, lt);
      none = λ le. absurd (let is = inv.none le in omega (arith, is, lt, le));
      same_end = refl;
      same_slot = refl;
      same_observable = c.write_slot.ensures.same_observable ∙ inv.same_observable;
      past = more_past _ _ _ _ _ _ inv.past c.write_slot.ensures.past;
      time = λ extent batches there may. more_written _ _ _ _ _ _ extent batches there (inv.time extent batches there may) (λ still. c.write_slot.ensures.time extent batches still (may c.zeros.k from lt));
      low = λ known reach s below. c.write_slot.ensures.elsewhere (known_at known) (inv.reaches known reach) s (λ e. omega (arith, e, below, from)) ∙ inv.low known reach s below;
      zeroed = λ known reach s start before. elim (cases_eq s c.zeros.k) [
        | inl here ↦ c.in_ok-write_slot.ensures.reads (known_at known) s ∙ put-here (slot_of (g.D.Disk.seen c.zeros.disk 0)) c.zeros.k s (replicate 256 0) here
        | inr other ↦ c.write_slot.ensures.elsewhere (known_at known) (inv.reaches known reach) s other ∙ inv.zeroed known reach s start (⊎_elim (λ (l : s < c.zeros.k). l) (λ (m : c.zeros.k ≤ s). absurd (other (omega (arith, m, before)))) (cases_lt s c.zeros.k))
      ];
      after = λ known reach s past. c.write_slot.ensures.elsewhere (known_at known) (inv.reaches known reach) s (λ e. omega (arith, e, past)) ∙ inv.after known reach s (omega (arith, past));
      no_shorter = λ known. (let a = inv.no_shorter known in let b = c.write_slot.ensures.no_shorter (known_at known) in omega (arith, a, b));
      reaches = λ known reach. (let a = c.in_ok-write_slot.ensures.reaches (known_at known) in omega (arith, a));
      others = λ known k other. c.write_slot.ensures.others (known_at known) k other ∙ inv.others known k other;
      failures = c.in_ok-write_slot.ensures.cause.stays refl ∙ inv.failures;
    }

pub returns-in_err-write_slot-clause-past : goal.returns-in_err-write_slot-clause-past
returns-in_err-write_slot-clause-past g c = more_past _ _ _ _ _ _ c.zeros.invariant.past c.write_slot.ensures.past

pub returns-in_err-write_slot-clause-time : goal.returns-in_err-write_slot-clause-time
returns-in_err-write_slot-clause-time g c = λ extent batches there may. more_written _ _ _ _ _ _ extent batches there (c.zeros.invariant.time extent batches there may) (λ still. c.write_slot.ensures.time extent batches still (may c.zeros.k c.zeros.invariant.from c.zeros-test.true))

pub returns-in_err-write_slot-clause-elsewhere : goal.returns-in_err-write_slot-clause-elsewhere
returns-in_err-write_slot-clause-elsewhere g c = λ known reach s below.
    let from : c.args.end ≤ c.zeros.k = c.zeros.invariant.from in
    let known_at : IsTrue (g.D.Disk.observable c.zeros.disk) = subst (λ (b : Bool). IsTrue b) (sym c.zeros.invariant.same_observable) known in
    c.write_slot.ensures.elsewhere known_at (c.zeros.invariant.reaches known reach) s (λ e. omega (arith, e, below, from)) ∙ c.zeros.invariant.low known reach s below

pub returns-in_err-write_slot-clause-no_shorter : goal.returns-in_err-write_slot-clause-no_shorter
returns-in_err-write_slot-clause-no_shorter g c = λ known.
    let known_at : IsTrue (g.D.Disk.observable c.zeros.disk) = subst (λ (b : Bool). IsTrue b) (sym c.zeros.invariant.same_observable) known in
    let a = c.zeros.invariant.no_shorter known in
    let b = c.write_slot.ensures.no_shorter known_at in
    omega (arith, a, b)

pub returns-in_err-write_slot-clause-others : goal.returns-in_err-write_slot-clause-others
returns-in_err-write_slot-clause-others g c = λ known k other.
    let known_at : IsTrue (g.D.Disk.observable c.zeros.disk) = subst (λ (b : Bool). IsTrue b) (sym c.zeros.invariant.same_observable) known in
    c.write_slot.ensures.others known_at k other ∙ c.zeros.invariant.others known k other

pub returns-clause-after : goal.returns-clause-after
returns-clause-after g c = λ known reach s past. ⊎_elim
    (λ (lt : s < c.args.end). c.zeros.invariant.low known reach s lt)
    (λ (le : c.args.end ≤ s). c.zeros.invariant.after known reach s (⊎_elim
    (λ (up : c.args.end < c.args.slot). let m = c.zeros.invariant.upto (omega (arith, up)) in omega (arith, m, past))
    (λ (down : c.args.slot ≤ c.args.end). let is = c.zeros.invariant.none down in omega (arith, is, le))
    (cases_lt c.args.end c.args.slot)))
    (cases_lt s c.args.end)

pub returns-clause-zeros : goal.returns-clause-zeros
returns-clause-zeros g c = λ known reach s start before. c.zeros.invariant.zeroed known reach s start (let done : c.args.slot ≤ c.zeros.k = c.zeros-test.false in omega (arith, done, before))

pub returns-clause-reaches : goal.returns-clause-reaches
returns-clause-reaches g c = λ known reach up.
    let done : c.args.slot ≤ c.zeros.k = c.zeros-test.false in
    let a = c.zeros.invariant.reaches known reach in
    omega (arith, done, a)

pub returns-clause-cause : goal.returns-clause-cause
returns-clause-cause g c =
    let same = c.zeros.invariant.failures in
    record { later = omega (arith, same); rose = λ no. absurd (true≢false no); stays = λ yes. same }
