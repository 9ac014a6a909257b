use Rattle.std.proofs.Common.{◌≡◌, inl, inr, ℕ, ◌+◌, ◌<◌, true, Ok, cond, Bool, sym, ap, ◌∙◌, subst, arith}
use Rattle.std.proofs.lemmas.Bool.{cases_eq}
use Rattle.std.proofs.lemmas.Bool.Decides.{nat_tests}
use Rattle.storage.specs.Slots.{IsReadable}
use Rattle.row_fragments.specs.Fragments.{ends}
use Rattle.row_fragments.proofs.Composes.{readable_on, touched_both}
use Rattle.sequence_slots.specs.Values.{part, slot_bytes}
use Rattle.sequence_slots.specs.writes.Wrote.{committed_by}
use Rattle.sequence_slots.proofs.WritesLemmas.Low.{alone_after, low_both}
use Rattle.sequence_slots.proofs.writes.write.store_values.Goals as goal

outside : (k : ℕ) → k < 9 → ends (5000 + k) ≡ true
outside k lt = grind (arith, nat_tests, lt)

pub write_part-requires-clause-begun : goal.write_part-requires-clause-begun
write_part-requires-clause-begun g c = c.loop-number.invariant.touched.begun ∙ c.requires.begun

pub write_part-requires-clause-alone : goal.write_part-requires-clause-alone
write_part-requires-clause-alone g c =
    alone_after (g.S.Slots.state c.args.chains.now.slots) (g.S.Slots.state c.loop-number.chains.slots) c.args.client (5000 + c.loop-number.number) c.loop-number.invariant.touched.others (c.requires.alone (5000 + c.loop-number.number) (outside c.loop-number.number (omega arith)))

pub loop-number-preserved : goal.loop-number-preserved
loop-number-preserved g c =
    let first = g.S.Slots.state c.args.chains.now.slots in
    let s = g.S.Slots.state c.loop-number.chains.slots in
    let t = g.S.Slots.state c.write_part.new.chains.slots in
    let client = c.args.client in
    let n = c.loop-number.number in
    let i = c.loop-number.invariant in
    let e = c.in_ok-write_part.ensures in
    let then : IsReadable first → IsReadable s = λ r. readable_on first s i.touched.keeps.observable i.wrote.failed r in
    let low = e.low in
    let before = i.low in
    record {
      touched = touched_both first s t (g.S.Slots.stop c.args.chains.now.slots) (g.S.Slots.stop c.loop-number.chains.slots) (g.S.Slots.stop c.write_part.new.chains.slots) client (Ok (tt {0})) (Ok (tt {0})) (λ q. cc q) (g.met.S.Slots.stop_known c.write_part.new.chains.slots) i.touched e.touched;
      wrote = low_both first s t client i.touched.keeps.observable i.wrote e.ok;
      low = omega (arith, low, before);
      done = λ r k lt was. elim (cases_eq k n) [
        | inl is ↦
            subst (λ (m : ℕ). committed_by t client (5000 + m) ≡ slot_bytes (part m c.args.values.now)) (sym is)
            (e.here (then r) (i.rest r n (omega arith) ∙ (subst (λ (m : ℕ). committed_by first client (5000 + m) ≡ slot_bytes (part m c.args.stored.now)) is was ∙ ap slot_bytes (sym c.part-before.ensures.is))) ∙ ap slot_bytes c.part-after.ensures.is)
        | inr ne ↦ e.others (then r) (5000 + k) (omega (arith, ne)) ∙ i.done r k (omega (arith, lt, ne)) was
      ];
      rest = λ r k le. e.others (then r) (5000 + k) (omega (arith, le)) ∙ i.rest r k (omega (arith, le));
    }

pub returns-clause-held : goal.returns-clause-held
returns-clause-held g c = λ readable none held.
    let first = g.S.Slots.state c.args.chains.now.slots in
    let client = c.args.client in
    record {
      few = c.requires.few;
      whole = c.have_64_bits.ensures;
      each = λ k lt.
          c.loop-number.invariant.done readable k (omega (arith, lt))
          (ap (λ (b : Bool). cond b (first.reads (5000 + k)) (first.committed (5000 + k))) (none (5000 + k) (outside k lt)) ∙ held.each k lt);
    }
