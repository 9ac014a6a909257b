use Rattle.std.proofs.Common.{◌≡◌, ℕ, ◌≤◌, true, List, Option, Some, MatchOption, ap, subst, arith}
use Rattle.std.specs.Prelude.{⊤}
use Rattle.storage.specs.Slots.{IsReadable}
use Rattle.database_meaning.specs.Setting.{fragments}
use Rattle.row_fragments.specs.Fragments.{row_at}
use Rattle.row_fragments.proofs.Composes.{readable_on}
use Rattle.byte_rows.proofs.Reading.{looked_still, still_both}
use Rattle.slot_rows.specs.Counted.{IsWeight}
use Rattle.slot_rows.specs.Decoded.{decoded, is_read, row_of}
use Rattle.slot_rows.proofs.Counting.{blank_none, counted_all, one_more, weight_some}
use Rattle.slot_rows.proofs.Weights.{below_more}
use Rattle.slot_rows.proofs.opened.count_rows.Goals as goal

few_of : (found : Option ℕ) (many : ℕ) → found ≡ Some many → MatchOption found ⊤ (λ n. n ≤ 125) → many ≤ 125
few_of found many is h = subst (λ x. MatchOption x ⊤ (λ n. n ≤ 125)) is h

pub loop-at-preserved : goal.loop-at-preserved
loop-at-preserved g c =
    let schema = c.args.schema.now in
    let first = g.S.Slots.state c.args.slots.now in
    let s = g.S.Slots.state c.loop-at.slots in
    let t = g.S.Slots.state c.weigh_row.new.slots in
    let at_first = g.S.Slots.stop c.args.slots.now in
    let at_s = g.S.Slots.stop c.loop-at.slots in
    let at_t = g.S.Slots.stop c.weigh_row.new.slots in
    let at = c.loop-at.at in
    let i = c.loop-at.invariant in
    let w = c.in_ok-found.ensures in
    let there : IsReadable first → IsReadable s = λ r. readable_on first s i.still.rests.keeps.observable i.still.failed r in
    let weight : IsReadable first → IsWeight schema (row_at first.reads at) (Some c.in-Some.many) = λ r.
    subst (λ (f : ℕ → List ℕ). IsWeight schema (row_at f at) (Some c.in-Some.many)) (i.still.rests.reads r) (weight_some schema (row_at s.reads at) c.in_ok-found.found c.in-Some.many (cc c.in-Some.is) (w.found (there r))) in
    let few : c.in-Some.many ≤ 125 = few_of c.in_ok-found.found c.in-Some.many (cc c.in-Some.is) w.few in
    record {
      still = still_both first s t at_first at_s at_t (g.met.S.Slots.stop_known c.weigh_row.new.slots) i.still (looked_still s t at_s at_t _ (λ q. cc q) w.looked);
      read = λ r. one_more (λ (k : ℕ). is_read schema (row_at first.reads k) ≡ true) at (i.read r) (weight r).0;
      sum = λ r.
          let sum = i.sum r in
          let here = (weight r).1 in
          let more = below_more at (decoded schema first.reads) in
          omega (arith, sum, here, more);
      weighs = λ r. one_more (λ (k : ℕ). fragments (decoded schema first.reads k) ≤ 125) at (i.weighs r) (let here = (weight r).1 in omega (arith, here, few));
      few = let before = i.few in omega (arith, before, few);
    }

pub returns-clause-counted : goal.returns-clause-counted
returns-clause-counted g c = λ readable.
    let i = c.loop-at.invariant in
    let schema = c.args.schema.now in
    let reads = (g.S.Slots.state c.args.slots.now).reads in
    counted_all schema reads c.loop-at.used c.rows_end-end.result c.loop-at.at (omega arith) c.rows_end-end.ensures.high (λ k le. ap (row_of schema) (blank_none reads c.rows_end-end.result (c.rows_end-end.ensures.blank readable) k le)) (i.sum readable) (i.weighs readable)
