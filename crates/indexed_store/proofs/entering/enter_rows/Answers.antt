use Rattle.std.proofs.Common.{◌≡◌, ◌+◌, [], refl, sym, ap, ◌∙◌, subst, arith}
use Rattle.row_store.specs.Changes.{RowsById}
use Rattle.byte_rows.specs.Still.{Still}
use Rattle.byte_rows.proofs.Reading.{still_both}
use Rattle.row_fragments.proofs.Composes.{readable_on}
use Rattle.row_keys.specs.Numbers.{index_count}
use Rattle.slot_rows.specs.Decoded.{decoded}
use Rattle.slot_rows.specs.State.{state_of}
use Rattle.indexed_store.specs.Opened.{AreEntered}
use Rattle.indexed_store.specs.State.{no_reserved}
use Rattle.indexed_store.proofs.Entered.{entered_as}
use Rattle.indexed_store.proofs.Refused.{still_read, still_same}
use Rattle.indexed_store.proofs.Sound.{before_all, before_none, decoded_low}
use Rattle.indexed_store.proofs.entering.enter_rows.Goals as goal

pub enter_at-requires : goal.enter_at-requires
enter_at-requires g c = record { count = c.loop-at.invariant.count ∙ (c.requires.count ∙ ap index_count (sym c.loop-at.invariant.schema)) }

pub loop-at-init : goal.loop-at-init
loop-at-init g c =
    let rows = c.args.rows.now in
    let all : RowsById = decoded rows.schema (g.S.Slots.state rows.chains.slots).reads in
    record {
      still = still_same (g.S.Slots.state rows.chains.slots) (g.S.Slots.stop rows.chains.slots) (g.met.S.Slots.stop_known rows.chains.slots);
      same = refl;
      schema = refl;
      entered = λ readable none. subst (λ (r : RowsById). AreEntered rows.schema r c.args.indexes.now.items) (sym (before_none 8192 all (λ k lt. decoded_low rows.schema (g.S.Slots.state rows.chains.slots).reads k lt))) none;
      keepers = λ j key d ne is. is;
      count = refl;
    }

pub loop-at-preserved : goal.loop-at-preserved
loop-at-preserved g c =
    let rows = c.args.rows.now in
    let mid = c.loop-at.rows in
    let now = c.enter_at.new.rows in
    let a = g.S.Slots.state rows.chains.slots in
    let s = g.S.Slots.state mid.chains.slots in
    let t = g.S.Slots.state now.chains.slots in
    let at_a = g.S.Slots.stop rows.chains.slots in
    let at_s = g.S.Slots.stop mid.chains.slots in
    let at_t = g.S.Slots.stop now.chains.slots in
    let i = c.loop-at.invariant in
    let e = c.in_ok-enter_at.ensures in
    let step : Still s t at_s at_t = still_read s t at_s at_t (state_of mid.schema no_reserved [] s mid.opens.items) (state_of now.schema no_reserved [] t now.opens.items) _ refl refl e.read in
    record {
      still = still_both a s t at_a at_s at_t (g.met.S.Slots.stop_known now.chains.slots) i.still step;
      same = e.read.same (λ q. cc q) ∙ i.same;
      schema = e.schema ∙ i.schema;
      entered = λ readable none.
          entered_as mid.schema rows.schema s.reads a.reads (c.loop-at.at + 1) c.enter_at.new.indexes.items (sym i.schema) (sym (i.still.rests.reads readable))
          (e.entered (readable_on a s i.still.rests.keeps.observable i.still.failed readable)
          (entered_as rows.schema mid.schema a.reads s.reads c.loop-at.at c.loop-at.indexes.items i.schema (i.still.rests.reads readable) (i.entered readable none)));
      keepers = λ j key d ne is. i.keepers j key d ne (e.keepers j key d ne is);
      count = e.count ∙ i.count;
    }

pub returns-clause-entered : goal.returns-clause-entered
returns-clause-entered g c = λ readable none.
    let rows = c.args.rows.now in
    let reads = (g.S.Slots.state rows.chains.slots).reads in
    let all : c.loop-at.at ≡ c.end-end.result = omega arith in
    subst (λ (r : RowsById). AreEntered rows.schema r c.loop-at.indexes.items) (before_all c.loop-at.at (decoded rows.schema reads) (λ k le. c.end-end.ensures.none readable k (omega (arith, le, all)))) (c.loop-at.invariant.entered readable none)
