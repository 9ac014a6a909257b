use Rattle.std.proofs.Common.{◌≡◌, ℕ, List, sym, ap, ◌∙◌}
use Rattle.storage.specs.Slots.{IsReadable}
use Rattle.row_fragments.specs.Fragments.{kind_in}
use Rattle.row_fragments.proofs.Composes.{readable_on}
use Rattle.byte_rows.specs.Places.{row_in}
use Rattle.byte_rows.specs.Still.{Still}
use Rattle.byte_rows.proofs.Reading.{still_both}
use Rattle.byte_rows.proofs.Scanning.{one_more}
use Rattle.byte_rows.proofs.scan.all_noted.Goals as goal

pub loop-at-preserved : goal.loop-at-preserved
loop-at-preserved g c =
    let first = g.S.Slots.state c.args.slots.now in
    let s = g.S.Slots.state c.loop-at.slots in
    let t = g.S.Slots.state c.read.new.slots in
    let i = c.loop-at.invariant in
    let l = c.in_ok-read.ensures.looked in
    let step : Still s t (g.S.Slots.stop c.loop-at.slots) (g.S.Slots.stop c.read.new.slots) = record { rests = l.rests; time = l.time; later = l.cause.later; failed = l.cause.stays (λ e. cc e) } in
    let bytes : IsReadable first → c.read.new.into ≡ first.reads c.loop-at.at = λ readable.
    c.in_ok-read.ensures.bytes (readable_on first s i.still.rests.keeps.observable i.still.failed readable) ∙ ap (λ (f : ℕ → List ℕ). f c.loop-at.at) (i.still.rests.reads readable) in
    record {
      still = still_both first s t (g.S.Slots.stop c.args.slots.now) (g.S.Slots.stop c.loop-at.slots) (g.S.Slots.stop c.read.new.slots) (g.met.S.Slots.stop_known c.read.new.slots) i.still step;
      noted = λ readable. one_more (λ k. row_in c.args.places.now k ≡ 0 → kind_in (first.reads k) ≡ 0) c.loop-at.at (i.noted readable)
          (λ none. ap kind_in (sym (bytes readable)) ∙ c.is_stray.ensures.no c.if-is_stray.false none);
    }
