use Rattle.byte_rows.specs.Still.{Still}
use Rattle.byte_rows.proofs.Reading.{still_both}
use Rattle.byte_rows.proofs.Scanning.{scanned_on, scanned_was}
use Rattle.byte_rows.proofs.scan.note_rows.Goals as goal

pub loop-at-preserved : goal.loop-at-preserved
loop-at-preserved g c =
    let first = g.S.Slots.state c.args.slots.now in
    let s = g.S.Slots.state c.loop-at.slots in
    let t = g.S.Slots.state c.note_row.new.slots in
    let i = c.loop-at.invariant in
    let l = c.in_ok-whole.ensures.looked in
    let step : Still s t (g.S.Slots.stop c.loop-at.slots) (g.S.Slots.stop c.note_row.new.slots) = record { rests = l.rests; time = l.time; later = l.cause.later; failed = l.cause.stays (λ e. cc e) } in
    record {
      still = still_both first s t (g.S.Slots.stop c.args.slots.now) (g.S.Slots.stop c.loop-at.slots) (g.S.Slots.stop c.note_row.new.slots) (g.met.S.Slots.stop_known c.note_row.new.slots) i.still step;
      scanned = scanned_was first s i.still.rests i.still.failed c.note_row.new.places.items _ (c.in_ok-whole.ensures.scanned c.if-not-whole.false);
      unowned = c.note_row.ensures.unowned;
    }

pub note_row-requires-clause-scanned : goal.note_row-requires-clause-scanned
note_row-requires-clause-scanned g c = let i = c.loop-at.invariant in scanned_on (g.S.Slots.state c.args.slots.now) (g.S.Slots.state c.loop-at.slots) i.still.rests i.still.failed c.loop-at.places.items c.loop-at.at i.scanned
