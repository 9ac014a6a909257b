use Rattle.std.proofs.Common.{◌≡◌, ◌<◌, ◌≤◌, ℕ, List, subst}
use Rattle.storage.specs.Slots.{IsReadable}
use Rattle.row_fragments.specs.Fragments.{kind_in}
use Rattle.byte_rows.specs.declared.places.Place.{Place}
use Rattle.byte_rows.specs.Places.{row_in}
use Rattle.byte_rows.specs.Scanned.{IsStray}
use Rattle.byte_rows.proofs.Scanning.{scan_chains, scan_free, scan_known, scan_stray}
use Rattle.byte_rows.proofs.scan.scan.Goals as goal

pub returns-then-not-noted-clause-broken : goal.returns-then-not-noted-clause-broken
returns-then-not-noted-clause-broken g c =
    let s = g.S.Slots.state c.args.slots.now in
    let t = g.S.Slots.state c.note_rows.new.slots in
    let l = c.in_ok-whole.ensures.looked in
    scan_stray s t c.note_rows.new.places.items c.used_end-end.result l.rests (l.cause.stays (λ e. cc e)) c.used_end-end.ensures.blank (c.in_ok-whole.ensures.scanned c.if-not-whole.false)
    (subst (λ (ps : List Place). IsReadable t → IsStray t.reads ps) c.deref.ensures.value (c.in_ok-noted.ensures.no c.if-not-noted.true))

pub returns-clause-known : goal.returns-clause-known
returns-clause-known g c =
    let s = g.S.Slots.state c.args.slots.now in
    let t = g.S.Slots.state c.note_rows.new.slots in
    let l = c.in_ok-whole.ensures.looked in
    let m = c.in_ok-noted.ensures.looked in
    scan_known s t (g.S.Slots.state c.all_noted.new.slots) c.note_rows.new.places.items c.used_end-end.result l.rests (l.cause.stays (λ e. cc e)) m.rests (m.cause.stays (λ e. cc e)) c.used_end-end.ensures.blank
    (c.in_ok-whole.ensures.scanned c.if-not-whole.false)
    (subst (λ (ps : List Place). IsReadable t → (k : ℕ) → 8192 ≤ k → k < 1048576 → row_in ps k ≡ 0 → kind_in (t.reads k) ≡ 0) c.deref.ensures.value (c.in_ok-noted.ensures.yes c.if-not-noted.false))
    c.requires.idle c.requires.clean

pub returns-clause-free : goal.returns-clause-free
returns-clause-free g c =
    let s = g.S.Slots.state c.args.slots.now in
    let t = g.S.Slots.state c.note_rows.new.slots in
    let l = c.in_ok-whole.ensures.looked in
    let m = c.in_ok-noted.ensures.looked in
    scan_free s t (g.S.Slots.state c.all_noted.new.slots) c.note_rows.new.places.items c.used_end-end.result l.rests (l.cause.stays (λ e. cc e)) m.rests (m.cause.stays (λ e. cc e)) c.used_end-end.ensures.blank
    (c.in_ok-whole.ensures.scanned c.if-not-whole.false)
    (subst (λ (ps : List Place). IsReadable t → (k : ℕ) → 8192 ≤ k → k < 1048576 → row_in ps k ≡ 0 → kind_in (t.reads k) ≡ 0) c.deref.ensures.value (c.in_ok-noted.ensures.yes c.if-not-noted.false))

pub returns-clause-chains : goal.returns-clause-chains
returns-clause-chains g c =
    let s = g.S.Slots.state c.args.slots.now in
    let t = g.S.Slots.state c.note_rows.new.slots in
    let l = c.in_ok-whole.ensures.looked in
    let m = c.in_ok-noted.ensures.looked in
    scan_chains s t (g.S.Slots.state c.all_noted.new.slots) c.note_rows.new.places.items c.used_end-end.result l.rests (l.cause.stays (λ e. cc e)) m.rests (m.cause.stays (λ e. cc e)) c.used_end-end.ensures.blank
    (c.in_ok-whole.ensures.scanned c.if-not-whole.false)
    (subst (λ (ps : List Place). IsReadable t → (k : ℕ) → 8192 ≤ k → k < 1048576 → row_in ps k ≡ 0 → kind_in (t.reads k) ≡ 0) c.deref.ensures.value (c.in_ok-noted.ensures.yes c.if-not-noted.false))
