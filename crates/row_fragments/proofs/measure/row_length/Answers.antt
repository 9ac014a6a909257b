use Rattle.std.proofs.Common.{ℕ, List, ap, ◌∙◌, subst}
use Rattle.abl_values.specs.Keys.{AreBytes}
use Rattle.row_fragments.specs.Fragments.{bytes_from, content_in, next_in}
use Rattle.row_fragments.proofs.Composes.{readable_on}
use Rattle.row_fragments.proofs.Lengths.{row_bytes_are}
use Rattle.row_fragments.proofs.measure.row_length.Goals as goal

pub returns-clause-bytes : goal.returns-clause-bytes
returns-clause-bytes g c = λ readable.
    let s = g.S.Slots.state c.args.slots.now in
    let t = g.S.Slots.state c.read.new.slots in
    let l = c.in_ok-read.ensures.looked in
    let slot_is = c.in_ok-read.ensures.bytes readable in
    let reads = l.rests.reads readable in
    let more = c.in_ok-more.ensures.bytes (readable_on s t l.rests.keeps.observable (l.cause.stays (λ e. cc e)) readable) in
    row_bytes_are s.reads c.args.row
    (subst (λ (b : List ℕ). AreBytes (content_in b)) slot_is c.content_length.ensures.bytes)
    (subst (λ (f : ℕ → List ℕ). AreBytes (bytes_from 124 f (next_in (s.reads c.args.row)))) reads
    (subst (λ (n : ℕ). AreBytes (bytes_from 124 t.reads n)) (c.next.ensures ∙ ap next_in slot_is) more))
