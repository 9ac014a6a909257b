use Rattle.std.proofs.Common.{◌≡◌, ℕ, ◌+◌, ◌<◌, List, [], length, get_or, drop, Option, Some, None, sym, ◌∙◌, ap, arith}
use Rattle.std.specs.Prelude.{IfSome}
use Rattle.storage.specs.Slots.{IsReadable}
use Rattle.abl_values.specs.Rows.{fragments_of, number_at_head}
use Rattle.row_fragments.proofs.Composes.{readable_on}
use Rattle.database_layout.specs.stored_text.Held.{HoldText, AreOf}
use Rattle.database_layout.proofs.StoredTextLemmas.Contents.{are_held, held_are, held_length}
use Rattle.database_layout.proofs.stored_text.stored.stored_text.Goals as goal

some_too : (P Q : List ℕ → Type 0) (found : Option (List ℕ)) → ((text : List ℕ) → P text → Q text) → IfSome found P → IfSome found Q
some_too P Q (Some text) all p = all text p
some_too P Q None all p = p

pub returns-then-bytes-gt-MOST_BYTES-clause-held : goal.returns-then-bytes-gt-MOST_BYTES-clause-held
returns-then-bytes-gt-MOST_BYTES-clause-held g c = λ readable text h.
    let reads = (g.S.Slots.state c.args.slots.now).reads in
    let is = c.length_in-bytes.ensures ∙ ap (λ (l : List ℕ). number_at_head 4 (drop 8 l)) (c.in_ok-read.ensures.bytes readable) ∙ held_length reads text h in
    let short = h.short in
    absurd (omega (arith, c.if-bytes-gt-MOST_BYTES.true, short, is))

pub returns-in-Ok-clause-is : goal.returns-in-Ok-clause-is
returns-in-Ok-clause-is g c = λ readable.
    let first = g.S.Slots.state c.args.slots.now in
    let s = g.S.Slots.state c.read.new.self in
    let e = c.in_ok-read.ensures in
    let then : IsReadable s = readable_on first s e.rest.keeps.observable (e.cause.stays (λ q. cc q)) readable in
    let taken = c.deref.result.now in
    let long : length taken ≡ fragments_of c.length_in-bytes.result = ap (length {A = List ℕ}) c.deref.ensures.value ∙ c.in_ok-taken.ensures.count ∙ c.slot_count.ensures.is in
    let same : (i : ℕ) → i < length taken → get_or taken i [] ≡ first.reads (i + 1) = λ i lt.
    ap (λ (l : List (List ℕ)). get_or l i []) c.deref.ensures.value ∙ c.in_ok-taken.ensures.bytes then i (omega (arith, lt, long, c.slot_count.ensures.is)) ∙ ap (λ (f : ℕ → List ℕ). f (i + 1)) (e.rest.reads readable) in
    some_too (λ text. (length text ≡ c.length_in-bytes.result) × AreOf taken text) (HoldText first.reads) c.in-Ok.found
    (λ text p. let is = p.0 in are_held first.reads taken text (omega (arith, is, c.if-bytes-gt-MOST_BYTES.false)) (long ∙ ap fragments_of (sym is)) same p.1)
    c.in-Ok.ensures.is

pub returns-in-Ok-clause-held : goal.returns-in-Ok-clause-held
returns-in-Ok-clause-held g c = λ readable text h.
    let first = g.S.Slots.state c.args.slots.now in
    let s = g.S.Slots.state c.read.new.self in
    let e = c.in_ok-read.ensures in
    let then : IsReadable s = readable_on first s e.rest.keeps.observable (e.cause.stays (λ q. cc q)) readable in
    let taken = c.deref.result.now in
    let is : c.length_in-bytes.result ≡ length text = c.length_in-bytes.ensures ∙ ap (λ (l : List ℕ). number_at_head 4 (drop 8 l)) (e.bytes readable) ∙ held_length first.reads text h in
    let long : length taken ≡ fragments_of c.length_in-bytes.result = ap (length {A = List ℕ}) c.deref.ensures.value ∙ c.in_ok-taken.ensures.count ∙ c.slot_count.ensures.is in
    let same : (i : ℕ) → i < length taken → get_or taken i [] ≡ first.reads (i + 1) = λ i lt.
    ap (λ (l : List (List ℕ)). get_or l i []) c.deref.ensures.value ∙ c.in_ok-taken.ensures.bytes then i (omega (arith, lt, long, c.slot_count.ensures.is)) ∙ ap (λ (f : ℕ → List ℕ). f (i + 1)) (e.rest.reads readable) in
    c.in-Ok.ensures.held text (sym is) (held_are first.reads taken text (long ∙ ap fragments_of is) same h)
