use Rattle.std.proofs.Common.{sym, ◌∙◌, subst}
use Rattle.row_fragments.specs.Chains.{IsBroken, IsWhole}
use Rattle.row_fragments.specs.Fragments.{AreDistinct}
use Rattle.storage.specs.Slots.{IsReadable}
use Rattle.byte_rows.proofs.Scanning.{broken_row, broken_was, none_left, scanned_more, scanned_past, shared_slot, some_held, whole_distinct, whole_was}
use Rattle.byte_rows.proofs.scan.note_row.Goals as goal

pub returns-then-not-begun-clause-scanned : goal.returns-then-not-begun-clause-scanned
returns-then-not-begun-clause-scanned g c = λ e readable.
    scanned_past (g.S.Slots.state c.args.slots.now).reads c.args.places.now.items c.args.at (c.requires.scanned readable) (sym (c.in_ok-begun.ensures.begins readable) ∙ c.if-not-begun.true)

pub returns-in_default-clause-broken : goal.returns-in_default-clause-broken
returns-in_default-clause-broken g c = λ e readable.
    let l = c.in_ok-begun.ensures.looked in
    let s = g.S.Slots.state c.args.slots.now in
    let t = g.S.Slots.state c.begins.new.slots in
    broken_row s.reads c.args.at (sym (c.in_ok-begun.ensures.begins readable) ∙ c.if-not-begun.false)
    (broken_was s t l.rests (l.cause.stays (λ e. cc e)) c.args.at (none_left c.in_ok-found.found (IsReadable t → IsBroken t.reads c.args.at) c.in_default.not-Some c.in_ok-found.ensures.broken) readable)

pub returns-then-not-are_distinct-clause-broken : goal.returns-then-not-are_distinct-clause-broken
returns-then-not-are_distinct-clause-broken g c = λ e readable all.
    let l = c.in_ok-begun.ensures.looked in
    let s = g.S.Slots.state c.args.slots.now in
    let t = g.S.Slots.state c.begins.new.slots in
    let whole : IsWhole s.reads c.args.at c.in-Some.chain.items = whole_was s t l.rests (l.cause.stays (λ e. cc e)) c.args.at c.in-Some.chain.items
    (some_held c.in_ok-found.found c.in-Some.chain (λ x. IsReadable t → IsWhole t.reads c.args.at x.items) c.in-Some.is c.in_ok-found.ensures.whole) readable in
    c.are_distinct.ensures.no c.if-not-are_distinct.true (subst AreDistinct (sym c.deref.ensures.value) (whole_distinct s.reads c.args.at c.in-Some.chain.items whole))

pub returns-in-Ok-clause-scanned : goal.returns-in-Ok-clause-scanned
returns-in-Ok-clause-scanned g c = λ noted readable.
    let l = c.in_ok-begun.ensures.looked in
    let s = g.S.Slots.state c.args.slots.now in
    let t = g.S.Slots.state c.begins.new.slots in
    let chain = c.deref-2.result.now in
    let whole : IsWhole s.reads c.args.at c.in-Some.chain.items = whole_was s t l.rests (l.cause.stays (λ e. cc e)) c.args.at c.in-Some.chain.items
    (some_held c.in_ok-found.found c.in-Some.chain (λ x. IsReadable t → IsWhole t.reads c.args.at x.items) c.in-Some.is c.in_ok-found.ensures.whole) readable in
    scanned_more s.reads c.args.places.now.items c.note_chain.new.places.items c.args.at chain (c.requires.scanned readable) (subst (IsWhole s.reads c.args.at) (sym c.deref-2.ensures.value) whole)
    (c.in-Ok.ensures.free noted) (c.in-Ok.ensures.laid noted) c.note_chain.ensures.rest

pub returns-in-Ok-clause-broken : goal.returns-in-Ok-clause-broken
returns-in-Ok-clause-broken g c = λ none readable.
    let l = c.in_ok-begun.ensures.looked in
    let s = g.S.Slots.state c.args.slots.now in
    let t = g.S.Slots.state c.begins.new.slots in
    let chain = c.deref-2.result.now in
    let whole : IsWhole s.reads c.args.at c.in-Some.chain.items = whole_was s t l.rests (l.cause.stays (λ e. cc e)) c.args.at c.in-Some.chain.items
    (some_held c.in_ok-found.found c.in-Some.chain (λ x. IsReadable t → IsWhole t.reads c.args.at x.items) c.in-Some.is c.in_ok-found.ensures.whole) readable in
    let taken = c.in-Ok.ensures.taken none in
    shared_slot s.reads c.args.places.now.items c.note_chain.new.places.items c.args.at chain (c.requires.scanned readable) (subst (IsWhole s.reads c.args.at) (sym c.deref-2.ensures.value) whole) taken.0 taken.1 taken.2
