use Rattle.std.proofs.Common.{ℕ, ◌<◌, ◌-◌, List, [], drop, length, sym, ap, ◌∙◌, subst, arith}
use Rattle.std.specs.List.{Contains}
use Rattle.row_fragments.specs.Fragments.{AreClear, row_at}
use Rattle.row_fragments.proofs.Composes.{both_ok, on_ok, readable_on, wrote_after_grows}
use Rattle.byte_rows.specs.declared.places.Place.{Place}
use Rattle.byte_rows.specs.Places.{IsKept}
use Rattle.byte_rows.proofs.Chaining.{take_whole}
use Rattle.byte_rows.proofs.Kept.{laying_keeps}
use Rattle.byte_rows.proofs.Turns.{grows_kept}
use Rattle.byte_rows.proofs.Rewrites.{ready_owner}
use Rattle.std.proofs.Common.{◌+◌, length-append}
use Rattle.std.proofs.lemmas.List.{length-drop, length-take}
use Rattle.byte_rows.proofs.change.change.Goals as goal

pub rewrite-requires-clause-known : goal.rewrite-requires-clause-known
rewrite-requires-clause-known g c =
    let s = g.S.Slots.state c.args.slots.now in
    let t = g.S.Slots.state c.prepare.new.slots in
    let known : IsKept t c.args.places.now.items = grows_kept s t c.args.places.now.items c.requires.known (c.in_ok-prepare.ensures.cause.stays (λ e. cc e)) c.args.client (length c.args.chain.now) c.requires.begun c.in_ok-prepare.ensures.grows in
    subst (IsKept t) (sym c.deref_mut.ensures.value)
    (laying_keeps t c.args.places.now.items c.prepare.new.places.items [] 1 0 c.args.client (omega arith) tt tt (λ k out. c.prepare.ensures.places k) known)

pub rewrite-requires-clause-within : goal.rewrite-requires-clause-within
rewrite-requires-clause-within g c = subst (λ (ps : List Place). (k : ℕ) → Contains c.args.chain.now k → k < length ps) (sym c.deref_mut.ensures.value) c.in_ok-prepare.ensures.within

pub returns-clause-wrote : goal.returns-clause-wrote
returns-clause-wrote g c = on_ok c.rewrite.result c.rewrite.ensures.wrote (λ w.
    wrote_after_grows (g.S.Slots.state c.args.slots.now) (g.S.Slots.state c.prepare.new.slots) (g.S.Slots.state c.rewrite.new.slots) c.args.client (length c.args.chain.now) c.args.chain.now (c.in_ok-prepare.ensures.cause.stays (λ e. cc e)) c.in_ok-prepare.ensures.grows w)

pub returns-clause-others : goal.returns-clause-others
returns-clause-others g c = on_ok c.rewrite.result c.rewrite.ensures.others (λ stays readable other ne.
    let s = g.S.Slots.state c.args.slots.now in
    let t = g.S.Slots.state c.prepare.new.slots in
    stays (readable_on s t c.in_ok-prepare.ensures.grows.keeps.observable (c.in_ok-prepare.ensures.cause.stays (λ e. cc e)) readable) other ne
    ∙ ap (λ (f : ℕ → List ℕ). row_at f other) (c.in_ok-prepare.ensures.grows.reads readable))

pub returns-clause-inside : goal.returns-clause-inside
returns-clause-inside g c = on_ok c.rewrite.result c.rewrite.ensures.wrote (λ w k there.
    (ready_owner c.prepare.new.places.items c.args.chain.now c.args.row 0 (c.args.client + 1) c.in_ok-prepare.ensures.ready k there).0)

pub returns-clause-within : goal.returns-clause-within
returns-clause-within g c = on_ok c.rewrite.result c.rewrite.ensures.wrote (λ w k there.
    let low = c.in_ok-prepare.ensures.within k there in
    let same = c.rewrite.ensures.long in
    let value = ap length c.deref_mut.ensures.value in
    let many = c.prepare.new.places.ok.0 in
    omega (arith, low, same, value, many, length-take {A = Place}, length-append {A = Place}, length-drop {A = Place}))

pub returns-clause-row : goal.returns-clause-row
returns-clause-row g c = on_ok c.rewrite.result c.rewrite.ensures.row (λ row readable some.
    let s = g.S.Slots.state c.args.slots.now in
    let t = g.S.Slots.state c.prepare.new.slots in
    let keep = c.requires.keep in
    row (readable_on s t c.in_ok-prepare.ensures.grows.keeps.observable (c.in_ok-prepare.ensures.cause.stays (λ e. cc e)) readable) (omega (arith, some, keep, length-take {A = ℕ}, length-drop {A = ℕ})))

pub returns-clause-gone : goal.returns-clause-gone
returns-clause-gone g c = on_ok c.rewrite.result c.rewrite.ensures.gone (λ gone readable none.
    let s = g.S.Slots.state c.args.slots.now in
    let t = g.S.Slots.state c.prepare.new.slots in
    let keep = c.requires.keep in
    gone (readable_on s t c.in_ok-prepare.ensures.grows.keeps.observable (c.in_ok-prepare.ensures.cause.stays (λ e. cc e)) readable) (omega (arith, none, keep, length-take {A = ℕ}, length-drop {A = ℕ})))

pub returns-clause-rewritten : goal.returns-clause-rewritten
returns-clause-rewritten g c = both_ok c.rewrite.result c.rewrite.ensures.bytes c.rewrite.ensures.zeros (λ bytes zeros readable.
    let then = readable_on (g.S.Slots.state c.args.slots.now) (g.S.Slots.state c.prepare.new.slots) c.in_ok-prepare.ensures.grows.keeps.observable (c.in_ok-prepare.ensures.cause.stays (λ e. cc e)) readable in
    record {
      kept = bytes then;
      freed = subst (AreClear (g.S.Slots.state c.rewrite.new.slots).reads) (take_whole (length c.args.chain.now - c.args.keep) (drop c.args.keep c.args.chain.now) (omega (arith, length-drop {A = ℕ}))) (zeros then);
    })
