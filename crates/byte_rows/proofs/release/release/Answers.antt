use Rattle.std.proofs.Common.{◌≡◌, ◌≢◌, inl, inr, ℕ, false, List, cond, eqb, refl, sym, ap, ◌∙◌, subst}
use Rattle.storage.specs.Slots.{Transaction, IsReadable}
use Rattle.row_fragments.proofs.Composes.{readable_on}
use Rattle.byte_rows.specs.declared.places.Place.{Place}
use Rattle.byte_rows.specs.Places.{IsKept, IsLeft, place_in}
use Rattle.row_fragments.specs.Fragments.{kind_in}
use Rattle.byte_rows.specs.Exact.{IsExact}
use Rattle.byte_rows.proofs.Exactly.{exact_rests, exact_set}
use Rattle.byte_rows.proofs.Releases.{disowning_keeps, freeing_keeps}
use Rattle.byte_rows.proofs.Turns.{rests_kept}
use Rattle.byte_rows.proofs.release.release.Goals.{then-left, else-left}
use Rattle.byte_rows.proofs.release.release.Goals as goal

pub returns-clause-known : goal.returns-clause-known
returns-clause-known g c =
    let s = g.S.Slots.state c.args.slots.now in
    let t = g.S.Slots.state c.is_left.new.slots in
    let looked = c.in_ok-left.ensures.looked in
    let same : t.failed ≡ s.failed = looked.cause.stays (λ e. cc e) in
    let known : IsKept t c.args.places.now = rests_kept s t c.args.places.now c.requires.known same looked.rests in
    let ended : (t.transaction c.args.client).begun ≡ false = ap (λ (f : ℕ → Transaction). (f c.args.client).begun) looked.rests.transaction ∙ c.requires.ended in
    elim c.if-left.branch [
      | then-left w ↦ freeing_keeps t c.args.places.now known c.args.slot c.args.client c.requires.inside c.requires.own ended c.set_place.new.places
          (λ readable.
          let was : IsReadable s = readable_on t s (sym looked.rests.keeps.observable) (sym same) readable in
          subst (λ (f : ℕ → List ℕ). IsLeft f c.args.places.now c.args.slot) (sym (looked.rests.reads was)) (c.in_ok-left.ensures.left w.if-left.true was))
          (λ k. c.set_place.ensures.places k ∙ ap (λ (p : Place). cond (eqb k c.args.slot) p (place_in c.args.places.now k)) w.to-is)
      | else-left w ↦ disowning_keeps t c.args.places.now known c.args.slot c.args.client c.requires.inside c.requires.own ended c.set_place.new.places
          (λ k. c.set_place.ensures.places k
          ∙ (ap (λ (p : Place). cond (eqb k c.args.slot) p (place_in c.args.places.now k)) w.to-is
          ∙ ap (λ (p : Place). cond (eqb k c.args.slot) (record { row = p.row; previous = p.previous; owner = 0 }) (place_in c.args.places.now k)) c.place_of-place.ensures))
    ]

pub returns-clause-exact : goal.returns-clause-exact
returns-clause-exact g c =
    let s = g.S.Slots.state c.args.slots.now in
    let t = g.S.Slots.state c.is_left.new.slots in
    let looked = c.in_ok-left.ensures.looked in
    let same : t.failed ≡ s.failed = looked.cause.stays (λ e. cc e) in
    let exact : IsExact t c.args.places.now = exact_rests s t c.args.places.now looked.rests same c.requires.exact in
    elim c.if-left.branch [
      | then-left w ↦ exact_set t c.args.places.now c.set_place.new.places c.args.slot (record { row = 0; previous = 0; owner = 0 }) exact refl (inl refl)
          (λ k. c.set_place.ensures.places k ∙ ap (λ (p : Place). cond (eqb k c.args.slot) p (place_in c.args.places.now k)) w.to-is)
      | else-left w ↦ exact_set t c.args.places.now c.set_place.new.places c.args.slot (record { row = c.place_of-place.result.row; previous = c.place_of-place.result.previous; owner = 0 }) exact refl
          (inr (λ readable.
          let was : IsReadable s = readable_on t s (sym looked.rests.keeps.observable) (sym same) readable in
          subst (λ (f : ℕ → List ℕ). kind_in (f c.args.slot) ≢ 0) (sym (looked.rests.reads was)) (c.in_ok-left.ensures.held w.if-left.false was)))
          (λ k. c.set_place.ensures.places k ∙ ap (λ (p : Place). cond (eqb k c.args.slot) p (place_in c.args.places.now k)) w.to-is)
    ]
