use Rattle.std.proofs.Common.{◌≡◌, ℕ, None, length, refl, ap, ◌∙◌, subst, arith}
use Rattle.storage.specs.Slots.{Transaction}
use Rattle.row_fragments.specs.Fragments.{first_or_zero}
use Rattle.row_fragments.proofs.Composes.{on_ok}
use Rattle.byte_rows.specs.Rows.{ChangesRow}
use Rattle.byte_rows.proofs.Chaining.{own_found}
use Rattle.byte_rows.proofs.Joins.{append_none, changes_after_rests, still_touched, three_ok}
use Rattle.byte_rows.proofs.chains.Chains.delete.Goals as goal

pub returns-clause-ok : goal.returns-clause-ok
returns-clause-ok g c = three_ok c.change.result c.change.ensures.gone c.change.ensures.drawn c.change.ensures.few (λ gone d few.
    let s = g.S.Slots.state c.args.self.now.slots in
    let u = g.S.Slots.state c.prepare.new.self.slots in
    let v = g.S.Slots.state c.change.new.self.slots in
    let client = c.args.client in
    let f = c.in-Ok.ensures in
    let r = f.looked.rests in
    let same : u.failed ≡ s.failed = f.looked.cause.stays (λ e. cc e) in
    let chain = c.change.new.chain.items in
    let old = c.in-Ok.found.slots.items in
    let drawn = d.2 in
    let nothing : length d.0 ≡ 0 = omega (arith, drawn) in
    let is : chain ≡ old = d.1 ∙ append_none old d.0 nothing in
    let long = ap length is in
    let counted : (u.transaction client).counted ≡ (s.transaction client).counted = ap (λ (t : ℕ → Transaction). (t client).counted) r.transaction in (
      chain,
      changes_after_rests s u v r same client chain c.args.row.0 None (subst (λ (n : ℕ). ChangesRow u v client n chain None) (ap first_or_zero is ∙ f.first) (gone refl)),
      λ readable. is ∙ f.slots readable,
      omega (arith, few, counted, long),
    ))

pub returns-clause-touched : goal.returns-clause-touched
returns-clause-touched g c =
    let l = c.in-Ok.ensures.looked in
    still_touched (g.S.Slots.state c.args.self.now.slots) (g.S.Slots.state c.prepare.new.self.slots) (g.S.Slots.state c.change.new.self.slots)
    (g.S.Slots.stop c.args.self.now.slots) (g.S.Slots.stop c.prepare.new.self.slots) (g.S.Slots.stop c.change.new.self.slots) (g.met.S.Slots.stop_known c.change.new.self.slots)
    (record { rests = l.rests; time = l.time; later = l.cause.later; failed = l.cause.stays (λ e. cc e) }) c.args.client _ _ (λ q. q) (λ q. q) c.change.ensures.touched

pub returns-clause-counts : goal.returns-clause-counts
returns-clause-counts g c = on_ok c.change.result c.change.ensures.counts (λ counts.
    let before = c.in-Ok.ensures.counts.drawn c.args.client in
    omega (arith, counts, before))

pub change-requires-clause-own : goal.change-requires-clause-own
change-requires-clause-own g c =
    let l = c.in-Ok.ensures.looked in
    own_found (g.S.Slots.state c.args.self.now.slots) (g.S.Slots.state c.prepare.new.self.slots) c.args.row.0 c.in-Ok.found.slots.items l.rests (l.cause.stays (λ e. cc e)) c.in-Ok.ensures.slots c.in-Ok.ensures.first c.requires.there
