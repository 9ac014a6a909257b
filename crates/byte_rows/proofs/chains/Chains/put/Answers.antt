use Rattle.std.proofs.Common.{◌≡◌, ◌+◌, ◌<◌, ℕ, ◌-◌, Some, length, max, ap, ◌∙◌, subst, arith, length-append}
use Rattle.storage.specs.Slots.{Transaction}
use Rattle.row_fragments.specs.Fragments.{chain_of, first_or_zero}
use Rattle.row_fragments.proofs.Composes.{on_ok, readable_on}
use Rattle.byte_rows.specs.Clients.{client_in}
use Rattle.byte_rows.specs.Rows.{ChangesRow}
use Rattle.byte_rows.proofs.Chaining.{own_found}
use Rattle.byte_rows.proofs.Joins.{changes_after_rests, first_append, still_touched, three_ok}
use Rattle.byte_rows.proofs.Vacancies.{vacant_on}
use Rattle.byte_rows.proofs.chains.Chains.put.Goals as goal

pub returns-clause-ok : goal.returns-clause-ok
returns-clause-ok g c = three_ok c.change.result c.change.ensures.put c.change.ensures.drawn c.change.ensures.few (λ put d few.
    let s = g.S.Slots.state c.args.self.now.slots in
    let u = g.S.Slots.state c.prepare.new.self.slots in
    let v = g.S.Slots.state c.change.new.self.slots in
    let client = c.args.client in
    let row = c.args.row.0 in
    let f = c.in-Ok.ensures in
    let r = f.looked.rests in
    let same : u.failed ≡ s.failed = f.looked.cause.stays (λ e. cc e) in
    let n = c.fragments-keep.ensures in
    let keep = c.fragments-keep.result in
    let chain = c.change.new.chain.items in
    let old = c.in-Ok.found.slots.items in
    let low = f.low in
    let begins = f.first in
    let some : 0 < first_or_zero old = omega (arith, low, begins) in
    let first : first_or_zero chain ≡ row = ap first_or_zero d.1 ∙ (first_append old d.0 some ∙ f.first) in
    let to = Some (record { table = c.in-Ok.found.table; bytes = c.args.bytes.now }) in
    let changed = changes_after_rests s u v r same client chain row to (subst (λ (m : ℕ). ChangesRow u v client m chain to) first (put n.some)) in
    let parts = ap length d.1 ∙ length-append old d.0 in
    let drawn = d.2 in
    let counted : (u.transaction client).counted ≡ (s.transaction client).counted = ap (λ (t : ℕ → Transaction). (t client).counted) r.transaction in (
      chain,
      keep,
      record { some = n.some; holds = n.holds; least = n.least },
      record {
        wrote = changed.wrote;
        inside = changed.inside;
        first = changed.first;
        held = λ readable any here. changed.held readable any here ∙ ap (λ (t : ℕ). Some (record { table = t; bytes = c.args.bytes.now })) (f.table readable);
        apart = changed.apart;
        others = changed.others;
        chains = changed.chains;
      },
      λ readable.
          let held : length old ≡ length (chain_of s.reads row) = ap length (f.slots readable) in
          let all : length chain ≡ max (length old) keep = omega (arith, parts, drawn) in
          all ∙ ap (λ (m : ℕ). max m keep) held,
      omega (arith, few, counted, parts, drawn),
    ))

pub returns-clause-touched : goal.returns-clause-touched
returns-clause-touched g c =
    let l = c.in-Ok.ensures.looked in
    still_touched (g.S.Slots.state c.args.self.now.slots) (g.S.Slots.state c.prepare.new.self.slots) (g.S.Slots.state c.change.new.self.slots)
    (g.S.Slots.stop c.args.self.now.slots) (g.S.Slots.stop c.prepare.new.self.slots) (g.S.Slots.stop c.change.new.self.slots) (g.met.S.Slots.stop_known c.change.new.self.slots)
    (record { rests = l.rests; time = l.time; later = l.cause.later; failed = l.cause.stays (λ e. cc e) }) c.args.client _ _ (λ q. q) (λ q. q) c.change.ensures.touched

pub returns-clause-full : goal.returns-clause-full
returns-clause-full g c = λ is readable.
    let s = g.S.Slots.state c.args.self.now.slots in
    let u = g.S.Slots.state c.prepare.new.self.slots in
    let f = c.in-Ok.ensures in
    let same : u.failed ≡ s.failed = f.looked.cause.stays (λ e. cc e) in
    let n = c.fragments-keep.ensures in
    let keep = c.fragments-keep.result in
    let old = c.in-Ok.found.slots.items in
    let held : length old ≡ length (chain_of s.reads c.args.row.0) = ap length (f.slots readable) in (
      keep,
      record { some = n.some; holds = n.holds; least = n.least },
      λ slots vacant.
          let lt : length slots < keep - length old = c.change.ensures.full is (readable_on s u f.looked.rests.keeps.observable same readable) slots (vacant_on s u f.looked.rests readable slots vacant) in
          subst (λ (m : ℕ). length slots < keep - m) held lt,
    )

pub returns-clause-counts : goal.returns-clause-counts
returns-clause-counts g c = on_ok c.change.result c.change.ensures.counts (λ counts readable.
    let s = g.S.Slots.state c.args.self.now.slots in
    let f = c.in-Ok.ensures in
    let n = c.fragments-keep.ensures in
    let keep = c.fragments-keep.result in
    let old = c.in-Ok.found.slots.items in
    let client = c.args.client in
    let held : length old ≡ length (chain_of s.reads c.args.row.0) = ap length (f.slots readable) in (
      keep,
      record { some = n.some; holds = n.holds; least = n.least },
      counts ∙ (ap (λ (m : ℕ). m + (keep - length old)) (f.counts.drawn client) ∙ ap (λ (m : ℕ). (client_in c.args.self.now.clients.items client).drawn + (keep - m)) held),
    ))

pub change-requires-clause-own : goal.change-requires-clause-own
change-requires-clause-own g c =
    let l = c.in-Ok.ensures.looked in
    own_found (g.S.Slots.state c.args.self.now.slots) (g.S.Slots.state c.prepare.new.self.slots) c.args.row.0 c.in-Ok.found.slots.items l.rests (l.cause.stays (λ e. cc e)) c.in-Ok.ensures.slots c.in-Ok.ensures.first c.requires.there
