use Rattle.std.proofs.Common.{inl, ◌≡◌, ℕ, ◌++◌, [], List, Some, length, sym, ap, ◌∙◌, subst, arith}
use Rattle.std.specs.BinaryHeap.{heap_items}
use Rattle.free_slots.specs.Free.{free_in}
use Rattle.storage.specs.Slots.{Transaction}
use Rattle.row_fragments.specs.Fragments.{first_or_zero}
use Rattle.row_fragments.proofs.Composes.{readable_on}
use Rattle.byte_rows.specs.Exact.{AreVacant}
use Rattle.byte_rows.specs.Rows.{ChangesRow}
use Rattle.byte_rows.proofs.Joins.{changes_after_rests, least_of, still_touched}
use Rattle.byte_rows.proofs.Vacancies.{one_lowest, vacant_was}
use Rattle.byte_rows.proofs.chains.Chains.insert_at.Goals as goal

pub returns-in-Ok-change-clause-ok : goal.returns-in-Ok-change-clause-ok
returns-in-Ok-change-clause-ok g c =
    let s = g.S.Slots.state c.args.self.now.slots in
    let u = g.S.Slots.state c.expect_slot.new.self.slots in
    let v = g.S.Slots.state c.change.new.self.slots in
    let client = c.args.client in
    let l = c.in-Ok.ensures.looked in
    let r = l.rests in
    let same : u.failed ≡ s.failed = l.cause.stays (λ e. cc e) in
    let e = c.in-Ok-change.ensures in
    let d = e.drawn in
    let f = c.fragments-keep.ensures in
    let keep = c.fragments-keep.result in
    let chain = c.change.new.chain.items in
    let none : c.new-chain.result.items ≡ [] = c.new-chain.ensures.items in
    let is : chain ≡ d.0 = d.1 ∙ ap (λ (xs : List ℕ). xs ++ d.0) none in
    let zero : length c.new-chain.result.items ≡ 0 = ap length none in
    let drawn = d.2 in
    let all = ap length is in
    let long : length chain ≡ keep = omega (arith, zero, drawn, all) in
    let free = free_in (heap_items c.expect_slot.new.self.free.back) c.expect_slot.new.self.free.end in
    let first : first_or_zero chain ≡ c.args.row.0 = one_lowest free (first_or_zero chain) c.args.row.0 (e.taken zero) c.in-Ok.ensures.lowest in
    let counts = e.counts in
    let before = c.in-Ok.ensures.counts.drawn client in
    let few = e.few in
    let counted : (u.transaction client).counted ≡ (s.transaction client).counted = ap (λ (t : ℕ → Transaction). (t client).counted) r.transaction in (
      chain,
      least_of (length c.args.bytes.now) keep (length chain) long f.some f.holds f.least,
      subst (λ (n : ℕ). ChangesRow s v client n chain (Some (record { table = c.args.table; bytes = c.args.bytes.now }))) first
          (changes_after_rests s u v r same client chain (first_or_zero chain) (Some (record { table = c.args.table; bytes = c.args.bytes.now })) (e.put f.some)),
      λ readable. vacant_was s u r readable chain (subst (AreVacant u) (sym is) (d.3 (readable_on s u r.keeps.observable same readable))),
      omega (arith, counts, before, zero, long),
      omega (arith, few, counted, zero, long),
    )

pub returns-in-Ok-change-clause-touched : goal.returns-in-Ok-change-clause-touched
returns-in-Ok-change-clause-touched g c =
    let l = c.in-Ok.ensures.looked in
    still_touched (g.S.Slots.state c.args.self.now.slots) (g.S.Slots.state c.expect_slot.new.self.slots) (g.S.Slots.state c.change.new.self.slots)
    (g.S.Slots.stop c.args.self.now.slots) (g.S.Slots.stop c.expect_slot.new.self.slots) (g.S.Slots.stop c.change.new.self.slots) (g.met.S.Slots.stop_known c.change.new.self.slots)
    (record { rests = l.rests; time = l.time; later = l.cause.later; failed = l.cause.stays (λ e. cc e) }) c.args.client _ _ (λ q. absurd (cc q)) (λ q. absurd (cc q)) c.in-Ok-change.ensures.touched

pub returns-clause-touched : goal.returns-clause-touched
returns-clause-touched g c =
    let l = c.in-Ok.ensures.looked in
    still_touched (g.S.Slots.state c.args.self.now.slots) (g.S.Slots.state c.expect_slot.new.self.slots) (g.S.Slots.state c.change.new.self.slots)
    (g.S.Slots.stop c.args.self.now.slots) (g.S.Slots.stop c.expect_slot.new.self.slots) (g.S.Slots.stop c.change.new.self.slots) (g.met.S.Slots.stop_known c.change.new.self.slots)
    (record { rests = l.rests; time = l.time; later = l.cause.later; failed = l.cause.stays (λ e. cc e) }) c.args.client _ _ (λ q. q) (λ q. q) c.in-Err-change.ensures.touched

pub change-requires-clause-own : goal.change-requires-clause-own
change-requires-clause-own g c = λ readable. inl c.new-chain.ensures.items
