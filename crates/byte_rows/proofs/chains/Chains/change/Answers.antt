use Rattle.std.proofs.Common.{List, length, length-append, sym, ap, ◌∙◌, subst, arith, inl, inr}
use Rattle.std.proofs.lemmas.Bool.{cases_lt}
use Rattle.row_fragments.specs.Fragments.{first_or_zero}
use Rattle.std.specs.BinaryHeap.{heap_items}
use Rattle.free_slots.specs.Free.{free_in}
use Rattle.byte_rows.specs.declared.client.Client.{Client}
use Rattle.byte_rows.specs.Clients.{ClientView, client_in}
use Rattle.byte_rows.specs.Noted.{IsSound}
use Rattle.byte_rows.proofs.Chaining.{rewritten_keeps}
use Rattle.byte_rows.proofs.ClientLists.{whole}
use Rattle.byte_rows.proofs.Joins.{first_in}
use Rattle.byte_rows.proofs.Kept.{not_both}
use Rattle.byte_rows.proofs.Sounds.{flag_after, sound_refused, sound_wrote}
use Rattle.byte_rows.proofs.Vacancies.{different_of, vacant_free}
use Rattle.byte_rows.proofs.chains.Chains.change.Goals as goal

pub returns-then-count-more-clause-full : goal.returns-then-count-more-clause-full
returns-then-count-more-clause-full g c = λ e readable slots v.
    let chains = c.args.self.now in
    let s = g.S.Slots.state chains.slots in
    let n = chains.sound.noted c.requires.fine in
    let most = c.count.ensures.most slots (different_of slots v.different) (λ k there. vacant_free s chains.places.items (free_in (heap_items chains.free.back) chains.free.end) n.kept n.freed n.exact readable c.requires.settled k (v.each k there)) in
    let few = c.if-count-more.true in
    let more = c.saturating_sub-more.ensures in
    let long = c.len-held.ensures in
    let same = c.args.chain.now.ok.0 in
    omega (arith, most, few, more, long, same)

pub invariant_of-self-in-Ok : goal.invariant_of-self-in-Ok
invariant_of-self-in-Ok g c =
    let chains = c.args.self.now in
    let s = g.S.Slots.state chains.slots in
    let t = g.S.Slots.state c.write_noted.new.slots in
    let e = c.in-Ok.ensures in
    let left = free_in (heap_items c.write_noted.new.free.back) c.write_noted.new.free.end in
    let ds = c.write_noted.new.clients in
    let value = c.deref_mut.ensures.value in
    record {
      sound = subst (λ (cs : List Client). IsSound t c.write_noted.new.places.items left cs chains.failed) (sym (whole ds chains.clients.items chains.clients.len (c.write_noted.ensures.many ∙ c.deref_mut.ensures.len)))
          (sound_wrote s t chains.places.items c.write_noted.new.places.items (free_in (heap_items chains.free.back) chains.free.end) left chains.clients.items ds c.args.client chains.failed c.requires.client
          c.write_noted.ensures.touched.others c.write_noted.ensures.touched.begun (c.in-Ok.ensures.touched.cause.stays (λ q. cc q)) (c.write_noted.ensures.many ∙ ap length value)
          (λ d. c.write_noted.ensures.begun d ∙ ap (λ (cs : List Client). (client_in cs d).begun) value) (e.noted (λ q. cc q)) chains.sound);
    }

pub invariant_of-self-in-Err : goal.invariant_of-self-in-Err
invariant_of-self-in-Err g c =
    let chains = c.args.self.now in
    let s = g.S.Slots.state chains.slots in
    let t = g.S.Slots.state c.write_noted.new.slots in
    let left = free_in (heap_items c.write_noted.new.free.back) c.write_noted.new.free.end in
    let ds = c.write_noted.new.clients in
    let value = c.deref_mut.ensures.value in
    let cause = c.in-Err.ensures.touched.cause in
    let failed = c.failed_after-self.result in
    record {
      sound = subst (λ (cs : List Client). IsSound t c.write_noted.new.places.items left cs failed) (sym (whole ds chains.clients.items chains.clients.len (c.write_noted.ensures.many ∙ c.deref_mut.ensures.len)))
          (sound_refused s t chains.places.items c.write_noted.new.places.items (free_in (heap_items chains.free.back) chains.free.end) left chains.clients.items ds c.args.client chains.failed failed c.requires.client
          c.write_noted.ensures.touched.others c.write_noted.ensures.touched.begun
          (flag_after c.in-Err.fault s t chains.failed failed cause c.failed_after-self.ensures.disk c.failed_after-self.ensures.rest chains.sound.same_failed) (c.write_noted.ensures.many ∙ ap length value)
          (λ d. c.write_noted.ensures.begun d ∙ ap (λ (cs : List Client). (client_in cs d).begun) value) (λ fine. c.in-Err.ensures.noted (λ disk. absurd (not_both t.failed (cause.failed disk) fine))) chains.sound);
    }

pub returns-in-Ok-clause-apart : goal.returns-in-Ok-clause-apart
returns-in-Ok-clause-apart g c = λ d ne.
    let cs = c.args.self.now.clients in
    ap (λ (xs : List Client). (client_in xs d).drawn) (whole c.write_noted.new.clients cs.items cs.len (c.write_noted.ensures.many ∙ c.deref_mut.ensures.len))
    ∙ (ap (λ (v : ClientView). v.drawn) (c.write_noted.ensures.apart d ne) ∙ ap (λ (xs : List Client). (client_in xs d).drawn) c.deref_mut.ensures.value)

pub returns-in-Ok-clause-inside : goal.returns-in-Ok-clause-inside
returns-in-Ok-clause-inside g c = c.in-Ok.ensures.inside _ (first_in c.write_noted.new.chain.items c.in-Ok.ensures.first)

pub returns-in-Ok-clause-lowest : goal.returns-in-Ok-clause-lowest
returns-in-Ok-clause-lowest g c = λ none readable k v.
    let chains = c.args.self.now in
    let s = g.S.Slots.state chains.slots in
    let n = chains.sound.noted c.requires.fine in
    elim (cases_lt k (first_or_zero c.write_noted.new.chain.items)) [
      | inl lt ↦
          let taken = (c.in-Ok.ensures.lowest none).1 k lt in
          let free = vacant_free s chains.places.items (free_in (heap_items chains.free.back) chains.free.end) n.kept n.freed n.exact readable c.requires.settled k v in
          absurd (omega (arith, taken, free))
      | inr le ↦ le
    ]

pub returns-in-Ok-clause-put : goal.returns-in-Ok-clause-put
returns-in-Ok-clause-put g c = λ some.
    let e = c.in-Ok.ensures in
    let d = e.drawn in
    let more = c.saturating_sub-more.ensures in
    let held = c.len-held.ensures in
    let same = c.args.chain.now.ok.0 in
    let all = ap length d.1 ∙ length-append c.args.chain.now.items d.0 in
    let drawn = d.2 in
    record {
      wrote = e.wrote;
      inside = e.inside;
      first = e.begins;
      held = λ readable. e.row readable some;
      apart = λ readable. e.own readable;
      others = λ readable. e.others readable;
      chains = λ readable. rewritten_keeps (g.S.Slots.state c.args.self.now.slots) (g.S.Slots.state c.write_noted.new.slots).reads c.args.chain.now.items d.0 c.write_noted.new.chain.items c.args.keep c.args.table c.args.bytes.now d.1
          (omega (arith, all, drawn, more, held, same)) (d.3 readable) e.inside (c.requires.own readable) c.requires.least c.requires.short c.ranges.table.fits (e.rewritten readable);
    }

pub returns-in-Ok-clause-gone : goal.returns-in-Ok-clause-gone
returns-in-Ok-clause-gone g c = λ none.
    let e = c.in-Ok.ensures in
    let d = e.drawn in
    record {
      wrote = e.wrote;
      inside = e.inside;
      first = e.begins;
      held = λ readable. e.gone readable none;
      apart = λ readable. e.own readable;
      others = λ readable. e.others readable;
      chains = λ readable. rewritten_keeps (g.S.Slots.state c.args.self.now.slots) (g.S.Slots.state c.write_noted.new.slots).reads c.args.chain.now.items d.0 c.write_noted.new.chain.items c.args.keep c.args.table c.args.bytes.now d.1
          (omega (arith, none)) (d.3 readable) e.inside (c.requires.own readable) c.requires.least c.requires.short c.ranges.table.fits (e.rewritten readable);
    }
