use Rattle.std.proofs.Common.{◌≡◌, ◌≢◌, ◌+◌, ◌++◌, ◌∷◌, [], ℕ, List, length, true, inl, inr, sym, ap, ◌∙◌, subst, arith, length-append}
use Rattle.std.proofs.lemmas.Bool.{cases_eq}
use Rattle.storage.specs.Slots.{Transaction}
use Rattle.byte_rows.specs.declared.places.Place.{Place}
use Rattle.byte_rows.specs.Freed.{has}
use Rattle.byte_rows.specs.Places.{owner_in, place_in}
use Rattle.byte_rows.specs.Still.{Still}
use Rattle.byte_rows.proofs.Reading.{still_both}
use Rattle.byte_rows.proofs.Touched.{has_last, has_less, has_more}
use Rattle.byte_rows.proofs.settle.settle.Goals as goal

pub settle_slot-requires-clause-inside : goal.settle_slot-requires-clause-inside
settle_slot-requires-clause-inside g c =
    (c.loop-slot.invariant.inside c.in-Some.slot (subst (λ (xs : List ℕ). has xs c.in-Some.slot ≡ true) (sym c.in-Some.ensures.items) (has_last c.pop.new.self.items c.in-Some.slot))).0

pub settle_slot-requires-clause-within : goal.settle_slot-requires-clause-within
settle_slot-requires-clause-within g c =
    (c.loop-slot.invariant.inside c.in-Some.slot (subst (λ (xs : List ℕ). has xs c.in-Some.slot ≡ true) (sym c.in-Some.ensures.items) (has_last c.pop.new.self.items c.in-Some.slot))).1

pub loop-slot-preserved : goal.loop-slot-preserved
loop-slot-preserved g c =
    let first = g.S.Slots.state c.args.slots.now in
    let s = g.S.Slots.state c.loop-slot.slots in
    let t = g.S.Slots.state c.settle_slot.new.slots in
    let i = c.loop-slot.invariant in
    let e = c.in-Ok-settle_slot.ensures in
    let l = e.looked in
    let items : c.loop-slot.touched.items ≡ c.pop.new.self.items ++ c.in-Some.slot ∷ [] = c.in-Some.ensures.items in
    let step : Still s t (g.S.Slots.stop c.loop-slot.slots) (g.S.Slots.stop c.settle_slot.new.slots) = record { rests = l.rests; time = l.time; later = l.cause.later; failed = l.cause.stays (λ q. cc q) } in
    record {
      still = still_both first s t (g.S.Slots.stop c.args.slots.now) (g.S.Slots.stop c.loop-slot.slots) (g.S.Slots.stop c.settle_slot.new.slots) (g.met.S.Slots.stop_known c.settle_slot.new.slots) i.still step;
      known = e.known;
      freed = e.freed;
      exact = e.exact;
      ended = ap (λ (f : ℕ → Transaction). (f c.args.client).begun) l.rests.transaction ∙ i.ended;
      room =
          let len = e.len in
          let capacity = e.capacity in
          let room = i.room in
          let many = ap length items in
          let parts = length-append c.pop.new.self.items (c.in-Some.slot ∷ []) in
          omega (arith, len, capacity, room, many, parts);
      inside = λ k there.
          let was = i.inside k (subst (λ (xs : List ℕ). has xs k ≡ true) (sym items) (has_more c.pop.new.self.items c.in-Some.slot k there)) in
          let low = was.1 in
          let long = e.long in
          (was.0, omega (arith, low, long));
      all = λ k within own. elim (cases_eq k c.in-Some.slot) [
        | inl here ↦ absurd (e.clear (ap (owner_in c.settle_slot.new.places) (sym here) ∙ own))
        | inr ne ↦ has_less c.pop.new.self.items c.in-Some.slot k ne (subst (λ (xs : List ℕ). has xs k ≡ true) items (i.all k within (ap (λ (p : Place). p.owner) (sym (e.rest k ne)) ∙ own)))
      ];
      others = λ k ne. elim (cases_eq k c.in-Some.slot) [
        | inl here ↦
            let still : owner_in c.loop-slot.places c.in-Some.slot ≢ c.args.client + 1 = λ own. ne (ap (λ (p : Place). p.owner) (sym (i.others k ne)) ∙ (ap (owner_in c.loop-slot.places) here ∙ own)) in
            ap (place_in c.settle_slot.new.places) here ∙ (e.keeps still ∙ (ap (place_in c.loop-slot.places) (sym here) ∙ i.others k ne))
        | inr apart ↦ e.rest k apart ∙ i.others k ne
      ];
      none = λ d k own. elim (cases_eq k c.in-Some.slot) [
        | inl here ↦ i.none d k (ap (owner_in c.loop-slot.places) here ∙ e.none d (ap (owner_in c.settle_slot.new.places) (sym here) ∙ own))
        | inr apart ↦ i.none d k (ap (λ (p : Place). p.owner) (sym (e.rest k apart)) ∙ own)
      ];
      long = e.long ∙ i.long;
    }

pub returns-in-Err-settle_slot-clause-none : goal.returns-in-Err-settle_slot-clause-none
returns-in-Err-settle_slot-clause-none g c = λ fine d k own. c.loop-slot.invariant.none d k (ap (λ (ps : List Place). owner_in ps k) (sym c.in-Err-settle_slot.ensures.same) ∙ own)
