-- Rows lie apart in each mix of the values of slots, and slots stay tied to rows over changes and where these are undone.
use Rattle.std.proofs.Common.{◌≡◌, ◌≢◌, ◌⊎◌, ⊎_elim, inl, inr, ℕ, zero, suc, ◌&&◌, not, Bool, true, false, cond, eqb, eqb-true, List, [], ◌∷◌, ◌++◌, drop, take, refl, sym, ap, ◌∙◌, subst, arith}
use Rattle.std.specs.List.{Contains}
use Rattle.std.proofs.lemmas.Bool.{cases_eq}
use Rattle.std.proofs.lemmas.Bool.Decides.{nat_tests}
use Rattle.abl_values.specs.Rows.{number_at_head}
use Rattle.storage.specs.Slots.{SlotState, Transaction, IsReadable, GoesBack, undone, put}
use Rattle.storage.specs.declared.slots.Undo.{Undo}
use Rattle.row_fragments.specs.Fragments.{begins, chain_of, ends, kind_in, next_in, row_at, slots_from}
use Rattle.row_fragments.specs.Calls.{Covers, Wrote}
use Rattle.row_fragments.specs.Tied.{IsFreeAlone, IsInRow, IsMix, IsTied, IsValue, given}
use Rattle.row_fragments.proofs.Within.{none_in}
use Rattle.row_fragments.proofs.Composes.{covers_append}
use Rattle.row_fragments.proofs.Chained.{row_same, no_row_at}
use Rattle.row_fragments.proofs.Listing.{last_slot, more_slots, no_slot}

begins_parts : (x y : Bool) → (not x && y) ≡ true → (x ≡ false) × (y ≡ true)
begins_parts true y e = absurd (cc e)
begins_parts false y e = (refl, e)

module _ (value : ℕ → List ℕ → Type 0) (row_of : ℕ → ℕ) (tied : IsTied value row_of) where
  from_tied : (slots : ℕ → List ℕ) → IsMix value slots → (row n at k : ℕ) → (ends at ≡ false → row_of at ≡ row) → Contains (slots_from n slots at) k → row_of k ≡ row
  from_tied slots mix row zero at k here there = absurd (none_in k (subst (λ (xs : List ℕ). Contains xs k) (no_slot slots at) there))
  from_tied slots mix row (suc n) at k here there =
      by_end (ends at) refl (λ e. from_tied slots mix row n (next_in (slots at)) k (λ more. tied.next at (slots at) (mix at) e more ∙ here e))
    where
      one : (rest : List ℕ) → row_of at ≡ row → (Contains rest k → row_of k ≡ row) → Contains (at ∷ rest) k → row_of k ≡ row
      one rest is later (zero, within, same) = ap row_of (sym same) ∙ is
      one rest is later (suc i, within, same) = later (i, omega arith, same)

      by_end : (b : Bool) → ends at ≡ b → (ends at ≡ false → Contains (slots_from n slots (next_in (slots at))) k → row_of k ≡ row) → row_of k ≡ row
      by_end true e rest = absurd (none_in k (subst (λ (xs : List ℕ). Contains xs k) (last_slot n slots at e) there))
      by_end false e rest = one (slots_from n slots (next_in (slots at))) (here e) (rest e) (subst (λ (xs : List ℕ). Contains xs k) (more_slots n slots at e) there)

  -- the slots that a row is read from belong to it
  chain_tied : (slots : ℕ → List ℕ) → IsMix value slots → (row k : ℕ) → ends row ≡ false → row_of row ≡ row → Contains (chain_of slots row) k → row_of k ≡ row
  chain_tied slots mix row k within is (zero, low, same) = ap row_of (sym same) ∙ is
  chain_tied slots mix row k within is (suc i, low, same) =
      from_tied slots mix row 124 (next_in (slots row)) k (λ more. tied.next row (slots row) (mix row) within more ∙ is) (i, omega arith, same)

  -- a row that begins belongs to itself
  begun_tied : (slots : ℕ → List ℕ) → IsMix value slots → (row : ℕ) → begins slots row ≡ true → (ends row ≡ false) × (row_of row ≡ row)
  begun_tied slots mix row e =
      let parts = begins_parts (ends row) (eqb (kind_in (slots row)) 1) e in
      (parts.0, tied.first row (slots row) (mix row) parts.0 (eqb-true (kind_in (slots row)) 1 parts.1))

  -- two mixes that agree on the slots of a row have the same row there
  pub same_row : (a b : ℕ → List ℕ) (row : ℕ) → IsMix value a → IsMix value b → ((k : ℕ) → row_of k ≡ row → b k ≡ a k) → row_at b row ≡ row_at a row
  same_row a b row mix_a mix_b same = by_kinds (begins a row) (begins b row) refl refl
    where
      by_kinds : (x y : Bool) → begins a row ≡ x → begins b row ≡ y → row_at b row ≡ row_at a row
      by_kinds true y ea eb = let own = begun_tied a mix_a row ea in row_same a b row (λ k there. same k (chain_tied a mix_a row k own.0 own.1 there))
      by_kinds false true ea eb =
          let is : b row ≡ a row = same row (begun_tied b mix_b row eb).1 in
          let clash : true ≡ false = sym eb ∙ (ap (λ (bytes : List ℕ). not (ends row) && eqb (kind_in bytes) 1) is ∙ ea) in
          absurd (cc clash)
      by_kinds false false ea eb = no_row_at b row eb ∙ sym (no_row_at a row ea)

  covers_put : (slots : ℕ → List ℕ) (u : Undo) → IsMix value slots → value u.slot u.old → IsMix value (put slots u.slot u.old)
  covers_put slots u mix is k = by_slot (eqb k u.slot) refl
    where
      by_slot : (b : Bool) → eqb k u.slot ≡ b → value k (put slots u.slot u.old k)
      by_slot true e = subst (value k) (sym (ap (λ (b : Bool). cond b u.old (slots k)) e)) (subst (λ (i : ℕ). value i u.old) (sym (eqb-true k u.slot e)) is)
      by_slot false e = subst (value k) (sym (ap (λ (b : Bool). cond b u.old (slots k)) e)) (mix k)

  pub undone_mix : (writes : List Undo) (slots : ℕ → List ℕ) → IsMix value slots → ((k : ℕ) (bytes : List ℕ) → Covers writes k bytes → value k bytes) → IsMix value (undone writes slots)
  undone_mix [] slots mix covers = mix
  undone_mix (u ∷ later) slots mix covers =
      covers_put (undone later slots) u (undone_mix later slots mix (λ k bytes there. covers k bytes (inr there))) (covers u.slot u.old (inl (refl, refl)))

pub covers_drop : (n : ℕ) (writes : List Undo) (k : ℕ) (bytes : List ℕ) → Covers (drop n writes) k bytes → Covers writes k bytes
covers_drop zero writes k bytes h = h
covers_drop (suc n) [] k bytes h = h
covers_drop (suc n) (u ∷ later) k bytes h = inr (covers_drop n later k bytes h)

pub covers_take : (n : ℕ) (writes : List Undo) (k : ℕ) (bytes : List ℕ) → Covers (take n writes) k bytes → Covers writes k bytes
covers_take zero writes k bytes h = absurd h
covers_take (suc n) [] k bytes h = absurd h
covers_take (suc n) (u ∷ later) k bytes (inl is) = inl is
covers_take (suc n) (u ∷ later) k bytes (inr h) = inr (covers_take n later k bytes h)

-- fewer values are tied too
pub fewer_tied : (old new : SlotState) (row_of : ℕ → ℕ) → ((k : ℕ) (bytes : List ℕ) → IsValue new k bytes → IsValue old k bytes) → IsTied (IsValue old) row_of → IsTied (IsValue new) row_of
fewer_tied old new row_of fewer tied = record {
  first = λ k bytes is. tied.first k bytes (fewer k bytes is);
  next = λ k bytes is. tied.next k bytes (fewer k bytes is);
}

pub back_tied : (old new : SlotState) (row_of : ℕ → ℕ) (client mark : ℕ) → IsTied (IsValue old) row_of → IsReadable old → GoesBack old new client mark → IsTied (IsValue new) row_of
back_tied old new row_of client mark tied readable back = fewer_tied old new row_of fewer tied
  where
    now_mix : IsMix (IsValue old) (undone (drop mark (old.transaction client).undo) old.reads)
    now_mix = undone_mix (IsValue old) row_of tied (drop mark (old.transaction client).undo) old.reads (λ k. inl refl)
        (λ k bytes there. inr (client, covers_drop mark (old.transaction client).undo k bytes there))

    fewer : (k : ℕ) (bytes : List ℕ) → IsValue new k bytes → IsValue old k bytes
    fewer k bytes (inl is) = subst (IsValue old k) (sym (is ∙ ap (λ (f : ℕ → List ℕ). f k) (back.reads readable))) (now_mix k)
    fewer k bytes (inr (c, there)) = elim (cases_eq c client) [
      | inl e ↦ inr (client, covers_take mark (old.transaction client).undo k bytes (subst (λ (us : List Undo). Covers us k bytes) (ap (λ (n : ℕ). (new.transaction n).undo) e ∙ back.transaction.undo) there))
      | inr ne ↦ inr (c, subst (λ (t : Transaction). Covers t.undo k bytes) (back.transaction.others c ne) there)
    ]

-- over a change of slots that point into their own row
module _ (old new : SlotState) (row_of : ℕ → ℕ) (client : ℕ) (written : List ℕ) (tied : IsTied (IsValue old) row_of) (w : Wrote old new client written) (readable : IsReadable old)
    (others : (c : ℕ) → c ≢ client → new.transaction c ≡ old.transaction c) (into : (k : ℕ) → Contains written k → IsInRow row_of k (new.reads k)) where
  was : (k : ℕ) (bytes : List ℕ) → IsValue new k bytes → (bytes ≡ new.reads k) ⊎ IsValue old k bytes
  was k bytes (inl is) = inl is
  was k bytes (inr (c, there)) = elim (cases_eq c client) [
    | inl e ↦
        let own : Covers ((old.transaction client).undo ++ w.more) k bytes = subst (λ (us : List Undo). Covers us k bytes) (ap (λ (n : ℕ). (new.transaction n).undo) e ∙ w.undo) there in
        ⊎_elim (λ (l : Covers (old.transaction client).undo k bytes). inr (inr (client, l))) (λ (r : Covers w.more k bytes). inr (inl (w.covers readable k bytes r))) (covers_append (old.transaction client).undo w.more k bytes own)
    | inr ne ↦ inr (inr (c, subst (λ (t : Transaction). Covers t.undo k bytes) (others c ne) there))
  ]

  stays : (k : ℕ) → ¬ Contains written k → IsValue old k (new.reads k)
  stays k out = inl (w.rest readable k out)

  pub change_tied : IsTied (IsValue new) row_of
  change_tied = record {
    first = λ k bytes is within kind. ⊎_elim
        (λ (here : bytes ≡ new.reads k). elim (cases_eq (row_of k) k) [
          | inl e ↦ e
          | inr ne ↦
              let kind_now : kind_in (new.reads k) ≡ 1 = ap kind_in (sym here) ∙ kind in
              tied.first k (new.reads k) (stays k (λ there. ne ((into k there).0 kind_now))) within kind_now
        ])
        (λ before. tied.first k bytes before within kind)
        (was k bytes is);
    next = λ k bytes is within more. ⊎_elim
        (λ (here : bytes ≡ new.reads k). subst (λ (b : List ℕ). row_of (next_in b) ≡ row_of k) (sym here) (elim (cases_eq (row_of (next_in (new.reads k))) (row_of k)) [
          | inl e ↦ e
          | inr ne ↦
              let more_now : ends (next_in (new.reads k)) ≡ false = ap (λ (b : List ℕ). ends (next_in b)) (sym here) ∙ more in
              tied.next k (new.reads k) (stays k (λ there. ne ((into k there).1 more_now))) within more_now
        ]))
        (λ before. tied.next k bytes before within more)
        (was k bytes is);
  }

-- the values of slots before and after a call
abbrev pub values_of : SlotState → SlotState → ℕ → List ℕ → Type 0
values_of old new k bytes = IsValue old k bytes ⊎ IsValue new k bytes

-- a row that the slots written are not of stays
pub other_stays : (old new : SlotState) (row_of : ℕ → ℕ) (client row : ℕ) (written : List ℕ) → IsTied (IsValue old) row_of → IsTied (IsValue new) row_of → Wrote old new client written → IsReadable old
    → ((k : ℕ) → Contains written k → row_of k ≡ row) → (other : ℕ) → other ≢ row → row_at new.reads other ≡ row_at old.reads other
other_stays old new row_of client row written before after w readable of other ne =
    same_row (values_of old new) row_of all_tied old.reads new.reads other (λ k. inl (inl refl)) (λ k. inr (inl refl)) (λ k is. w.rest readable k (λ there. ne (sym is ∙ of k there)))
  where
    all_tied : IsTied (values_of old new) row_of
    all_tied = record {
      first = λ k bytes is. ⊎_elim (λ l. before.first k bytes l) (λ r. after.first k bytes r) is;
      next = λ k bytes is. ⊎_elim (λ l. before.next k bytes l) (λ r. after.next k bytes r) is;
    }

-- ---- slots that are drawn and freed

given_here : (row_of : ℕ → ℕ) (at row k : ℕ) → k ≡ at → given row_of at row k ≡ row
given_here row_of at row k e = let same : eqb k at ≡ true = grind (arith, nat_tests, e) in ap (λ (b : Bool). cond b row (row_of k)) same

given_other : (row_of : ℕ → ℕ) (at row k : ℕ) → k ≢ at → given row_of at row k ≡ row_of k
given_other row_of at row k ne = let no : eqb k at ≡ false = grind (arith, nat_tests, ne) in ap (λ (b : Bool). cond b row (row_of k)) no

free_ends : (bytes : List ℕ) → kind_in bytes ≡ 0 → ends (next_in bytes) ≡ true
free_ends bytes is = ap (λ (n : ℕ). ends (cond (eqb n 0) 0 (number_at_head 4 (drop 4 bytes)))) is

not_both : (b : Bool) → b ≡ true → b ≡ false → ⊥
not_both true e f = cc f
not_both false e f = cc e

no_one : (n : ℕ) → n ≡ 0 → n ≡ 1 → ⊥
no_one n e f = let clash : 0 ≡ 1 = sym e ∙ f in absurd (omega (arith, clash))

-- a free slot may be given to any row: no slot points to it
pub drawn_tied : (value : ℕ → List ℕ → Type 0) (row_of : ℕ → ℕ) (at row : ℕ) → IsTied value row_of → IsFreeAlone value row_of → row_of at ≡ 0 → IsTied value (given row_of at row)
drawn_tied value row_of at row tied alone none = record {
  first = λ k bytes is within kind. elim (cases_eq k at) [
    | inl e ↦ absurd (no_one (kind_in bytes) (alone k bytes is within (ap row_of e ∙ none)) kind)
    | inr ne ↦ given_other row_of at row k ne ∙ tied.first k bytes is within kind
  ];
  next = λ k bytes is within more. elim (cases_eq k at) [
    | inl e ↦ absurd (not_both (ends (next_in bytes)) (free_ends bytes (alone k bytes is within (ap row_of e ∙ none))) more)
    | inr ne ↦ elim (cases_eq (next_in bytes) at) [
      | inl to ↦
          let zero_row : row_of k ≡ 0 = sym (tied.next k bytes is within more) ∙ (ap row_of to ∙ none) in
          absurd (not_both (ends (next_in bytes)) (free_ends bytes (alone k bytes is within zero_row)) more)
      | inr past ↦ given_other row_of at row (next_in bytes) past ∙ (tied.next k bytes is within more ∙ sym (given_other row_of at row k ne))
    ]
  ];
}

-- a slot that is free and that no slot points to belongs to no row
pub freed_tied : (value : ℕ → List ℕ → Type 0) (row_of : ℕ → ℕ) (at : ℕ) → IsTied value row_of → ((bytes : List ℕ) → value at bytes → kind_in bytes ≡ 0)
    → ((k : ℕ) (bytes : List ℕ) → value k bytes → ends k ≡ false → ends (next_in bytes) ≡ false → next_in bytes ≢ at) → IsTied value (given row_of at 0)
freed_tied value row_of at tied free apart = record {
  first = λ k bytes is within kind. elim (cases_eq k at) [
    | inl e ↦ absurd (no_one (kind_in bytes) (free bytes (subst (λ (n : ℕ). value n bytes) e is)) kind)
    | inr ne ↦ given_other row_of at 0 k ne ∙ tied.first k bytes is within kind
  ];
  next = λ k bytes is within more. elim (cases_eq k at) [
    | inl e ↦ absurd (not_both (ends (next_in bytes)) (free_ends bytes (free bytes (subst (λ (n : ℕ). value n bytes) e is))) more)
    | inr ne ↦ given_other row_of at 0 (next_in bytes) (apart k bytes is within more) ∙ (tied.next k bytes is within more ∙ sym (given_other row_of at 0 k ne))
  ];
}
