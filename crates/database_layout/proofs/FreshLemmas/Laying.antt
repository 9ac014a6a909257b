-- One slot more is written, and what all of them are together.
use Rattle.std.proofs.Common.{◌≡◌, ◌≢◌, inl, inr, ⊎_elim, ℕ, ◌+◌, ◌<◌, ◌≤◌, ◌^◌, true, false, List, [], ◌∷◌, ◌++◌, length, ℤ, refl, sym, ◌∙◌, ap, subst, arith}
use Rattle.std.proofs.lemmas.Bool.{cases_eq, cases_lt, ne_eqb, or_from, or_parts, ltb-false, true≢false}
use Rattle.std.proofs.lemmas.List.{length-map}
use Rattle.storage.specs.declared.slots.Undo.{Undo}
use Rattle.storage.specs.Slots.{put, wrote}
use Rattle.abl_values.specs.declared.schema.SequenceDef.{SequenceDef}
use Rattle.abl_values.specs.Rows.{fragments_of}
use Rattle.abl_values.specs.Schema.{SchemaData, canonical_text}
use Rattle.log_meaning.proofs.Undone.{put-here, put-other, undone-at, undone-not, undone-last, wrote-append}
use Rattle.row_fragments.specs.Fragments.{ends}
use Rattle.sequence_slots.specs.Values.{slot_bytes, part, Have64Bits, HoldValues}
use Rattle.database_layout.specs.contents.Chains.{chain_slot, counted}
use Rattle.database_layout.specs.contents.Contents.{zeros, AreNew, initial_values}
use Rattle.database_layout.specs.fresh.Laying.{laid, LayText, Lay}
use Rattle.database_layout.proofs.FreshLemmas.Counted.{length_counted, get_counted}

-- ---- one write more, of a slot that was not written

module _ (us : List Undo) (slot : ℕ) (bytes : List ℕ) where
  pub laid_here : (k : ℕ) → k ≡ slot → wrote us k ≡ false → laid (us ++ record { slot = slot; old = bytes } ∷ []) k ≡ bytes
  laid_here k here none =
      undone-last us (record { slot = slot; old = bytes }) (λ s. zeros) k
      ∙ undone-not us (put (λ s. zeros) slot bytes) k none
      ∙ put-here (λ s. zeros) slot k bytes here

  pub laid_other : (k : ℕ) → k ≢ slot → laid (us ++ record { slot = slot; old = bytes } ∷ []) k ≡ laid us k
  laid_other k other =
      undone-last us (record { slot = slot; old = bytes }) (λ s. zeros) k
      ∙ undone-at us (put (λ s. zeros) slot bytes) (λ s. zeros) k (put-other (λ s. zeros) slot k bytes other)

  pub not_wrote : (k : ℕ) → k ≢ slot → wrote us k ≡ false → wrote (us ++ record { slot = slot; old = bytes } ∷ []) k ≡ false
  not_wrote k other none = wrote-append us (record { slot = slot; old = bytes }) k ∙ or_from _ _ none (ne_eqb k slot other)

-- ---- the slots of a text

pub no_text : (text : List ℕ) (count : ℕ) → LayText text count 0 []
no_text text count = record { parts = λ j lt. absurd (omega (arith, lt)); nothing = λ slot where_it_is. refl }

pub text_more : (text : List ℕ) (count i : ℕ) (us : List Undo) (bytes : List ℕ) → bytes ≡ chain_slot 3 3 0 (counted 1 count) text i → LayText text count i us → LayText text count (i + 1) (us ++ record { slot = i + 1; old = bytes } ∷ [])
text_more text count i us bytes is lay = record {
  parts = λ j lt. elim (cases_eq j i) [
    | inl here ↦ laid_here us (i + 1) bytes (j + 1) (ap (λ (n : ℕ). n + 1) here) (lay.nothing (j + 1) (inr (omega (arith, here)))) ∙ is ∙ ap (chain_slot 3 3 0 (counted 1 count) text) (sym here)
    | inr other ↦ laid_other us (i + 1) bytes (j + 1) (λ e. other (omega (arith, e))) ∙ lay.parts j (⊎_elim (λ (l : j < i). l) (λ (m : i ≤ j). absurd (other (omega (arith, m, lt)))) (cases_lt j i))
  ];
  nothing = λ slot w. ⊎_elim
      (λ (none : slot ≡ 0). not_wrote us (i + 1) bytes slot (λ e. omega (arith, e, none)) (lay.nothing slot (inl none)))
      (λ (past : i + 1 < slot). not_wrote us (i + 1) bytes slot (λ e. omega (arith, e, past)) (lay.nothing slot (inr (omega (arith, past)))))
      w;
}

-- ---- the slots of values

pub no_values : (text : List ℕ) (count : ℕ) (values : List ℤ) (us : List Undo) → count < 5000 → LayText text count count us → Lay text count values 0 us
no_values text count values us few lay = record {
  parts = lay.parts;
  values_are = λ j lt. absurd (omega (arith, lt));
  first = lay.nothing 0 (inl refl);
  between = λ slot past low. lay.nothing slot (inr past);
  after = λ slot past. lay.nothing slot (inr (omega (arith, past, few)));
}

pub values_more : (text : List ℕ) (count : ℕ) (values : List ℤ) (i : ℕ) (us : List Undo) (bytes : List ℕ) → count < 5000 → bytes ≡ slot_bytes (part i values) → Lay text count values i us → Lay text count values (i + 1) (us ++ record { slot = 5000 + i; old = bytes } ∷ [])
values_more text count values i us bytes few is lay = record {
  parts = λ j lt. laid_other us (5000 + i) bytes (j + 1) (λ e. omega (arith, e, lt, few)) ∙ lay.parts j lt;
  values_are = λ j lt. elim (cases_eq j i) [
    | inl here ↦ laid_here us (5000 + i) bytes (5000 + j) (ap (λ (n : ℕ). 5000 + n) here) (lay.after (5000 + j) (omega (arith, here))) ∙ is ∙ ap (λ (n : ℕ). slot_bytes (part n values)) (sym here)
    | inr other ↦ laid_other us (5000 + i) bytes (5000 + j) (λ e. other (omega (arith, e))) ∙ lay.values_are j (⊎_elim (λ (l : j < i). l) (λ (m : i ≤ j). absurd (other (omega (arith, m, lt)))) (cases_lt j i))
  ];
  first = not_wrote us (5000 + i) bytes 0 (λ e. omega (arith, e)) lay.first;
  between = λ slot past low. not_wrote us (5000 + i) bytes slot (λ e. omega (arith, e, low)) (lay.between slot past low);
  after = λ slot past. not_wrote us (5000 + i) bytes slot (λ e. omega (arith, e, past)) (lay.after slot (omega (arith, past)));
}

-- ---- all of them

-- no slot past those of values is written
pub written_low : (text : List ℕ) (count : ℕ) (values : List ℤ) (us : List Undo) → Lay text count values 9 us → (slot : ℕ) → wrote us slot ≡ true → slot < 2 ^ 20
written_low text count values us lay slot is = ⊎_elim
    (λ (lt : slot < 5009). omega (arith, lt))
    (λ (past : 5009 ≤ slot). absurd (true≢false (sym is ∙ lay.after slot (omega (arith, past)))))
    (cases_lt slot 5009)

pub laid_are_new : (schema : SchemaData) (us : List Undo) (values : List ℤ) → fragments_of (length (canonical_text schema)) ≤ 4370 → length schema.sequences ≤ 256 → values ≡ initial_values schema → Have64Bits values
    → Lay (canonical_text schema) (fragments_of (length (canonical_text schema))) values 9 us → AreNew schema (laid us)
laid_are_new schema us values low few are whole lay =
    let text = canonical_text schema in
    let count = fragments_of (length text) in
    record {
      text = record {
        few = omega (arith, low);
        text = record {
          count = length_counted 1 count;
          each = λ i lt.
              let within : i < count = omega (arith, lt, length_counted 1 count) in
              ap (laid us) (get_counted 1 count i within ∙ swap i) ∙ lay.parts i within;
        };
        rest = λ slot past below. undone-not us (λ s. zeros) slot (lay.between slot past below);
      };
      values = subst (λ (vs : List ℤ). HoldValues (laid us) vs) are (record {
        few = (let long = ap (length {A = ℤ}) are in omega (arith, long, length-map schema.sequences (λ (q : SequenceDef). q.initial), few));
        whole = whole;
        each = λ i lt. lay.values_are i lt;
      });
      unused = record {
        zero = undone-not us (λ s. zeros) 0 lay.first;
        between = λ slot past below. undone-not us (λ s. zeros) slot (lay.after slot (omega (arith, past)));
      };
      free = λ slot e. undone-not us (λ s. zeros) slot (lay.after slot (let row = rows slot e in omega (arith, row)));
    }
  where
    swap : (i : ℕ) → 1 + i ≡ i + 1
    swap i = omega arith

    rows : (slot : ℕ) → ends slot ≡ false → 8192 ≤ slot
    rows slot e = ltb-false slot 8192 ((or_parts _ _ e).0)

-- a text of at most 2^20 bytes takes few slots
pub few_slots : (bytes : ℕ) → bytes ≤ 1048576 → fragments_of bytes ≤ 4370
few_slots bytes few = omega (arith, few)
