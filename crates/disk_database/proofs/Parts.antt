-- The parts that slots hold, slot by slot.
use Rattle.std.proofs.Common.{◌≡◌, inl, inr, ℕ, zero, suc, ◌+◌, ◌-◌, ◌*◌, ◌<◌, ◌≤◌, min, List, [], ◌∷◌, ◌++◌, length, get_or, take, drop, ℤ, refl, sym, ap, ◌∙◌, subst, arith, length-append, length-take, length-drop, drop-drop}
use Rattle.std.proofs.Math.Logic.{∥∥₁_elim, ∥∥₁_map, ∥∥₁_prop}
use Rattle.std.proofs.Props.{props}
use Rattle.abl_values.specs.Rows.{fragments_of}
use Rattle.abl_values.specs.Schema.{SchemaData, canonical_text}
use Rattle.database_layout.proofs.FreshLemmas.Counted.{get_counted, length_counted}
use Rattle.indexed_store.specs.State.{Have64Bits-prop}
use Rattle.sequence_slots.proofs.ReadsLemmas.Contents.{length_values_in}
use Rattle.sequence_slots.specs.Values.{Have64Bits, HoldValues, part, slot_bytes, values_in}
use Rattle.sequence_slots.proofs.Reading.{values_read}
use Rattle.database_layout.specs.contents.Chains.{chain_slot}
use Rattle.database_layout.specs.contents.Contents.{text_slots}
use Rattle.database_meaning.specs.declared.contents.Contents.{Contents}
use Rattle.log_meaning.specs.steps.Steps.{Image}
use Rattle.log_meaning.specs.Images.{Recovers}
use Rattle.guarded_slots.specs.Guarded.{AllAllowed}
use Rattle.disk_database.specs.Images.{AllAreOf, AreSlotsOf}
use Rattle.disk_database.specs.Parts.{AllHoldParts, AreValues, HoldParts, HoldsPart, IsUnused, KeptSince, text_chain, values_at}

-- ---- lists

whole_take : (n : ℕ) (values : List ℤ) → Have64Bits values → Have64Bits (take n values)
whole_take zero values whole = tt
whole_take (suc n) [] whole = tt
whole_take (suc n) (v ∷ vs) whole = (whole.0, whole_take n vs whole.1)

whole_drop : (n : ℕ) (values : List ℤ) → Have64Bits values → Have64Bits (drop n values)
whole_drop zero values whole = whole
whole_drop (suc n) [] whole = tt
whole_drop (suc n) (v ∷ vs) whole = whole_drop n vs whole.1

whole_both : (xs ys : List ℤ) → Have64Bits xs → Have64Bits ys → Have64Bits (xs ++ ys)
whole_both [] ys one other = other
whole_both (x ∷ xs) ys one other = (one.0, whole_both xs ys one.1 other)

-- where a front has m items, or all there are
take_seam : (m : ℕ) (xs ys : List ℤ) → length xs ≤ m → (length xs < m → length ys ≡ 0) → take m (xs ++ ys) ≡ xs
take_seam zero [] ys le none = refl
take_seam zero (x ∷ xs) ys le none = absurd (omega (arith, le))
take_seam (suc m) [] [] le none = refl
take_seam (suc m) [] (y ∷ ys) le none = let no = none (omega arith) in absurd (omega (arith, no))
take_seam (suc m) (x ∷ xs) ys le none = ap (λ (l : List ℤ). x ∷ l) (take_seam m xs ys (omega (arith, le)) (λ lt. none (omega (arith, lt))))

drop_seam : (m : ℕ) (xs ys : List ℤ) → length xs ≤ m → (length xs < m → length ys ≡ 0) → drop m (xs ++ ys) ≡ ys
drop_seam zero [] ys le none = refl
drop_seam zero (x ∷ xs) ys le none = absurd (omega (arith, le))
drop_seam (suc m) [] [] le none = refl
drop_seam (suc m) [] (y ∷ ys) le none = let no = none (omega arith) in absurd (omega (arith, no))
drop_seam (suc m) (x ∷ xs) ys le none = drop_seam m xs ys (omega (arith, le)) (λ lt. none (omega (arith, lt)))

later_part : (i : ℕ) (values : List ℤ) → part (suc i) values ≡ part i (drop 30 values)
later_part i values = ap (take 30) (ap (λ (n : ℕ). drop n values) (omega arith) ∙ sym (drop-drop (30 * i) 30 values))

-- ---- sequence values

-- the slots from one on hold these values, thirty in each
record AreLaid (slots : ℕ → List ℕ) (at count n : ℕ) : Type 0 where
  pub values : List ℤ
  pub many : length values ≡ n
  pub whole : Have64Bits values
  pub each : (i : ℕ) → i < count → slots (at + i) ≡ slot_bytes (part i values)

joined : (slots : ℕ → List ℕ) (at count n : ℕ) → AreValues (values_at n 0) (slots (at + 0)) → AreLaid slots (suc at) count (n - 30) → AreLaid slots at (suc count) n
joined slots at count n first rest = record {
  values = first.values ++ rest.values;
  many = omega (arith, length-append first.values rest.values, first_many, rest_many);
  whole = whole_both first.values rest.values first.whole rest.whole;
  each = each;
}
  where
    first_many : length first.values ≡ min n 30
    first_many = first.many ∙ ap (λ (m : ℕ). min m 30) (omega arith)

    rest_many : length rest.values ≡ n - 30
    rest_many = rest.many

    short : length first.values ≤ 30
    short = omega (arith, first_many)

    none : length first.values < 30 → length rest.values ≡ 0
    none lt = omega (arith, first_many, rest_many, lt)

    each : (i : ℕ) → i < suc count → slots (at + i) ≡ slot_bytes (part i (first.values ++ rest.values))
    each zero lt = first.are ∙ ap slot_bytes (sym (take_seam 30 first.values rest.values short none))
    each (suc i) lt =
        ap slots (omega arith) ∙ (rest.each i (omega (arith, lt))
        ∙ ap slot_bytes (sym (later_part i (first.values ++ rest.values) ∙ ap (part i) (drop_seam 30 first.values rest.values short none))))

laid : (count n : ℕ) (slots : ℕ → List ℕ) (at : ℕ) → n ≤ 30 * count → ((i : ℕ) → i < count → ∥ AreValues (values_at n i) (slots (at + i)) ∥₁) → ∥ AreLaid slots at count n ∥₁
laid zero n slots at few each = ∣ record { values = []; many = omega (arith, few); whole = tt; each = λ i lt. absurd (omega (arith, lt)) } ∣₁
laid (suc count) n slots at few each =
    ∥∥₁_elim (each 0 (omega arith)) ∥∥₁_prop (λ (first : AreValues (values_at n 0) (slots (at + 0))).
    ∥∥₁_map (laid count (n - 30) slots (suc at) (omega (arith, few)) later) (λ (rest : AreLaid slots (suc at) count (n - 30)). joined slots at count n first rest))
  where
    later : (i : ℕ) → i < count → ∥ AreValues (values_at (n - 30) i) (slots (suc at + i)) ∥₁
    later i lt =
        let many : values_at n (suc i) ≡ values_at (n - 30) i = ap (λ (m : ℕ). min m 30) (omega arith) in
        let here : slots (at + suc i) ≡ slots (suc at + i) = ap slots (omega arith) in
        subst (λ (m : ℕ). ∥ AreValues m (slots (suc at + i)) ∥₁) many (subst (λ (bytes : List ℕ). ∥ AreValues (values_at n (suc i)) bytes ∥₁) here (each (suc i) (omega (arith, lt))))

pub HoldValues-prop : (slots : ℕ → List ℕ) (values : List ℤ) → IsProp (HoldValues slots values)
HoldValues-prop slots values = hlevel (props, Have64Bits-prop)

values_of_laid : (n : ℕ) (slots : ℕ → List ℕ) → n ≤ 270 → AreLaid slots 5000 9 n → HoldValues slots (values_in n slots)
values_of_laid n slots few are =
    let held : HoldValues slots are.values = record { few = (let many = are.many in omega (arith, many, few)); whole = are.whole; each = are.each } in
    subst (HoldValues slots) (sym (values_read slots are.values held) ∙ ap (λ (m : ℕ). values_in m slots) are.many) held

-- ---- all parts

pub parts_of : (schema : SchemaData) (slots : ℕ → List ℕ) → HoldParts schema slots → (k : ℕ) → HoldsPart schema k (slots k)
parts_of schema slots held k = record {
  text = λ i lt is. ap slots is ∙ held.text.chain.each i lt;
  values = λ i lt is. record {
    values = part i values;
    many = length-take 30 (drop (30 * i) values) ∙ many i;
    whole = whole_take 30 (drop (30 * i) values) (whole_drop (30 * i) values held.values.whole);
    are = ap slots is ∙ held.values.each i lt;
  };
  unused = held.unused k;
}
  where
    values : List ℤ
    values = values_in (length schema.sequences) slots

    many : (i : ℕ) → min 30 (length (drop (30 * i) values)) ≡ values_at (length schema.sequences) i
    many i = let long = length_values_in (length schema.sequences) slots in let left = length-drop (30 * i) values in omega (arith, long, left)

pub hold_parts : (schema : SchemaData) (slots : ℕ → List ℕ) → length (canonical_text schema) ≤ 1048576 → length schema.sequences ≤ 256 → ((k : ℕ) → ∥ HoldsPart schema k (slots k) ∥₁) → HoldParts schema slots
hold_parts schema slots short few all = record {
  text = record {
    short = short;
    chain = record { count = length_counted 1 (fragments_of (length (canonical_text schema))); each = chain };
  };
  values = ∥∥₁_elim (laid 9 (length schema.sequences) slots 5000 (omega (arith, few)) values) (HoldValues-prop slots (values_in (length schema.sequences) slots)) (values_of_laid (length schema.sequences) slots (omega (arith, few)));
  unused = λ k is. ∥∥₁_elim (all k) (hlevel props) (λ (p : HoldsPart schema k (slots k)). p.unused is);
}
  where
    chain : (i : ℕ) → i < length (text_chain schema) → slots (get_or (text_chain schema) i 0) ≡ chain_slot 3 3 0 (text_chain schema) (canonical_text schema) i
    chain i lt = ∥∥₁_elim (all (get_or (text_chain schema) i 0)) (hlevel props) (λ (p : HoldsPart schema (get_or (text_chain schema) i 0) (slots (get_or (text_chain schema) i 0))). p.text i lt refl)

    values : (i : ℕ) → i < 9 → ∥ AreValues (values_at (length schema.sequences) i) (slots (5000 + i)) ∥₁
    values i lt = ∥∥₁_map (all (5000 + i)) (λ (p : HoldsPart schema (5000 + i) (slots (5000 + i))). p.values i lt refl)

-- ---- since an opening

-- what an image of the opening recovered to keeps the parts
pub kept_from : (schema : SchemaData) (images : Image → Type 0) (image : Image) (slots : ℕ → List ℕ) → images image → Recovers image slots → AllAllowed (KeptSince schema images) slots
kept_from schema images image slots there recovers k = ∣ (λ (all : AllHoldParts schema images). parts_of schema slots (all image slots there recovers) k) ∣₁

-- slots that keep the parts hold them, if the images of the opening did
pub kept_hold : (schema : SchemaData) (images : Image → Type 0) (slots : ℕ → List ℕ) → length (canonical_text schema) ≤ 1048576 → length schema.sequences ≤ 256 → AllHoldParts schema images → AllAllowed (KeptSince schema images) slots → HoldParts schema slots
kept_hold schema images slots short few all kept = hold_parts schema slots short few (λ k. ∥∥₁_map (kept k) (λ (part : KeptSince schema images k (slots k)). part all))

-- ---- writes

-- no slot of the text is 5,000 or above
text_below : (schema : SchemaData) (slot i : ℕ) → length (canonical_text schema) ≤ 1048576 → i < length (text_chain schema) → slot ≡ get_or (text_chain schema) i 0 → slot < 5000
text_below schema slot i short lt is =
    let long : length (text_chain schema) ≡ fragments_of (length (canonical_text schema)) = length_counted 1 (fragments_of (length (canonical_text schema))) in
    let within : i < fragments_of (length (canonical_text schema)) = omega (arith, lt, long) in
    let at : slot ≡ 1 + i = is ∙ get_counted 1 (fragments_of (length (canonical_text schema))) i within in
    omega (arith, short, within, at)

-- a slot from 5,000 on is unused only between those for values and those for rows
unused_between : {W : Type 0} (text slot : ℕ) → 5000 ≤ slot → (5008 < slot → slot < 8192 → W) → IsUnused text slot → W
unused_between text slot low between (inl first) = absurd (omega (arith, first, low))
unused_between text slot low between (inr (inl after)) = let below = after.1 in absurd (omega (arith, below, low))
unused_between text slot low between (inr (inr is)) = between is.0 is.1

pub for_rows : (schema : SchemaData) (images : Image → Type 0) (slot : ℕ) (bytes : List ℕ) → length (canonical_text schema) ≤ 1048576 → 8192 ≤ slot → KeptSince schema images slot bytes
for_rows schema images slot bytes short past all = record {
  text = λ i lt is. let below = text_below schema slot i short lt is in absurd (omega (arith, below, past));
  values = λ i lt is. absurd (omega (arith, lt, is, past));
  unused = unused_between (text_slots schema) slot (omega (arith, past)) (λ low high. absurd (omega (arith, high, past)));
}

pub in_values : (schema : SchemaData) (images : Image → Type 0) (slot number : ℕ) (bytes : List ℕ) → length (canonical_text schema) ≤ 1048576 → 5000 ≤ slot → slot < 5009 → number ≡ slot - 5000 → AreValues (values_at (length schema.sequences) number) bytes
    → KeptSince schema images slot bytes
in_values schema images slot number bytes short past within same are all = record {
  text = λ i lt is. let below = text_below schema slot i short lt is in absurd (omega (arith, below, past));
  values = λ i lt is. subst (λ (n : ℕ). AreValues (values_at (length schema.sequences) n) bytes) (omega (arith, same, is)) are;
  unused = unused_between (text_slots schema) slot past (λ low high. absurd (omega (arith, low, within)));
}

-- ---- contents

pub parts_of_contents : (schema : SchemaData) (images : Image → Type 0) (contents : Contents) → AllAreOf schema contents images → AllHoldParts schema images
parts_of_contents schema images contents all image slots there recovers =
    let are : AreSlotsOf schema contents slots = (all image there).each slots recovers in
    record { text = are.text; values = subst (HoldValues slots) are.holds.sequences are.values; unused = are.unused }
