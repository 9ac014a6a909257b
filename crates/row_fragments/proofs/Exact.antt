-- Chains byte for byte: what slots with the fragments of a row are read as.
use Rattle.std.proofs.Common.{◌≡◌, ◌≢◌, ℕ, zero, suc, ◌+◌, ◌*◌, ◌<◌, ◌≤◌, ◌^◌, ◌&&◌, not, Bool, true, false, cond, eqb, eqb-true, List, [], ◌∷◌, length, take, drop, get_or, refl, sym, ap, ◌∙◌, subst, arith}
use Rattle.std.proofs.lemmas.Bool.Decides.{nat_tests}
use Rattle.std.proofs.lemmas.List.{drop-drop, length-take, length-drop}
use Rattle.std.specs.List.{Contains}
use Rattle.abl_values.specs.Rows.{fragments_of}
use Rattle.row_fragments.specs.Chains.{HaveFragments, IsChain, part}
use Rattle.row_fragments.specs.Fragments.{AreRowSlots, BeginsAs, Holds, begins, chain_of, content_in, ends, first_or_zero, fragment_bytes, kind_in, next_in, slots_from, table_in}
use Rattle.row_fragments.specs.Kinds.{HaveKinds}
use Rattle.row_fragments.proofs.Chained.{row_slot_goes}
use Rattle.row_fragments.proofs.Encoded.{content_read, kind_read, next_read, table_read}
use Rattle.row_fragments.proofs.Listing.{last_slot, more_slots, no_slot}
use Rattle.row_fragments.proofs.Within.{head_in, none_in, tail_in}

-- ---- the slots of a chain

slots_same : (n : ℕ) (old new : ℕ → List ℕ) (at : ℕ) → ((k : ℕ) → Contains (slots_from n old at) k → new k ≡ old k) → slots_from n new at ≡ slots_from n old at
slots_same zero old new at same = no_slot new at ∙ sym (no_slot old at)
slots_same (suc n) old new at same =
    by_end (ends at) refl (λ e. slots_same n old new (next_in (old at)) (λ k there. same k (subst (λ (xs : List ℕ). Contains xs k) (sym (more_slots n old at e)) (tail_in at k _ there))))
  where
    by_end : (b : Bool) → ends at ≡ b → (ends at ≡ false → slots_from n new (next_in (old at)) ≡ slots_from n old (next_in (old at))) → slots_from (suc n) new at ≡ slots_from (suc n) old at
    by_end true e rest = last_slot n new at e ∙ sym (last_slot n old at e)
    by_end false e rest =
        let here : new at ≡ old at = same at (subst (λ (xs : List ℕ). Contains xs at) (sym (more_slots n old at e)) (head_in at (slots_from n old (next_in (old at))))) in
        more_slots n new at e ∙ (ap (λ (b : List ℕ). at ∷ slots_from n new (next_in b)) here ∙ (ap (λ (xs : List ℕ). at ∷ xs) (rest e) ∙ sym (more_slots n old at e)))

-- a chain looks at its own slots alone
pub chain_same : (old new : ℕ → List ℕ) (row : ℕ) → ((k : ℕ) → Contains (chain_of old row) k → new k ≡ old k) → chain_of new row ≡ chain_of old row
chain_same old new row same =
    ap (λ (b : List ℕ). row ∷ slots_from 124 new (next_in b)) (same row (head_in row (slots_from 124 old (next_in (old row)))))
    ∙ ap (λ (xs : List ℕ). row ∷ xs) (slots_same 124 old new (next_in (old row)) (λ k there. same k (tail_in row k (slots_from 124 old (next_in (old row))) there)))

from_inside : (n : ℕ) (slots : ℕ → List ℕ) (at k : ℕ) → Contains (slots_from n slots at) k → ends k ≡ false
from_inside zero slots at k there = absurd (none_in k (subst (λ (xs : List ℕ). Contains xs k) (no_slot slots at) there))
from_inside (suc n) slots at k there = by_end (ends at) refl (from_inside n slots (next_in (slots at)) k)
  where
    one : (rest : List ℕ) → ends at ≡ false → (Contains rest k → ends k ≡ false) → Contains (at ∷ rest) k → ends k ≡ false
    one rest e later (zero, low, is) = ap ends (sym is) ∙ e
    one rest e later (suc i, low, is) = later (i, omega arith, is)

    by_end : (b : Bool) → ends at ≡ b → (Contains (slots_from n slots (next_in (slots at))) k → ends k ≡ false) → ends k ≡ false
    by_end true e rest = absurd (none_in k (subst (λ (xs : List ℕ). Contains xs k) (last_slot n slots at e) there))
    by_end false e rest = one (slots_from n slots (next_in (slots at))) e rest (subst (λ (xs : List ℕ). Contains xs k) (more_slots n slots at e) there)

-- each slot of a row's chain is a slot for rows
pub chain_inside : (slots : ℕ → List ℕ) (row k : ℕ) → ends row ≡ false → Contains (chain_of slots row) k → ends k ≡ false
chain_inside slots row k e (zero, low, is) = ap ends (sym is) ∙ e
chain_inside slots row k e (suc i, low, is) = from_inside 124 slots (next_in (slots row)) k (i, omega arith, is)

pub begun_parts : (x y : Bool) → (not x && y) ≡ true → (x ≡ false) × (y ≡ true)
begun_parts true y e = absurd (cc e)
begun_parts false y e = (refl, e)

-- a row begins in a slot for rows of kind 1
pub begun_inside : (slots : ℕ → List ℕ) (row : ℕ) → begins slots row ≡ true → (ends row ≡ false) × (kind_in (slots row) ≡ 1)
begun_inside slots row e = let parts = begun_parts (ends row) (eqb (kind_in (slots row)) 1) e in (parts.0, eqb-true (kind_in (slots row)) 1 parts.1)

-- ---- fragments are read back

pub fragment_kinds : (slots : ℕ → List ℕ) (xs : List ℕ) (kind total table : ℕ) (bytes : List ℕ) → HaveFragments slots xs kind total table bytes → HaveKinds slots xs kind
fragment_kinds slots [] kind total table bytes h = tt
fragment_kinds slots (at ∷ rest) kind total table bytes h = (ap kind_in h.0, fragment_kinds slots rest 2 0 0 (drop 240 bytes) h.1)

first_below : (xs : List ℕ) → AreRowSlots xs → first_or_zero xs < 2 ^ 32
first_below [] rows = omega arith
first_below (x ∷ xs) rows = let lt = rows.1 in omega (arith, lt)

pub fragment_holds : (slots : ℕ → List ℕ) (xs : List ℕ) (kind total table : ℕ) (bytes : List ℕ) → 0 < kind → AreRowSlots xs → HaveFragments slots xs kind total table bytes → Holds slots xs bytes
fragment_holds slots [] kind total table bytes some rows h = h
fragment_holds slots (at ∷ rest) kind total table bytes some rows h = (
  ap content_in h.0 ∙ content_read kind (first_or_zero rest) total table (take 240 bytes) (omega (arith, length-take 240 bytes)),
  ap next_in h.0 ∙ next_read kind (first_or_zero rest) total table (take 240 bytes) some (first_below rest rows.2),
  fragment_holds slots rest 2 0 0 (drop 240 bytes) (omega arith) rows.2 h.1,
)

pub fragment_begins : (slots : ℕ → List ℕ) (xs : List ℕ) (kind total table : ℕ) (bytes : List ℕ) → table < 65536 → HaveFragments slots xs kind total table bytes → BeginsAs slots xs kind table
fragment_begins slots [] kind total table bytes lt h = tt
fragment_begins slots (at ∷ rest) kind total table bytes lt h =
    (ap kind_in h.0 ∙ kind_read kind (first_or_zero rest) total table (take 240 bytes), ap table_in h.0 ∙ table_read kind (first_or_zero rest) total table (take 240 bytes) lt)

chain_listed : (slots : ℕ → List ℕ) (xs bytes : List ℕ) (n : ℕ) → AreRowSlots xs → Holds slots xs bytes → length xs ≤ n → slots_from n slots (first_or_zero xs) ≡ xs
chain_listed slots [] bytes zero rows h le = no_slot slots 0
chain_listed slots [] bytes (suc n) rows h le = last_slot n slots 0 refl
chain_listed slots (at ∷ rest) bytes zero rows h le = absurd (omega arith)
chain_listed slots (at ∷ rest) bytes (suc n) rows h le =
    more_slots n slots at (row_slot_goes at rows.0 rows.1)
    ∙ (ap (λ (k : ℕ). at ∷ slots_from n slots k) h.1 ∙ ap (λ (xs : List ℕ). at ∷ xs) (chain_listed slots rest (drop 240 bytes) n rows.2 h.2 (omega arith)))

-- the chain of the row that was written
pub chain_written : (slots : ℕ → List ℕ) (xs bytes : List ℕ) → AreRowSlots xs → Holds slots xs bytes → 0 < length xs → length xs ≤ 125 → chain_of slots (first_or_zero xs) ≡ xs
chain_written slots [] bytes rows h some few = absurd (omega arith)
chain_written slots (at ∷ rest) bytes rows h some few =
    ap (λ (k : ℕ). at ∷ slots_from 124 slots k) h.1 ∙ ap (λ (xs : List ℕ). at ∷ xs) (chain_listed slots rest (drop 240 bytes) 124 rows.2 h.2 (omega arith))

-- ---- by numbers

-- the fragment with this number
abbrev fragment_at : ℕ → ℕ → ℕ → List ℕ → List ℕ → ℕ → List ℕ
fragment_at kind total table xs bytes i = fragment_bytes (cond (eqb i 0) kind 2) (get_or xs (i + 1) 0) (cond (eqb i 0) total 0) (cond (eqb i 0) table 0) (part i bytes)

first_got : (xs : List ℕ) → get_or xs 0 0 ≡ first_or_zero xs
first_got [] = refl
first_got (x ∷ xs) = refl

either_way : (b : Bool) (n : ℕ) → cond b n n ≡ n
either_way true n = refl
either_way false n = refl

not_first : (i : ℕ) → eqb (suc i) 0 ≡ false
not_first i = grind (arith, nat_tests)

got_after : (at : ℕ) (rest : List ℕ) (i : ℕ) → get_or (at ∷ rest) (suc i + 1) 0 ≡ get_or rest (i + 1) 0
got_after at rest i = let e : suc i + 1 ≡ suc (i + 1) = omega arith in ap (λ (n : ℕ). get_or (at ∷ rest) n 0) e

part_after : (i : ℕ) (bytes : List ℕ) → part (suc i) bytes ≡ part i (drop 240 bytes)
part_after i bytes = ap (take 240) (sym (drop-drop (240 * i) 240 bytes ∙ ap (λ (n : ℕ). drop n bytes) (omega arith)))

-- a fragment after the first is one of those after it
after_first : (kind total table at : ℕ) (rest bytes : List ℕ) (i : ℕ) → fragment_at kind total table (at ∷ rest) bytes (suc i) ≡ fragment_at 2 0 0 rest (drop 240 bytes) i
after_first kind total table at rest bytes i =
    ap (λ (b : Bool). fragment_bytes (cond b kind 2) (get_or (at ∷ rest) (suc i + 1) 0) (cond b total 0) (cond b table 0) (part (suc i) bytes)) (not_first i)
    ∙ (ap (λ (n : ℕ). fragment_bytes 2 n 0 0 (part (suc i) bytes)) (got_after at rest i)
    ∙ (ap (λ (xs : List ℕ). fragment_bytes 2 (get_or rest (i + 1) 0) 0 0 xs) (part_after i bytes)
    ∙ (ap (λ (n : ℕ). fragment_bytes n (get_or rest (i + 1) 0) 0 0 (part i (drop 240 bytes))) (sym (either_way (eqb i 0) 2))
    ∙ (ap (λ (n : ℕ). fragment_bytes (cond (eqb i 0) 2 2) (get_or rest (i + 1) 0) n 0 (part i (drop 240 bytes))) (sym (either_way (eqb i 0) 0))
    ∙ ap (λ (n : ℕ). fragment_bytes (cond (eqb i 0) 2 2) (get_or rest (i + 1) 0) (cond (eqb i 0) 0 0) n (part i (drop 240 bytes))) (sym (either_way (eqb i 0) 0))))))

numbered : (slots : ℕ → List ℕ) (xs : List ℕ) (kind total table : ℕ) (bytes : List ℕ) → HaveFragments slots xs kind total table bytes → (i : ℕ) → i < length xs → slots (get_or xs i 0) ≡ fragment_at kind total table xs bytes i
numbered slots [] kind total table bytes h i lt = absurd (omega arith)
numbered slots (at ∷ rest) kind total table bytes h zero lt = h.0 ∙ ap (λ (n : ℕ). fragment_bytes kind n total table (take 240 bytes)) (sym (first_got rest))
numbered slots (at ∷ rest) kind total table bytes h (suc i) lt = numbered slots rest 2 0 0 (drop 240 bytes) h.1 i (omega arith) ∙ sym (after_first kind total table at rest bytes i)

-- the fragments of a row in the least number of slots are a chain
pub fragments_chain : (slots : ℕ → List ℕ) (xs : List ℕ) (table : ℕ) (bytes : List ℕ) → HaveFragments slots xs 1 (length bytes) table bytes → length xs ≡ fragments_of (length bytes) → IsChain slots 1 2 table xs bytes
fragments_chain slots xs table bytes h many = record { count = many; each = numbered slots xs 1 (length bytes) table bytes h }

none_of : (bytes : List ℕ) → length bytes ≤ 0 → bytes ≡ []
none_of [] le = refl
none_of (b ∷ bytes) le = absurd (omega arith)

counted_off : (slots : ℕ → List ℕ) (xs : List ℕ) (kind total table : ℕ) (bytes : List ℕ) → length bytes ≤ 240 * length xs → ((i : ℕ) → i < length xs → slots (get_or xs i 0) ≡ fragment_at kind total table xs bytes i) → HaveFragments slots xs kind total table bytes
counted_off slots [] kind total table bytes le each = none_of bytes (omega (arith, le))
counted_off slots (at ∷ rest) kind total table bytes le each = (
  each 0 (omega arith) ∙ ap (λ (n : ℕ). fragment_bytes kind n total table (take 240 bytes)) (first_got rest),
  counted_off slots rest 2 0 0 (drop 240 bytes) (omega (arith, le, length-drop 240 bytes)) (λ i lt. each (suc i) (omega arith) ∙ after_first kind total table at rest bytes i),
)

-- the slots of a chain have its fragments
pub chain_fragments : (slots : ℕ → List ℕ) (xs : List ℕ) (table : ℕ) (bytes : List ℕ) → IsChain slots 1 2 table xs bytes → HaveFragments slots xs 1 (length bytes) table bytes
chain_fragments slots xs table bytes h = counted_off slots xs 1 (length bytes) table bytes (let many = h.count in omega (arith, many)) h.each

-- no slot of a chain is free
some_kind : (xs : List ℕ) (slots : ℕ → List ℕ) (kind k : ℕ) → 0 < kind → HaveKinds slots xs kind → Contains xs k → kind_in (slots k) ≢ 0
some_kind [] slots kind k some h there = absurd (none_in k there)
some_kind (at ∷ rest) slots kind k some h (zero, low, is) = λ none. let here = h.0 in let same = ap (λ (n : ℕ). kind_in (slots n)) is in omega (arith, here, same, none, some)
some_kind (at ∷ rest) slots kind k some h (suc i, low, is) = some_kind rest slots 2 k (omega arith) h.1 (i, omega arith, is)

pub chain_used : (slots : ℕ → List ℕ) (xs : List ℕ) (table : ℕ) (bytes : List ℕ) → IsChain slots 1 2 table xs bytes → (k : ℕ) → Contains xs k → kind_in (slots k) ≢ 0
chain_used slots xs table bytes h k there = some_kind xs slots 1 k (omega arith) (fragment_kinds slots xs 1 (length bytes) table bytes (chain_fragments slots xs table bytes h)) there
