-- Whether slots are a chain of a row's bytes: one fragment more at a time.
use Rattle.std.proofs.Common.{◌≡◌, ◌≢◌, ⊎_elim, ℕ, zero, suc, ◌+◌, ◌-◌, ◌*◌, ◌<◌, ◌≤◌, ◌^◌, min, Bool, true, false, eqb, eqb-true, List, [], ◌∷◌, ◌++◌, length, take, drop, replicate, Some, Result, Err, IsErrOf, refl, sym, ap, ◌∙◌, subst, arith, append_assoc, length-append}
use Rattle.std.proofs.Math.Seq.{drop-append_seam, take-append_seam}
use Rattle.std.proofs.lemmas.Bool.Decides.{nat_tests}
use Rattle.std.proofs.lemmas.Bool.{cases_lt}
use Rattle.std.proofs.lemmas.List.{append-nil, drop_all, length-drop, length-take, take_all}
use Rattle.std.specs.List.{Contains}
use Rattle.abl_values.specs.Rows.{fragments_of}
use Rattle.storage.specs.Slots.{SlotState, IsReadable, IsStop, Rests}
use Rattle.storage.specs.declared.slots.SlotFault.{SlotFault}
use Rattle.storage.specs.declared.slots.SlotFault.TheVariants.{Disk}
use Rattle.row_fragments.specs.Calls.{Looked}
use Rattle.row_fragments.specs.Chains.{AreParts, HaveFragments, IsBroken, IsChain, IsWhole}
use Rattle.row_fragments.specs.Fragments.{AreRowSlots, Holds, StoredBytes, begins, chain_of, ends, first_or_zero, fragment_bytes, next_in, row_at, slots_from, table_in, total_in}
use Rattle.row_fragments.proofs.Chained.{row_slot_goes, row_there, row_written}
use Rattle.row_fragments.proofs.Composes.{looked_as, looked_both, readable_on}
use Rattle.row_fragments.proofs.Encoded.{body_read, next_read, total_read}
use Rattle.row_fragments.proofs.Exact.{begun_inside, chain_fragments, chain_inside, chain_written, fragment_begins, fragment_holds, fragments_chain}
use Rattle.row_fragments.proofs.Keeping.{row_of_some, same_stored}
use Rattle.row_fragments.proofs.Listing.{last_slot, more_slots, no_slot}
use Rattle.row_fragments.proofs.Within.{head_in, tail_in}

pub not_both : (b : Bool) → b ≡ true → b ≡ false → ⊥
not_both true e f = cc
not_both false e f = cc

-- ---- no byte is left

pub nothing_left : (slots : ℕ → List ℕ) (at left : ℕ) (items : List ℕ) → left ≡ 0 → eqb at 0 ≡ true → (parts : List ℕ) × (items ≡ items ++ parts) × AreParts slots at left parts
nothing_left slots at left items none e = (
  [],
  sym (append-nil items),
  record { bytes = []; many = sym none; least = omega (arith, none); inside = tt; first = sym (eqb-true at 0 e); fragments = refl },
)

pub more_there : (slots : ℕ → List ℕ) (at left : ℕ) (parts : List ℕ) → left ≡ 0 → eqb at 0 ≡ false → ¬ AreParts slots at left parts
more_there slots at left [] none e h = let is : eqb at 0 ≡ true = let same = h.first in grind (arith, nat_tests, same) in not_both (eqb at 0) is e
more_there slots at left (x ∷ xs) none e h = let least = h.least in absurd (omega (arith, least, none))

-- ---- the chain ends

pub ended_early : (slots : ℕ → List ℕ) (at left : ℕ) (parts : List ℕ) → left ≢ 0 → ends at ≡ true → ¬ AreParts slots at left parts
ended_early slots at left [] some e h = some (sym h.many ∙ ap length h.fragments)
ended_early slots at left (x ∷ xs) some e h = not_both (ends at) e (ap ends (sym h.first) ∙ row_slot_goes x h.inside.0 h.inside.1)

-- ---- one fragment more

-- the number of bytes in the first part
first_part : (bytes : List ℕ) (left many : ℕ) → length bytes ≡ left → many ≡ min left 240 → length (take 240 bytes) ≡ many
first_part bytes left many long is = omega (arith, long, is, length-take 240 bytes)

below_row : (xs : List ℕ) → AreRowSlots xs → first_or_zero xs < 2 ^ 32
below_row [] rows = omega arith
below_row (x ∷ xs) rows = let lt = rows.1 in omega (arith, lt)

-- a slot with a fragment has the fragment that its own parts give
module _ (slot : List ℕ) (kind total table many : ℕ) (rest bytes : List ℕ) (some : 0 < kind) (rows : AreRowSlots rest) (long : length (take 240 bytes) ≡ many) (here : slot ≡ fragment_bytes kind (first_or_zero rest) total table (take 240 bytes)) where
  pub next_is : next_in slot ≡ first_or_zero rest
  next_is = ap next_in here ∙ next_read kind (first_or_zero rest) total table (take 240 bytes) some (below_row rest rows)

  body_is : take many (drop 16 slot) ≡ take 240 bytes
  body_is =
      ap (λ (xs : List ℕ). take many (drop 16 xs)) here
      ∙ (ap (take many) (body_read kind (first_or_zero rest) total table (take 240 bytes))
      ∙ (ap (λ (n : ℕ). take n (take 240 bytes ++ replicate (240 - length (take 240 bytes)) 0)) (sym long) ∙ take-append_seam (take 240 bytes) (replicate (240 - length (take 240 bytes)) 0)))

  pub by_parts : slot ≡ fragment_bytes kind (next_in slot) total table (take many (drop 16 slot))
  by_parts = here ∙ (ap (λ (n : ℕ). fragment_bytes kind n total table (take 240 bytes)) (sym next_is) ∙ ap (λ (xs : List ℕ). fragment_bytes kind (next_in slot) total table xs) (sym body_is))

pub other_fragment : (slots : ℕ → List ℕ) (at left many : ℕ) (slot parts : List ℕ) → left ≢ 0 → many ≡ min left 240 → slot ≡ slots at → ¬ (slot ≡ fragment_bytes 2 (next_in slot) 0 0 (take many (drop 16 slot))) → ¬ AreParts slots at left parts
other_fragment slots at left many slot [] some is slot_is not h = some (sym h.many ∙ ap length h.fragments)
other_fragment slots at left many slot (x ∷ xs) some is slot_is not h =
    not (by_parts slot 2 0 0 many xs h.bytes (omega arith) h.inside.2 (first_part h.bytes left many h.many is) (slot_is ∙ (ap slots (sym h.first) ∙ h.fragments.0)))

-- the fragments after the first
pub parts_after : (slots : ℕ → List ℕ) (at left many : ℕ) (slot parts : List ℕ) → left ≢ 0 → many ≡ min left 240 → slot ≡ slots at → AreParts slots at left parts → (rest : List ℕ) × AreParts slots (next_in slot) (left - many) rest
parts_after slots at left many slot [] some is slot_is h = absurd (some (sym h.many ∙ ap length h.fragments))
parts_after slots at left many slot (x ∷ xs) some is slot_is h = (
  xs,
  record {
    bytes = drop 240 h.bytes;
    many = let long = h.many in omega (arith, long, is, length-drop 240 h.bytes);
    least = let least = h.least in omega (arith, least, is);
    inside = h.inside.2;
    first = sym (next_is slot 2 0 0 many xs h.bytes (omega arith) h.inside.2 (first_part h.bytes left many h.many is) (slot_is ∙ (ap slots (sym h.first) ∙ h.fragments.0)));
    fragments = h.fragments.1;
  },
)

-- a part before others is the first part of all
module _ (one later : List ℕ) (left many : ℕ) (is : many ≡ min left 240) (long : length one ≡ many) (rest_long : length later ≡ left - many) where
  none_later : many < 240 → later ≡ []
  none_later lt = empty later (omega (arith, is, lt, rest_long))
    where
      empty : (xs : List ℕ) → length xs ≡ 0 → xs ≡ []
      empty [] e = refl
      empty (x ∷ xs) e = absurd (omega (arith, e))

  front_is : take 240 (one ++ later) ≡ one
  front_is = ⊎_elim
      (λ (lt : many < 240). ap (λ (xs : List ℕ). take 240 (one ++ xs)) (none_later lt) ∙ (ap (take 240) (append-nil one) ∙ take_all 240 one (omega (arith, long, lt))))
      (λ (le : 240 ≤ many). let full : length one ≡ 240 = omega (arith, le, is, long) in ap (λ (n : ℕ). take n (one ++ later)) (sym full) ∙ take-append_seam one later)
      (cases_lt many 240)

  back_is : drop 240 (one ++ later) ≡ later
  back_is = ⊎_elim
      (λ (lt : many < 240).
      ap (λ (xs : List ℕ). drop 240 (one ++ xs)) (none_later lt) ∙ (ap (drop 240) (append-nil one) ∙ (drop_all 240 one (omega (arith, long, lt)) ∙ sym (none_later lt))))
      (λ (le : 240 ≤ many). let full : length one ≡ 240 = omega (arith, le, is, long) in ap (λ (n : ℕ). drop n (one ++ later)) (sym full) ∙ drop-append_seam one later)
      (cases_lt many 240)

-- a slot with a fragment before those of the rest
module _ (slots : ℕ → List ℕ) (at left many kind total table : ℕ) (slot rest : List ℕ) (is : many ≡ min left 240) (slot_is : slot ≡ slots at) (wide : length slot ≡ 256)
    (whole : slot ≡ fragment_bytes kind (next_in slot) total table (take many (drop 16 slot))) (h : AreParts slots (next_in slot) (left - many) rest) where
  abbrev with_rest : List ℕ
  with_rest = take many (drop 16 slot) ++ h.bytes

  one_long : length (take many (drop 16 slot)) ≡ many
  one_long = omega (arith, is, wide, length-take many (drop 16 slot), length-drop 16 slot)

  pub both_long : length with_rest ≡ left
  both_long = let more = h.many in omega (arith, is, more, one_long, length-append (take many (drop 16 slot)) h.bytes)

  pub both_fragments : HaveFragments slots (at ∷ rest) kind total table with_rest
  both_fragments = (
    sym slot_is ∙ (whole ∙ (ap (λ (n : ℕ). fragment_bytes kind n total table (take many (drop 16 slot))) (sym h.first)
        ∙ ap (λ (xs : List ℕ). fragment_bytes kind (first_or_zero rest) total table xs) (sym (front_is (take many (drop 16 slot)) h.bytes left many is one_long h.many)))),
    subst (HaveFragments slots rest 2 0 0) (sym (back_is (take many (drop 16 slot)) h.bytes left many is one_long h.many)) h.fragments,
  )

low_bound : (at : ℕ) → ends at ≡ false → 8192 ≤ at
low_bound at e = grind (arith, nat_tests)

high_bound : (at : ℕ) → ends at ≡ false → at < 1048576
high_bound at e = grind (arith, nat_tests)

pub one_more : (slots : ℕ → List ℕ) (at left many : ℕ) (slot rest : List ℕ) → left ≢ 0 → ends at ≡ false → many ≡ min left 240 → slot ≡ slots at → length slot ≡ 256 → slot ≡ fragment_bytes 2 (next_in slot) 0 0 (take many (drop 16 slot))
    → AreParts slots (next_in slot) (left - many) rest → AreParts slots at left (at ∷ rest)
one_more slots at left many slot rest some e is slot_is wide whole h = record {
  bytes = take many (drop 16 slot) ++ h.bytes;
  many = both_long slots at left many 2 0 0 slot rest is slot_is wide whole h;
  least = let least = h.least in omega (arith, least, is, some);
  inside = (low_bound at e, high_bound at e, h.inside);
  first = refl;
  fragments = both_fragments slots at left many 2 0 0 slot rest is slot_is wide whole h;
}

-- ---- a row

-- fragments hold no more bytes than they have room for
bytes_within : (slots : ℕ → List ℕ) (xs : List ℕ) (kind total table : ℕ) (bytes : List ℕ) → HaveFragments slots xs kind total table bytes → length bytes ≤ 240 * length xs
bytes_within slots [] kind total table bytes h = let none = ap length h in omega (arith, none)
bytes_within slots (at ∷ rest) kind total table bytes h = let more = bytes_within slots rest 2 0 0 (drop 240 bytes) h.1 in omega (arith, more, length-drop 240 bytes)

pub whole_row : (slots : ℕ → List ℕ) (row long many table : ℕ) (slot rest : List ℕ) → ends row ≡ false → long ≤ 30000 → table < 65536 → many ≡ min long 240 → slot ≡ slots row → length slot ≡ 256
    → slot ≡ fragment_bytes 1 (next_in slot) long table (take many (drop 16 slot)) → AreParts slots (next_in slot) (long - many) rest → IsWhole slots row (row ∷ rest)
whole_row slots row long many table slot rest e few fits is slot_is wide whole h = record {
  stored = record { table = table; bytes = bytes };
  is_read = row_written slots (row ∷ rest) bytes table (omega arith) short rows holds (fragment_begins slots (row ∷ rest) 1 long table bytes fits have);
  listed = sym (chain_written slots (row ∷ rest) bytes rows holds (omega arith) short);
  held = fragments_chain slots (row ∷ rest) table bytes (subst (λ (n : ℕ). HaveFragments slots (row ∷ rest) 1 n table bytes) (sym all) have) (omega (arith, all, within, least, is, few));
}
  where
    bytes : List ℕ
    bytes = take many (drop 16 slot) ++ h.bytes

    all : length bytes ≡ long
    all = both_long slots row long many 1 long table slot rest is slot_is wide whole h

    have : HaveFragments slots (row ∷ rest) 1 long table bytes
    have = both_fragments slots row long many 1 long table slot rest is slot_is wide whole h

    within : length bytes ≤ 240 * length (row ∷ rest)
    within = bytes_within slots (row ∷ rest) 1 long table bytes have

    least : 240 * length rest < (long - many) + 240
    least = h.least

    short : length (row ∷ rest) ≤ 125
    short = omega (arith, least, is, few)

    rows : AreRowSlots (row ∷ rest)
    rows = (low_bound row e, high_bound row e, h.inside)

    holds : Holds slots (row ∷ rest) bytes
    holds = fragment_holds slots (row ∷ rest) 1 long table bytes (omega arith) rows have

pub rows_of : (xs : List ℕ) → ((k : ℕ) → Contains xs k → ends k ≡ false) → AreRowSlots xs
rows_of [] inside = tt
rows_of (x ∷ xs) inside = let e = inside x (head_in x xs) in (low_bound x e, high_bound x e, rows_of xs (λ k there. inside k (tail_in x k xs there)))

listed_few : (n : ℕ) (slots : ℕ → List ℕ) (at : ℕ) → length (slots_from n slots at) ≤ n
listed_few zero slots at = let none = ap length (no_slot slots at) in omega (arith, none)
listed_few (suc n) slots at = by_end (ends at) refl (listed_few n slots (next_in (slots at)))
  where
    by_end : (b : Bool) → ends at ≡ b → length (slots_from n slots (next_in (slots at))) ≤ n → length (slots_from (suc n) slots at) ≤ suc n
    by_end true e le = let none = ap length (last_slot n slots at e) in omega (arith, none)
    by_end false e le = let more = ap length (more_slots n slots at e) in omega (arith, more, le)

-- what the first slot of a chain says, and the parts after it
module _ (slots : ℕ → List ℕ) (row : ℕ) (slot : List ℕ) (e : ends row ≡ false) (slot_is : slot ≡ slots row) (stored : StoredBytes) (is_read : row_at slots row ≡ Some stored)
    (held : IsChain slots 1 2 stored.table (chain_of slots row) stored.bytes) where
  abbrev rest : List ℕ
  rest = slots_from 124 slots (next_in (slots row))

  begun : begins slots row ≡ true
  begun = row_of_some (begins slots row) _ stored is_read

  table_is : table_in slot ≡ stored.table
  table_is = ap table_in slot_is ∙ ap (λ (x : StoredBytes). x.table) (same_stored _ stored (sym (row_there slots row begun) ∙ is_read))

  have : HaveFragments slots (row ∷ rest) 1 (length stored.bytes) stored.table stored.bytes
  have = chain_fragments slots (chain_of slots row) stored.table stored.bytes held

  many_slots : suc (length rest) ≡ fragments_of (length stored.bytes)
  many_slots = held.count

  rest_rows : AreRowSlots rest
  rest_rows = (rows_of (chain_of slots row) (λ k there. chain_inside slots row k e there)).2

  pub row_short : length stored.bytes ≤ 30000
  row_short = let few = listed_few 124 slots (next_in (slots row)) in let le = bytes_within slots (row ∷ rest) 1 (length stored.bytes) stored.table stored.bytes have in omega (arith, few, le)

  pub total_is : total_in slot ≡ length stored.bytes
  total_is = ap total_in (slot_is ∙ have.0) ∙ total_read 1 (first_or_zero rest) (length stored.bytes) stored.table (take 240 stored.bytes) (let le = row_short in omega (arith, le))

  first_long : (many : ℕ) → many ≡ min (total_in slot) 240 → length (take 240 stored.bytes) ≡ many
  first_long many is = first_part stored.bytes (total_in slot) many (sym total_is) is

  first_here : slot ≡ fragment_bytes 1 (first_or_zero rest) (total_in slot) (table_in slot) (take 240 stored.bytes)
  first_here =
      slot_is ∙ (have.0 ∙ (ap (λ (n : ℕ). fragment_bytes 1 (first_or_zero rest) n stored.table (take 240 stored.bytes)) (sym total_is)
      ∙ ap (λ (n : ℕ). fragment_bytes 1 (first_or_zero rest) (total_in slot) n (take 240 stored.bytes)) (sym table_is)))

  pub first_whole : (many : ℕ) → many ≡ min (total_in slot) 240 → slot ≡ fragment_bytes 1 (next_in slot) (total_in slot) (table_in slot) (take many (drop 16 slot))
  first_whole many is = by_parts slot 1 (total_in slot) (table_in slot) many rest stored.bytes (omega arith) rest_rows (first_long many is) first_here

  pub rest_parts : (many : ℕ) → many ≡ min (total_in slot) 240 → AreParts slots (next_in slot) (total_in slot - many) rest
  rest_parts many is = record {
    bytes = drop 240 stored.bytes;
    many = omega (arith, is, total_is, length-drop 240 stored.bytes);
    least = omega (arith, is, total_is, many_slots);
    inside = rest_rows;
    first = sym (next_is slot 1 (total_in slot) (table_in slot) many rest stored.bytes (omega arith) rest_rows (first_long many is) first_here);
    fragments = have.1;
  }

-- no row begins outside the slots for rows
pub none_outside : (slots : ℕ → List ℕ) (row : ℕ) → ends row ≡ true → IsBroken slots row
none_outside slots row e stored is_read held = not_both (ends row) e (begun_inside slots row (row_of_some (begins slots row) _ stored is_read)).0

-- ---- after a read

module _ (old new : SlotState) (at left many next : ℕ) (slot : List ℕ) (looks : Rests old new) (failed : new.failed ≡ old.failed) (some : left ≢ 0) (more : ends at ≡ false) (is : many ≡ min left 240) (slot_is : IsReadable old → slot ≡ old.reads at)
    (next_is : next ≡ next_in slot) where
  on : IsReadable old → IsReadable new
  on readable = readable_on old new looks.keeps.observable failed readable

  there : IsReadable old → (rest : List ℕ) → AreParts new.reads next (left - many) rest → AreParts old.reads (next_in slot) (left - many) rest
  there readable rest h = subst (λ (f : ℕ → List ℕ). AreParts f (next_in slot) (left - many) rest) (looks.reads readable) (subst (λ (n : ℕ). AreParts new.reads n (left - many) rest) next_is h)

  back : IsReadable old → (rest : List ℕ) → AreParts old.reads (next_in slot) (left - many) rest → AreParts new.reads next (left - many) rest
  back readable rest h = subst (λ (f : ℕ → List ℕ). AreParts f next (left - many) rest) (sym (looks.reads readable)) (subst (λ (n : ℕ). AreParts old.reads n (left - many) rest) (sym next_is) h)

  pub listed_more : (before between after : List ℕ) → between ≡ before ++ at ∷ [] → length slot ≡ 256 → slot ≡ fragment_bytes 2 (next_in slot) 0 0 (take many (drop 16 slot))
      → (IsReadable new → (rest : List ℕ) × (after ≡ between ++ rest) × AreParts new.reads next (left - many) rest) → IsReadable old → (parts : List ℕ) × (after ≡ before ++ parts) × AreParts old.reads at left parts
  listed_more before between after between_is wide whole found readable =
      let got = found (on readable) in (
        at ∷ got.0,
        got.1 ∙ (ap (λ (xs : List ℕ). xs ++ got.0) between_is ∙ append_assoc before (at ∷ []) got.0),
        one_more old.reads at left many slot got.0 some more is (slot_is readable) wide whole (there readable got.0 got.2),
      )

  pub not_listed : (IsReadable new → (rest : List ℕ) → ¬ AreParts new.reads next (left - many) rest) → IsReadable old → (parts : List ℕ) → ¬ AreParts old.reads at left parts
  not_listed never readable parts h =
      let after = parts_after old.reads at left many slot parts some is (slot_is readable) h in
      never (on readable) after.0 (back readable after.0 after.1)

module _ (old new : SlotState) (row long table many next : ℕ) (slot : List ℕ) (looks : Rests old new) (failed : new.failed ≡ old.failed) (e : ends row ≡ false) (slot_is : IsReadable old → slot ≡ old.reads row)
    (long_is : long ≡ total_in slot) (table_is : table ≡ table_in slot) (is : many ≡ min long 240) (next_is : next ≡ next_in slot) where
  is_total : many ≡ min (total_in slot) 240
  is_total = is ∙ ap (λ (n : ℕ). min n 240) long_is

  now : IsReadable old → IsReadable new
  now readable = readable_on old new looks.keeps.observable failed readable

  pub found_whole : (pushed listed : List ℕ) → pushed ≡ [] ++ row ∷ [] → length slot ≡ 256 → long ≤ 30000 → table < 65536 → slot ≡ fragment_bytes 1 (next_in slot) long table (take many (drop 16 slot))
      → (IsReadable new → (rest : List ℕ) × (listed ≡ pushed ++ rest) × AreParts new.reads next (long - many) rest) → IsReadable old → IsWhole old.reads row listed
  found_whole pushed listed pushed_is wide few fits whole found readable =
      let got = found (now readable) in
      let parts : AreParts old.reads (next_in slot) (long - many) got.0 =
      subst (λ (f : ℕ → List ℕ). AreParts f (next_in slot) (long - many) got.0) (looks.reads readable) (subst (λ (n : ℕ). AreParts new.reads n (long - many) got.0) next_is got.2) in
      subst (IsWhole old.reads row) (sym (got.1 ∙ ap (λ (xs : List ℕ). xs ++ got.0) pushed_is)) (whole_row old.reads row long many table slot got.0 e few fits is (slot_is readable) wide whole parts)

  pub found_broken : (IsReadable new → (rest : List ℕ) → ¬ AreParts new.reads next (long - many) rest) → IsReadable old → IsBroken old.reads row
  found_broken never readable stored is_read held =
      let rest : List ℕ = slots_from 124 old.reads (next_in (old.reads row)) in
      let parts = rest_parts old.reads row slot e (slot_is readable) stored is_read held many is_total in
      never (now readable) rest
      (subst (λ (f : ℕ → List ℕ). AreParts f next (long - many) rest) (sym (looks.reads readable))
      (subst (λ (n : ℕ). AreParts old.reads n (long - many) rest) (sym next_is) (subst (λ (n : ℕ). AreParts old.reads (next_in slot) (n - many) rest) (sym long_is) parts)))

  pub other_first : ¬ (slot ≡ fragment_bytes 1 (next_in slot) long table (take many (drop 16 slot))) → IsReadable old → IsBroken old.reads row
  other_first not readable stored is_read held =
      not (first_whole old.reads row slot e (slot_is readable) stored is_read held many is_total
      ∙ (ap (λ (n : ℕ). fragment_bytes 1 (next_in slot) n (table_in slot) (take many (drop 16 slot))) (sym long_is) ∙ ap (λ (n : ℕ). fragment_bytes 1 (next_in slot) long n (take many (drop 16 slot))) (sym table_is)))

pub too_long : (slots : ℕ → List ℕ) (row long : ℕ) (slot : List ℕ) → ends row ≡ false → slot ≡ slots row → long ≡ total_in slot → 30000 < long → IsBroken slots row
too_long slots row long slot e slot_is long_is lt stored is_read held =
    let le = row_short slots row slot e slot_is stored is_read held in
    let same = total_is slots row slot e slot_is stored is_read held in
    absurd (omega (arith, le, same, lt, long_is))

-- ---- two calls that look

err_as : {T U : Type 0} (f : SlotFault) → IsErrOf {T = T} {E = SlotFault} (Err f) Disk → IsErrOf {T = U} {E = SlotFault} (Err f) Disk
err_as f e = cc e

pub looked_err : {T U V : Type 0} (a b c : SlotState) (at_a at_b at_c : ℕ → (ℕ → List ℕ) → Type 0) (r : Result T SlotFault) (f : SlotFault) → (IsErrOf r Disk → ⊥) → ((m : ℕ) (slots : ℕ → List ℕ) → at_c m slots → IsStop c m)
    → Looked a b at_a at_b r → Looked {T = U} b c at_b at_c (Err f) → Looked {T = V} a c at_a at_c (Err f)
looked_err a b c at_a at_b at_c r f fine stop one two = looked_as a c at_a at_c (Err f) (Err f) (err_as f) (err_as f) (looked_both a b c at_a at_b at_c r (Err f) fine stop one two)
