-- The length of a row, one fragment more at a time.
use Rattle.std.proofs.Common.{◌≡◌, ◌≢◌, ℕ, zero, suc, ◌+◌, ◌-◌, ◌<◌, Bool, false, true, cond, List, [], ◌∷◌, ◌++◌, length, take, drop, get_or, Some, None, IfSome, refl, ap, subst, arith, length-append}
use Rattle.storage.specs.Slots.{SlotState, IsReadable, Rests}
use Rattle.abl_values.specs.Keys.{AreBytes}
use Rattle.row_fragments.specs.Fragments.{StoredBytes, begins, bytes_from, content_in, ends, next_in, row_at, table_in}
use Rattle.row_fragments.proofs.ChainReads.{ended, fragment_more, none_left}
use Rattle.row_fragments.proofs.Composes.{readable_on}

pub length_none : (most : ℕ) (slots : ℕ → List ℕ) (at : ℕ) → most ≡ 0 → 0 ≡ length (bytes_from most slots at)
length_none most slots at e = let is : [] ≡ bytes_from most slots at = none_left most slots at [] e in ap length is

pub length_ended : (most : ℕ) (slots : ℕ → List ℕ) (at : ℕ) → ends at ≡ true → 0 ≡ length (bytes_from most slots at)
length_ended most slots at e = let is : [] ≡ bytes_from most slots at = ended most slots at [] e in ap length is

pub length_more : (old new : SlotState) (most at : ℕ) (slot : List ℕ) (one more : ℕ) → Rests old new → new.failed ≡ old.failed → most ≢ 0 → ends at ≡ false
    → (IsReadable old → slot ≡ old.reads at) → one ≡ length (content_in slot) → (IsReadable new → more ≡ length (bytes_from (most - 1) new.reads (next_in slot)))
    → IsReadable old → one + more ≡ length (bytes_from most old.reads at)
length_more old new most at slot one more looks failed ne on slot_is one_is more_is readable =
    let rest : List ℕ = bytes_from (most - 1) new.reads (next_in slot) in
    let is : content_in slot ++ rest ≡ bytes_from most old.reads at = fragment_more old new most at slot [] (content_in slot) (content_in slot ++ rest) looks failed ne on slot_is refl (λ r. refl) readable in
    let long = ap length is in
    let parts = length-append (content_in slot) rest in
    let then = more_is (readable_on old new looks.keeps.observable failed readable) in
    omega (arith, long, parts, then, one_is)

-- ---- bytes

pub bytes_all : (xs : List ℕ) → ((k : ℕ) → get_or xs k 0 < 256) → AreBytes xs
bytes_all [] h = tt
bytes_all (x ∷ xs) h = (h 0, bytes_all xs (λ k. h (suc k)))

pub bytes_take : (n : ℕ) (xs : List ℕ) → AreBytes xs → AreBytes (take n xs)
bytes_take zero xs h = tt
bytes_take (suc n) [] h = tt
bytes_take (suc n) (x ∷ xs) h = (h.0, bytes_take n xs h.1)

pub bytes_drop : (n : ℕ) (xs : List ℕ) → AreBytes xs → AreBytes (drop n xs)
bytes_drop zero xs h = h
bytes_drop (suc n) [] h = tt
bytes_drop (suc n) (x ∷ xs) h = bytes_drop n xs h.1

pub bytes_append : (xs ys : List ℕ) → AreBytes xs → AreBytes ys → AreBytes (xs ++ ys)
bytes_append [] ys h k = k
bytes_append (x ∷ xs) ys h k = (h.0, bytes_append xs ys h.1 k)

pub bytes_none : (most : ℕ) (slots : ℕ → List ℕ) (at : ℕ) → most ≡ 0 → AreBytes (bytes_from most slots at)
bytes_none most slots at e = let is : [] ≡ bytes_from most slots at = none_left most slots at [] e in subst AreBytes is tt

pub bytes_ended : (most : ℕ) (slots : ℕ → List ℕ) (at : ℕ) → ends at ≡ true → AreBytes (bytes_from most slots at)
bytes_ended most slots at e = let is : [] ≡ bytes_from most slots at = ended most slots at [] e in subst AreBytes is tt

pub bytes_more : (old new : SlotState) (most at : ℕ) (slot : List ℕ) → Rests old new → new.failed ≡ old.failed → most ≢ 0 → ends at ≡ false
    → (IsReadable old → slot ≡ old.reads at) → AreBytes (content_in slot) → (IsReadable new → AreBytes (bytes_from (most - 1) new.reads (next_in slot)))
    → IsReadable old → AreBytes (bytes_from most old.reads at)
bytes_more old new most at slot looks failed ne on slot_is one more readable =
    let rest : List ℕ = bytes_from (most - 1) new.reads (next_in slot) in
    let is : content_in slot ++ rest ≡ bytes_from most old.reads at = fragment_more old new most at slot [] (content_in slot) (content_in slot ++ rest) looks failed ne on slot_is refl (λ r. refl) readable in
    subst AreBytes is (bytes_append (content_in slot) rest one (more (readable_on old new looks.keeps.observable failed readable)))

pub row_bytes_are : (slots : ℕ → List ℕ) (row : ℕ) → AreBytes (content_in (slots row)) → AreBytes (bytes_from 124 slots (next_in (slots row))) → IfSome (row_at slots row) (λ stored. AreBytes stored.bytes)
row_bytes_are slots row one more = by_begins (begins slots row)
  where
    by_begins : (b : Bool) → IfSome {T = StoredBytes} (cond b (Some (record { table = table_in (slots row); bytes = content_in (slots row) ++ bytes_from 124 slots (next_in (slots row)) })) None) (λ stored. AreBytes stored.bytes)
    by_begins true = bytes_append (content_in (slots row)) (bytes_from 124 slots (next_in (slots row))) one more
    by_begins false = tt
