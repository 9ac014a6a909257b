-- Where the byte at a place is, by the offsets at which lines begin.
use Rattle.std.proofs.Common.{◌≡◌, ℕ, zero, suc, ◌+◌, ◌-◌, ◌<◌, ◌≤◌, ◌⊎◌, inl, inr, ⊎_elim, Bool, true, false, ◌&&◌, ◌==◌, if◌then◌else◌, List, [], ◌∷◌, ◌++◌, length, slice_get, Some, None, refl, ap, sym, subst, ◌∙◌, arith, append_assoc}
use Rattle.std.proofs.lemmas.Bool.{eq-eqb, eqb-true, eqb-false, ne_eqb}
use Rattle.std.specs.Prelude.{unwrap_or}
use Rattle.abl_base.specs.declared.place.Place.{Place}
use Rattle.preprocessor.specs.Places.{later_starts, line_starts, moved, offset_from, offset_of, same_place, start}

-- ---- one byte

other_line : (p place : Place) → (p.line ≡ place.line → ⊥) → same_place p place ≡ false
other_line p place h = ap (λ t. t && p.column == place.column) (ne_eqb p.line place.line h)

and_false : (t : Bool) → (t && false) ≡ false
and_false true = refl
and_false false = refl

other_column : (p place : Place) → (p.column ≡ place.column → ⊥) → same_place p place ≡ false
other_column p place h = ap (λ t. p.line == place.line && t) (ne_eqb p.column place.column h) ∙ and_false (p.line == place.line)

goes_on : (p place : Place) (b : ℕ) (bs : List ℕ) → same_place p place ≡ false → offset_from p (b ∷ bs) place ≡ 1 + offset_from (moved p b) bs place
goes_on p place b bs e = ap (λ t. if t then 0 else 1 + offset_from (moved p b) bs place) e

is_here : (p place : Place) (b : ℕ) (bs : List ℕ) → same_place p place ≡ true → offset_from p (b ∷ bs) place ≡ 0
is_here p place b bs e = ap (λ t. if t then 0 else 1 + offset_from (moved p b) bs place) e

down : (p : Place) (b : ℕ) → (b == 10) ≡ true → ((moved p b).line ≡ p.line + 1) × ((moved p b).column ≡ 1)
down p b e =
    let next : Bool → Place = λ t. if t then record { line = p.line + 1; column = 1 } else record { line = p.line; column = p.column + 1 } in
    (ap (λ t. (next t).line) e, ap (λ t. (next t).column) e)

along : (p : Place) (b : ℕ) → (b == 10) ≡ false → ((moved p b).line ≡ p.line) × ((moved p b).column ≡ p.column + 1)
along p b e =
    let next : Bool → Place = λ t. if t then record { line = p.line + 1; column = 1 } else record { line = p.line; column = p.column + 1 } in
    (ap (λ t. (next t).line) e, ap (λ t. (next t).column) e)

not_up : (p : Place) (b : ℕ) (t : Bool) → (b == 10) ≡ t → (p.line ≤ (moved p b).line) × (0 < (moved p b).column)
not_up p b true e = let q = down p b e in (omega (arith, q.0), omega (arith, q.1))
not_up p b false e = let q = along p b e in (omega (arith, q.0), omega (arith, q.1))

starts_down : (n b : ℕ) (bs : List ℕ) → (b == 10) ≡ true → later_starts n (b ∷ bs) ≡ (n + 1) ∷ later_starts (n + 1) bs
starts_down n b bs e = ap (λ t. if t then (n + 1) ∷ later_starts (n + 1) bs else later_starts (n + 1) bs) e

starts_along : (n b : ℕ) (bs : List ℕ) → (b == 10) ≡ false → later_starts n (b ∷ bs) ≡ later_starts (n + 1) bs
starts_along n b bs e = ap (λ t. if t then (n + 1) ∷ later_starts (n + 1) bs else later_starts (n + 1) bs) e

-- ---- places that are not there

-- the line is behind
pub gone : (p place : Place) (bs : List ℕ) → place.line < p.line → offset_from p bs place ≡ length bs
gone p place [] h = refl
gone p place (b ∷ bs) h =
    let more = not_up p b (b == 10) refl in
    let rest = gone (moved p b) place bs (omega (arith, h, more.0)) in
    let first = goes_on p place b bs (other_line p place (λ e. omega (arith, e, h))) in
    omega (arith, rest, first)

-- no column has the number 0
pub no_column : (p place : Place) (bs : List ℕ) → place.column ≡ 0 → 0 < p.column → offset_from p bs place ≡ length bs
no_column p place [] z h = refl
no_column p place (b ∷ bs) z h =
    let more = not_up p b (b == 10) refl in
    let rest = no_column (moved p b) place bs z more.1 in
    let first = goes_on p place b bs (other_column p place (λ e. omega (arith, e, z, h))) in
    omega (arith, rest, first)

-- ---- the offset by the lines' starts

-- r is the offset of this column of the k-th of the lines that begin at these offsets, or the length of the text
abbrev pub IsSpot : ℕ → List ℕ → ℕ → ℕ → ℕ → Type 0
IsSpot total [] k c r = r ≡ total
IsSpot total (s ∷ ss) zero c r = ((unwrap_or (slice_get ss 0) total < s + c) × (r ≡ total)) ⊎ ((s + c ≤ unwrap_or (slice_get ss 0) total) × (r + 1 ≡ s + c))
IsSpot total (s ∷ ss) (suc k) c r = IsSpot total ss k c r

-- the column is not behind in the line that is read
abbrev IsAhead : ℕ → ℕ → ℕ → Type 0
IsAhead zero c column = c ≤ column
IsAhead (suc k) c column = Unit {0}

ahead : (k c column : ℕ) → c ≤ column → IsAhead k c column
ahead zero c column h = h
ahead (suc k) c column h = tt

next_by : (n total b : ℕ) (bs : List ℕ) (t : Bool) → (b == 10) ≡ t → n + 1 ≤ unwrap_or (slice_get (later_starts (n + 1) bs) 0) total → n + 1 ≤ unwrap_or (slice_get (later_starts n (b ∷ bs)) 0) total
next_by n total b bs true q h =
    let s = ap (λ (xs : List ℕ). unwrap_or (slice_get xs 0) total) (starts_down n b bs q) in
    omega (arith, s)
next_by n total b bs false q h =
    let s = ap (λ (xs : List ℕ). unwrap_or (slice_get xs 0) total) (starts_along n b bs q) in
    omega (arith, s, h)

next_start : (n total : ℕ) (bs : List ℕ) → n + length bs ≡ total → n ≤ unwrap_or (slice_get (later_starts n bs) 0) total
next_start n total [] e = omega (arith, e)
next_start n total (b ∷ bs) e =
    let r = next_by n total b bs (b == 10) refl (next_start (n + 1) total bs (omega (arith, e))) in
    omega (arith, r)

-- a line ends after each of its bytes
next_after : (n total b : ℕ) (bs : List ℕ) → n + length (b ∷ bs) ≡ total → n + 1 ≤ unwrap_or (slice_get (later_starts n (b ∷ bs)) 0) total
next_after n total b bs e = next_by n total b bs (b == 10) refl (next_start (n + 1) total bs (omega (arith, e)))

-- What is looked for in these bytes is where the starts say: they begin at the offset n and the place p, in a line that began at s,
-- and k lines up the one of the place that is looked for.
abbrev Spots : ℕ → Place → List ℕ → Type 0
Spots total place bs = (n k s : ℕ) (p : Place) → n + length bs ≡ total → s + p.column ≡ n + 1 → 0 < p.column → p.line + k ≡ place.line → IsAhead k p.column place.column → IsSpot total (s ∷ later_starts n bs) k place.column (n + offset_from p bs place)

at_end : (total n k s : ℕ) (p place : Place) → n + 0 ≡ total → s + p.column ≡ n + 1 → IsAhead k p.column place.column → IsSpot total (s ∷ []) k place.column (n + 0)
at_end total n zero s p place e q a = inl (omega (arith, e, q, a), e)
at_end total n (suc k) s p place e q a = e

moved_spot : (total n k s : ℕ) (p place : Place) (b : ℕ) (bs xs : List ℕ) → same_place p place ≡ false → xs ≡ later_starts n (b ∷ bs) → IsSpot total (s ∷ xs) k place.column (n + 1 + offset_from (moved p b) bs place) → IsSpot total (s ∷ later_starts n (b ∷ bs)) k place.column (n + offset_from p (b ∷ bs) place)
moved_spot total n k s p place b bs xs f e h =
    let first = goes_on p place b bs f in
    let r : n + 1 + offset_from (moved p b) bs place ≡ n + offset_from p (b ∷ bs) place = omega (arith, first) in
    let there = subst (λ (i : ℕ). IsSpot total (s ∷ xs) k place.column i) r h in
    subst (λ (ys : List ℕ). IsSpot total (s ∷ ys) k place.column (n + offset_from p (b ∷ bs) place)) e there

same_line : (total n s : ℕ) (p place : Place) (b : ℕ) (bs : List ℕ) (t w : Bool) → (p.column == place.column) ≡ t → (b == 10) ≡ w → Spots total place bs → n + length (b ∷ bs) ≡ total → s + p.column ≡ n + 1 → p.line + 0 ≡ place.line → p.column ≤ place.column → IsSpot total (s ∷ later_starts n (b ∷ bs)) zero place.column (n + offset_from p (b ∷ bs) place)
same_line total n s p place b bs true w et ew ih e q l a =
    let c : p.column ≡ place.column = eqb-true p.column place.column et in
    let hit : same_place p place ≡ true = ap (λ t. t && p.column == place.column) (eq-eqb p.line place.line (omega (arith, l))) ∙ et in
    let r = is_here p place b bs hit in
    let x = next_after n total b bs e in
    inr (omega (arith, c, q, x), omega (arith, c, q, r))
same_line total n s p place b bs false true et ew ih e q l a =
    let ne = eqb-false p.column place.column et in
    let m = down p b ew in
    let first = goes_on p place b bs (other_column p place ne) in
    let rest = gone (moved p b) place bs (omega (arith, m.0, l)) in
    let x = ap (λ (xs : List ℕ). unwrap_or (slice_get xs 0) total) (starts_down n b bs ew) in
    let lt : p.column < place.column = omega (arith, a, ne) in
    inl (omega (arith, x, q, lt), omega (arith, first, rest, e))
same_line total n s p place b bs false false et ew ih e q l a =
    let ne = eqb-false p.column place.column et in
    let m = along p b ew in
    let lt : p.column < place.column = omega (arith, a, ne) in
    let r = ih (n + 1) zero s (moved p b) (omega (arith, e)) (omega (arith, q, m.1)) (omega (arith, m.1)) (omega (arith, l, m.0)) (omega (arith, m.1, lt)) in
    moved_spot total n zero s p place b bs (later_starts (n + 1) bs) (other_column p place ne) (sym (starts_along n b bs ew)) r

line_above : (total n k s : ℕ) (p place : Place) (b : ℕ) (bs : List ℕ) (w : Bool) → (b == 10) ≡ w → 0 < place.column → Spots total place bs → n + length (b ∷ bs) ≡ total → s + p.column ≡ n + 1 → p.line + suc k ≡ place.line → IsSpot total (s ∷ later_starts n (b ∷ bs)) (suc k) place.column (n + offset_from p (b ∷ bs) place)
line_above total n k s p place b bs true ew u ih e q l =
    let m = down p b ew in
    let r = ih (n + 1) k (n + 1) (moved p b) (omega (arith, e)) (omega (arith, m.1)) (omega (arith, m.1)) (omega (arith, l, m.0)) (ahead k (moved p b).column place.column (omega (arith, m.1, u))) in
    moved_spot total n (suc k) s p place b bs ((n + 1) ∷ later_starts (n + 1) bs) (other_line p place (λ h. omega (arith, h, l))) (sym (starts_down n b bs ew)) r
line_above total n k s p place b bs false ew u ih e q l =
    let m = along p b ew in
    let r = ih (n + 1) (suc k) s (moved p b) (omega (arith, e)) (omega (arith, q, m.1)) (omega (arith, m.1)) (omega (arith, l, m.0)) tt in
    moved_spot total n (suc k) s p place b bs (later_starts (n + 1) bs) (other_line p place (λ h. omega (arith, h, l))) (sym (starts_along n b bs ew)) r

one_byte : (total n k s : ℕ) (p place : Place) (b : ℕ) (bs : List ℕ) → 0 < place.column → Spots total place bs → n + length (b ∷ bs) ≡ total → s + p.column ≡ n + 1 → p.line + k ≡ place.line → IsAhead k p.column place.column → IsSpot total (s ∷ later_starts n (b ∷ bs)) k place.column (n + offset_from p (b ∷ bs) place)
one_byte total n zero s p place b bs u ih e q l a = same_line total n s p place b bs (p.column == place.column) (b == 10) refl refl ih e q l a
one_byte total n (suc k) s p place b bs u ih e q l a = line_above total n k s p place b bs (b == 10) refl u ih e q l

spots : (total : ℕ) (place : Place) → 0 < place.column → (bs : List ℕ) → Spots total place bs
spots total place u [] = λ n k s p e q o l a. at_end total n k s p place e q a
spots total place u (b ∷ bs) = λ n k s p e q o l a. one_byte total n k s p place b bs u (spots total place u bs) e q l a

spot : (bytes : List ℕ) (place : Place) → 0 < place.line → 0 < place.column → IsSpot (length bytes) (line_starts bytes) (place.line - 1) place.column (offset_of bytes place)
spot bytes place l c =
    let r = spots (length bytes) place c bytes 0 (place.line - 1) 0 start (omega arith) (omega arith) (omega arith) (omega (arith, l)) (ahead (place.line - 1) 1 place.column (omega (arith, c))) in
    let e : 0 + offset_of bytes place ≡ offset_of bytes place = omega arith in
    subst (λ (i : ℕ). IsSpot (length bytes) (line_starts bytes) (place.line - 1) place.column i) e r

-- ---- as the code looks it up

line_there : (total : ℕ) (ls : List ℕ) (k c r s : ℕ) → IsSpot total ls k c r → slice_get ls k ≡ Some s → ((unwrap_or (slice_get ls (suc k)) total < s + c) × (r ≡ total)) ⊎ ((s + c ≤ unwrap_or (slice_get ls (suc k)) total) × (r + 1 ≡ s + c))
line_there total [] k c r s h e = cc
line_there total (x ∷ xs) zero c r s h e =
    let q : x ≡ s = cc in
    subst (λ (i : ℕ). ((unwrap_or (slice_get xs 0) total < i + c) × (r ≡ total)) ⊎ ((i + c ≤ unwrap_or (slice_get xs 0) total) × (r + 1 ≡ i + c))) q h
line_there total (x ∷ xs) (suc k) c r s h e = line_there total xs k c r s h e

line_missing : (total : ℕ) (ls : List ℕ) (k c r : ℕ) → IsSpot total ls k c r → slice_get ls k ≡ None → r ≡ total
line_missing total [] k c r h e = h
line_missing total (x ∷ xs) zero c r h e = cc
line_missing total (x ∷ xs) (suc k) c r h e = line_missing total xs k c r h e

pub no_line : (bytes starts : List ℕ) (place : Place) → starts ≡ line_starts bytes → 0 < place.line → 0 < place.column → slice_get starts (place.line - 1) ≡ None → length bytes ≡ offset_of bytes place
no_line bytes starts place e l c g =
    let there = sym (ap (λ (xs : List ℕ). slice_get xs (place.line - 1)) e) ∙ g in
    sym (line_missing (length bytes) (line_starts bytes) (place.line - 1) place.column (offset_of bytes place) (spot bytes place l c) there)

pub in_the_line : (bytes starts : List ℕ) (place : Place) (s r : ℕ) → starts ≡ line_starts bytes → 0 < place.line → 0 < place.column → slice_get starts (place.line - 1) ≡ Some s → (s + place.column ≤ unwrap_or (slice_get starts place.line) (length bytes) → r + 1 ≡ s + place.column) → (unwrap_or (slice_get starts place.line) (length bytes) < s + place.column → r ≡ length bytes) → r ≡ offset_of bytes place
in_the_line bytes starts place s r e l c g there past =
    let n : suc (place.line - 1) ≡ place.line = omega (arith, l) in
    let at = sym (ap (λ (xs : List ℕ). slice_get xs (place.line - 1)) e) ∙ g in
    let end : unwrap_or (slice_get (line_starts bytes) (suc (place.line - 1))) (length bytes) ≡ unwrap_or (slice_get starts place.line) (length bytes) = ap (λ (i : ℕ). unwrap_or (slice_get (line_starts bytes) i) (length bytes)) n ∙ ap (λ (xs : List ℕ). unwrap_or (slice_get xs place.line) (length bytes)) (sym e) in
    ⊎_elim (λ h. let q = past (omega (arith, end, h.0)) in omega (arith, q, h.1)) (λ h. let q = there (omega (arith, end, h.0)) in omega (arith, q, h.1)) (line_there (length bytes) (line_starts bytes) (place.line - 1) place.column (offset_of bytes place) s (spot bytes place l c) at)

-- ---- how the code makes the starts

pub one_start : (all starts new : List ℕ) (n b : ℕ) (rest tail : List ℕ) → starts ++ later_starts n rest ≡ all → rest ≡ b ∷ tail → (b == 10) ≡ true → new ≡ starts ++ (n + 1) ∷ [] → new ++ later_starts (n + 1) tail ≡ all
one_start all starts new n b rest tail h e q p =
    ap (λ (xs : List ℕ). xs ++ later_starts (n + 1) tail) p
    ∙ append_assoc starts ((n + 1) ∷ []) (later_starts (n + 1) tail)
    ∙ ap (λ (xs : List ℕ). starts ++ xs) (sym (starts_down n b tail q))
    ∙ ap (λ (xs : List ℕ). starts ++ later_starts n xs) (sym e)
    ∙ h

pub no_start : (all starts : List ℕ) (n b : ℕ) (rest tail : List ℕ) → starts ++ later_starts n rest ≡ all → rest ≡ b ∷ tail → (b == 10) ≡ false → starts ++ later_starts (n + 1) tail ≡ all
no_start all starts n b rest tail h e q =
    ap (λ (xs : List ℕ). starts ++ xs) (sym (starts_along n b tail q))
    ∙ ap (λ (xs : List ℕ). starts ++ later_starts n xs) (sym e)
    ∙ h
