-- The marks of the changes in a log.
use Rattle.std.proofs.Common.{◌≡◌, ◌≢◌, ℕ, zero, suc, ◌<◌, ◌≤◌, min, Bool, true, false, cond, eqb, List, [], ◌∷◌, ◌++◌, length, slice_index_or, take, refl, ap, ◌∙◌, arith}
use Rattle.std.proofs.lemmas.Bool.Decides.{nat_tests}
use Rattle.row_store.specs.declared.store.RowChange.{RowChange}
use Rattle.slot_rows.specs.declared.log.Undone.{Undone}
use Rattle.slot_rows.specs.Stored.{AreMarks, changes_of, mark_or}
use Rattle.slot_rows.proofs.Histories.{IsLowered}

pub marks_le : (low high : ℕ) (log : List Undone) → AreMarks low log high → low ≤ high
marks_le low high [] h = h
marks_le low high (u ∷ later) h = let one = h.0 in let two = marks_le u.mark high later h.1 in omega (arith, one, two)

pub mark_bound : (low high : ℕ) (log : List Undone) → AreMarks low log high → (n : ℕ) → mark_or log n high ≤ high
mark_bound low high [] h n = omega arith
mark_bound low high (u ∷ later) h zero = marks_le u.mark high later h.1
mark_bound low high (u ∷ later) h (suc n) = mark_bound u.mark high later h.1 n

pub mark_low : (low high : ℕ) (log : List Undone) → AreMarks low log high → (n : ℕ) → low ≤ mark_or log n high
mark_low low high [] h n = h
mark_low low high (u ∷ later) h zero = h.0
mark_low low high (u ∷ later) h (suc n) = let one = h.0 in let two = mark_low u.mark high later h.1 n in omega (arith, one, two)

pub marks_taken : (low high : ℕ) (log : List Undone) → AreMarks low log high → (n : ℕ) → AreMarks low (take n log) (mark_or log n high)
marks_taken low high log h zero = mark_low low high log h zero
marks_taken low high [] h (suc n) = h
marks_taken low high (u ∷ later) h (suc n) = (h.0, marks_taken u.mark high later h.1 n)

pub mark_taken : (i n high : ℕ) (log : List Undone) → mark_or (take n log) i (mark_or log n high) ≡ mark_or log (min i n) high
mark_taken i zero high log = let e : 0 ≡ min i 0 = omega arith in ap (λ (m : ℕ). mark_or log m high) e
mark_taken i (suc n) high [] = refl
mark_taken zero (suc n) high (u ∷ later) = let e : 0 ≡ min 0 (suc n) = omega arith in ap (λ (m : ℕ). mark_or (u ∷ later) m high) e
mark_taken (suc i) (suc n) high (u ∷ later) = let e : suc (min i n) ≡ min (suc i) (suc n) = omega arith in mark_taken i n high later ∙ ap (λ (m : ℕ). mark_or (u ∷ later) m high) e

-- past the last change all writes come before
pub mark_past : (log : List Undone) (n high : ℕ) → length log ≤ n → mark_or log n high ≡ high
mark_past [] n high le = refl
mark_past (u ∷ later) zero high le = absurd (omega arith)
mark_past (u ∷ later) (suc n) high le = mark_past later n high (omega arith)

pub mark_some : (log : List Undone) (n all : ℕ) (d : Undone) → n < length log → (slice_index_or log n d).mark ≡ mark_or log n all
mark_some [] n all d lt = absurd (omega arith)
mark_some (u ∷ later) zero all d lt = refl
mark_some (u ∷ later) (suc n) all d lt = mark_some later n all d (omega arith)

pub mark_added : (log : List Undone) (u : Undone) (i high : ℕ) → i ≤ length log → mark_or (log ++ u ∷ []) i high ≡ mark_or log i u.mark
mark_added [] u zero high le = refl
mark_added [] u (suc i) high le = absurd (omega arith)
mark_added (v ∷ later) u zero high le = refl
mark_added (v ∷ later) u (suc i) high le = mark_added later u i high (omega arith)

pub marks_added : (low high more : ℕ) (log : List Undone) (u : Undone) → AreMarks low log high → u.mark ≡ high → high ≤ more → AreMarks low (log ++ u ∷ []) more
marks_added low high more [] u h is le = (omega (arith, h, is), omega (arith, is, le))
marks_added low high more (v ∷ later) u h is le = (h.0, marks_added v.mark high more later u h.1 is le)

pub length_taken : {X : Type 0} (n : ℕ) (xs : List X) → length (take n xs) ≤ n
length_taken zero xs = omega arith
length_taken (suc n) [] = omega arith
length_taken (suc n) (x ∷ xs) = let le = length_taken n xs in omega (arith, le)

pub changes_take : (n : ℕ) (log : List Undone) → changes_of (take n log) ≡ take n (changes_of log)
changes_take zero log = refl
changes_take (suc n) [] = refl
changes_take (suc n) (u ∷ later) = ap (λ (cs : List RowChange). record { row = u.row; old = u.old } ∷ cs) (changes_take n later)

pub changes_added : (log : List Undone) (u : Undone) → changes_of (log ++ u ∷ []) ≡ changes_of log ++ record { row = u.row; old = u.old } ∷ []
changes_added [] u = refl
changes_added (v ∷ later) u = ap (λ (cs : List RowChange). record { row = v.row; old = v.old } ∷ cs) (changes_added later u)

pub changes_length : (log : List Undone) → length (changes_of log) ≡ length log
changes_length [] = refl
changes_length (u ∷ later) = let e = changes_length later in omega (arith, e)

-- ---- the number of one client

-- the numbers, with the client's at most n
abbrev pub lowered : ℕ → ℕ → (ℕ → ℕ) → ℕ → ℕ
lowered client n at c = cond (eqb c client) (min (at c) n) (at c)

-- the numbers, with this one for the client
abbrev pub raised : ℕ → ℕ → (ℕ → ℕ) → ℕ → ℕ
raised client n at c = cond (eqb c client) n (at c)

pub eqb_here : (n : ℕ) → eqb n n ≡ true
eqb_here n = grind (arith, nat_tests)

pub chosen : {X : Type 0} (n : ℕ) (x y : X) → cond (eqb n n) x y ≡ x
chosen n x y = ap (λ (b : Bool). cond b x y) (eqb_here n)

pub eqb_not : (k n : ℕ) → k ≢ n → eqb k n ≡ false
eqb_not k n ne = grind (arith, nat_tests)

pub passed : {X : Type 0} (k n : ℕ) (x y : X) → k ≢ n → cond (eqb k n) x y ≡ y
passed k n x y ne = ap (λ (b : Bool). cond b x y) (eqb_not k n ne)

pub is_lowered : (client n : ℕ) (at : ℕ → ℕ) → IsLowered client n (lowered client n at) at
is_lowered client n at = record { own = chosen client (min (at client) n) (at client); others = λ c ne. passed c client (min (at c) n) (at c) ne }
