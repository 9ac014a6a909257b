-- A read or a write in parts is one read or one write.
use Rattle.std.proofs.Common.{◌≡◌, ◌⊎◌, ⊎_elim, inr, take_all, ℕ, ◌+◌, ◌-◌, ◌<◌, ◌≤◌, List, ◌++◌, length, get_or, take, drop, refl, sym, ◌∙◌, ap, arith, length-append, take-add, ext_get_or, length-take-le, length-drop}
use Rattle.std.proofs.lemmas.List.{get_or_append_left, get_or-append_right}
use Rattle.std.proofs.lemmas.Bool.{cases_lt}
use Rattle.storage.specs.Disk.{overlaid}
use Rattle.log_meaning.proofs.StepsLemmas.Writes.{length-overlaid, overlaid-here, overlaid-before, overlaid-after}

-- ---- two writes, the second from the end of the first on, are one

module _ (at : ℕ) (x y old : List ℕ) where
  abbrev both : List ℕ
  both = overlaid at (x ++ y) old

  abbrev second : List ℕ
  second = overlaid (at + length x) y (overlaid at x old)

  before : (i : ℕ) → i < at → get_or second i 0 ≡ get_or both i 0
  before i lt = overlaid-before (at + length x) y (overlaid at x old) i (omega (arith, lt)) ∙ overlaid-before at x old i lt ∙ sym (overlaid-before at (x ++ y) old i lt)

  in_first : (i j : ℕ) → i ≡ at + j → j < length x → get_or second i 0 ≡ get_or both i 0
  in_first i j is lt =
      overlaid-before (at + length x) y (overlaid at x old) i (omega (arith, is, lt))
      ∙ ap (λ (k : ℕ). get_or (overlaid at x old) k 0) is
      ∙ sym (overlaid-here at x old j lt)
      ∙ sym (get_or_append_left x y 0 j lt)
      ∙ overlaid-here at (x ++ y) old j (omega (arith, lt, length-append x y))
      ∙ ap (λ (k : ℕ). get_or both k 0) (sym is)

  in_second : (i j : ℕ) → i ≡ at + length x + j → j < length y → get_or second i 0 ≡ get_or both i 0
  in_second i j is lt =
      let here : get_or (x ++ y) (length x + j) 0 ≡ get_or y j 0 = get_or-append_right x y (length x) (length x + j) 0 refl (omega arith) ∙ ap (λ (k : ℕ). get_or y k 0) (omega arith) in
      let on : at + (length x + j) ≡ i = omega (arith, is) in
      ap (λ (k : ℕ). get_or second k 0) is
      ∙ sym (overlaid-here (at + length x) y (overlaid at x old) j lt)
      ∙ sym here
      ∙ overlaid-here at (x ++ y) old (length x + j) (omega (arith, lt, length-append x y))
      ∙ ap (λ (k : ℕ). get_or both k 0) on

  after : (i : ℕ) → at + length x + length y ≤ i → get_or second i 0 ≡ get_or both i 0
  after i from =
      overlaid-after (at + length x) y (overlaid at x old) i (omega (arith, from))
      ∙ overlaid-after at x old i (omega (arith, from))
      ∙ sym (overlaid-after at (x ++ y) old i (omega (arith, from, length-append x y)))

  same_at : (i : ℕ) → get_or second i 0 ≡ get_or both i 0
  same_at i = ⊎_elim
      (before i)
      (λ (from : at ≤ i). ⊎_elim
      (λ (lt : i < at + length x). in_first i (i - at) (omega (arith, from)) (omega (arith, lt, from)))
      (λ (past : at + length x ≤ i). ⊎_elim
      (λ (lt : i < at + length x + length y). in_second i (i - (at + length x)) (omega (arith, past)) (omega (arith, lt, past)))
      (after i)
      (cases_lt i (at + length x + length y)))
      (cases_lt i (at + length x)))
      (cases_lt i at)

  pub two_writes : overlaid (at + length x) y (overlaid at x old) ≡ overlaid at (x ++ y) old
  two_writes = ext_get_or 0 second both (omega (arith, length-overlaid (at + length x) y (overlaid at x old), length-overlaid at x old, length-overlaid at (x ++ y) old, length-append x y)) (λ i lt. same_at i)

-- ---- what a write in parts has done so far: nothing, or the first `done` bytes

abbrev pub SoFar : ℕ → List ℕ → ℕ → List ℕ → List ℕ → Type 0
SoFar at bytes done old now = ((done ≡ 0) × (now ≡ old)) ⊎ (now ≡ overlaid at (take done bytes) old)

-- the bytes after the first `done`
abbrev pub later_bytes : ℕ → List ℕ → List ℕ
later_bytes done bytes = take (length bytes - done) (drop done bytes)

module _ (at done n : ℕ) (bytes old : List ℕ) (within : done ≤ length bytes) where
  later_is : later_bytes done bytes ≡ drop done bytes
  later_is = take_all (length bytes - done) (drop done bytes) (omega (arith, length-drop done bytes))

  -- one part more, of n bytes
  pub one_more : (now next : List ℕ) → SoFar at bytes done old now → next ≡ overlaid (at + done) (take n (later_bytes done bytes)) now → SoFar at bytes (done + n) old next
  one_more now next so is = inr (is ∙ ap (λ (l : List ℕ). overlaid (at + done) (take n l) now) later_is ∙ ⊎_elim
      (λ (none : (done ≡ 0) × (now ≡ old)). first none.0 none.1)
      (λ (some : now ≡ overlaid at (take done bytes) old). later some)
      so)
    where
      length_done : length (take done bytes) ≡ done
      length_done = length-take-le done bytes within

      first : done ≡ 0 → now ≡ old → overlaid (at + done) (take n (drop done bytes)) now ≡ overlaid at (take (done + n) bytes) old
      first zero_is same =
          ap (λ (l : List ℕ). overlaid (at + done) (take n (drop done bytes)) l) same
          ∙ ap (λ (d : ℕ). overlaid (at + d) (take n (drop d bytes)) old) zero_is
          ∙ ap (λ (k : ℕ). overlaid k (take n bytes) old) (omega arith)
          ∙ ap (λ (k : ℕ). overlaid at (take k bytes) old) (omega (arith, zero_is))

      later : now ≡ overlaid at (take done bytes) old → overlaid (at + done) (take n (drop done bytes)) now ≡ overlaid at (take (done + n) bytes) old
      later some =
          ap (λ (l : List ℕ). overlaid (at + done) (take n (drop done bytes)) l) some
          ∙ ap (λ (k : ℕ). overlaid (at + k) (take n (drop done bytes)) (overlaid at (take done bytes) old)) (sym length_done)
          ∙ two_writes at (take done bytes) (take n (drop done bytes)) old
          ∙ ap (λ (l : List ℕ). overlaid at l old) (sym (take-add done n bytes))
