-- What a write leaves of the bytes of an area.
use Rattle.std.proofs.Common.{◌≡◌, ◌⊎◌, ⊎_elim, ℕ, zero, suc, ◌+◌, ◌-◌, ◌<◌, ◌≤◌, max, List, [], ◌∷◌, ◌++◌, length, get_or, take, drop, replicate, refl, sym, ◌∙◌, ap, subst, arith, append_assoc, length-append, length-drop}
use Rattle.std.proofs.lemmas.List.{length-take, length-replicate, get_or-take, get_or-drop, get_or-replicate, get_or_append_left, get_or-append_right, get_or_past}
use Rattle.std.proofs.lemmas.Bool.{cases_lt}
use Rattle.storage.specs.Disk.{Reads, overlaid, Torn, TornIn}
use Rattle.log_meaning.specs.steps.Steps.{Image, SameBelow, Has}

-- ---- reads

pub reads-head : (area : List ℕ) (at : ℕ) (xs ys : List ℕ) → Reads area at (xs ++ ys) → Reads area at xs
reads-head area at xs ys r = λ i lt. sym (get_or_append_left xs ys 0 i lt) ∙ r i (omega (arith, lt, length-append xs ys))

pub reads-tail : (area : List ℕ) (at : ℕ) (xs ys : List ℕ) → Reads area at (xs ++ ys) → Reads area (at + length xs) ys
reads-tail area at xs ys r = λ i lt.
    let here : get_or (xs ++ ys) (length xs + i) 0 ≡ get_or ys i 0 = get_or-append_right xs ys (length xs) (length xs + i) 0 refl (omega arith) ∙ ap (λ (k : ℕ). get_or ys k 0) (omega arith) in
    sym here ∙ r (length xs + i) (omega (arith, lt, length-append xs ys)) ∙ ap (λ (k : ℕ). get_or area k 0) (omega arith)

pub reads-both : (area : List ℕ) (at : ℕ) (xs ys : List ℕ) → Reads area at xs → Reads area (at + length xs) ys → Reads area at (xs ++ ys)
reads-both area at xs ys a b = λ i lt. ⊎_elim
    (λ (left : i < length xs). get_or_append_left xs ys 0 i left ∙ a i left)
    (λ (right : length xs ≤ i). get_or-append_right xs ys (length xs) i 0 refl right ∙ b (i - length xs) (omega (arith, lt, right, length-append xs ys)) ∙ ap (λ (k : ℕ). get_or area k 0) (omega (arith, right)))
    (cases_lt i (length xs))

pub reads-one : (area : List ℕ) (at x : ℕ) → get_or area at 0 ≡ x → Reads area at (x ∷ [])
reads-one area at x is = λ i lt. one i lt
  where
    one : (i : ℕ) → i < 1 → get_or (x ∷ []) i 0 ≡ get_or area (at + i) 0
    one zero lt = sym is ∙ ap (λ (k : ℕ). get_or area k 0) (omega arith)
    one (suc i) lt = absurd (omega (arith, lt))

pub reads-same : (area other : List ℕ) (at : ℕ) (bytes : List ℕ) → ((i : ℕ) → at ≤ i → i < at + length bytes → get_or other i 0 ≡ get_or area i 0) → Reads area at bytes → Reads other at bytes
reads-same area other at bytes same r = λ i lt. r i lt ∙ sym (same (at + i) (omega arith) (omega (arith, lt)))

-- ---- writes

overlaid-front : (at : ℕ) (old : List ℕ) → length (take at old ++ replicate (at - length old) 0) ≡ at
overlaid-front at old = omega (arith, length-append (take at old) (replicate {A = ℕ} (at - length old) 0), length-take at old, length-replicate {A = ℕ} (at - length old) 0)

overlaid-is : (at : ℕ) (bytes old : List ℕ) → overlaid at bytes old ≡ (take at old ++ replicate (at - length old) 0) ++ (bytes ++ drop (at + length bytes) old)
overlaid-is at bytes old = append_assoc (take at old ++ replicate (at - length old) 0) bytes (drop (at + length bytes) old)

pub length-overlaid : (at : ℕ) (bytes old : List ℕ) → length (overlaid at bytes old) ≡ max (length old) (at + length bytes)
length-overlaid at bytes old = omega (arith, ap (length {A = ℕ}) (overlaid-is at bytes old), overlaid-front at old, length-append (take at old ++ replicate (at - length old) 0) (bytes ++ drop (at + length bytes) old), length-append bytes (drop (at + length bytes) old), length-drop (at + length bytes) old)

-- a read there gives the bytes
pub overlaid-here : (at : ℕ) (bytes old : List ℕ) → Reads (overlaid at bytes old) at bytes
overlaid-here at bytes old = λ i lt. sym (
    ap (λ (l : List ℕ). get_or l (at + i) 0) (overlaid-is at bytes old)
    ∙ get_or-append_right (take at old ++ replicate (at - length old) 0) (bytes ++ drop (at + length bytes) old) at (at + i) 0 (overlaid-front at old) (omega arith)
    ∙ ap (λ (k : ℕ). get_or (bytes ++ drop (at + length bytes) old) k 0) (omega arith)
    ∙ get_or_append_left bytes (drop (at + length bytes) old) 0 i lt)

pub overlaid-has : (at : ℕ) (bytes old : List ℕ) → Has (overlaid at bytes old) at bytes
overlaid-has at bytes old = record { reads = overlaid-here at bytes old; there = omega (arith, length-overlaid at bytes old) }

-- and elsewhere what it gave before
pub overlaid-before : (at : ℕ) (bytes old : List ℕ) (i : ℕ) → i < at → get_or (overlaid at bytes old) i 0 ≡ get_or old i 0
overlaid-before at bytes old i lt =
    ap (λ (l : List ℕ). get_or l i 0) (overlaid-is at bytes old)
    ∙ get_or_append_left (take at old ++ replicate (at - length old) 0) (bytes ++ drop (at + length bytes) old) 0 i (omega (arith, lt, overlaid-front at old))
    ∙ ⊎_elim
    (λ (within : i < length old). get_or_append_left (take at old) (replicate (at - length old) 0) 0 i (omega (arith, lt, within, length-take at old)) ∙ get_or-take at old i 0 lt)
    (λ (past : length old ≤ i).
    get_or-append_right (take at old) (replicate (at - length old) 0) (length (take at old)) i 0 refl (omega (arith, past, length-take at old))
    ∙ get_or-replicate (at - length old) (i - length (take at old)) 0 0 (omega (arith, lt, past, length-take at old))
    ∙ sym (get_or_past old i 0 past))
    (cases_lt i (length old))

pub overlaid-after : (at : ℕ) (bytes old : List ℕ) (i : ℕ) → at + length bytes ≤ i → get_or (overlaid at bytes old) i 0 ≡ get_or old i 0
overlaid-after at bytes old i from =
    ap (λ (l : List ℕ). get_or l i 0) (overlaid-is at bytes old)
    ∙ get_or-append_right (take at old ++ replicate (at - length old) 0) (bytes ++ drop (at + length bytes) old) at i 0 (overlaid-front at old) (omega (arith, from))
    ∙ get_or-append_right bytes (drop (at + length bytes) old) (length bytes) (i - at) 0 refl (omega (arith, from))
    ∙ get_or-drop (at + length bytes) old (i - at - length bytes) 0
    ∙ ap (λ (k : ℕ). get_or old k 0) (omega (arith, from))

-- a write from `end` on leaves the bytes below it
pub torn_keeps_below : (end at n : ℕ) (old new : List ℕ) → end ≤ at → end ≤ length old → Torn at n old new → SameBelow end old new
torn_keeps_below end at n old new le within torn = record { same = λ i lt. torn.below i (omega (arith, lt, within)) (omega (arith, lt, le)); no_shorter = torn.no_shorter }

pub overlaid_keeps_below : (end at : ℕ) (bytes old : List ℕ) → end ≤ at → SameBelow end old (overlaid at bytes old)
overlaid_keeps_below end at bytes old le = record { same = λ i lt. overlaid-before at bytes old i (omega (arith, lt, le)); no_shorter = omega (arith, length-overlaid at bytes old) }

pub below_twice : (end : ℕ) (a b c : List ℕ) → SameBelow end a b → SameBelow end b c → SameBelow end a c
below_twice end a b c x y = record { same = λ i lt. y.same i lt ∙ x.same i lt; no_shorter = omega (arith, x.no_shorter, y.no_shorter) }

pub below_same : (end : ℕ) (a b : List ℕ) → b ≡ a → SameBelow end a b
below_same end a b is = record { same = λ i lt. ap (λ (l : List ℕ). get_or l i 0) is; no_shorter = omega (arith, ap (length {A = ℕ}) is) }

-- a write that left nothing, and one that was left as it was
torn_same : (at n : ℕ) (old : List ℕ) → Torn at n old old
torn_same at n old = record { no_shorter = omega arith; no_longer = omega arith; below = λ i within before. refl; above = λ i within after. refl }

pub torn_none : (area at n : ℕ) (d image : Image) → image ≡ d → TornIn area at n d image
torn_none area at n d image is = subst (λ (x : Image). TornIn area at n d x) (sym is) (record { torn = torn_same at n (d area); others = λ k other. refl })

pub torn_then : (area at n : ℕ) (d e image : Image) → TornIn area at n d e → image ≡ e → TornIn area at n d image
torn_then area at n d e image torn is = subst (λ (x : Image). TornIn area at n d x) (sym is) torn

-- bytes that a write did not touch are there still
pub has_torn : (at n from : ℕ) (bytes old new : List ℕ) → Torn at n old new → (from + length bytes ≤ at) ⊎ (at + n ≤ from) → Has old from bytes → Has new from bytes
has_torn at n from bytes old new torn apart h = record {
  reads = reads-same old new from bytes (λ i a b.
      let within : i < length old = omega (arith, b, h.there) in
      ⊎_elim (λ (before : from + length bytes ≤ at). torn.below i within (omega (arith, b, before))) (λ (after : at + n ≤ from). torn.above i within (omega (arith, a, after))) apart) h.reads;
  there = omega (arith, h.there, torn.no_shorter);
}
