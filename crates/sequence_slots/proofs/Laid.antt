-- The bytes of a slot that is written in two parts.
use Rattle.std.proofs.Common.{◌≡◌, ℕ, ◌*◌, ◌-◌, ◌<◌, List, [], ◌∷◌, ◌++◌, length, take, drop, replicate, ℤ, refl, sym, ap, ◌∙◌, append_assoc, arith, length-append}
use Rattle.std.proofs.lemmas.List.{append-nil, take_all, drop_all, length-replicate, drop-replicate}
use Rattle.std.proofs.Math.Seq.{drop-append_seam, take-append_seam}
use Rattle.std.specs.Int.{w64, cast_unsigned}
use borrow.Rule.Slice.PartMut.{put_mid, mid_of}
use Rattle.abl_values.specs.Rows.{number_bytes}
use Rattle.abl_values.proofs.Numbers.{length-number_bytes}
use Rattle.row_fragments.specs.Fragments.{fragment_bytes, head_bytes, row_bytes}
use Rattle.sequence_slots.specs.Values.{bytes_of, slot_bytes}

pub length_bytes : (values : List ℤ) → length (bytes_of values) ≡ 8 * length values
length_bytes [] = refl
length_bytes (value ∷ values) = omega (arith, length-append (number_bytes 8 (cast_unsigned w64 value)) (bytes_of values), length-number_bytes 8 (cast_unsigned w64 value), length_bytes values)

-- a slot with some values
pub filled : (values : List ℤ) → 0 < length values → slot_bytes values ≡ fragment_bytes 4 0 0 0 (bytes_of values)
filled [] some = absurd (omega arith)
filled (value ∷ values) some = refl

no_row : row_bytes 0 0 ++ 0 ∷ 0 ∷ [] ≡ replicate {A = ℕ} 8 0
unfolding number_bytes
no_row = refl

before : (p z : List ℕ) (a : ℕ) → length p ≡ a → take a (p ++ z) ≡ p
before p z a e = ap (λ (n : ℕ). take n (p ++ z)) (sym e) ∙ take-append_seam p z

after : (p z : List ℕ) (a : ℕ) → length p ≡ a → drop a (p ++ z) ≡ z
after p z a e = ap (λ (n : ℕ). drop n (p ++ z)) (sym e) ∙ drop-append_seam p z

middle : (p z : List ℕ) (a k : ℕ) → length p ≡ a → length z ≡ k → mid_of a k (p ++ z) ≡ z
middle p z a k e l = ap (take k) (after p z a e) ∙ take_all k z (omega arith)

-- a part put after what comes before it
put_after : (p z y : List ℕ) (a k : ℕ) → length p ≡ a → length z ≡ k → put_mid a k (p ++ z) y ≡ p ++ y
put_after p z y a k e l =
    let whole : drop k (drop a (p ++ z)) ≡ [] = ap (drop k) (after p z a e) ∙ drop_all k z (omega arith) in
    ap (λ (xs : List ℕ). xs ++ (y ++ drop k (drop a (p ++ z)))) (before p z a e) ∙ (ap (λ (xs : List ℕ). p ++ (y ++ xs)) whole ∙ ap (λ (xs : List ℕ). p ++ xs) (append-nil y))

-- the head, and then the content, put into a slot of zeros
pub laid : (used : ℕ) (content a b : List ℕ) → length content ≡ used → a ≡ head_bytes 4 used 0 ++ drop 8 (replicate 256 0) → b ≡ content ++ drop used (mid_of 16 240 a)
    → put_mid 16 240 a b ≡ fragment_bytes 4 0 0 0 content
laid used content a b len a_is b_is =
    let top : List ℕ = head_bytes 4 used 0 ++ (row_bytes 0 0 ++ 0 ∷ 0 ∷ []) in
    let zeros : List ℕ = replicate 240 0 in
    let no_row_long : length (row_bytes 0 0 ++ 0 ∷ 0 ∷ []) ≡ 8 = ap length no_row in
    let long : length top ≡ 16 =
    omega (arith, no_row_long, length-append (head_bytes 4 used 0) (row_bytes 0 0 ++ 0 ∷ 0 ∷ []), length-append (number_bytes 2 used) (number_bytes 4 0), length-number_bytes 2 used, length-number_bytes 4 0) in
    let a_whole : a ≡ top ++ zeros = a_is ∙ (ap (λ (xs : List ℕ). head_bytes 4 used 0 ++ (xs ++ zeros)) (sym no_row) ∙ sym (append_assoc (head_bytes 4 used 0) (row_bytes 0 0 ++ 0 ∷ 0 ∷ []) zeros)) in
    let rest : drop used zeros ≡ replicate {A = ℕ} (240 - length content) 0 = drop-replicate used 240 0 ∙ ap (λ (n : ℕ). replicate {A = ℕ} (240 - n) 0) (sym len) in
    let b_whole : b ≡ content ++ replicate (240 - length content) 0 =
    b_is ∙ (ap (λ (xs : List ℕ). content ++ drop used (mid_of 16 240 xs)) a_whole
    ∙ (ap (λ (xs : List ℕ). content ++ drop used xs) (middle top zeros 16 240 long (length-replicate {A = ℕ} 240 0)) ∙ ap (λ (xs : List ℕ). content ++ xs) rest)) in
    ap (λ (xs : List ℕ). put_mid 16 240 xs b) a_whole
    ∙ (put_after top zeros b 16 240 long (length-replicate {A = ℕ} 240 0)
    ∙ (ap (λ (xs : List ℕ). top ++ xs) b_whole ∙ ap (λ (n : ℕ). (head_bytes 4 n 0 ++ (row_bytes 0 0 ++ 0 ∷ 0 ∷ [])) ++ (content ++ replicate (240 - length content) 0)) (sym len)))
