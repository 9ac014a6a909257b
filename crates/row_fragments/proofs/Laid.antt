-- Parts of a slot laid one after the other.
use Rattle.std.proofs.Common.{◌≡◌, ℕ, ◌-◌, ◌≤◌, List, [], ◌∷◌, ◌++◌, length, take, drop, replicate, sym, ap, ◌∙◌, append_assoc, arith, length-append}
use Rattle.std.proofs.lemmas.List.{append-nil, take_all, drop_all, length-replicate, drop-replicate}
use Rattle.std.proofs.Math.Seq.{drop-append_seam, take-append_seam}
use borrow.Rule.Slice.PartMut.{put_mid, mid_of}

before : (p z : List ℕ) (a : ℕ) → length p ≡ a → take a (p ++ z) ≡ p
before p z a e = ap (λ (n : ℕ). take n (p ++ z)) (sym e) ∙ take-append_seam p z

after : (p z : List ℕ) (a : ℕ) → length p ≡ a → drop a (p ++ z) ≡ z
after p z a e = ap (λ (n : ℕ). drop n (p ++ z)) (sym e) ∙ drop-append_seam p z

zeros_left : (n m : ℕ) → drop n (replicate {A = ℕ} m 0) ≡ replicate {A = ℕ} (m - n) 0
zeros_left n m = drop-replicate n m 0

middle : (p z : List ℕ) (a k : ℕ) → length p ≡ a → length z ≡ k → mid_of a k (p ++ z) ≡ z
middle p z a k e l = ap (take k) (after p z a e) ∙ take_all k z (omega arith)

-- a part put after what comes before it
put_after : (p z y : List ℕ) (a k : ℕ) → length p ≡ a → length z ≡ k → put_mid a k (p ++ z) y ≡ p ++ y
put_after p z y a k e l =
    let whole : drop k (drop a (p ++ z)) ≡ [] = ap (drop k) (after p z a e) ∙ drop_all k z (omega arith) in
    ap (λ (xs : List ℕ). xs ++ (y ++ drop k (drop a (p ++ z)))) (before p z a e) ∙ (ap (λ (xs : List ℕ). p ++ (y ++ xs)) whole ∙ ap (λ (xs : List ℕ). p ++ xs) (append-nil y))

pub laid : (head row content a b c : List ℕ) → length head ≡ 8 → length row ≡ 6 → length content ≤ 240
    → a ≡ head ++ drop 8 (replicate 256 0) → b ≡ row ++ drop 6 (mid_of 8 248 a) → c ≡ content ++ drop (length content) (mid_of 16 240 (put_mid 8 248 a b))
    → put_mid 16 240 (put_mid 8 248 a b) c ≡ (head ++ (row ++ 0 ∷ 0 ∷ [])) ++ (content ++ replicate (240 - length content) 0)
laid head row content a b c h8 r6 le a_is b_is c_is =
    let za : List ℕ = replicate 248 0 in
    let zc : List ℕ = replicate 240 0 in
    let a_whole : a ≡ head ++ za = a_is in
    let b_whole : b ≡ row ++ replicate 242 0 = b_is ∙ ap (λ (xs : List ℕ). row ++ drop 6 xs) (ap (mid_of 8 248) a_whole ∙ middle head za 8 248 h8 (length-replicate {A = ℕ} 248 0)) in
    let top : List ℕ = head ++ (row ++ 0 ∷ 0 ∷ []) in
    let long : length top ≡ 16 = omega (arith, length-append head (row ++ 0 ∷ 0 ∷ []), length-append row (0 ∷ 0 ∷ [])) in
    let both : put_mid 8 248 a b ≡ top ++ zc =
    ap (λ (xs : List ℕ). put_mid 8 248 xs b) a_whole
    ∙ (put_after head za b 8 248 h8 (length-replicate {A = ℕ} 248 0)
    ∙ (ap (λ (xs : List ℕ). head ++ xs) b_whole ∙ sym (append_assoc head (row ++ 0 ∷ 0 ∷ []) zc ∙ ap (λ (xs : List ℕ). head ++ xs) (append_assoc row (0 ∷ 0 ∷ []) zc)))) in
    let c_whole : c ≡ content ++ replicate (240 - length content) 0 =
    c_is ∙ (ap (λ (xs : List ℕ). content ++ drop (length content) (mid_of 16 240 xs)) both
    ∙ (ap (λ (xs : List ℕ). content ++ drop (length content) xs) (middle top zc 16 240 long (length-replicate {A = ℕ} 240 0)) ∙ ap (λ (xs : List ℕ). content ++ xs) (zeros_left (length content) 240))) in
    ap (λ (xs : List ℕ). put_mid 16 240 xs c) both ∙ (put_after top zc c 16 240 long (length-replicate {A = ℕ} 240 0) ∙ ap (λ (xs : List ℕ). top ++ xs) c_whole)
