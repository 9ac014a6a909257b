-- Keys with a prefix, and the first bytes after them.
use Rattle.std.proofs.Common.{◌≡◌, ◌<◌, ◌≤◌, ◌+◌, ℕ, List, [], ◌∷◌, ◌++◌, length, get_or, take, drop, refl, sym, ap, ◌∙◌, nat_cmp, arith, append_assoc}
use Rattle.std.specs.declared.cmp.Ordering.TheVariants.{Less, Equal}
use Rattle.std.specs.Ordering.{ordering_then}
use Rattle.std.specs.Cmp.Lexicographic.{slice_cmp}
use Rattle.std.proofs.lemmas.Grind.{common_steps}
use Rattle.std.proofs.lemmas.List.{take-append-drop, drop_more}
use Rattle.std.proofs.lemmas.List.Prefix.{front_fits, front_from_reads, front_reads}
use Rattle.key_index.specs.Search.{BeginsWith, IsKeyBefore}

pub same_front : (front xs ys : List ℕ) → slice_cmp nat_cmp (front ++ xs) (front ++ ys) ≡ slice_cmp nat_cmp xs ys
same_front [] xs ys = refl
same_front (b ∷ bs) xs ys = ap (λ r. ordering_then r (slice_cmp nat_cmp (bs ++ xs) (bs ++ ys))) (equal b) ∙ same_front bs xs ys
  where
    equal : (b : ℕ) → nat_cmp b b ≡ Equal
    equal b = grind (arith, common_steps)

one_up : (b : ℕ) (xs : List ℕ) → slice_cmp nat_cmp (b ∷ xs) ((b + 1) ∷ []) ≡ Less
one_up b xs = ap (λ r. ordering_then r (slice_cmp nat_cmp xs [])) less
  where
    less : nat_cmp b (b + 1) ≡ Less
    less = grind (arith, common_steps)

-- the prefix cut before a byte, with one more than that byte, follows each key with the prefix
pub before_next : (prefix : List ℕ) (end : ℕ) → end < length prefix → (key : List ℕ) → BeginsWith key prefix → IsKeyBefore key (take end prefix ++ (get_or prefix end 0 + 1) ∷ [])
before_next prefix end inside key (rest, is) =
    let split : key ≡ take end prefix ++ (get_or prefix end 0 ∷ (drop (end + 1) prefix ++ rest)) =
    is ∙ ap (λ (p : List ℕ). p ++ rest) (sym (take-append-drop end prefix)) ∙ append_assoc (take end prefix) (drop end prefix) rest
    ∙ ap (λ (d : List ℕ). take end prefix ++ (d ++ rest)) (drop_more prefix end 0 inside) in
    ap (λ (k : List ℕ). slice_cmp nat_cmp k (take end prefix ++ (get_or prefix end 0 + 1) ∷ [])) split
    ∙ same_front (take end prefix) (get_or prefix end 0 ∷ (drop (end + 1) prefix ++ rest)) ((get_or prefix end 0 + 1) ∷ [])
    ∙ one_up (get_or prefix end 0) (drop (end + 1) prefix ++ rest)

pub begins_from_reads : (key prefix : List ℕ) → length prefix ≤ length key → ((k : ℕ) → k < length prefix → get_or key k 0 ≡ get_or prefix k 0) → BeginsWith key prefix
begins_from_reads key prefix fits reads = (drop (length prefix) key, front_from_reads 0 key prefix fits reads)

pub begins_fits : (key prefix : List ℕ) → BeginsWith key prefix → length prefix ≤ length key
begins_fits key prefix (rest, is) = front_fits key prefix rest is

pub begins_reads : (key prefix : List ℕ) → BeginsWith key prefix → (k : ℕ) → k < length prefix → get_or key k 0 ≡ get_or prefix k 0
begins_reads key prefix (rest, is) k inside = front_reads 0 key prefix rest is k inside
