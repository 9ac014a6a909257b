-- The order of keys.
use Rattle.std.proofs.Common.{◌≡◌, ℕ, List, [], ◌∷◌, ◌++◌, false, refl, sym, ap, ◌∙◌, nat_cmp}
use Rattle.std.specs.declared.cmp.Ordering.{Ordering}
use Rattle.std.specs.declared.cmp.Ordering.TheVariants.{Less, Equal, Greater}
use Rattle.std.specs.Ordering.{is_gt, ordering_reverse}
use Rattle.std.specs.Cmp.Lexicographic.{slice_cmp, nat_list_cmp_total}
use Rattle.std.proofs.lemmas.Cmp.{tied_itself, alike_right}
use Rattle.std.proofs.lemmas.List.{append-nil}
use Rattle.key_index.specs.Search.{BeginsWith, IsKeyBefore}
use Rattle.key_index.specs.Span.{IsKeyUpTo}
use Rattle.key_index.proofs.Prefixes.{same_front}

greater_not : (r : Ordering) → r ≡ Greater → is_gt r ≡ false → ⊥
greater_not Less is h = cc
greater_not Equal is h = cc
greater_not Greater is h = cc

less_not_equal : (r : Ordering) → r ≡ Less → r ≡ Equal → ⊥
less_not_equal r less equal = cc

pub before_before : (a b c : List ℕ) → IsKeyBefore a b → IsKeyBefore b c → IsKeyBefore a c
before_before a b c = nat_list_cmp_total.trans a b c

pub not_itself : (a : List ℕ) → IsKeyBefore a a → ⊥
not_itself a less = less_not_equal (slice_cmp nat_cmp a a) less (tied_itself nat_list_cmp_total a)

pub upto_before : (a b c : List ℕ) → IsKeyUpTo a b → IsKeyBefore b c → IsKeyBefore a c
upto_before a b c upto before = pick (slice_cmp nat_cmp a b) refl
  where
    pick : (r : Ordering) → slice_cmp nat_cmp a b ≡ r → IsKeyBefore a c
    pick Less is = nat_list_cmp_total.trans a b c is before
    pick Equal is = nat_list_cmp_total.congr a b c is ∙ before
    pick Greater is = absurd (greater_not (slice_cmp nat_cmp a b) is upto)

pub before_upto : (a b c : List ℕ) → IsKeyBefore a b → IsKeyUpTo b c → IsKeyBefore a c
before_upto a b c before upto = pick (slice_cmp nat_cmp b c) refl
  where
    pick : (r : Ordering) → slice_cmp nat_cmp b c ≡ r → IsKeyBefore a c
    pick Less is = nat_list_cmp_total.trans a b c before is
    pick Equal is = sym (alike_right nat_list_cmp_total b c a is) ∙ before
    pick Greater is = absurd (greater_not (slice_cmp nat_cmp b c) is upto)

pub upto_from_not_before : (a b : List ℕ) → (IsKeyBefore b a → ⊥) → IsKeyUpTo a b
upto_from_not_before a b not = pick (slice_cmp nat_cmp a b) refl
  where
    pick : (r : Ordering) → slice_cmp nat_cmp a b ≡ r → IsKeyUpTo a b
    pick Less is = ap is_gt is
    pick Equal is = ap is_gt is
    pick Greater is = absurd (not (nat_list_cmp_total.antisymm b a ∙ ap ordering_reverse is))

pub before_is_upto : (a b : List ℕ) → IsKeyBefore a b → IsKeyUpTo a b
before_is_upto a b before = ap is_gt before

pub prefix_upto : (key prefix : List ℕ) → BeginsWith key prefix → IsKeyUpTo prefix key
prefix_upto key prefix (rest, is) =
    ap is_gt (ap (λ (p : List ℕ). slice_cmp nat_cmp p key) (sym (append-nil prefix)) ∙ ap (λ (k : List ℕ). slice_cmp nat_cmp (prefix ++ []) k) is ∙ same_front prefix [] rest) ∙ after_cursor rest
  where
    after_cursor : (rest : List ℕ) → is_gt (slice_cmp nat_cmp [] rest) ≡ false
    after_cursor [] = refl
    after_cursor (b ∷ bs) = refl
