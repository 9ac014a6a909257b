-- Two lists of bytes that differ within both, or are one list: what follows them does not change their order.
use Rattle.std.proofs.Common.{◌≡◌, ◌⊎◌, inl, inr, ℕ, ◌-◌, ◌<◌, Bool, true, false, List, [], ◌∷◌, ◌++◌, length, map, Option, Some, None, refl, sym, ap, ◌∙◌, arith, ⊎_elim}
use Rattle.std.proofs.lemmas.Bool.{cases_lt}
use Rattle.std.specs.Cmp.Lexicographic.{slice_cmp}
use Rattle.std.specs.Ordering.{nat_cmp, ordering_then, ordering_reverse}
use Rattle.std.specs.declared.cmp.Ordering.{Ordering}
use Rattle.std.specs.declared.cmp.Ordering.TheVariants.{Less, Equal, Greater}
use Rattle.abl_values.specs.Keys.{AreBytes, turned_byte}
use Rattle.abl_values.proofs.Numbers.{nat_cmp-less, nat_cmp-greater, nat_cmp-same}

-- the order of the two lists, where they differ at a place that both have or are the same
abbrev pub settles_then : Ordering → Option Ordering → Option Ordering
settles_then Less rest = Some Less
settles_then Equal rest = rest
settles_then Greater rest = Some Greater

abbrev pub settles : List ℕ → List ℕ → Option Ordering
settles [] [] = Some Equal
settles [] (y ∷ ys) = None
settles (x ∷ xs) [] = None
settles (x ∷ xs) (y ∷ ys) = settles_then (nat_cmp x y) (settles xs ys)

then_by : (o : Ordering) (rest : Option Ordering) (p : Ordering) → settles_then o rest ≡ Some p → (p ≡ o) ⊎ ((o ≡ Equal) × (rest ≡ Some p))
then_by Less rest p h = inl cc
then_by Equal rest p h = inr (refl, h)
then_by Greater rest p h = inl cc

then_assoc : (a b c : Ordering) → ordering_then (ordering_then a b) c ≡ ordering_then a (ordering_then b c)
then_assoc Less b c = refl
then_assoc Equal b c = refl
then_assoc Greater b c = refl

-- what follows two settled lists decides only where they are the same
pub settles-append : (xs ys ps qs : List ℕ) (o : Ordering) → settles xs ys ≡ Some o → slice_cmp nat_cmp (xs ++ ps) (ys ++ qs) ≡ ordering_then o (slice_cmp nat_cmp ps qs)
settles-append [] [] ps qs o h = ap (λ p. ordering_then p (slice_cmp nat_cmp ps qs)) (equal_is o h)
  where
    equal_is : (o : Ordering) → Some Equal ≡ Some o → Equal ≡ o
    equal_is o h = cc
settles-append [] (y ∷ ys) ps qs o h = cc
settles-append (x ∷ xs) [] ps qs o h = cc
settles-append (x ∷ xs) (y ∷ ys) ps qs o h =
    go (nat_cmp x y) h (λ p k. settles-append xs ys ps qs p k)
  where
    go : (c : Ordering) → settles_then c (settles xs ys) ≡ Some o
        → ((p : Ordering) → settles xs ys ≡ Some p → slice_cmp nat_cmp (xs ++ ps) (ys ++ qs) ≡ ordering_then p (slice_cmp nat_cmp ps qs))
        → ordering_then c (slice_cmp nat_cmp (xs ++ ps) (ys ++ qs)) ≡ ordering_then o (slice_cmp nat_cmp ps qs)
    go Less h again = ap (λ p. ordering_then p (slice_cmp nat_cmp ps qs)) (less_is h)
      where
        less_is : Some Less ≡ Some o → Less ≡ o
        less_is h = cc
    go Equal h again = again o h
    go Greater h again = ap (λ p. ordering_then p (slice_cmp nat_cmp ps qs)) (greater_is h)
      where
        greater_is : Some Greater ≡ Some o → Greater ≡ o
        greater_is h = cc

-- two lists of one length are settled by their order
pub settles-length : (xs ys : List ℕ) → length xs ≡ length ys → settles xs ys ≡ Some (slice_cmp nat_cmp xs ys)
settles-length [] [] h = refl
settles-length [] (y ∷ ys) h = absurd (omega arith)
settles-length (x ∷ xs) [] h = absurd (omega arith)
settles-length (x ∷ xs) (y ∷ ys) h =
    ap (settles_then (nat_cmp x y)) (settles-length xs ys (omega arith)) ∙ split (nat_cmp x y) (slice_cmp nat_cmp xs ys)
  where
    split : (o p : Ordering) → settles_then o (Some p) ≡ Some (ordering_then o p)
    split Less p = refl
    split Equal p = refl
    split Greater p = refl

-- an order turned round
pub turned_cmp : (x y : ℕ) → x < 256 → y < 256 → nat_cmp (255 - x) (255 - y) ≡ ordering_reverse (nat_cmp x y)
turned_cmp x y hx hy =
    ⊎_elim (λ h. nat_cmp-greater (255 - x) (255 - y) (omega arith) ∙ sym (ap ordering_reverse (nat_cmp-less x y h)))
    (λ h. ⊎_elim (λ k. nat_cmp-less (255 - x) (255 - y) (omega arith) ∙ sym (ap ordering_reverse (nat_cmp-greater x y k)))
    (λ k. nat_cmp-same (255 - x) (255 - y) (omega arith) ∙ sym (ap ordering_reverse (nat_cmp-same x y (omega arith))))
    (cases_lt y x))
    (cases_lt x y)

option_reverse : Option Ordering → Option Ordering
option_reverse None = None
option_reverse (Some o) = Some (ordering_reverse o)

settles-turned_all : (xs ys : List ℕ) → AreBytes xs → AreBytes ys → settles (map (turned_byte true) xs) (map (turned_byte true) ys) ≡ option_reverse (settles xs ys)
unfolding option_reverse
settles-turned_all [] [] hx hy = refl
settles-turned_all [] (y ∷ ys) hx hy = refl
settles-turned_all (x ∷ xs) [] hx hy = refl
settles-turned_all (x ∷ xs) (y ∷ ys) hx hy =
    ap (settles_then (nat_cmp (255 - x) (255 - y))) (settles-turned_all xs ys hx.1 hy.1)
    ∙ ap (λ o. settles_then o (option_reverse (settles xs ys))) (turned_cmp x y hx.0 hy.0)
    ∙ split (nat_cmp x y) (settles xs ys)
  where
    split : (o : Ordering) (p : Option Ordering) → settles_then (ordering_reverse o) (option_reverse p) ≡ option_reverse (settles_then o p)
    split Less p = refl
    split Equal p = refl
    split Greater p = refl

-- bytes turned over stand the other way round
pub settles-turned : (xs ys : List ℕ) (o : Ordering) → AreBytes xs → AreBytes ys → settles xs ys ≡ Some o → settles (map (turned_byte true) xs) (map (turned_byte true) ys) ≡ Some (ordering_reverse o)
unfolding option_reverse
settles-turned xs ys o hx hy h = settles-turned_all xs ys hx hy ∙ ap option_reverse h

map_same : (xs : List ℕ) → map (turned_byte false) xs ≡ xs
map_same [] = refl
map_same (x ∷ xs) = ap (λ (ys : List ℕ). x ∷ ys) (map_same xs)

-- the order of a component's bytes
abbrev pub turned_order : Bool → Ordering → Ordering
turned_order false o = o
turned_order true o = ordering_reverse o

pub settles-component : (descending : Bool) (xs ys : List ℕ) (o : Ordering) → AreBytes xs → AreBytes ys → settles xs ys ≡ Some o → settles (map (turned_byte descending) xs) (map (turned_byte descending) ys) ≡ Some (turned_order descending o)
settles-component false xs ys o hx hy h =
    ap (λ (zs : List ℕ). settles zs (map (turned_byte false) ys)) (map_same xs) ∙ ap (settles xs) (map_same ys) ∙ h
settles-component true xs ys o hx hy h = settles-turned xs ys o hx hy h
