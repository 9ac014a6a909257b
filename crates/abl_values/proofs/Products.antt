-- What products and quotients are in units of stored decimals.
use Rattle.std.proofs.Common.{◌≡◌, ◌≢◌, ℕ, zero, suc, ◌+◌, ◌*◌, Bool, true, false, if◌then◌else◌, nat_lt, Ok, Err, ℤ, pos, negsuc, neg_ℤ, ◌+ℤ◌, ◌-ℤ◌, ◌*ℤ◌, refl, sym, ap, ◌∙◌, arith}
use Rattle.std.proofs.lemmas.Int.{ints}
use Rattle.std.proofs.lemmas.Bool.Decides.{nat_tests}
use Rattle.std.proofs.Math.IntN.{*ℤ_comm, zero-*ℤ, suc_ℤ-*ℤ, pred_ℤ-*ℤ}
use Rattle.abl_base.specs.declared.value.Value.{Value}
use Rattle.abl_base.specs.declared.value.Value.TheVariants.{Int, Int64, Dec}
use Rattle.abl_values.specs.declared.arithmetic.ArithFault.TheVariants.{Overflow}
use Rattle.abl_values.specs.Order.{rank_of, scaled}
use Rattle.abl_values.specs.Arithmetic.{fits_bits, decimal_in_range, decimal_product, decimal_quotient, rounded, rounded_quotient, rounded_whole, with_sign, product_of, quotient_of, whole_in_range, IsNumber, IsWhole}
use Rattle.abl_values.proofs.Sums.{ranked, scaled-sum, scaled-difference}

-- ---- rounding what is a whole number

rounded_times : (m : ℕ) → rounded (m * 10000000000) 10000000000 ≡ m
rounded_times m = omega arith

not_below_zero : (k : ℕ) → nat_lt k 0 ≡ false
not_below_zero k = grind (arith, nat_tests)

rounded_pos : (k : ℕ) → rounded_whole (pos k) ≡ pos (rounded k 10000000000)
rounded_pos k = ap (λ b. with_sign (if b then true else false) (rounded k 10000000000)) (not_below_zero k)

rounded_negsuc : (k : ℕ) → rounded_whole (negsuc k) ≡ neg_ℤ (pos (rounded (suc k) 10000000000))
rounded_negsuc k = refl

rounded_scaled : (n : ℤ) → rounded_whole (scaled n) ≡ n
rounded_scaled (pos m) = ap rounded_whole times ∙ rounded_pos (m * 10000000000) ∙ ap pos (rounded_times m)
  where
    times : scaled (pos m) ≡ pos (m * 10000000000)
    times = omega (arith, ints)
rounded_scaled (negsuc m) =
    ap rounded_whole times ∙ rounded_negsuc (m * 10000000000 + 9999999999)
    ∙ ap (λ (k : ℕ). neg_ℤ (pos (rounded k 10000000000))) size ∙ ap (λ (k : ℕ). neg_ℤ (pos k)) (rounded_times (suc m))
  where
    times : scaled (negsuc m) ≡ negsuc (m * 10000000000 + 9999999999)
    times = omega (arith, ints)

    size : suc (m * 10000000000 + 9999999999) ≡ suc m * 10000000000
    size = omega arith

-- a unit of a factor is taken out
right_of_pos : (n : ℕ) (x : ℤ) → pos n *ℤ scaled x ≡ scaled (pos n *ℤ x)
right_of_pos zero x = zero-*ℤ (scaled x) ∙ sym (ap scaled (zero-*ℤ x))
right_of_pos (suc n) x =
    suc_ℤ-*ℤ (pos n) (scaled x) ∙ ap (λ (z : ℤ). z +ℤ scaled x) (right_of_pos n x)
    ∙ sym (scaled-sum (pos n *ℤ x) x) ∙ sym (ap scaled (suc_ℤ-*ℤ (pos n) x))

right_of_negsuc : (n : ℕ) (x : ℤ) → negsuc n *ℤ scaled x ≡ scaled (negsuc n *ℤ x)
right_of_negsuc zero x =
    pred_ℤ-*ℤ (pos zero) (scaled x) ∙ ap (λ (z : ℤ). z -ℤ scaled x) (right_of_pos zero x)
    ∙ sym (scaled-difference (pos zero *ℤ x) x) ∙ sym (ap scaled (pred_ℤ-*ℤ (pos zero) x))
right_of_negsuc (suc n) x =
    pred_ℤ-*ℤ (negsuc n) (scaled x) ∙ ap (λ (z : ℤ). z -ℤ scaled x) (right_of_negsuc n x)
    ∙ sym (scaled-difference (negsuc n *ℤ x) x) ∙ sym (ap scaled (pred_ℤ-*ℤ (negsuc n) x))

scaled_right : (y x : ℤ) → y *ℤ scaled x ≡ scaled (y *ℤ x)
scaled_right (pos n) x = right_of_pos n x
scaled_right (negsuc n) x = right_of_negsuc n x

scaled_both : (x y : ℤ) → scaled x *ℤ scaled y ≡ scaled (scaled (x *ℤ y))
scaled_both x y =
    scaled_right (scaled x) y ∙ ap scaled (*ℤ_comm (scaled x) y ∙ scaled_right y x ∙ ap scaled (*ℤ_comm y x))

whole_product : (x y : ℤ) → scaled (x *ℤ y) ≡ rounded_whole (scaled x *ℤ scaled y)
whole_product x y = sym (ap rounded_whole (scaled_both x y) ∙ rounded_scaled (scaled (x *ℤ y)))

-- ---- products

decimal_rank : (x y : ℤ) (v : Value) → decimal_product x y ≡ Ok v → rank_of v ≡ rounded_whole (x *ℤ y)
decimal_rank x y v h = by_test (fits_bits 127 (x *ℤ y)) h
  where
    by_test : (t : Bool) → (if t then decimal_in_range (rounded_whole (x *ℤ y)) else Err Overflow) ≡ Ok v → rank_of v ≡ rounded_whole (x *ℤ y)
    by_test true e = ranked (fits_bits 127 (rounded_whole (x *ℤ y))) (Dec (rounded_whole (x *ℤ y))) v (rounded_whole (x *ℤ y)) refl e
    by_test false e = cc

whole_rank : (x y : ℤ) (v : Value) → whole_in_range (x *ℤ y) ≡ Ok v → rank_of v ≡ rounded_whole (scaled x *ℤ scaled y)
whole_rank x y v h = ranked (fits_bits 63 (x *ℤ y)) (Int64 (x *ℤ y)) v (rounded_whole (scaled x *ℤ scaled y)) (whole_product x y) h

pub product_rank : (a b v : Value) → IsNumber a → IsNumber b → product_of a b ≡ Ok v → rank_of v ≡ rounded_whole (rank_of a *ℤ rank_of b)
unfolding product_of
product_rank (Int x) (Int y) v ha hb h = whole_rank x y v h
product_rank (Int x) (Int64 y) v ha hb h = whole_rank x y v h
product_rank (Int64 x) (Int y) v ha hb h = whole_rank x y v h
product_rank (Int64 x) (Int64 y) v ha hb h = whole_rank x y v h
product_rank (Int x) (Dec y) v ha hb h = decimal_rank (scaled x) y v h
product_rank (Int64 x) (Dec y) v ha hb h = decimal_rank (scaled x) y v h
product_rank (Dec x) (Int y) v ha hb h = decimal_rank x (scaled y) v h
product_rank (Dec x) (Int64 y) v ha hb h = decimal_rank x (scaled y) v h
product_rank (Dec x) (Dec y) v ha hb h = decimal_rank x y v h
product_rank (Int x) b v ha hb h = absurd hb
product_rank (Int64 x) b v ha hb h = absurd hb
product_rank (Dec x) b v ha hb h = absurd hb
product_rank a b v ha hb h = absurd ha

-- the product of whole numbers is not rounded
exact : (x y : ℤ) (v : Value) → whole_in_range (x *ℤ y) ≡ Ok v → scaled (rank_of v) ≡ scaled x *ℤ scaled y
exact x y v h = ap scaled (ranked (fits_bits 63 (x *ℤ y)) (Int64 (x *ℤ y)) v (scaled (x *ℤ y)) refl h) ∙ sym (scaled_both x y)

pub whole_product_rank : (a b v : Value) → IsWhole a → IsWhole b → product_of a b ≡ Ok v → scaled (rank_of v) ≡ rank_of a *ℤ rank_of b
unfolding product_of
whole_product_rank (Int x) (Int y) v ha hb h = exact x y v h
whole_product_rank (Int x) (Int64 y) v ha hb h = exact x y v h
whole_product_rank (Int64 x) (Int y) v ha hb h = exact x y v h
whole_product_rank (Int64 x) (Int64 y) v ha hb h = exact x y v h
whole_product_rank (Int x) b v ha hb h = absurd hb
whole_product_rank (Int64 x) b v ha hb h = absurd hb
whole_product_rank a b v ha hb h = absurd ha

-- ---- quotients

divided_rank : (x d : ℤ) (v : Value) → d ≢ pos 0 → decimal_quotient x d ≡ Ok v → rank_of v ≡ rounded_quotient (scaled x) d
divided_rank x (pos zero) v n h = absurd (n refl)
divided_rank x (pos (suc y)) v n h = by_test (fits_bits 127 (scaled x)) h
  where
    by_test : (t : Bool) → (if t then decimal_in_range (rounded_quotient (scaled x) (pos (suc y))) else Err Overflow) ≡ Ok v → rank_of v ≡ rounded_quotient (scaled x) (pos (suc y))
    by_test true e = ranked (fits_bits 127 (rounded_quotient (scaled x) (pos (suc y)))) (Dec (rounded_quotient (scaled x) (pos (suc y)))) v (rounded_quotient (scaled x) (pos (suc y))) refl e
    by_test false e = cc
divided_rank x (negsuc y) v n h = by_test (fits_bits 127 (scaled x)) h
  where
    by_test : (t : Bool) → (if t then decimal_in_range (rounded_quotient (scaled x) (negsuc y)) else Err Overflow) ≡ Ok v → rank_of v ≡ rounded_quotient (scaled x) (negsuc y)
    by_test true e = ranked (fits_bits 127 (rounded_quotient (scaled x) (negsuc y))) (Dec (rounded_quotient (scaled x) (negsuc y))) v (rounded_quotient (scaled x) (negsuc y)) refl e
    by_test false e = cc

pub quotient_rank : (a b v : Value) → IsNumber a → IsNumber b → rank_of b ≢ pos 0 → quotient_of a b ≡ Ok v → rank_of v ≡ rounded_quotient (scaled (rank_of a)) (rank_of b)
unfolding quotient_of
quotient_rank (Int x) (Int y) v ha hb n h = divided_rank (scaled x) (scaled y) v n h
quotient_rank (Int x) (Int64 y) v ha hb n h = divided_rank (scaled x) (scaled y) v n h
quotient_rank (Int64 x) (Int y) v ha hb n h = divided_rank (scaled x) (scaled y) v n h
quotient_rank (Int64 x) (Int64 y) v ha hb n h = divided_rank (scaled x) (scaled y) v n h
quotient_rank (Int x) (Dec y) v ha hb n h = divided_rank (scaled x) y v n h
quotient_rank (Int64 x) (Dec y) v ha hb n h = divided_rank (scaled x) y v n h
quotient_rank (Dec x) (Int y) v ha hb n h = divided_rank x (scaled y) v n h
quotient_rank (Dec x) (Int64 y) v ha hb n h = divided_rank x (scaled y) v n h
quotient_rank (Dec x) (Dec y) v ha hb n h = divided_rank x y v n h
quotient_rank (Int x) b v ha hb n h = absurd hb
quotient_rank (Int64 x) b v ha hb n h = absurd hb
quotient_rank (Dec x) b v ha hb n h = absurd hb
quotient_rank a b v ha hb n h = absurd ha
