-- What sums and differences are in units of stored decimals.
use Rattle.std.proofs.Common.{◌≡◌, Bool, true, false, Ok, ℤ, ◌+ℤ◌, ◌-ℤ◌, refl, sym, ap, ◌∙◌, arith}
use Rattle.std.proofs.lemmas.Int.{ints}
use Rattle.abl_base.specs.declared.value.Value.{Value}
use Rattle.abl_base.specs.declared.value.Value.TheVariants.{Int, Int64, Dec}
use Rattle.abl_values.specs.Order.{rank_of, scaled}
use Rattle.abl_values.specs.Arithmetic.{in_range, fits_bits, sum_of, difference_of, IsNumber}

pub kept : (b : Bool) (u v : Value) → in_range b u ≡ Ok v → u ≡ v
kept true u v h = cc
kept false u v h = cc

pub ranked : (b : Bool) (u v : Value) (z : ℤ) → rank_of u ≡ z → in_range b u ≡ Ok v → rank_of v ≡ z
ranked b u v z e h = sym (ap rank_of (kept b u v h)) ∙ e

pub scaled-sum : (x y : ℤ) → scaled (x +ℤ y) ≡ scaled x +ℤ scaled y
scaled-sum x y = omega (arith, ints)

pub scaled-difference : (x y : ℤ) → scaled (x -ℤ y) ≡ scaled x -ℤ scaled y
scaled-difference x y = omega (arith, ints)

pub sum_rank : (a b v : Value) → IsNumber a → IsNumber b → sum_of a b ≡ Ok v → rank_of v ≡ rank_of a +ℤ rank_of b
unfolding sum_of
sum_rank (Int x) (Int y) v ha hb h = ranked (fits_bits 63 (x +ℤ y)) (Int64 (x +ℤ y)) v (scaled x +ℤ scaled y) (scaled-sum x y) h
sum_rank (Int x) (Int64 y) v ha hb h = ranked (fits_bits 63 (x +ℤ y)) (Int64 (x +ℤ y)) v (scaled x +ℤ scaled y) (scaled-sum x y) h
sum_rank (Int64 x) (Int y) v ha hb h = ranked (fits_bits 63 (x +ℤ y)) (Int64 (x +ℤ y)) v (scaled x +ℤ scaled y) (scaled-sum x y) h
sum_rank (Int64 x) (Int64 y) v ha hb h = ranked (fits_bits 63 (x +ℤ y)) (Int64 (x +ℤ y)) v (scaled x +ℤ scaled y) (scaled-sum x y) h
sum_rank (Int x) (Dec y) v ha hb h = ranked (fits_bits 127 (scaled x +ℤ y)) (Dec (scaled x +ℤ y)) v (scaled x +ℤ y) refl h
sum_rank (Int64 x) (Dec y) v ha hb h = ranked (fits_bits 127 (scaled x +ℤ y)) (Dec (scaled x +ℤ y)) v (scaled x +ℤ y) refl h
sum_rank (Dec x) (Int y) v ha hb h = ranked (fits_bits 127 (x +ℤ scaled y)) (Dec (x +ℤ scaled y)) v (x +ℤ scaled y) refl h
sum_rank (Dec x) (Int64 y) v ha hb h = ranked (fits_bits 127 (x +ℤ scaled y)) (Dec (x +ℤ scaled y)) v (x +ℤ scaled y) refl h
sum_rank (Dec x) (Dec y) v ha hb h = ranked (fits_bits 127 (x +ℤ y)) (Dec (x +ℤ y)) v (x +ℤ y) refl h
sum_rank (Int x) b v ha hb h = absurd hb
sum_rank (Int64 x) b v ha hb h = absurd hb
sum_rank (Dec x) b v ha hb h = absurd hb
sum_rank a b v ha hb h = absurd ha

pub difference_rank : (a b v : Value) → IsNumber a → IsNumber b → difference_of a b ≡ Ok v → rank_of v ≡ rank_of a -ℤ rank_of b
unfolding difference_of
difference_rank (Int x) (Int y) v ha hb h = ranked (fits_bits 63 (x -ℤ y)) (Int64 (x -ℤ y)) v (scaled x -ℤ scaled y) (scaled-difference x y) h
difference_rank (Int x) (Int64 y) v ha hb h = ranked (fits_bits 63 (x -ℤ y)) (Int64 (x -ℤ y)) v (scaled x -ℤ scaled y) (scaled-difference x y) h
difference_rank (Int64 x) (Int y) v ha hb h = ranked (fits_bits 63 (x -ℤ y)) (Int64 (x -ℤ y)) v (scaled x -ℤ scaled y) (scaled-difference x y) h
difference_rank (Int64 x) (Int64 y) v ha hb h = ranked (fits_bits 63 (x -ℤ y)) (Int64 (x -ℤ y)) v (scaled x -ℤ scaled y) (scaled-difference x y) h
difference_rank (Int x) (Dec y) v ha hb h = ranked (fits_bits 127 (scaled x -ℤ y)) (Dec (scaled x -ℤ y)) v (scaled x -ℤ y) refl h
difference_rank (Int64 x) (Dec y) v ha hb h = ranked (fits_bits 127 (scaled x -ℤ y)) (Dec (scaled x -ℤ y)) v (scaled x -ℤ y) refl h
difference_rank (Dec x) (Int y) v ha hb h = ranked (fits_bits 127 (x -ℤ scaled y)) (Dec (x -ℤ scaled y)) v (x -ℤ scaled y) refl h
difference_rank (Dec x) (Int64 y) v ha hb h = ranked (fits_bits 127 (x -ℤ scaled y)) (Dec (x -ℤ scaled y)) v (x -ℤ scaled y) refl h
difference_rank (Dec x) (Dec y) v ha hb h = ranked (fits_bits 127 (x -ℤ y)) (Dec (x -ℤ y)) v (x -ℤ y) refl h
difference_rank (Int x) b v ha hb h = absurd hb
difference_rank (Int64 x) b v ha hb h = absurd hb
difference_rank (Dec x) b v ha hb h = absurd hb
difference_rank a b v ha hb h = absurd ha
