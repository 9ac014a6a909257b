-- Key bytes stand as the keys do.
use Rattle.std.proofs.Common.{◌≡◌, ◌≢◌, ℕ, zero, suc, ◌^◌, ◌<◌, Bool, true, false, List, [], ◌∷◌, ◌++◌, Option, Some, None, ℤ, pos, negsuc, ◌<ℤ◌, refl, sym, ap, ◌∙◌, arith}
use Rattle.std.proofs.lemmas.Bool.Decides.{nat_tests}
use Rattle.std.proofs.lemmas.Int.{ints, by_lt_z}
use Rattle.std.specs.List.{flat_map}
use Rattle.std.specs.Cmp.Lexicographic.{slice_cmp}
use Rattle.std.specs.Ordering.{nat_cmp, int_cmp, ordering_then}
use Rattle.std.specs.declared.cmp.Ordering.{Ordering}
use Rattle.std.specs.declared.cmp.Ordering.TheVariants.{Less, Equal, Greater}
use Rattle.abl_base.specs.declared.value.Value.{Value}
use Rattle.abl_base.specs.declared.value.Value.TheVariants.{Text, Int, Int64, Dec, Logical, Date, Unknown}
use Rattle.abl_base.specs.declared.value.Kind.{Kind}
use Rattle.abl_base.specs.declared.value.Kind.TheVariants.{Character, Integer, Int64 as Whole64, Decimal, Logical as Truth, Date as Day}
use Rattle.abl_values.specs.Order.{scaled, value_order, compared_text}
use Rattle.abl_values.specs.Arithmetic.{fits_bits}
use Rattle.abl_values.specs.Dates.{is_day}
use Rattle.abl_values.specs.Fit.{IsOfKind, IsOfField}
use Rattle.abl_values.specs.Rows.{number_bytes}
use Rattle.abl_values.specs.Keys.{ascending_bytes, escaped, escaped_byte, turned_over}
use Rattle.abl_values.proofs.Numbers.{nat_cmp-less, nat_cmp-greater, nat_cmp-same, number_bytes-cmp, length-number_bytes}
use Rattle.abl_values.proofs.Settled.{settles, settles_then, settles-length}

-- ---- numbers

int_cmp-less : (x y : ℤ) → x <ℤ y → int_cmp x y ≡ Less
int_cmp-less x y h = grind (arith, ints)

int_cmp-greater : (x y : ℤ) → y <ℤ x → int_cmp x y ≡ Greater
int_cmp-greater x y h = grind (arith, ints)

int_cmp-same : (x y : ℤ) → x ≡ y → int_cmp x y ≡ Equal
int_cmp-same x y h = grind (arith, ints)

-- two orders of numbers are one where each is below exactly where the other is
scaled-less : (x y : ℤ) → x <ℤ y → scaled x <ℤ scaled y
scaled-less x y h = omega (arith, ints)

-- a number with its highest bit turned over keeps its place, in the range of its width
turned-less_32 : (x y : ℤ) → fits_bits 31 x ≡ true → fits_bits 31 y ≡ true → x <ℤ y → turned_over 32 x < turned_over 32 y
turned-less_32 x y hx hy h = grind (arith, ints, nat_tests)

turned-lt_32 : (x : ℤ) → fits_bits 31 x ≡ true → turned_over 32 x < 256 ^ 4
turned-lt_32 x hx = grind (arith, ints, nat_tests)

turned-less_64 : (x y : ℤ) → fits_bits 63 x ≡ true → fits_bits 63 y ≡ true → x <ℤ y → turned_over 64 x < turned_over 64 y
turned-less_64 x y hx hy h = grind (arith, ints, nat_tests)

turned-lt_64 : (x : ℤ) → fits_bits 63 x ≡ true → turned_over 64 x < 256 ^ 8
turned-lt_64 x hx = grind (arith, ints, nat_tests)

turned-less_128 : (x y : ℤ) → fits_bits 127 x ≡ true → fits_bits 127 y ≡ true → x <ℤ y → turned_over 128 x < turned_over 128 y
turned-less_128 x y hx hy h = grind (arith, ints, nat_tests)

turned-lt_128 : (x : ℤ) → fits_bits 127 x ≡ true → turned_over 128 x < 256 ^ 16
turned-lt_128 x hx = grind (arith, ints, nat_tests)

-- a map that keeps the order of numbers gives their order
module _ (f : ℤ → ℕ) (Holds : ℤ → Type 0) (keeps : (x y : ℤ) → Holds x → Holds y → x <ℤ y → f x < f y) where
  nat_cmp-kept : (x y : ℤ) → Holds x → Holds y → nat_cmp (f x) (f y) ≡ int_cmp x y
  nat_cmp-kept x y hx hy =
      by_lt_z x y (λ h. nat_cmp-less (f x) (f y) (keeps x y hx hy h) ∙ sym (int_cmp-less x y h))
      (λ h. by_lt_z y x (λ k. nat_cmp-greater (f x) (f y) (keeps y x hy hx k) ∙ sym (int_cmp-greater x y k))
      (λ k. let e : x ≡ y = omega (arith, ints) in
      nat_cmp-same (f x) (f y) (ap f e) ∙ sym (int_cmp-same x y e)))

int_cmp-scaled : (x y : ℤ) → int_cmp (scaled x) (scaled y) ≡ int_cmp x y
int_cmp-scaled x y =
    by_lt_z x y (λ h. int_cmp-less (scaled x) (scaled y) (scaled-less x y h) ∙ sym (int_cmp-less x y h))
    (λ h. by_lt_z y x (λ k. int_cmp-greater (scaled x) (scaled y) (scaled-less y x k) ∙ sym (int_cmp-greater x y k))
    (λ k. let e : x ≡ y = omega (arith, ints) in
    int_cmp-same (scaled x) (scaled y) (ap scaled e) ∙ sym (int_cmp-same x y e)))

-- numbers of n bytes are settled by their order
settles-numbers : (n x y : ℕ) → x < 256 ^ n → y < 256 ^ n → settles (number_bytes n x) (number_bytes n y) ≡ Some (nat_cmp x y)
settles-numbers n x y hx hy =
    settles-length (number_bytes n x) (number_bytes n y) (length-number_bytes n x ∙ sym (length-number_bytes n y))
    ∙ ap (λ o. Some o) (number_bytes-cmp n x y hx hy)

day_fits : (d : ℤ) → is_day d ≡ true → fits_bits 31 d ≡ true
day_fits (pos n) h = grind (arith, nat_tests)
day_fits (negsuc n) h = grind (arith, nat_tests)

then_equal : (o : Ordering) → ordering_then o Equal ≡ o
then_equal Less = refl
then_equal Equal = refl
then_equal Greater = refl

-- ---- texts

two_zeros : List ℕ
two_zeros = 0 ∷ 0 ∷ []

-- a text with its zero bytes escaped and two zero bytes after it
ended : List ℕ → List ℕ
ended t = escaped t ++ two_zeros

escaped_other : (b : ℕ) → b ≢ 0 → escaped_byte b ≡ b ∷ []
escaped_other b h = grind (arith, nat_tests)

ended_suc : (b : ℕ) (t : List ℕ) → ended (suc b ∷ t) ≡ suc b ∷ ended t
unfolding ended two_zeros
ended_suc b t =
    ap (λ (xs : List ℕ). (xs ++ flat_map escaped_byte t) ++ 0 ∷ 0 ∷ []) (escaped_other (suc b) (λ e. absurd (omega arith)))

then_some : (o p : Ordering) → settles_then o (Some p) ≡ Some (ordering_then o p)
then_some Less p = refl
then_some Equal p = refl
then_some Greater p = refl

-- the first bytes decide
below_first : (a b : ℕ) (xs ys : List ℕ) (p : Ordering) → a < b → settles (a ∷ xs) (b ∷ ys) ≡ Some (ordering_then (nat_cmp a b) p)
below_first a b xs ys p h =
    let e = nat_cmp-less a b h in
    ap (λ o. settles_then o (settles xs ys)) e ∙ sym (ap (λ o. Some (ordering_then o p)) e)

above_first : (a b : ℕ) (xs ys : List ℕ) (p : Ordering) → b < a → settles (a ∷ xs) (b ∷ ys) ≡ Some (ordering_then (nat_cmp a b) p)
above_first a b xs ys p h =
    let e = nat_cmp-greater a b h in
    ap (λ o. settles_then o (settles xs ys)) e ∙ sym (ap (λ o. Some (ordering_then o p)) e)

settles-ended : (s t : List ℕ) → settles (ended s) (ended t) ≡ Some (slice_cmp nat_cmp s t)
unfolding ended two_zeros
settles-ended [] [] = refl
settles-ended [] (zero ∷ t) = refl
settles-ended [] (suc b ∷ t) =
    ap (settles (0 ∷ 0 ∷ [])) (ended_suc b t) ∙ ap (λ o. settles_then o (settles (0 ∷ []) (ended t))) (nat_cmp-less 0 (suc b) (omega arith))
settles-ended (zero ∷ s) [] = refl
settles-ended (suc a ∷ s) [] =
    ap (λ (xs : List ℕ). settles xs (0 ∷ 0 ∷ [])) (ended_suc a s) ∙ ap (λ o. settles_then o (settles (ended s) (0 ∷ []))) (nat_cmp-greater (suc a) 0 (omega arith))
settles-ended (zero ∷ s) (zero ∷ t) = settles-ended s t
settles-ended (zero ∷ s) (suc b ∷ t) =
    ap (settles (0 ∷ 255 ∷ ended s)) (ended_suc b t) ∙ below_first 0 (suc b) (255 ∷ ended s) (ended t) (slice_cmp nat_cmp s t) (omega arith)
settles-ended (suc a ∷ s) (zero ∷ t) =
    ap (λ (xs : List ℕ). settles xs (0 ∷ 255 ∷ ended t)) (ended_suc a s) ∙ above_first (suc a) 0 (ended s) (255 ∷ ended t) (slice_cmp nat_cmp s t) (omega arith)
settles-ended (suc a ∷ s) (suc b ∷ t) =
    ap (λ (xs : List ℕ). settles xs (ended (suc b ∷ t))) (ended_suc a s) ∙ ap (settles (suc a ∷ ended s)) (ended_suc b t)
    ∙ ap (settles_then (nat_cmp (suc a) (suc b))) (settles-ended s t) ∙ then_some (nat_cmp (suc a) (suc b)) (slice_cmp nat_cmp s t)

-- ---- values

settles-truth : (a b : Bool) → settles (ascending_bytes (Logical a)) (ascending_bytes (Logical b)) ≡ Some (value_order (Logical a) (Logical b))
unfolding value_order
settles-truth false false = refl
settles-truth false true = refl
settles-truth true false = refl
settles-truth true true = refl

settles-whole : (x y : ℤ) → fits_bits 63 x ≡ true → fits_bits 63 y ≡ true → settles (number_bytes 8 (turned_over 64 x)) (number_bytes 8 (turned_over 64 y)) ≡ Some (ordering_then (int_cmp (scaled x) (scaled y)) Equal)
settles-whole x y hx hy =
    settles-numbers 8 (turned_over 64 x) (turned_over 64 y) (turned-lt_64 x hx) (turned-lt_64 y hy)
    ∙ ap (λ o. Some o) (nat_cmp-kept (turned_over 64) (λ z. fits_bits 63 z ≡ true) turned-less_64 x y hx hy ∙ sym (int_cmp-scaled x y) ∙ sym (then_equal (int_cmp (scaled x) (scaled y))))

settles-decimal : (x y : ℤ) → fits_bits 127 x ≡ true → fits_bits 127 y ≡ true → settles (number_bytes 16 (turned_over 128 x)) (number_bytes 16 (turned_over 128 y)) ≡ Some (ordering_then (int_cmp x y) Equal)
settles-decimal x y hx hy =
    settles-numbers 16 (turned_over 128 x) (turned_over 128 y) (turned-lt_128 x hx) (turned-lt_128 y hy)
    ∙ ap (λ o. Some o) (nat_cmp-kept (turned_over 128) (λ z. fits_bits 127 z ≡ true) turned-less_128 x y hx hy ∙ sym (then_equal (int_cmp x y)))

settles-day : (x y : ℤ) → fits_bits 31 x ≡ true → fits_bits 31 y ≡ true → settles (number_bytes 4 (turned_over 32 x)) (number_bytes 4 (turned_over 32 y)) ≡ Some (ordering_then (int_cmp x y) Equal)
settles-day x y hx hy =
    settles-numbers 4 (turned_over 32 x) (turned_over 32 y) (turned-lt_32 x hx) (turned-lt_32 y hy)
    ∙ ap (λ o. Some o) (nat_cmp-kept (turned_over 32) (λ z. fits_bits 31 z ≡ true) turned-less_32 x y hx hy ∙ sym (then_equal (int_cmp x y)))

wider : (n : ℤ) → fits_bits 31 n ≡ true → fits_bits 63 n ≡ true
wider (pos n) h = grind (arith, nat_tests)
wider (negsuc n) h = grind (arith, nat_tests)

-- two values of one kind are settled by their order
settles-kind : (kind : Kind) (a b : Value) → IsOfKind kind a → IsOfKind kind b → settles (ascending_bytes a) (ascending_bytes b) ≡ Some (value_order a b)
unfolding value_order ended two_zeros
settles-kind kind Unknown Unknown ha hb = refl
settles-kind kind Unknown b ha hb = refl
settles-kind kind a Unknown ha hb = refl
settles-kind Character (Text s) (Text t) ha hb = settles-ended (compared_text s) (compared_text t)
settles-kind Character (Text s) b ha hb = absurd hb
settles-kind Integer (Int x) (Int y) ha hb = settles-whole x y (wider x ha) (wider y hb)
settles-kind Integer (Int x) b ha hb = absurd hb
settles-kind Whole64 (Int64 x) (Int64 y) ha hb = settles-whole x y ha hb
settles-kind Whole64 (Int64 x) b ha hb = absurd hb
settles-kind Decimal (Dec x) (Dec y) ha hb = settles-decimal x y ha hb
settles-kind Decimal (Dec x) b ha hb = absurd hb
settles-kind Truth (Logical x) (Logical y) ha hb = settles-truth x y
settles-kind Truth (Logical x) b ha hb = absurd hb
settles-kind Day (Date x) (Date y) ha hb = settles-day x y (day_fits x ha) (day_fits y hb)
settles-kind Day (Date x) b ha hb = absurd hb
settles-kind kind a b ha hb = absurd ha

pub settles-field : (kind : Option Kind) (a b : Value) → IsOfField kind a → IsOfField kind b → settles (ascending_bytes a) (ascending_bytes b) ≡ Some (value_order a b)
unfolding value_order
settles-field (Some kind) a b ha hb = settles-kind kind a b ha hb
settles-field None a b ha hb =
    ap (λ v. settles (ascending_bytes v) (ascending_bytes b)) ha ∙ ap (λ v. settles (2 ∷ []) (ascending_bytes v)) hb
    ∙ sym (ap (λ v. Some (value_order v b)) ha ∙ ap (λ v. Some (value_order Unknown v)) hb)
