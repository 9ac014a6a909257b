-- The bytes of a component end by themselves: two keys with the same bytes have the same components, and a key that begins with the bytes of
-- leading values has these values.
use Rattle.std.proofs.Common.{◌≡◌, ◌≢◌, ℕ, zero, suc, ℤ, Bool, true, false, ◌||◌, List, [], ◌∷◌, ◌++◌, append_assoc, length, map, get_or, Option, Some, None, refl, sym, ap, ◌∙◌, subst, arith}
use Rattle.std.proofs.lemmas.Bool.Decides.{nat_tests}
use Rattle.std.specs.List.{flat_map}
use Rattle.std.proofs.lemmas.List.{length-map}
use Rattle.abl_base.specs.declared.value.Value.{Value}
use Rattle.abl_base.specs.declared.value.Value.TheVariants.{Text, Int, Int64, Dec, Logical, Date, Unknown}
use Rattle.abl_base.specs.declared.value.Kind.{Kind}
use Rattle.abl_base.specs.declared.value.Kind.TheVariants.{Character, Integer, Int64 as Whole64, Decimal, Logical as Truth, Date as Day}
use Rattle.abl_values.specs.declared.schema.KeyPart.{KeyPart}
use Rattle.abl_values.specs.Fit.{IsOfKind, IsOfField}
use Rattle.abl_values.specs.Rows.{FitsFields}
use Rattle.abl_values.specs.Order.{compared_text}
use Rattle.abl_values.specs.Keys.{ascending_bytes, component, component_bytes, escaped, escaped_byte, has_unknown, is_unknown, key_bytes, turned_byte, turned_over}
use Rattle.abl_values.proofs.Numbers.{length-number_bytes}
use Rattle.database_meaning.specs.Search.{HasPrefix}
use Rattle.key_index.specs.Search.{BeginsWith}
use Rattle.row_keys.specs.Prefixes.{FitsParts, leading_bytes}

-- ---- lists of one length

cons_same : (x y : ℕ) (xs ys : List ℕ) → x ≡ y → xs ≡ ys → (x ∷ xs) ≡ (y ∷ ys)
cons_same x y xs ys h t = ap (λ (z : ℕ). z ∷ xs) h ∙ ap (λ (zs : List ℕ). y ∷ zs) t

head_of : (x y : ℕ) (xs ys : List ℕ) → (x ∷ xs) ≡ (y ∷ ys) → x ≡ y
head_of x y xs ys e = cc

tail_of : (x y : ℕ) (xs ys : List ℕ) → (x ∷ xs) ≡ (y ∷ ys) → xs ≡ ys
tail_of x y xs ys e = cc

split_length : (xs ys r s : List ℕ) → length xs ≡ length ys → xs ++ r ≡ ys ++ s → (xs ≡ ys) × (r ≡ s)
split_length [] [] r s e h = (refl, h)
split_length [] (y ∷ ys) r s e h = absurd (omega arith)
split_length (x ∷ xs) [] r s e h = absurd (omega arith)
split_length (x ∷ xs) (y ∷ ys) r s e h =
    let again = split_length xs ys r s (omega arith) (tail_of x y (xs ++ r) (ys ++ s) h) in
    (cons_same x y xs ys (head_of x y (xs ++ r) (ys ++ s) h) again.0, again.1)

-- ---- texts

turned_text : Bool → List ℕ → List ℕ
turned_text d [] = turned_byte d 0 ∷ turned_byte d 0 ∷ []
turned_text d (zero ∷ text) = turned_byte d 0 ∷ turned_byte d 255 ∷ turned_text d text
turned_text d (suc b ∷ text) = turned_byte d (suc b) ∷ turned_text d text

escaped_other : (b : ℕ) → escaped_byte (suc b) ≡ suc b ∷ []
escaped_other b = grind (arith, nat_tests)

turned_is : (d : Bool) (text : List ℕ) → map (turned_byte d) (escaped text ++ 0 ∷ 0 ∷ []) ≡ turned_text d text
unfolding turned_text
turned_is d [] = refl
turned_is d (zero ∷ text) = ap (λ (xs : List ℕ). turned_byte d 0 ∷ turned_byte d 255 ∷ xs) (turned_is d text)
turned_is d (suc b ∷ text) =
    ap (λ (xs : List ℕ). map (turned_byte d) ((xs ++ flat_map escaped_byte text) ++ 0 ∷ 0 ∷ [])) (escaped_other b)
    ∙ ap (λ (xs : List ℕ). turned_byte d (suc b) ∷ xs) (turned_is d text)

zero_or_escape : (d : Bool) → turned_byte d 0 ≢ turned_byte d 255
zero_or_escape true e = absurd (omega arith)
zero_or_escape false e = absurd (omega arith)

zero_or_more : (d : Bool) (b : ℕ) → turned_byte d 0 ≢ turned_byte d (suc b)
zero_or_more true b e = absurd (omega arith)
zero_or_more false b e = absurd (omega arith)

text_split : (d : Bool) (u v r s : List ℕ) → turned_text d u ++ r ≡ turned_text d v ++ s → (turned_text d u ≡ turned_text d v) × (r ≡ s)
unfolding turned_text
text_split d [] [] r s h =
    let z = turned_byte d 0 in (refl, tail_of z z r s (tail_of z z (z ∷ r) (z ∷ s) h))
text_split d [] (zero ∷ v) r s h =
    let z = turned_byte d 0 in let f = turned_byte d 255 in
    absurd (zero_or_escape d (head_of z f r (turned_text d v ++ s) (tail_of z z (z ∷ r) (f ∷ turned_text d v ++ s) h)))
text_split d [] (suc b ∷ v) r s h =
    let z = turned_byte d 0 in absurd (zero_or_more d b (head_of z (turned_byte d (suc b)) (z ∷ r) (turned_text d v ++ s) h))
text_split d (zero ∷ u) [] r s h =
    let z = turned_byte d 0 in let f = turned_byte d 255 in
    absurd (zero_or_escape d (sym (head_of f z (turned_text d u ++ r) s (tail_of z z (f ∷ turned_text d u ++ r) (z ∷ s) h))))
text_split d (zero ∷ u) (zero ∷ v) r s h =
    let z = turned_byte d 0 in let f = turned_byte d 255 in
    let again = text_split d u v r s (tail_of f f (turned_text d u ++ r) (turned_text d v ++ s) (tail_of z z (f ∷ turned_text d u ++ r) (f ∷ turned_text d v ++ s) h)) in
    (ap (λ (xs : List ℕ). turned_byte d 0 ∷ turned_byte d 255 ∷ xs) again.0, again.1)
text_split d (zero ∷ u) (suc b ∷ v) r s h =
    let z = turned_byte d 0 in
    absurd (zero_or_more d b (head_of z (turned_byte d (suc b)) (turned_byte d 255 ∷ turned_text d u ++ r) (turned_text d v ++ s) h))
text_split d (suc a ∷ u) [] r s h =
    let z = turned_byte d 0 in absurd (zero_or_more d a (sym (head_of (turned_byte d (suc a)) z (turned_text d u ++ r) (z ∷ s) h)))
text_split d (suc a ∷ u) (zero ∷ v) r s h =
    let z = turned_byte d 0 in
    absurd (zero_or_more d a (sym (head_of (turned_byte d (suc a)) z (turned_text d u ++ r) (turned_byte d 255 ∷ turned_text d v ++ s) h)))
text_split d (suc a ∷ u) (suc b ∷ v) r s h =
    let x = turned_byte d (suc a) in let y = turned_byte d (suc b) in
    let again = text_split d u v r s (tail_of x y (turned_text d u ++ r) (turned_text d v ++ s) h) in
    (cons_same x y (turned_text d u) (turned_text d v) (head_of x y (turned_text d u ++ r) (turned_text d v ++ s) h) again.0, again.1)

-- ---- values

abbrev Splits : Bool → Value → Value → Type 0
Splits d a b = (r s : List ℕ) → component_bytes d a ++ r ≡ component_bytes d b ++ s → (component_bytes d a ≡ component_bytes d b) × (r ≡ s)

unknown_differs : (d : Bool) → turned_byte d 2 ≢ turned_byte d 1
unknown_differs true e = absurd (omega arith)
unknown_differs false e = absurd (omega arith)

of_one_length : (d : Bool) (a b : Value) (n : ℕ) → length (ascending_bytes a) ≡ n → length (ascending_bytes b) ≡ n → Splits d a b
of_one_length d a b n ha hb r s h =
    split_length (component_bytes d a) (component_bytes d b) r s
    (length-map (ascending_bytes a) (turned_byte d) ∙ (ha ∙ (sym hb ∙ sym (length-map (ascending_bytes b) (turned_byte d))))) h

texts_split : (d : Bool) (u v : List ℕ) → Splits d (Text u) (Text v)
texts_split d u v r s h =
    let one = turned_byte d 1 in
    let x = map (turned_byte d) (escaped (compared_text u) ++ 0 ∷ 0 ∷ []) in
    let y = map (turned_byte d) (escaped (compared_text v) ++ 0 ∷ 0 ∷ []) in
    let ex : x ≡ turned_text d (compared_text u) = turned_is d (compared_text u) in
    let ey : y ≡ turned_text d (compared_text v) = turned_is d (compared_text v) in
    let tails : x ++ r ≡ y ++ s = tail_of one one (x ++ r) (y ++ s) h in
    let split = text_split d (compared_text u) (compared_text v) r s (ap (λ (z : List ℕ). z ++ r) (sym ex) ∙ (tails ∙ ap (λ (z : List ℕ). z ++ s) ey)) in
    (cons_same one one x y refl (ex ∙ (split.0 ∙ sym ey)), split.1)

whole_length : (n : ℤ) → length (ascending_bytes (Int n)) ≡ 9
whole_length n = let e = length-number_bytes 8 (turned_over 64 n) in omega (arith, e)

large_length : (n : ℤ) → length (ascending_bytes (Int64 n)) ≡ 9
large_length n = let e = length-number_bytes 8 (turned_over 64 n) in omega (arith, e)

decimal_length : (n : ℤ) → length (ascending_bytes (Dec n)) ≡ 17
decimal_length n = let e = length-number_bytes 16 (turned_over 128 n) in omega (arith, e)

day_length : (n : ℤ) → length (ascending_bytes (Date n)) ≡ 5
day_length n = let e = length-number_bytes 4 (turned_over 32 n) in omega (arith, e)

-- `?` and a value that is none
known_bytes : (d : Bool) (b : Value) → is_unknown b ≡ false → (r s : List ℕ) → component_bytes d Unknown ++ r ≡ component_bytes d b ++ s → ⊥
known_bytes d Unknown k r s h = let clash : true ≡ false = k in cc
known_bytes d (Text t) k r s h = unknown_differs d (head_of (turned_byte d 2) (turned_byte d 1) _ _ h)
known_bytes d (Int n) k r s h = unknown_differs d (head_of (turned_byte d 2) (turned_byte d 1) _ _ h)
known_bytes d (Int64 n) k r s h = unknown_differs d (head_of (turned_byte d 2) (turned_byte d 1) _ _ h)
known_bytes d (Dec n) k r s h = unknown_differs d (head_of (turned_byte d 2) (turned_byte d 1) _ _ h)
known_bytes d (Logical t) k r s h = unknown_differs d (head_of (turned_byte d 2) (turned_byte d 1) _ _ h)
known_bytes d (Date n) k r s h = unknown_differs d (head_of (turned_byte d 2) (turned_byte d 1) _ _ h)

from_unknown : (d : Bool) (b : Value) → Splits d Unknown b
from_unknown d Unknown = of_one_length d Unknown Unknown 1 refl refl
from_unknown d b = λ r s h. absurd (known_bytes d b refl r s h)

to_unknown : (d : Bool) (a : Value) → Splits d a Unknown
to_unknown d Unknown = of_one_length d Unknown Unknown 1 refl refl
to_unknown d a = λ r s h. absurd (known_bytes d a refl s r (sym h))

truths_split : (d : Bool) (a b : Bool) → Splits d (Logical a) (Logical b)
truths_split d a b = of_one_length d (Logical a) (Logical b) 2 refl refl

kind_splits : (kind : Kind) (d : Bool) (a b : Value) → IsOfKind kind a → IsOfKind kind b → Splits d a b
kind_splits kind d Unknown b ha hb = from_unknown d b
kind_splits kind d a Unknown ha hb = to_unknown d a
kind_splits Character d (Text u) (Text v) ha hb = texts_split d u v
kind_splits Character d (Text u) b ha hb = absurd hb
kind_splits Integer d (Int x) (Int y) ha hb = of_one_length d (Int x) (Int y) 9 (whole_length x) (whole_length y)
kind_splits Integer d (Int x) b ha hb = absurd hb
kind_splits Whole64 d (Int64 x) (Int64 y) ha hb = of_one_length d (Int64 x) (Int64 y) 9 (large_length x) (large_length y)
kind_splits Whole64 d (Int64 x) b ha hb = absurd hb
kind_splits Decimal d (Dec x) (Dec y) ha hb = of_one_length d (Dec x) (Dec y) 17 (decimal_length x) (decimal_length y)
kind_splits Decimal d (Dec x) b ha hb = absurd hb
kind_splits Truth d (Logical x) (Logical y) ha hb = truths_split d x y
kind_splits Truth d (Logical x) b ha hb = absurd hb
kind_splits Day d (Date x) (Date y) ha hb = of_one_length d (Date x) (Date y) 5 (day_length x) (day_length y)
kind_splits Day d (Date x) b ha hb = absurd hb
kind_splits kind d a b ha hb = absurd ha

field_splits : (kind : Option Kind) (d : Bool) (a b : Value) → IsOfField kind a → IsOfField kind b → Splits d a b
field_splits (Some kind) d a b ha hb = kind_splits kind d a b ha hb
field_splits None d a b ha hb = subst (λ (v : Value). Splits d v b) (sym ha) (from_unknown d b)

same_unknown : (d : Bool) (a b : Value) → component_bytes d a ≡ component_bytes d b → is_unknown a ≡ is_unknown b
same_unknown d Unknown Unknown e = refl
same_unknown d Unknown b e = absurd (known_bytes d b refl [] [] (ap (λ (xs : List ℕ). xs ++ []) e))
same_unknown d a Unknown e = absurd (known_bytes d a refl [] [] (ap (λ (xs : List ℕ). xs ++ []) (sym e)))
same_unknown d a b e = refl

-- ---- rows

fits_at : (kinds : List (Option Kind)) (row : List Value) (i : ℕ) → FitsFields kinds row → IsOfField (get_or kinds i None) (get_or row i Unknown)
fits_at [] [] i fits = refl
fits_at [] (v ∷ row) i fits = absurd fits
fits_at (kind ∷ kinds) [] i fits = absurd fits
fits_at (kind ∷ kinds) (v ∷ row) zero fits = fits.0
fits_at (kind ∷ kinds) (v ∷ row) (suc i) fits = fits_at kinds row i fits.1

-- rows with the same key bytes are unknown in the same components
pub unknown_alike : (kinds : List (Option Kind)) (parts : List KeyPart) (a b : List Value) → FitsFields kinds a → FitsFields kinds b → key_bytes parts a ≡ key_bytes parts b → has_unknown parts a ≡ has_unknown parts b
unfolding key_bytes
unknown_alike kinds [] a b fa fb e = refl
unknown_alike kinds (part ∷ parts) a b fa fb e =
    let split = field_splits (get_or kinds part.field None) part.descending (component part a) (component part b) (fits_at kinds a part.field fa) (fits_at kinds b part.field fb) (key_bytes parts a) (key_bytes parts b) e in
    ap (λ (t : Bool). t || has_unknown parts a) (same_unknown part.descending (component part a) (component part b) split.0)
    ∙ ap (λ (t : Bool). is_unknown (component part b) || t) (unknown_alike kinds parts a b fa fb split.1)

-- leading values are the first bytes of a key
pub prefix_begins : (kinds : List (Option Kind)) (parts : List KeyPart) (ps values : List Value) → HasPrefix kinds parts ps values → BeginsWith (key_bytes parts values) (leading_bytes parts ps)
unfolding key_bytes
prefix_begins kinds parts [] values h = (key_bytes parts values, refl)
prefix_begins kinds [] (p ∷ ps) values h = absurd h
prefix_begins kinds (part ∷ parts) (p ∷ ps) values h =
    let again = prefix_begins kinds parts ps values h.2 in
    let c = component_bytes part.descending p in
    (again.0, ap (λ (xs : List ℕ). xs ++ key_bytes parts values) h.1 ∙ (ap (λ (xs : List ℕ). c ++ xs) again.1 ∙ sym (append_assoc c (leading_bytes parts ps) again.0)))

pub begins_prefix : (kinds : List (Option Kind)) (parts : List KeyPart) (ps values : List Value) → FitsFields kinds values → FitsParts kinds parts ps → BeginsWith (key_bytes parts values) (leading_bytes parts ps) → HasPrefix kinds parts ps values
unfolding key_bytes
begins_prefix kinds parts [] values fits asked h = tt
begins_prefix kinds [] (p ∷ ps) values fits asked h = absurd asked
begins_prefix kinds (part ∷ parts) (p ∷ ps) values fits asked h =
    let c = component_bytes part.descending p in
    let split = field_splits (get_or kinds part.field None) part.descending (component part values) p (fits_at kinds values part.field fits) asked.0 (key_bytes parts values) (leading_bytes parts ps ++ h.0)
    (h.1 ∙ append_assoc c (leading_bytes parts ps) h.0) in
    (asked.0, split.0, begins_prefix kinds parts ps values fits asked.1 (h.0, split.1))

-- values that a row of the table may have as leading ones
pub prefix_fits : (kinds : List (Option Kind)) (parts : List KeyPart) (ps values : List Value) → HasPrefix kinds parts ps values → FitsParts kinds parts ps
prefix_fits kinds parts [] values h = tt
prefix_fits kinds [] (p ∷ ps) values h = absurd h
prefix_fits kinds (part ∷ parts) (p ∷ ps) values h = (h.0, prefix_fits kinds parts ps values h.2)
