-- The line that EXPORT writes of a row consists of elements that yield the row.
use Rattle.std.proofs.Common.{◌≡◌, ◌+◌, ℕ, suc, ◌<◌, ◌≤◌, ◌^◌, inl, Bool, true, false, not, ◌&&◌, ◌||◌, ◌==◌, ◌/◌, ◌%◌, nat_le, if◌then◌else◌, List, [], ◌∷◌, ◌++◌, map, length, drop, Some, None, option_map, ℤ, pos, negsuc, refl, sym, ap, ◌∙◌, subst, arith, append_assoc, append-nil, length-append, lit≤}
use Rattle.std.specs.List.{list_all, flat_map, join_by}
use Rattle.std.specs.Fmt.{decimal, signed_decimal}
use Rattle.std.proofs.lemmas.List.{drop_at}
use Rattle.std.proofs.lemmas.Bool.{false≢true, both_ways, le-leb, leb-true, lt-ltb, ltb-true, ne_eqb, and_from, and_parts, and_left, not-true, not_from_false, or_from}
use Rattle.abl_base.specs.declared.value.Value.{Value}
use Rattle.abl_base.specs.declared.value.Value.TheVariants.{Text, Int, Int64, Dec, Logical, Date, Unknown}
use Rattle.abl_base.specs.declared.value.Kind.{Kind}
use Rattle.abl_base.specs.declared.value.Kind.TheVariants.{Character, Integer, Int64 as Whole64, Decimal, Logical as Truth, Date as Day}
use Rattle.abl_base.specs.declared.limits.TheConstants.{MAX_TEXT_BYTES}
use Rattle.abl_values.specs.Fit.{IsOfKind}
use Rattle.abl_values.specs.Masks.{is_digit, same_bytes}
use Rattle.abl_values.specs.Digits.{are_digits}
use Rattle.abl_values.specs.Arithmetic.{fits_bits}
use Rattle.abl_values.specs.Dates.{date_of_day, is_day}
use Rattle.abl_values.specs.Order.{without_trailing}
use Rattle.abl_values.specs.Texts.{after_point, date_text, decimal_text, doubled, export_text, last_digits, plain_text, year_text}
use Rattle.value_masks.specs.Export.{export}
use Rattle.text_values.specs.TextValues.{value_in}
use Rattle.abl_base.specs.text_forms.TextForms.{Elements}
use Rattle.value_formats.specs.declared.element.Element.{Element}
use Rattle.value_formats.specs.declared.element.Element.TheVariants.{Bare, Quoted}
use Rattle.value_formats.specs.Lines.{is_blank, is_bare, is_bare_byte, starts, starts_bare, starts_end, ends_in_return, Spells, IsLine, is_input_end}
use Rattle.value_formats.specs.Imports.{given, taken, AreTaken, line_at}
use Rattle.value_formats.specs.Laws.{AreOfKinds}
use Rattle.value_formats.proofs.Begun.{spells_blank}
use Rattle.value_formats.proofs.LineAnswers.{is_input_end_of}
use Rattle.value_formats.proofs.OneImport.{import_is}
use Rattle.value_formats.proofs.Spelled.{all_append, all_weaker, are_all_digits, decimal_spells, digit_high, digit_low, last_are, trimmed_are}
use Rattle.value_formats.proofs.NumberTexts.{decimal_back, negative_text, positive_text, small_of, whole_back}
use Rattle.value_formats.proofs.DayTexts.{day_back, year_digits}

-- ---- the bytes of plain texts

-- a byte of a plain text: above the blanks, the ends of lines and the quotation mark
abbrev is_high : ℕ → Bool
is_high b = nat_le 35 b

-- one or more such bytes, not beginning with a point
abbrev is_word : List ℕ → Bool
is_word [] = false
is_word (b ∷ bs) = not (b == 46) && list_all is_high (b ∷ bs)

digit_is_high : (b : ℕ) → is_digit b ≡ true → is_high b ≡ true
digit_is_high b h = le-leb 35 b (omega (arith, digit_low b h))

digits_are_high : (ds : List ℕ) → list_all is_digit ds ≡ true → list_all is_high ds ≡ true
digits_are_high ds h = all_weaker is_digit is_high digit_is_high ds h

high_no : (b c : ℕ) → is_high b ≡ true → c < 35 → (b == c) ≡ false
high_no b c h low = ne_eqb b c (λ e. omega (arith, e, leb-true 35 b h))

high_is_bare : (b : ℕ) → is_high b ≡ true → is_bare_byte b ≡ true
high_is_bare b h =
    not_from_false (is_blank b || (b == 10))
    (or_from (is_blank b) (b == 10) (or_from (b == 32) (b == 9) (high_no b 32 h (omega arith)) (high_no b 9 h (omega arith))) (high_no b 10 h (omega arith)))

word_is_bare : (word : List ℕ) → is_word word ≡ true → is_bare word ≡ true
word_is_bare [] h = h
word_is_bare (b ∷ bs) h =
    let both = and_parts (not (b == 46)) (list_all is_high (b ∷ bs)) h in
    let first = and_parts (is_high b) (list_all is_high bs) both.1 in
    and_from (not (b == 34)) (list_all is_bare_byte (b ∷ bs)) (not_from_false (b == 34) (high_no b 34 first.0 (omega arith))) (all_weaker is_high is_bare_byte high_is_bare (b ∷ bs) both.1)

digits_word : (ds more : List ℕ) → are_digits ds ≡ true → list_all is_high more ≡ true → is_word (ds ++ more) ≡ true
digits_word [] more h k = absurd (false≢true h)
digits_word (d ∷ ds) more h k =
    let first = and_parts (is_digit d) (list_all is_digit ds) h in
    let low = digit_low d first.0 in
    and_from (not (d == 46)) (list_all is_high ((d ∷ ds) ++ more)) (not_from_false (d == 46) (ne_eqb d 46 (λ e. omega (arith, e, low))))
    (all_append is_high (d ∷ ds) more (digits_are_high (d ∷ ds) h) k)

-- ---- none of these elements is a bare `?` or `-`

first_differs : (b : ℕ) (bs : List ℕ) (c : ℕ) → (b == c) ≡ false → same_bytes (b ∷ bs) (c ∷ []) ≡ false
first_differs b bs c h = and_left (b == c) (same_bytes bs []) h

-- neither `?` nor `-` alone
record IsNeither (word : List ℕ) : Type 0 where
  no_question : same_bytes word (63 ∷ []) ≡ false
  no_minus : same_bytes word (45 ∷ []) ≡ false

digits_neither : (ds more : List ℕ) → are_digits ds ≡ true → IsNeither (ds ++ more)
digits_neither [] more h = absurd (false≢true h)
digits_neither (d ∷ ds) more h =
    let first = (and_parts (is_digit d) (list_all is_digit ds) h).0 in
    let low = digit_low d first in
    let high = digit_high d first in
    record {
      no_question = first_differs d (ds ++ more) 63 (ne_eqb d 63 (λ e. omega (arith, e, high)));
      no_minus = first_differs d (ds ++ more) 45 (ne_eqb d 45 (λ e. omega (arith, e, low)));
    }

negative_neither : (ds more : List ℕ) → are_digits ds ≡ true → IsNeither (45 ∷ (ds ++ more))
negative_neither [] more h = absurd (false≢true h)
negative_neither (d ∷ ds) more h = record { no_question = refl; no_minus = refl }

given_bare : (kind : Kind) (word : List ℕ) → IsNeither word → taken (Some kind) (Bare word) ≡ given kind word
given_bare kind word h =
    ap (λ (t : Bool). if t then Some (Some Unknown) else if same_bytes word (45 ∷ []) then Some None else given kind word) h.no_question
    ∙ ap (λ (t : Bool). if t then Some None else given kind word) h.no_minus

-- such bytes that are neither
record Plain (word : List ℕ) : Type 0 where
  is_one : is_word word ≡ true
  neither : IsNeither word

plain_digits : (ds more : List ℕ) → are_digits ds ≡ true → list_all is_high more ≡ true → Plain (ds ++ more)
plain_digits ds more h k = record { is_one = digits_word ds more h k; neither = digits_neither ds more h }

plain_negative : (ds more : List ℕ) → are_digits ds ≡ true → list_all is_high more ≡ true → Plain (45 ∷ (ds ++ more))
plain_negative ds more h k = record {
  is_one = all_append is_high ds more (digits_are_high ds (are_all_digits ds h)) k;
  neither = negative_neither ds more h;
}

-- ---- the words of values

plain_whole : (n : ℤ) → fits_bits 127 n ≡ true → Plain (signed_decimal n)
plain_whole (pos n) h =
    let small = small_of n (ltb-true n (2 ^ 127) h) in
    subst Plain (append-nil (decimal n)) (plain_digits (decimal n) [] (decimal_spells n (omega arith)).are refl)
plain_whole (negsuc n) h =
    let small = small_of n (ltb-true n (2 ^ 127) h) in
    subst Plain (ap (λ (xs : List ℕ). 45 ∷ xs) (append-nil (decimal (suc n)))) (plain_negative (decimal (suc n)) [] (decimal_spells (suc n) (omega arith)).are refl)

point_is_high : (fs : List ℕ) → list_all is_digit fs ≡ true → list_all is_high (after_point fs) ≡ true
point_is_high [] h = refl
point_is_high (f ∷ fs) h = digits_are_high (f ∷ fs) h

fraction_is_high : (r : ℕ) → list_all is_high (after_point (without_trailing 48 (last_digits 10 r))) ≡ true
fraction_is_high r = point_is_high (without_trailing 48 (last_digits 10 r)) (trimmed_are (last_digits 10 r) (last_are 10 r))

plain_decimal : (n : ℤ) → fits_bits 127 n ≡ true → Plain (decimal_text n)
plain_decimal (pos n) h =
    let small = small_of n (ltb-true n (2 ^ 127) h) in
    let low : n / 10000000000 < 10 ^ 64 = omega arith in
    subst Plain (sym (positive_text n))
    (plain_digits (decimal (n / 10000000000)) (after_point (without_trailing 48 (last_digits 10 (n % 10000000000)))) (decimal_spells (n / 10000000000) low).are (fraction_is_high (n % 10000000000)))
plain_decimal (negsuc n) h =
    let small = small_of n (ltb-true n (2 ^ 127) h) in
    let low : suc n / 10000000000 < 10 ^ 64 = omega arith in
    subst Plain (sym (negative_text n))
    (plain_negative (decimal (suc n / 10000000000)) (after_point (without_trailing 48 (last_digits 10 (suc n % 10000000000)))) (decimal_spells (suc n / 10000000000) low).are (fraction_is_high (suc n % 10000000000)))

plain_date : (year month day : ℕ) → Plain (date_text (record { year = year; month = month; day = day }))
plain_date year month day =
    plain_digits (last_digits 2 month) (47 ∷ (last_digits 2 day ++ 47 ∷ year_text year)) (last_are 2 month)
    (all_append is_high (last_digits 2 day) (47 ∷ year_text year) (digits_are_high (last_digits 2 day) (last_are 2 day)) (digits_are_high (year_text year) (year_digits year)))

-- a range of fewer bits
wider : (k : ℕ) (n : ℤ) → 2 ^ k ≤ 2 ^ 127 → fits_bits k n ≡ true → fits_bits 127 n ≡ true
wider k (pos n) room h =
    let low = ltb-true n (2 ^ k) h in
    let lower : n < 2 ^ 127 = omega arith in
    lt-ltb n (2 ^ 127) lower
wider k (negsuc n) room h =
    let low = ltb-true n (2 ^ k) h in
    let lower : n < 2 ^ 127 = omega arith in
    lt-ltb n (2 ^ 127) lower

-- ---- the element that denotes a value

-- the bytes, as a bare element, give the value to a target of the kind
record WordOf (kind : Kind) (v : Value) (word : List ℕ) : Type 0 where
  is_one : is_word word ≡ true
  gives : taken (Some kind) (Bare word) ≡ Some (Some v)

word_of : (kind : Kind) (v : Value) (word : List ℕ) → Plain word → value_in kind word ≡ Some v → WordOf kind v word
word_of kind v word p e = record { is_one = p.is_one; gives = given_bare kind word p.neither ∙ ap (option_map (λ x. Some x)) e }

-- a text is in quotes, any other value bare
abbrev element_of : Value → Element
element_of (Text t) = Quoted t
element_of (Int n) = Bare (export_text (Int n))
element_of (Int64 n) = Bare (export_text (Int64 n))
element_of (Dec n) = Bare (export_text (Dec n))
element_of (Logical b) = Bare (export_text (Logical b))
element_of (Date d) = Bare (export_text (Date d))
element_of Unknown = Bare (export_text Unknown)

-- the element gives the value to a target of the kind
abbrev Stands : Kind → Value → Type 0
Stands kind (Text t) = taken (Some kind) (Quoted t) ≡ Some (Some (Text t))
Stands kind (Int n) = WordOf kind (Int n) (export_text (Int n))
Stands kind (Int64 n) = WordOf kind (Int64 n) (export_text (Int64 n))
Stands kind (Dec n) = WordOf kind (Dec n) (export_text (Dec n))
Stands kind (Logical b) = WordOf kind (Logical b) (export_text (Logical b))
Stands kind (Date d) = WordOf kind (Date d) (export_text (Date d))
Stands kind Unknown = WordOf kind Unknown (export_text Unknown)

word_of_unknown : (kind : Kind) → WordOf kind Unknown (export_text Unknown)
unfolding export_text plain_text
word_of_unknown kind = record { is_one = refl; gives = refl }

word_of_logical : (b : Bool) → WordOf Truth (Logical b) (export_text (Logical b))
unfolding export_text plain_text value_in
word_of_logical true = record { is_one = refl; gives = refl }
word_of_logical false = record { is_one = refl; gives = refl }

word_of_text : (t : List ℕ) → length t ≤ MAX_TEXT_BYTES → taken (Some Character) (Quoted t) ≡ Some (Some (Text t))
unfolding value_in
word_of_text t h = ap (λ (x : Bool). option_map (λ v. Some v) (if x then Some (Text t) else None)) (le-leb (length t) MAX_TEXT_BYTES h)

word_of_int : (n : ℤ) → fits_bits 31 n ≡ true → WordOf Integer (Int n) (export_text (Int n))
unfolding export_text plain_text value_in
word_of_int n h =
    let room : 2 ^ 31 ≤ 2 ^ 127 = lit≤ tt in
    word_of Integer (Int n) (signed_decimal n) (plain_whole n (wider 31 n room h)) (ap (option_map Int) (whole_back 31 n room h))

word_of_int64 : (n : ℤ) → fits_bits 63 n ≡ true → WordOf Whole64 (Int64 n) (export_text (Int64 n))
unfolding export_text plain_text value_in
word_of_int64 n h =
    let room : 2 ^ 63 ≤ 2 ^ 127 = lit≤ tt in
    word_of Whole64 (Int64 n) (signed_decimal n) (plain_whole n (wider 63 n room h)) (ap (option_map Int64) (whole_back 63 n room h))

word_of_decimal : (n : ℤ) → fits_bits 127 n ≡ true → WordOf Decimal (Dec n) (export_text (Dec n))
unfolding export_text plain_text value_in
word_of_decimal n h = word_of Decimal (Dec n) (decimal_text n) (plain_decimal n h) (ap (option_map Dec) (decimal_back n h))

word_of_date : (d : ℤ) → is_day d ≡ true → WordOf Day (Date d) (export_text (Date d))
unfolding export_text plain_text value_in
word_of_date d h =
    let date = date_of_day d in
    word_of Day (Date d) (date_text date) (plain_date date.year date.month date.day) (ap (option_map Date) (day_back d h))

stands : (kind : Kind) (v : Value) → IsOfKind kind v → Stands kind v
stands kind Unknown h = word_of_unknown kind
stands Character (Text t) h = word_of_text t h
stands Integer (Int n) h = word_of_int n h
stands Whole64 (Int64 n) h = word_of_int64 n h
stands Decimal (Dec n) h = word_of_decimal n h
stands Truth (Logical b) h = word_of_logical b
stands Day (Date d) h = word_of_date d h
stands kind v h = absurd h

word_of_taken : (kind : Kind) (v : Value) → Stands kind v → taken (Some kind) (element_of v) ≡ Some (Some v)
word_of_taken kind (Text t) s = s
word_of_taken kind (Int n) s = s.gives
word_of_taken kind (Int64 n) s = s.gives
word_of_taken kind (Dec n) s = s.gives
word_of_taken kind (Logical b) s = s.gives
word_of_taken kind (Date d) s = s.gives
word_of_taken kind Unknown s = s.gives

-- ---- the line's elements

spells_word : (word after : List ℕ) (es : List Element) → is_word word ≡ true → starts_bare after ≡ false → Spells true after es → Spells true (word ++ after) (Bare word ∷ es)
spells_word word after es w e s = (after, record { gap = []; blank = refl; bytes = refl; bare = word_is_bare word w; ends = e }, s)

spells_text : (t after : List ℕ) (es : List Element) → starts 34 after ≡ false → Spells true after es → Spells true (export_text (Text t) ++ after) (Quoted t ∷ es)
unfolding export_text
spells_text t after es e s =
    (after, record { gap = []; blank = refl; bytes = ap (λ (xs : List ℕ). 34 ∷ xs) (append_assoc (doubled t) (34 ∷ []) after); ends = e }, s)

spells_value : (kind : Kind) (v : Value) (after : List ℕ) (es : List Element) → Stands kind v → starts_bare after ≡ false → starts 34 after ≡ false → Spells true after es
    → Spells true (export_text v ++ after) (element_of v ∷ es)
spells_value kind (Text t) after es s e q h = spells_text t after es q h
spells_value kind (Int n) after es s e q h = spells_word (export_text (Int n)) after es s.is_one e h
spells_value kind (Int64 n) after es s e q h = spells_word (export_text (Int64 n)) after es s.is_one e h
spells_value kind (Dec n) after es s e q h = spells_word (export_text (Dec n)) after es s.is_one e h
spells_value kind (Logical b) after es s e q h = spells_word (export_text (Logical b)) after es s.is_one e h
spells_value kind (Date d) after es s e q h = spells_word (export_text (Date d)) after es s.is_one e h
spells_value kind Unknown after es s e q h = spells_word (export_text Unknown) after es s.is_one e h

-- the values after the first
abbrev after_first : List Value → List ℕ
after_first vs = flat_map (λ y. (32 ∷ []) ++ export_text y) vs

after_no_bare : (vs : List Value) → starts_bare (after_first vs) ≡ false
after_no_bare [] = refl
after_no_bare (v ∷ vs) = refl

after_no_mark : (vs : List Value) → starts 34 (after_first vs) ≡ false
after_no_mark [] = refl
after_no_mark (v ∷ vs) = refl

spells_after : (kinds : List Kind) (vs : List Value) → AreOfKinds kinds vs → Spells true (after_first vs) (map element_of vs)
spells_after [] [] h = refl
spells_after [] (v ∷ vs) h = absurd h
spells_after (k ∷ ks) [] h = absurd h
spells_after (k ∷ ks) (v ∷ vs) h =
    spells_blank true 32 (export_text v ++ after_first vs) (element_of v ∷ map element_of vs) refl
    (spells_value k v (after_first vs) (map element_of vs) (stands k v h.0) (after_no_bare vs) (after_no_mark vs) (spells_after ks vs h.1))

-- the line without its line feed
abbrev line_of : List Value → List ℕ
line_of row = join_by export_text (32 ∷ []) row

spells_row : (kinds : List Kind) (row : List Value) → AreOfKinds kinds row → Spells true (line_of row) (map element_of row)
spells_row [] [] h = refl
spells_row [] (v ∷ vs) h = absurd h
spells_row (k ∷ ks) [] h = absurd h
spells_row (k ∷ ks) (v ∷ vs) h =
    spells_value k v (after_first vs) (map element_of vs) (stands k v h.0) (after_no_bare vs) (after_no_mark vs) (spells_after ks vs h.1)

row_taken : (kinds : List Kind) (row : List Value) → AreOfKinds kinds row → AreTaken (map (λ k. Some k) kinds) (map element_of row) (map (λ v. Some v) row)
row_taken [] [] h = tt
row_taken [] (v ∷ vs) h = absurd h
row_taken (k ∷ ks) [] h = absurd h
row_taken (k ∷ ks) (v ∷ vs) h = (word_of_taken k v (stands k v h.0), row_taken ks vs h.1)

-- ---- the line's end

no_return_append : (xs ys : List ℕ) → ends_in_return xs ≡ false → ends_in_return ys ≡ false → ends_in_return (xs ++ ys) ≡ false
no_return_append [] ys h k = k
no_return_append (x ∷ []) [] h k = h
no_return_append (x ∷ []) (y ∷ ys) h k = k
no_return_append (x ∷ z ∷ xs) ys h k = no_return_append (z ∷ xs) ys h k

no_return_high : (xs : List ℕ) → list_all is_high xs ≡ true → ends_in_return xs ≡ false
no_return_high [] h = refl
no_return_high (x ∷ []) h = high_no x 13 (and_parts (is_high x) true h).0 (omega arith)
no_return_high (x ∷ y ∷ ys) h = no_return_high (y ∷ ys) (and_parts (is_high x) (list_all is_high (y ∷ ys)) h).1

no_return_last : (xs : List ℕ) (c : ℕ) → (c == 13) ≡ false → ends_in_return (xs ++ c ∷ []) ≡ false
no_return_last [] c h = h
no_return_last (x ∷ []) c h = h
no_return_last (x ∷ y ∷ ys) c h = no_return_last (y ∷ ys) c h

no_return_word : (word : List ℕ) → is_word word ≡ true → ends_in_return word ≡ false
no_return_word [] h = refl
no_return_word (b ∷ bs) h = no_return_high (b ∷ bs) (and_parts (not (b == 46)) (list_all is_high (b ∷ bs)) h).1

no_return_text : (t : List ℕ) → ends_in_return (export_text (Text t)) ≡ false
unfolding export_text
no_return_text t = no_return_last (34 ∷ doubled t) 34 refl

no_return_value : (kind : Kind) (v : Value) → Stands kind v → ends_in_return (export_text v) ≡ false
no_return_value kind (Text t) s = no_return_text t
no_return_value kind (Int n) s = no_return_word (export_text (Int n)) s.is_one
no_return_value kind (Int64 n) s = no_return_word (export_text (Int64 n)) s.is_one
no_return_value kind (Dec n) s = no_return_word (export_text (Dec n)) s.is_one
no_return_value kind (Logical b) s = no_return_word (export_text (Logical b)) s.is_one
no_return_value kind (Date d) s = no_return_word (export_text (Date d)) s.is_one
no_return_value kind Unknown s = no_return_word (export_text Unknown) s.is_one

no_return_after : (kinds : List Kind) (vs : List Value) → AreOfKinds kinds vs → ends_in_return (after_first vs) ≡ false
no_return_after [] [] h = refl
no_return_after [] (v ∷ vs) h = absurd h
no_return_after (k ∷ ks) [] h = absurd h
no_return_after (k ∷ ks) (v ∷ vs) h =
    no_return_append (32 ∷ export_text v) (after_first vs) (no_return_append (32 ∷ []) (export_text v) refl (no_return_value k v (stands k v h.0))) (no_return_after ks vs h.1)

no_return_row : (kinds : List Kind) (row : List Value) → AreOfKinds kinds row → ends_in_return (line_of row) ≡ false
no_return_row [] [] h = refl
no_return_row [] (v ∷ vs) h = absurd h
no_return_row (k ∷ ks) [] h = absurd h
no_return_row (k ∷ ks) (v ∷ vs) h = no_return_append (export_text v) (after_first vs) (no_return_value k v (stands k v h.0)) (no_return_after ks vs h.1)

-- ---- the line is not the end of the input

not_end : (b : ℕ) (bs : List ℕ) → (b == 46) ≡ false → is_input_end (b ∷ bs) ≡ false
not_end b [] h = h
not_end b (c ∷ cs) h = and_left (b == 46) (starts_end (c ∷ cs)) h

word_no_end : (word a b c : List ℕ) → is_word word ≡ true → is_input_end (((word ++ a) ++ b) ++ c) ≡ false
word_no_end [] a b c h = absurd (false≢true h)
word_no_end (x ∷ xs) a b c h = not_end x (((xs ++ a) ++ b) ++ c) (not-true (x == 46) (and_parts (not (x == 46)) (list_all is_high (x ∷ xs)) h).0)

text_no_end : (t a b c : List ℕ) → is_input_end (((export_text (Text t) ++ a) ++ b) ++ c) ≡ false
unfolding export_text
text_no_end t a b c = not_end 34 ((((doubled t ++ 34 ∷ []) ++ a) ++ b) ++ c) refl

value_no_end : (kind : Kind) (v : Value) (a b c : List ℕ) → Stands kind v → is_input_end (((export_text v ++ a) ++ b) ++ c) ≡ false
value_no_end kind (Text t) a b c s = text_no_end t a b c
value_no_end kind (Int n) a b c s = word_no_end (export_text (Int n)) a b c s.is_one
value_no_end kind (Int64 n) a b c s = word_no_end (export_text (Int64 n)) a b c s.is_one
value_no_end kind (Dec n) a b c s = word_no_end (export_text (Dec n)) a b c s.is_one
value_no_end kind (Logical x) a b c s = word_no_end (export_text (Logical x)) a b c s.is_one
value_no_end kind (Date d) a b c s = word_no_end (export_text (Date d)) a b c s.is_one
value_no_end kind Unknown a b c s = word_no_end (export_text Unknown) a b c s.is_one

row_no_end : (kinds : List Kind) (row : List Value) (more : List ℕ) → AreOfKinds kinds row → is_input_end (export row ++ more) ≡ false
row_no_end [] [] more h = not_end 10 more refl
row_no_end [] (v ∷ vs) more h = absurd h
row_no_end (k ∷ ks) [] more h = absurd h
row_no_end (k ∷ ks) (v ∷ vs) more h = value_no_end k v (after_first vs) (10 ∷ []) more (stands k v h.0)

-- ---- the row is read back

row_line : (kinds : List Kind) (row : List Value) (more : List ℕ) → AreOfKinds kinds row → IsLine (export row ++ more) (map element_of row) more
row_line kinds row more h = record {
  closed = true;
  line = line_of row;
  begins = inl (append_assoc (line_of row) (10 ∷ []) more, no_return_row kinds row h);
  spells = spells_row kinds row h;
}

-- the line may be anywhere in an input
pub row_back_at : (front : List ℕ) (row : List Value) (kinds : List Kind) (more : List ℕ) → AreOfKinds kinds row
    → line_at (front ++ (export row ++ more)) (length front) (map (λ k. Some k) kinds) ≡ Elements (map (λ v. Some v) row) (length front + length (export row))
row_back_at front row kinds more h =
    let from : ℕ = length front in
    let next : ℕ = length front + length (export row) in
    let input : List ℕ = front ++ (export row ++ more) in
    let here : drop from input ≡ export row ++ more = drop_at front (export row ++ more) from refl in
    let parts : length (front ++ export row) ≡ next = length-append front (export row) in
    let rest : drop next input ≡ more = ap (drop next) (sym (append_assoc front (export row) more)) ∙ drop_at (front ++ export row) more next parts in
    import_is input from (map (λ k. Some k) kinds) (Elements (map (λ v. Some v) row) next)
    (record {
      goes_on = λ end. both_ways (is_input_end (export row ++ more)) (row_no_end kinds row more h) (sym (ap is_input_end here) ∙ is_input_end_of (drop from input) end);
      elements = map element_of row;
      line = subst (λ (xs : List ℕ). IsLine xs (map element_of row) (drop next input)) (sym here)
          (subst (λ (xs : List ℕ). IsLine (export row ++ more) (map element_of row) xs) (sym rest) (row_line kinds row more h));
      within = omega (arith, length-append front (export row ++ more), length-append (export row) more);
      so = row_taken kinds row h;
    })

pub row_back : (row : List Value) (kinds : List Kind) (more : List ℕ) → AreOfKinds kinds row
    → line_at (export row ++ more) 0 (map (λ k. Some k) kinds) ≡ Elements (map (λ v. Some v) row) (length (export row))
row_back row kinds more h =
    let start : 0 + length (export row) ≡ length (export row) = omega arith in
    row_back_at [] row kinds more h ∙ ap (λ (next : ℕ). Elements (map (λ v. Some v) row) next) start
