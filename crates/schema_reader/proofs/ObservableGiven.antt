-- What attribute lines give is within its range: initial values, and the numbers of sequences.
use Rattle.std.proofs.Common.{◌≡◌, ℕ, Bool, true, false, ◌&&◌, cond, List, [], ◌∷◌, length, Option, Some, None, ℤ, pos, negsuc, refl, ap, ◌∙◌}
use Rattle.std.specs.Prelude.{fold, codes, nat_le, option_map, take_while, unwrap_or}
use Rattle.std.specs.List.{list_all}
use Rattle.std.proofs.lemmas.Bool.{leb-true}
use Rattle.abl_base.specs.declared.value.Kind.{Kind}
use Rattle.abl_base.specs.declared.value.Kind.TheVariants.{Character, Integer, Int64 as Whole64, Decimal, Logical as Truth, Date as Day}
use Rattle.abl_base.specs.declared.limits.TheConstants.{MAX_TEXT_BYTES}
use Rattle.abl_base.specs.declared.value.Value.{Value}
use Rattle.abl_base.specs.declared.value.Value.TheVariants.{Text, Int, Int64, Dec, Logical, Date, Unknown}
use Rattle.abl_values.specs.Arithmetic.{fits_bits, with_sign}
use Rattle.abl_values.specs.Dates.{CivilDate, date_from, day_number, is_civil, is_day}
use Rattle.abl_values.specs.Digits.{are_digits, from_first_not, has_minus, number_of}
use Rattle.abl_values.specs.Fit.{IsOfField, IsOfKind}
use Rattle.abl_values.specs.Masks.{after_run, is_digit, is_mask_word_byte, without_minus}
use Rattle.abl_values.specs.Schema.{same_name}
use Rattle.abl_values.proofs.DateLaws.{day_reads_back}
use Rattle.text_values.specs.TextValues.{after_slash, date_in, dated, is_one_or_two, magnitude_in, number_in, number_in_bits, signed_in_bits, truth_in, whole_in, with_day, with_year, year_of}
use Rattle.schema_lines.specs.declared.item.Given.{Given}
use Rattle.schema_lines.specs.declared.item.Attribute.{Attribute}
use Rattle.schema_lines.specs.declared.item.Attribute.TheVariants.{Initial, Format, Mandatory, Order, Extent, Unique, Primary, Word, IndexField, Increment}
use Rattle.schema_lines.specs.declared.item.Attributed.{Attributed}
use Rattle.schema_lines.specs.Attributes.{increment_after, increment_of, initial_after, initial_of, sequence_number, start_after, start_of}
use Rattle.schema_lines.specs.Forms.{text_given}
use Rattle.abl_values.specs.Fit.{default_initial}
use Rattle.schema_lines.specs.Initials.{initial_given, integer_value, is_unknown, logical_spelt, long_value, second_word, value_spelt, whole_spelt}
use Rattle.schema_lines.specs.Lines.{run}
use Rattle.schema_lines.specs.Numbers.{is_number, long_number}
use Rattle.schema_reader.proofs.ObservableDays.{date_has_day}

-- ---- options

-- what there is passes
abbrev pub Each : {X : Type 0} → (X → Type 0) → Option X → Type 0
Each P None = Unit {0}
Each P (Some x) = P x

either : {X : Type 0} (P : X → Type 0) (b : Bool) (x y : Option X) → (b ≡ true → Each P x) → (b ≡ false → Each P y) → Each P (cond b x y)
either P true x y h k = h refl
either P false x y h k = k refl

pub unwrapped : {X : Type 0} (P : X → Type 0) (o : Option X) (x : X) → Each P o → P x → P (unwrap_or o x)
unwrapped P None x h k = k
unwrapped P (Some y) x h k = h

-- ---- numbers

abbrev pub Fits : ℕ → ℤ → Type 0
Fits k n = fits_bits k n ≡ true

in_bits : (k : ℕ) (n : ℤ) → Each (Fits k) (number_in_bits k n)
in_bits k n = either (Fits k) (fits_bits k n) (Some n) None (λ h. h) (λ h. tt)

signed_fits : (k : ℕ) (negative : Bool) (o : Option ℕ) → Each (Fits k) (signed_in_bits k negative o)
signed_fits k negative None = tt
signed_fits k negative (Some n) = in_bits k (with_sign negative n)

pub whole_fits : (k : ℕ) (text : List ℕ) → Each (Fits k) (whole_in k text)
whole_fits k text = signed_fits k (has_minus text) (cond (are_digits (without_minus text)) (Some (number_of (without_minus text))) None)

pub long_fits : (text : List ℕ) → Each (Fits 63) (long_number text)
long_fits text = either (Fits 63) (is_number (without_minus text)) (whole_in 63 text) None (λ h. whole_fits 63 text) (λ h. tt)

number_fits : (text : List ℕ) → Each (Fits 127) (number_in text)
unfolding number_in
number_fits text = signed_fits 127 (has_minus text) (magnitude_in (without_minus text))

-- ---- dates

abbrev IsInYears : ℤ → Type 0
IsInYears d = is_day d ≡ true

civil_is_day : (c : CivilDate) → is_civil c ≡ true → IsInYears (day_number c)
civil_is_day c h =
    let back = day_reads_back c h in
    date_has_day (day_number c) (record { civil = ap is_civil back ∙ h; number = ap day_number back })

date_from-day : (month day year : ℤ) → Each IsInYears (date_from month day year)
unfolding date_from
date_from-day (pos m) (pos d) (pos y) =
    either IsInYears (is_civil (record { year = y; month = m; day = d })) (Some (day_number (record { year = y; month = m; day = d }))) None (λ h. civil_is_day (record { year = y; month = m; day = d }) h) (λ h. tt)
date_from-day (negsuc m) d y = tt
date_from-day (pos m) (negsuc d) y = tt
date_from-day (pos m) (pos d) (negsuc y) = tt

dated-day : (month day : List ℕ) (year : Option ℕ) → Each IsInYears (dated month day year)
dated-day month day None = tt
dated-day month day (Some year) = date_from-day (pos (number_of month)) (pos (number_of day)) (pos year)

with_year-day : (month day : List ℕ) (rest : Option (List ℕ)) → Each IsInYears (with_year month day rest)
with_year-day month day None = tt
with_year-day month day (Some rest) =
    either IsInYears (is_one_or_two month && (is_one_or_two day && list_all is_digit rest)) (dated month day (year_of rest)) None (λ h. dated-day month day (year_of rest)) (λ h. tt)

with_day-day : (month : List ℕ) (rest : Option (List ℕ)) → Each IsInYears (with_day month rest)
with_day-day month None = tt
with_day-day month (Some rest) = with_year-day month (take_while is_digit rest) (after_slash (from_first_not is_digit rest))

date_in-day : (text : List ℕ) → Each IsInYears (date_in text)
date_in-day text = with_day-day (take_while is_digit text) (after_slash (from_first_not is_digit text))

-- ---- initial values

integer_value-said : (o : Option ℤ) → Each (IsOfKind Integer) (integer_value o)
integer_value-said None = tt
integer_value-said (Some n) = either (IsOfKind Integer) (fits_bits 31 n) (Some (Int n)) None (λ h. h) (λ h. tt)

long_value-said : (o : Option ℤ) → Each (IsOfKind Whole64) (long_value o)
long_value-said None = tt
long_value-said (Some n) = either (IsOfKind Whole64) (fits_bits 63 n) (Some (Int64 n)) None (λ h. h) (λ h. tt)

decimal-said : (o : Option ℤ) → Each (Fits 127) o → Each (IsOfKind Decimal) (option_map Dec o)
decimal-said None h = tt
decimal-said (Some n) h = h

truth-said : (o : Option Bool) → Each (IsOfKind Truth) (option_map Logical o)
truth-said None = tt
truth-said (Some b) = tt

day-said : (o : Option ℤ) → Each IsInYears o → Each (IsOfKind Day) (option_map Date o)
day-said None h = tt
day-said (Some n) h = h

logical-said : (mask text : List ℕ) → Each (IsOfKind Truth) (logical_spelt mask text)
logical-said mask text =
    either (IsOfKind Truth) (same_name text (run is_mask_word_byte mask)) (Some (Logical true)) (cond (same_name text (second_word (after_run is_mask_word_byte mask))) (Some (Logical false)) (option_map Logical (truth_in text))) (λ h. tt)
    (λ h. either (IsOfKind Truth) (same_name text (second_word (after_run is_mask_word_byte mask))) (Some (Logical false)) (option_map Logical (truth_in text)) (λ k. tt) (λ k. truth-said (truth_in text)))

value_spelt-said : (kind : Kind) (mask text : List ℕ) → Each (IsOfKind kind) (value_spelt kind mask text)
value_spelt-said Character mask text = either (IsOfKind Character) (nat_le (length text) MAX_TEXT_BYTES) (Some (Text text)) None (λ h. leb-true (length text) MAX_TEXT_BYTES h) (λ h. tt)
value_spelt-said Integer mask text = integer_value-said (whole_spelt (number_in text))
value_spelt-said Whole64 mask text = long_value-said (whole_spelt (number_in text))
value_spelt-said Decimal mask text = decimal-said (number_in text) (number_fits text)
value_spelt-said Truth mask text = logical-said mask text
value_spelt-said Day mask text =
    either (IsOfKind Day) (same_name text (codes "today")) (Some Unknown) (option_map Date (date_in text)) (λ h. tt) (λ h. day-said (date_in text) (date_in-day text))

unknown_said : (kind : Kind) → IsOfKind kind Unknown
unknown_said Character = tt
unknown_said Integer = tt
unknown_said Whole64 = tt
unknown_said Decimal = tt
unknown_said Truth = tt
unknown_said Day = tt

initial_given-said : (kind : Kind) (mask : List ℕ) (g : Option Given) → Each (IsOfKind kind) (initial_given kind mask g)
unfolding initial_given
initial_given-said kind mask None = tt
initial_given-said kind mask (Some g) =
    either (IsOfKind kind) (is_unknown kind g) (Some Unknown) (value_spelt kind mask g.text) (λ h. unknown_said kind) (λ h. value_spelt-said kind mask g.text)

initial_after-said : (kind : Kind) (mask : List ℕ) (value : Value) (a : Attribute) → IsOfKind kind value → IsOfKind kind (initial_after kind mask value a)
initial_after-said kind mask value (Initial g) h = unwrapped (IsOfKind kind) (initial_given kind mask g) value (initial_given-said kind mask g) h
initial_after-said kind mask value (Format g) h = h
initial_after-said kind mask value Mandatory h = h
initial_after-said kind mask value (Order g) h = h
initial_after-said kind mask value (Extent g) h = h
initial_after-said kind mask value Unique h = h
initial_after-said kind mask value Primary h = h
initial_after-said kind mask value Word h = h
initial_after-said kind mask value (IndexField c) h = h
initial_after-said kind mask value (Increment n) h = h

default_initial-said : (kind : Kind) → IsOfKind kind (default_initial kind)
default_initial-said Character = leb-true 0 MAX_TEXT_BYTES refl
default_initial-said Integer = refl
default_initial-said Whole64 = refl
default_initial-said Decimal = refl
default_initial-said Truth = tt
default_initial-said Day = tt

initials-said : (kind : Kind) (mask : List ℕ) (attributes : List Attributed) (value : Value) → IsOfKind kind value → IsOfKind kind (fold (λ value a. initial_after kind mask value a.attribute) value attributes)
initials-said kind mask [] value h = h
initials-said kind mask (a ∷ as_) value h = initials-said kind mask as_ (initial_after kind mask value a.attribute) (initial_after-said kind mask value a.attribute h)

-- the initial value of a field is one of its kind
pub initial_of-fits : (kind : Option Kind) (mask : List ℕ) (attributes : List Attributed) → IsOfField kind (initial_of kind mask attributes)
initial_of-fits None mask attributes = refl
initial_of-fits (Some kind) mask attributes = initials-said kind mask attributes (default_initial kind) (default_initial-said kind)

-- ---- sequences

start_after-fits : (start : ℤ) (a : Attribute) → Fits 63 start → Fits 63 (start_after start a)
start_after-fits start (Initial g) h = unwrapped (Fits 63) (sequence_number g) start (long_fits (text_given g)) h
start_after-fits start (Format g) h = h
start_after-fits start Mandatory h = h
start_after-fits start (Order g) h = h
start_after-fits start (Extent g) h = h
start_after-fits start Unique h = h
start_after-fits start Primary h = h
start_after-fits start Word h = h
start_after-fits start (IndexField c) h = h
start_after-fits start (Increment n) h = h

starts-fit : (attributes : List Attributed) (start : ℤ) → Fits 63 start → Fits 63 (fold (λ start a. start_after start a.attribute) start attributes)
starts-fit [] start h = h
starts-fit (a ∷ as_) start h = starts-fit as_ (start_after start a.attribute) (start_after-fits start a.attribute h)

pub start_of-fits : (attributes : List Attributed) → fits_bits 63 (start_of attributes) ≡ true
start_of-fits attributes = starts-fit attributes (pos 0) refl

-- an increment is a number of 64 bits
abbrev pub IsGoodAttribute : Attribute → Type 0
IsGoodAttribute (Increment n) = Each (Fits 63) n
IsGoodAttribute attribute = Unit {0}

abbrev pub AreGoodAttributes : List Attributed → Type 0
AreGoodAttributes [] = Unit {0}
AreGoodAttributes (a ∷ as_) = IsGoodAttribute a.attribute × AreGoodAttributes as_

increment_after-fits : (increment : ℤ) (a : Attribute) → IsGoodAttribute a → Fits 63 increment → Fits 63 (increment_after increment a)
increment_after-fits increment (Increment n) g h = unwrapped (Fits 63) n increment g h
increment_after-fits increment (Initial g) k h = h
increment_after-fits increment (Format g) k h = h
increment_after-fits increment Mandatory k h = h
increment_after-fits increment (Order g) k h = h
increment_after-fits increment (Extent g) k h = h
increment_after-fits increment Unique k h = h
increment_after-fits increment Primary k h = h
increment_after-fits increment Word k h = h
increment_after-fits increment (IndexField c) k h = h

increments-fit : (attributes : List Attributed) (increment : ℤ) → AreGoodAttributes attributes → Fits 63 increment → Fits 63 (fold (λ increment a. increment_after increment a.attribute) increment attributes)
increments-fit [] increment g h = h
increments-fit (a ∷ as_) increment g h = increments-fit as_ (increment_after increment a.attribute) g.1 (increment_after-fits increment a.attribute g.0 h)

pub increment_of-fits : (attributes : List Attributed) → AreGoodAttributes attributes → fits_bits 63 (increment_of attributes) ≡ true
increment_of-fits attributes g = increments-fit attributes (pos 1) g refl
