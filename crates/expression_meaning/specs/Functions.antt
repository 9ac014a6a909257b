-- The functions on values. An argument `?` gives `?`.
use Rattle.std.specs.Prelude.{ℕ, zero, suc, ◌-◌, Bool, true, false, nat_lt, if◌then◌else◌, List, [], ◌∷◌, length, take, drop, slice_index_or, Option, Some, None, Ok, Err, ℤ, pos, negsuc}
use Rattle.abl_base.specs.declared.value.Value.{Value}
use Rattle.abl_base.specs.declared.value.Value.TheVariants.{Text, Int, Int64, Dec, Date, Unknown}
use Rattle.abl_base.specs.declared.value.Kind.{Kind}
use Rattle.abl_values.specs.Dates.{CivilDate, date_from, date_of_day}
use Rattle.abl_values.specs.Fit.{fitted}
use Rattle.abl_values.specs.Texts.{plain_text}
use Rattle.expression_meaning.specs.declared.fault.RunFault.TheVariants.{Convert, Argument}
use Rattle.expression_meaning.specs.Operators.{Given, in_range, is_unknown, begins_with}

-- ---- arguments by kind

-- a text
abbrev pub text_in : Value → Option (List ℕ)
text_in (Text t) = Some t
text_in v = None

-- a whole number
abbrev pub whole_in : Value → Option ℤ
whole_in (Int n) = Some n
whole_in (Int64 n) = Some n
whole_in v = None

-- the day of a date
abbrev pub day_in : Value → Option ℤ
day_in (Date d) = Some d
day_in v = None

-- ---- INTEGER, INT64, DECIMAL and STRING

-- the number that a text denotes, as a value of the kind
abbrev pub number_as : Option ℤ → Kind → Given
number_as (Some n) kind = in_range (fitted (Dec n) kind)
number_as None kind = Err Convert

-- a number or a text as a number of the kind
abbrev pub converted : (List ℕ → Option ℤ) → Kind → Value → Given
converted number_in kind (Text t) = number_as (number_in t) kind
converted number_in kind v = in_range (fitted v kind)

-- the text of a value, but `?` for `?`
abbrev pub unless_unknown : Bool → List ℕ → Value
unless_unknown true t = Unknown
unless_unknown false t = Text t

-- STRING without a mask: the plain text of a value
abbrev pub as_text : Value → Value
as_text v = unless_unknown (is_unknown v) (plain_text v)

-- STRING with a mask
abbrev pub as_masked : (List ℕ → Value → List ℕ) → List ℕ → Value → Value
as_masked masked mask v = unless_unknown (is_unknown v) (masked mask v)

-- ---- LENGTH and SUBSTRING

-- LENGTH, in bytes
abbrev pub length_of : Option (List ℕ) → Value
length_of (Some t) = Int64 (pos (length t))
length_of None = Unknown

-- n bytes from place `first` on, counted from 0; with n = -1 the rest
abbrev pub cut : List ℕ → ℕ → ℤ → Given
cut t first (pos n) = Ok (Text (take n (drop first t)))
cut t first (negsuc zero) = Ok (Text (drop first t))
cut t first (negsuc (suc n)) = Err Argument

-- from place i on, counted from 1
abbrev pub cut_from : List ℕ → ℤ → ℤ → Given
cut_from t (pos zero) n = Err Argument
cut_from t (pos (suc first)) n = cut t first n
cut_from t (negsuc i) n = Err Argument

-- SUBSTRING
abbrev pub substring : Option (List ℕ) → Option ℤ → Option ℤ → Given
substring (Some t) (Some i) (Some n) = cut_from t i n
substring t i n = Ok Unknown

-- ---- ENTRY and NUM-ENTRIES

-- prepends a byte to the first part
abbrev pub before_first : ℕ → List (List ℕ) → List (List ℕ)
before_first b [] = (b ∷ []) ∷ []
before_first b (p ∷ ps) = (b ∷ p) ∷ ps

-- the parts of a text between delimiters `d`, after k more bytes of a delimiter
abbrev pub parts_after : List ℕ → ℕ → List ℕ → List (List ℕ)
parts_after d k [] = [] ∷ []
parts_after d (suc k) (b ∷ bs) = parts_after d k bs
parts_after d zero (b ∷ bs) =
    if begins_with (b ∷ bs) d then [] ∷ parts_after d (length d - 1) bs else before_first b (parts_after d zero bs)

-- the parts of a list; an empty list has none
abbrev pub parts_of : List ℕ → List ℕ → List (List ℕ)
parts_of d [] = []
parts_of d (b ∷ bs) = parts_after d zero (b ∷ bs)

-- the i-th part, counted from 0, if there is one
abbrev pub part_if : Bool → List (List ℕ) → ℕ → Given
part_if true parts i = Ok (Text (slice_index_or parts i []))
part_if false parts i = Err Argument

-- the i-th part, counted from 1
abbrev pub part_at : ℤ → List (List ℕ) → Given
part_at (pos zero) parts = Err Argument
part_at (pos (suc i)) parts = part_if (nat_lt i (length parts)) parts i
part_at (negsuc i) parts = Err Argument

-- an empty delimiter is a bad argument
abbrev pub entry_by : List ℕ → ℤ → List ℕ → Given
entry_by [] i list = Err Argument
entry_by (c ∷ d) i list = part_at i (parts_of (c ∷ d) list)

-- ENTRY
abbrev pub entry : Option ℤ → Option (List ℕ) → Option (List ℕ) → Given
entry (Some i) (Some list) (Some d) = entry_by d i list
entry i list d = Ok Unknown

-- the number of parts
abbrev pub count_by : List ℕ → List ℕ → Given
count_by [] list = Err Argument
count_by (c ∷ d) list = Ok (Int64 (pos (length (parts_of (c ∷ d) list))))

-- NUM-ENTRIES
abbrev pub num_entries : Option (List ℕ) → Option (List ℕ) → Given
num_entries (Some list) (Some d) = count_by d list
num_entries list d = Ok Unknown

-- ---- dates

-- a date; a fault where there is no such day
abbrev pub day_or : Option ℤ → Given
day_or (Some day) = Ok (Date day)
day_or None = Err Argument

-- DATE(month, day, year)
abbrev pub date_of : Option ℤ → Option ℤ → Option ℤ → Given
date_of (Some month) (Some day) (Some year) = day_or (date_from month day year)
date_of month day year = Ok Unknown

-- YEAR, MONTH or DAY of a date
abbrev pub of_date : (CivilDate → ℕ) → Option ℤ → Value
of_date part (Some day) = Int64 (pos (part (date_of_day day)))
of_date part None = Unknown
