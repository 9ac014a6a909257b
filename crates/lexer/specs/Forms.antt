-- The forms of tokens, and which of them is the longest at a place.
use Rattle.std.specs.Prelude.{ℕ, suc, ◌+◌, ◌<◌, ◌≤◌, ◌≡◌, Bool, true, false, not, ◌&&◌, ◌||◌, ◌==◌, if◌then◌else◌, List, [], ◌∷◌, length, take, drop, Option, Some, None, is_some}
use Rattle.std.specs.List.{list_all, prefix_len}
use Rattle.parse_tree.specs.Keywords.{keyword_of}
use Rattle.lexer.specs.declared.form.Form.{Form}
use Rattle.lexer.specs.declared.form.Form.TheVariants.{Word, Qualified, Digits, Fractional, Dated, Quoted, Symbol}
use Rattle.lexer.specs.Bytes.{tilde, star, slash, point, is_letter, is_digit, is_name_byte, is_quote, is_symbol_byte, starts, starts_digit, starts_gap}

-- the bytes at the start that pass the test
abbrev pub leading : (ℕ → Bool) → List ℕ → List ℕ
leading test w = take (prefix_len test w) w

-- what follows them and one byte more
abbrev pub after_separator : (ℕ → Bool) → List ℕ → List ℕ
after_separator test w = drop (suc (prefix_len test w)) w

-- this byte is directly after the bytes that pass the test
abbrev pub parted : (ℕ → Bool) → ℕ → List ℕ → Bool
parted test c w = starts c (drop (prefix_len test w) w)

-- a letter, then letters, digits and signs
abbrev pub is_name : List ℕ → Bool
is_name [] = false
is_name (b ∷ bs) = is_letter b && list_all is_name_byte bs

abbrev pub is_keyword : List ℕ → Bool
is_keyword w = is_some (keyword_of w)

abbrev pub is_digits : List ℕ → Bool
is_digits [] = false
is_digits (b ∷ bs) = is_digit b && list_all is_digit bs

abbrev pub one_or_two : List ℕ → Bool
one_or_two w = length w == 1 || length w == 2

abbrev pub two_or_four : List ℕ → Bool
two_or_four w = length w == 2 || length w == 4

-- day / year
abbrev pub is_day_year : List ℕ → Bool
is_day_year w = (parted is_digit slash w && one_or_two (leading is_digit w))
    && (is_digits (after_separator is_digit w) && two_or_four (after_separator is_digit w))

-- month / day / year, of one or two, one or two, and two or four digits
abbrev pub is_dated : List ℕ → Bool
is_dated w = (parted is_digit slash w && one_or_two (leading is_digit w))
    && (is_day_year (after_separator is_digit w))

-- n more than the number, where there is one
abbrev pub plus : ℕ → Option ℕ → Option ℕ
plus n None = None
plus n (Some m) = Some (n + m)

-- How many bytes there are up to the end of the text whose opening quote is at the start. A byte
-- after ~ is passed over, and so is the own quote where it is doubled.
unfoldable pub closing : ℕ → Bool → List ℕ → Option ℕ
closing quote passed [] = None
closing quote true (b ∷ bs) = plus 1 (closing quote false bs)
closing quote false (b ∷ bs) =
    if b == tilde then plus 1 (closing quote true bs)
    else if b == quote then (if starts quote bs then plus 1 (closing quote true bs) else Some 1)
    else plus 1 (closing quote false bs)

abbrev pub is_at : Option ℕ → ℕ → Bool
is_at None n = false
is_at (Some m) n = m == n

-- the text ends with the last of these bytes, and not before
abbrev pub closes : ℕ → List ℕ → Bool
closes quote w = is_at (closing quote false w) (length w)

-- white space, a comment or nothing follows
abbrev pub ends_here : List ℕ → Bool
ends_here [] = true
ends_here (b ∷ bs) = starts_gap (b ∷ bs)

-- <> <= >=
abbrev pub is_pair : ℕ → ℕ → Bool
is_pair b c = (b == 60 && (c == 62 || c == 61)) || (b == 62 && c == 61)

abbrev pub starts_pair : List ℕ → Bool
starts_pair [] = false
starts_pair (b ∷ []) = false
starts_pair (b ∷ c ∷ bs) = is_pair b c

-- the byte is a symbol before what follows: / opens no comment, and after the period is
-- white space, a comment or nothing
abbrev pub is_single : ℕ → List ℕ → Bool
is_single b after =
    is_symbol_byte b && (if b == slash then not (starts star after) else if b == point then ends_here after else true)

-- The table: whether the bytes w, before what follows them, are of this form.
unfoldable pub form : Form → List ℕ → List ℕ → Bool
form Word w after = is_name w
form Qualified w after =
    (parted is_name_byte point w && is_name (leading is_name_byte w))
    && (not (is_keyword (leading is_name_byte w)) && is_name (after_separator is_name_byte w))
form Digits w after = is_digits w
form Fractional w after = (parted is_digit point w && is_digits (leading is_digit w)) && is_digits (after_separator is_digit w)
form Dated w after = is_dated w && not (starts_digit after)
form Quoted [] after = false
form Quoted (b ∷ bs) after = is_quote b && (closes b bs && not (starts b after))
form Symbol [] after = false
form Symbol (b ∷ []) after = is_single b after
form Symbol (b ∷ c ∷ []) after = is_pair b c
form Symbol (b ∷ c ∷ d ∷ bs) after = false

-- the first n bytes of the text are of this form, and no longer prefix is of any form
pub record Longest (f : Form) (n : ℕ) (text : List ℕ) : Type 0 where
  pub some : 0 < n
  pub within : n ≤ length text
  pub matches : form f (take n text) (drop n text) ≡ true
  pub longest : (g : Form) (m : ℕ) → n < m → m ≤ length text → form g (take m text) (drop m text) ≡ true → ⊥

-- no prefix of the text is of any form
abbrev pub NoForm : List ℕ → Type 0
NoForm text = (g : Form) (m : ℕ) → m ≤ length text → form g (take m text) (drop m text) ≡ true → ⊥

-- the first m bytes are a date, and no digit follows
pub record DatedAt (text : List ℕ) (m : ℕ) : Type 0 where
  pub within : m ≤ length text
  pub matches : is_dated (take m text) ≡ true
  pub apart : starts_digit (drop m text) ≡ false

-- the same of a day and a year
pub record DayYearAt (text : List ℕ) (m : ℕ) : Type 0 where
  pub within : m ≤ length text
  pub matches : is_day_year (take m text) ≡ true
  pub apart : starts_digit (drop m text) ≡ false
