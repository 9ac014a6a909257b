-- What a lexeme of each form denotes.
use Rattle.std.specs.Prelude.{ℕ, zero, suc, ◌+◌, ◌-◌, ◌*◌, ◌^◌, ◌%◌, Bool, false, not, ◌&&◌, ◌||◌, ◌==◌, nat_le, nat_lt, if◌then◌else◌, List, [], ◌∷◌, ◌++◌, length, fold, Option, Some, None, unwrap_or}
use Rattle.parse_tree.specs.Keywords.{keyword_of}
use Rattle.parse_tree.specs.declared.token.TokenKind.{TokenKind}
use Rattle.parse_tree.specs.declared.token.TokenKind.TheVariants.{Name, QualifiedName, WholeNumber, DecimalNumber, DateLiteral, TextLiteral, Colon, Comma, LeftParenthesis, RightParenthesis, Equals, NotEqual, Less, Greater, LessOrEqual, GreaterOrEqual, Plus, Minus, Star, Slash, QuestionMark, Caret, Period}
use Rattle.parse_tree.specs.declared.token.Meaning.{Meaning}
use Rattle.parse_tree.specs.declared.token.Meaning.TheVariants.{KindAlone, Spelling, Parts, Whole, Scaled, Day, TextBytes}
use Rattle.parse_tree.specs.declared.token.CivilDate.{CivilDate}
use Rattle.lexer.specs.declared.form.Form.{Form}
use Rattle.lexer.specs.declared.form.Form.TheVariants.{Word, Qualified, Digits, Fractional, Dated, Quoted, Symbol}
use Rattle.lexer.specs.Bytes.{tilde, is_digit, is_name_byte, starts}
use Rattle.lexer.specs.Forms.{leading, after_separator}
pub use Rattle.abl_base.specs.Digits.{number_of}

-- the digits before and after the point, times 10^10
abbrev pub scaled_of : List ℕ → List ℕ → ℕ
scaled_of before after = number_of before * 10 ^ 10 + number_of after * 10 ^ (10 - length after)

-- a year of two digits is one of 1950 to 2049
abbrev pub year_of : List ℕ → ℕ
year_of digits =
    if length digits == 2 then (if nat_lt (number_of digits) 50 then 2000 + number_of digits else 1900 + number_of digits)
    else number_of digits

abbrev pub date_of : List ℕ → CivilDate
date_of w = record {
  month = number_of (leading is_digit w);
  day = number_of (leading is_digit (after_separator is_digit w));
  year = year_of (after_separator is_digit (after_separator is_digit w));
}

abbrev pub is_leap : ℕ → Bool
is_leap year = (year % 4 == 0 && not (year % 100 == 0)) || year % 400 == 0

abbrev pub days_in : ℕ → ℕ → ℕ
days_in month year =
    if month == 2 then (if is_leap year then 29 else 28)
    else if month == 4 || month == 6 || month == 9 || month == 11 then 30
    else 31

-- a date of the years 1 to 9999
abbrev pub is_date : CivilDate → Bool
is_date d = (nat_le 1 d.month && nat_le d.month 12) && (nat_le 1 d.day && nat_le d.day (days_in d.month d.year)) && (nat_le 1 d.year && nat_le d.year 9999)

-- three octal digits up to 377
abbrev pub is_octal : List ℕ → Bool
is_octal [] = false
is_octal (a ∷ []) = false
is_octal (a ∷ b ∷ []) = false
is_octal (a ∷ b ∷ c ∷ bs) = (nat_le 48 a && nat_le a 51) && (nat_le 48 b && nat_le b 55) && (nat_le 48 c && nat_le c 55)

abbrev pub octal_of : List ℕ → ℕ
octal_of [] = 0
octal_of (a ∷ []) = 0
octal_of (a ∷ b ∷ []) = 0
octal_of (a ∷ b ∷ c ∷ bs) = (a - 48) * 64 + (b - 48) * 8 + (c - 48)

-- how many of the bytes after ~ belong to it
abbrev pub escape_length : List ℕ → ℕ
escape_length [] = 0
escape_length (b ∷ bs) = if is_octal (b ∷ bs) then 3 else 1

-- n t r denote line feed, tab and carriage return
abbrev pub control_of : ℕ → ℕ
control_of b = if b == 110 then 10 else if b == 116 then 9 else if b == 114 then 13 else b

-- what ~ and the bytes after it denote
abbrev pub escaped : List ℕ → List ℕ
escaped [] = []
escaped (b ∷ bs) =
    if is_octal (b ∷ bs) then octal_of (b ∷ bs) ∷ []
    else if b == 10 then []
    else control_of b ∷ []

-- What the bytes after an opening quote denote, up to the closing one, when this number of them
-- are passed over first.
unfoldable pub inside : ℕ → ℕ → List ℕ → List ℕ
inside quote passed [] = []
inside quote (suc n) (b ∷ bs) = inside quote n bs
inside quote zero (b ∷ bs) =
    if b == tilde then escaped bs ++ inside quote (escape_length bs) bs
    else if b == quote then (if starts quote bs then quote ∷ inside quote 1 bs else [])
    else b ∷ inside quote 0 bs

-- the bytes that a text between quotes denotes
abbrev pub text_of : List ℕ → List ℕ
text_of [] = []
text_of (quote ∷ bs) = inside quote 0 bs

abbrev pub pair_kind : ℕ → ℕ → TokenKind
pair_kind b c = if b == 62 then GreaterOrEqual else if c == 62 then NotEqual else LessOrEqual

abbrev pub single_kind : ℕ → TokenKind
single_kind b =
    if b == 40 then LeftParenthesis
    else if b == 41 then RightParenthesis
    else if b == 42 then Star
    else if b == 43 then Plus
    else if b == 44 then Comma
    else if b == 45 then Minus
    else if b == 46 then Period
    else if b == 47 then Slash
    else if b == 58 then Colon
    else if b == 60 then Less
    else if b == 61 then Equals
    else if b == 62 then Greater
    else if b == 63 then QuestionMark
    else Caret

abbrev pub symbol_kind : List ℕ → TokenKind
symbol_kind [] = Caret
symbol_kind (b ∷ []) = single_kind b
symbol_kind (b ∷ c ∷ bs) = pair_kind b c

-- the kind of a lexeme of this form
unfoldable pub kind_of : Form → List ℕ → TokenKind
kind_of Word w = unwrap_or (keyword_of w) Name
kind_of Qualified w = QualifiedName
kind_of Digits w = WholeNumber
kind_of Fractional w = DecimalNumber
kind_of Dated w = DateLiteral
kind_of Quoted w = TextLiteral
kind_of Symbol w = symbol_kind w

-- a reserved word denotes its kind alone
abbrev pub word_meaning : Option TokenKind → List ℕ → Meaning
word_meaning None w = Spelling w
word_meaning (Some k) w = KindAlone

-- what a lexeme of this form denotes
unfoldable pub meaning_of : Form → List ℕ → Meaning
meaning_of Word w = word_meaning (keyword_of w) w
meaning_of Qualified w = Parts (leading is_name_byte w) (after_separator is_name_byte w)
meaning_of Digits w = Whole (number_of w)
meaning_of Fractional w = Scaled (scaled_of (leading is_digit w) (after_separator is_digit w))
meaning_of Dated w = Day (date_of w)
meaning_of Quoted w = TextBytes (text_of w)
meaning_of Symbol w = KindAlone
