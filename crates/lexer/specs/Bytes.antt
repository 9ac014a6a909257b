-- The bytes that tokens are made of. Letters and digits are those of ASCII.
use Rattle.std.specs.Prelude.{ℕ, Bool, false, ◌&&◌, ◌||◌, ◌==◌, nat_le, nat_lt, ◌+◌, List, [], ◌∷◌, length, slice_index}

abbrev pub line_feed : ℕ
line_feed = 10

abbrev pub tilde : ℕ
tilde = 126

abbrev pub star : ℕ
star = 42

abbrev pub slash : ℕ
slash = 47

abbrev pub point : ℕ
point = 46

-- blank, tab, line feed, carriage return and form feed
abbrev pub is_white : ℕ → Bool
is_white b = b == 32 || b == 9 || b == 10 || b == 13 || b == 12

abbrev pub is_letter : ℕ → Bool
is_letter b = (nat_le 65 b && nat_le b 90) || (nat_le 97 b && nat_le b 122)

abbrev pub is_digit : ℕ → Bool
is_digit b = nat_le 48 b && nat_le b 57

-- # $ % & are adjacent in the order of bytes, then - and _
abbrev pub is_name_sign : ℕ → Bool
is_name_sign b = (nat_le 35 b && nat_le b 38) || b == 45 || b == 95

-- what may follow the first letter of a name
abbrev pub is_name_byte : ℕ → Bool
is_name_byte b = is_letter b || is_digit b || is_name_sign b

-- " and '
abbrev pub is_quote : ℕ → Bool
is_quote b = b == 34 || b == 39

-- ( ) * + , - . / are adjacent in the order of bytes, and so are < = > ?; then : and ^
abbrev pub is_symbol_byte : ℕ → Bool
is_symbol_byte b = (nat_le 40 b && nat_le b 47) || (nat_le 60 b && nat_le b 63) || b == 58 || b == 94

-- the text begins with this byte
abbrev pub starts : ℕ → List ℕ → Bool
starts c [] = false
starts c (b ∷ bs) = b == c

abbrev pub starts_letter : List ℕ → Bool
starts_letter [] = false
starts_letter (b ∷ bs) = is_letter b

abbrev pub starts_quote : List ℕ → Bool
starts_quote [] = false
starts_quote (b ∷ bs) = is_quote b

abbrev pub starts_digit : List ℕ → Bool
starts_digit [] = false
starts_digit (b ∷ bs) = is_digit b

-- white space or a comment begins here
abbrev pub starts_gap : List ℕ → Bool
starts_gap [] = false
starts_gap (b ∷ bs) = is_white b || (b == slash && starts star bs)

-- these two bytes are at this place
abbrev pub pair_at : List ℕ → ℕ → ℕ → ℕ → Bool
pair_at text i c d = slice_index text i == c && slice_index text (i + 1) == d

-- a comment opens at this place
abbrev pub comment_at : List ℕ → ℕ → Bool
comment_at text i = nat_lt (i + 1) (length text) && pair_at text i slash star
