-- A line of an input, and the elements that it contains.
use Rattle.std.specs.Prelude.{◌≡◌, ℕ, Bool, true, false, not, ◌&&◌, ◌||◌, ◌==◌, ◌⊎◌, if◌then◌else◌, List, [], ◌∷◌, ◌++◌, drop}
use Rattle.std.specs.List.{list_all}
use Rattle.abl_values.specs.Texts.{doubled}
use Rattle.value_formats.specs.declared.element.Element.{Element}
use Rattle.value_formats.specs.declared.element.Element.TheVariants.{Bare, Quoted}

-- a blank or a tab
abbrev pub is_blank : ℕ → Bool
is_blank b = (b == 32) || (b == 9)

-- the bytes begin with this one
abbrev pub starts : ℕ → List ℕ → Bool
starts c [] = false
starts c (b ∷ bs) = b == c

-- ---- what a line is, by its elements

-- neither blank nor tab nor line feed
abbrev pub is_bare_byte : ℕ → Bool
is_bare_byte b = not (is_blank b || (b == 10))

-- a bare element: one or more such bytes, not beginning with a quotation mark
abbrev pub is_bare : List ℕ → Bool
is_bare [] = false
is_bare (b ∷ bs) = not (b == 34) && list_all is_bare_byte (b ∷ bs)

-- the first byte would continue a bare element before it
abbrev pub starts_bare : List ℕ → Bool
starts_bare [] = false
starts_bare (b ∷ bs) = is_bare_byte b

-- a bare element, after blanks, reaches as far as it can
pub record BareAt (line word after : List ℕ) : Type 0 where
  pub gap : List ℕ
  pub blank : list_all is_blank gap ≡ true
  pub bytes : line ≡ gap ++ (word ++ after)
  pub bare : is_bare word ≡ true
  pub ends : starts_bare after ≡ false

-- an element in quotation marks, after blanks, with the inner marks doubled. It ends at a mark that is not doubled
pub record QuotedAt (line text after : List ℕ) : Type 0 where
  pub gap : List ℕ
  pub blank : list_all is_blank gap ≡ true
  pub bytes : line ≡ gap ++ 34 ∷ (doubled text ++ 34 ∷ after)
  pub ends : starts 34 after ≡ false

-- the same without its closing mark, up to the end of the bytes
pub record OpenAt (line text : List ℕ) : Type 0 where
  pub gap : List ℕ
  pub blank : list_all is_blank gap ≡ true
  pub bytes : line ≡ gap ++ 34 ∷ doubled text

-- the line, without its end, has these elements in order. It is closed where every quotation mark has its other one
abbrev pub Spells : Bool → List ℕ → List Element → Type 0
Spells true line [] = list_all is_blank line ≡ true
Spells false line [] = ⊥
Spells closed line (Bare word ∷ es) = (after : List ℕ) × BareAt line word after × Spells closed after es
Spells true line (Quoted text ∷ es) = (after : List ℕ) × QuotedAt line text after × Spells true after es
Spells false line (Quoted text ∷ []) = OpenAt line text
Spells false line (Quoted text ∷ e ∷ es) = (after : List ℕ) × QuotedAt line text after × Spells false after (e ∷ es)

-- the last byte is a carriage return
abbrev pub ends_in_return : List ℕ → Bool
ends_in_return [] = false
ends_in_return (b ∷ []) = b == 13
ends_in_return (b ∷ c ∷ bs) = ends_in_return (c ∷ bs)

-- The input begins with the line, and `rest` follows the line's end. A line feed ends a closed line,
-- together with a carriage return directly before it. The end of the input ends any line.
abbrev pub Begins : Bool → List ℕ → List ℕ → List ℕ → Type 0
Begins true input line rest =
    ((input ≡ line ++ 10 ∷ rest) × (ends_in_return line ≡ false))
    ⊎ ((input ≡ line ++ 13 ∷ 10 ∷ rest) ⊎ ((input ≡ line) × (rest ≡ [])))
Begins false input line rest = (input ≡ line) × (rest ≡ [])

-- the first line of the input has these elements, and `rest` follows the line
pub record IsLine (input : List ℕ) (elements : List Element) (rest : List ℕ) : Type 0 where
  pub closed : Bool
  pub line : List ℕ
  pub begins : Begins closed input line rest
  pub spells : Spells closed line elements

-- the input is at its end, or its first line is a point alone
abbrev pub IsInputEnd : List ℕ → Type 0
IsInputEnd input = (input ≡ []) ⊎ ((rest : List ℕ) × Begins true input (46 ∷ []) rest)

-- ---- the same read off the bytes, from the right

-- the result of reading bytes: those up to the end of the open element, the elements after it, and the bytes after the line
pub record Reading : Type 0 where
  pub open_bytes : List ℕ
  pub elements : List Element
  pub rest : List ℕ

-- no element is open; the same elements and rest follow
abbrev pub closing : Reading → Reading
closing r = record { open_bytes = []; elements = r.elements; rest = r.rest }

-- one more byte of the open element
abbrev pub byte_before : ℕ → Reading → Reading
byte_before b r = record { open_bytes = b ∷ r.open_bytes; elements = r.elements; rest = r.rest }

-- the open element begins here
abbrev pub opened : (List ℕ → Element) → Reading → Reading
opened as_element r = record { open_bytes = []; elements = as_element r.open_bytes ∷ r.elements; rest = r.rest }

-- the line ends, and this is the remaining input
abbrev pub line_ending : List ℕ → Reading
line_ending rest = record { open_bytes = []; elements = []; rest = rest }

-- the four readings of the bytes from a place on: between elements, in a bare one, in quotes, and after a mark in quotes
pub record Readings : Type 0 where
  pub between : Reading
  pub in_bare : Reading
  pub in_quotes : Reading
  pub after_mark : Reading

-- the bytes begin with a line feed, or with a carriage return and a line feed
abbrev pub starts_end : List ℕ → Bool
starts_end [] = false
starts_end (b ∷ bs) = (b == 10) || ((b == 13) && starts 10 bs)

-- the bytes after that line end
abbrev pub after_end : List ℕ → List ℕ
after_end [] = []
after_end (b ∷ bs) = if b == 10 then bs else drop 1 bs

-- an element begins here
abbrev pub starts_element : List ℕ → Bool
starts_element [] = false
starts_element (b ∷ bs) = not (starts_end (b ∷ bs) || is_blank b)

-- a byte between elements, and the readings of those after it
abbrev pub between_at : ℕ → List ℕ → Readings → Reading
between_at b bs after =
    if starts_end (b ∷ bs) then line_ending (after_end (b ∷ bs))
    else if is_blank b then after.between
    else if b == 34 then opened Quoted after.in_quotes
    else opened Bare (byte_before b after.in_bare)

-- a byte in a bare element
abbrev pub in_bare_at : ℕ → List ℕ → Readings → Reading
in_bare_at b bs after =
    if starts_end (b ∷ bs) then line_ending (after_end (b ∷ bs))
    else if is_blank b then closing after.between
    else byte_before b after.in_bare

-- a byte in quotes
abbrev pub in_quotes_at : ℕ → Readings → Reading
in_quotes_at b after = if b == 34 then after.after_mark else byte_before b after.in_quotes

-- a byte after a mark in quotes: a second mark denotes one, else the element has ended before the byte
abbrev pub after_mark_at : ℕ → List ℕ → Readings → Reading
after_mark_at b bs after =
    if b == 34 then byte_before 34 after.in_quotes else closing (between_at b bs after)

abbrev pub readings_at : ℕ → List ℕ → Readings → Readings
readings_at b bs after = record {
  between = between_at b bs after;
  in_bare = in_bare_at b bs after;
  in_quotes = in_quotes_at b after;
  after_mark = after_mark_at b bs after;
}

abbrev pub no_bytes : Readings
no_bytes = record {
  between = line_ending [];
  in_bare = line_ending [];
  in_quotes = line_ending [];
  after_mark = line_ending [];
}

abbrev pub readings : List ℕ → Readings
readings [] = no_bytes
readings (b ∷ bs) = readings_at b bs (readings bs)

-- the elements of the first line of an input, and what follows it
unfoldable pub first_line : List ℕ → Reading
first_line input = (readings input).between

-- the input is empty, or begins with a point directly before a line end or the end of the input
abbrev pub is_input_end : List ℕ → Bool
is_input_end [] = true
is_input_end (b ∷ []) = b == 46
is_input_end (b ∷ c ∷ bs) = (b == 46) && starts_end (c ∷ bs)
