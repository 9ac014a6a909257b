-- The lines of a schema file, and the words and quoted texts of a line.
use Rattle.std.specs.Prelude.{ℕ, Bool, true, false, not, ◌&&◌, ◌||◌, ◌==◌, if◌then◌else◌, List, [], ◌∷◌, map, Option, Some, None}
use Rattle.abl_values.specs.Masks.{after_run, same_bytes}

-- ---- lines

-- all bytes but a line feed
abbrev pub is_line_byte : ℕ → Bool
is_line_byte b = not (b == 10)

-- one more byte at the head of the first line
abbrev pub onto_first : ℕ → List (List ℕ) → List (List ℕ)
onto_first b [] = (b ∷ []) ∷ []
onto_first b (line ∷ lines) = (b ∷ line) ∷ lines

-- one more byte before these lines
abbrev pub byte_before : ℕ → List (List ℕ) → List (List ℕ)
byte_before b lines = if is_line_byte b then onto_first b lines else [] ∷ lines

-- the pieces between line feeds: one more than there are line feeds
abbrev pub pieces : List ℕ → List (List ℕ)
pieces [] = [] ∷ []
pieces (b ∷ bs) = byte_before b (pieces bs)

-- a blank or a tab
abbrev pub is_blank : ℕ → Bool
is_blank b = (b == 32) || (b == 9)

-- a byte that is trimmed at the ends of a line: a blank, a tab, a carriage return
abbrev pub is_margin : ℕ → Bool
is_margin b = is_blank b || (b == 13)

-- adds a byte before the trimmed rest of a line; a margin byte before an empty rest is dropped
abbrev pub kept_before : ℕ → List ℕ → List ℕ
kept_before b [] = if is_margin b then [] else b ∷ []
kept_before b (c ∷ cs) = b ∷ c ∷ cs

-- the bytes without the margin bytes at their end
abbrev pub without_end : List ℕ → List ℕ
without_end [] = []
without_end (b ∷ bs) = kept_before b (without_end bs)

-- a line without the margin bytes at its ends
abbrev pub trimmed : List ℕ → List ℕ
trimmed line = without_end (after_run is_margin line)

-- the lines before the first that is one period
abbrev pub before_period : List (List ℕ) → List (List ℕ)
before_period [] = []
before_period (line ∷ lines) = if same_bytes line (46 ∷ []) then [] else line ∷ before_period lines

-- the lines of a file: trimmed, and up to the one period
abbrev pub lines_of : List ℕ → List (List ℕ)
lines_of text = before_period (map trimmed (pieces text))

-- ---- words

-- the bytes of a word: all but blanks, tabs and quotation marks
abbrev pub is_word_byte : ℕ → Bool
is_word_byte b = not (is_blank b || (b == 34))

-- the longest run of bytes that pass
abbrev pub run : (ℕ → Bool) → List ℕ → List ℕ
run passes [] = []
run passes (b ∷ bs) = if passes b then b ∷ run passes bs else []

-- the word at the head of a line, which may be empty
abbrev pub word_of : List ℕ → List ℕ
word_of line = run is_word_byte line

-- the rest after that word and the blanks after it
abbrev pub after_word : List ℕ → List ℕ
after_word line = after_run is_blank (after_run is_word_byte line)

-- the line begins with this word
abbrev pub begins : List ℕ → List ℕ → Bool
begins word line = same_bytes (word_of line) word

-- the rest after this word, where the line begins with it
abbrev pub past_word : List ℕ → List ℕ → Option (List ℕ)
past_word word line = if begins word line then Some (after_word line) else None

-- ---- quoted texts

-- a text in quotation marks, and the rest after it and the blanks after it
pub record Quote : Type 0 where
  pub text : List ℕ
  pub rest : List ℕ

-- one more byte at the head of the text
abbrev pub with_byte : ℕ → Option Quote → Option Quote
with_byte b None = None
with_byte b (Some q) = Some (record { text = b ∷ q.text; rest = q.rest })

-- The next byte `b` of a quoted text, where `marked` says that the byte before it was a quotation mark that
-- closes the text unless it is doubled, and `next` is the quoted text from the byte after `b` on.
abbrev pub text_byte : Bool → ℕ → List ℕ → Option Quote → Option Quote
text_byte true b bs next =
    if b == 34 then with_byte 34 next else Some (record { text = []; rest = after_run is_blank (b ∷ bs) })
text_byte false b bs next = if b == 34 then next else with_byte b next

-- the quoted text whose opening mark is directly before these bytes; none where it is not closed
abbrev pub inside : Bool → List ℕ → Option Quote
inside false [] = None
inside true [] = Some (record { text = []; rest = [] })
inside marked (b ∷ bs) = text_byte marked b bs (inside (not marked && (b == 34)) bs)

-- the quoted text at the head of a line
abbrev pub quote_of : List ℕ → Option Quote
quote_of [] = None
quote_of (b ∷ bs) = if b == 34 then inside false bs else None

-- the text of a quoted text, empty where there is none
abbrev pub text_of : Option Quote → List ℕ
text_of None = []
text_of (Some q) = q.text

-- the quoted text at the head of a line, empty where none is closed there
abbrev pub quoted_bytes : List ℕ → List ℕ
quoted_bytes line = text_of (quote_of line)
