-- Which tokens a whole text has, and where it breaks a rule first.
use Rattle.std.specs.Prelude.{ℕ, ◌+◌, ◌-◌, ◌<◌, ◌≤◌, ◌≡◌, ◌⊎◌, ◌==◌, true, false, not, List, [], ◌∷◌, length, take, drop, count_by}
use Rattle.std.specs.List.{prefix_len, suffix_len}
use Rattle.abl_base.specs.declared.place.Place.{Place}
use Rattle.abl_base.specs.declared.rule.Rule.{Rule}
use Rattle.abl_base.specs.declared.rule.Rule.TheVariants.{L1, L2, L3, L4, L5}
use Rattle.parse_tree.specs.declared.token.Token.{Token}
use Rattle.parse_tree.specs.declared.token.TokenKind.TheVariants.{EndOfSource}
use Rattle.parse_tree.specs.declared.token.Meaning.TheVariants.{KindAlone}
use Rattle.lexer.specs.declared.form.Form.{Form}
use Rattle.lexer.specs.declared.form.Form.TheVariants.{Word, Qualified, Digits, Fractional, Dated}
use Rattle.lexer.specs.Bytes.{line_feed, is_digit, is_name_byte, starts_quote}
use Rattle.lexer.specs.Forms.{Longest, NoForm, leading, after_separator}
use Rattle.lexer.specs.Gaps.{Gap, OpenGap}
use Rattle.lexer.specs.Meanings.{kind_of, meaning_of, is_date, date_of}

-- The line and the column of a place, from 1. They count the line feeds before it, and the bytes
-- after the last of these.
unfoldable pub place_of : List ℕ → ℕ → Place
place_of text at = record {
  line = 1 + count_by (λ b. b == line_feed) (take at text);
  column = 1 + suffix_len (λ b. not (b == line_feed)) (take at text);
}

-- the bytes from start up to and without end
abbrev pub bytes_of : List ℕ → ℕ → ℕ → List ℕ
bytes_of text start end = take (end - start) (drop start text)

-- the next lexeme after the gap at this place: its form and its ends; no longer lexeme begins there
pub record IsNextWord (text : List ℕ) (at : ℕ) (f : Form) (start end : ℕ) : Type 0 where
  pub gap : ℕ
  pub gap_is : Gap (drop at text) gap
  pub start_is : start ≡ at + gap
  pub n : ℕ
  pub end_is : end ≡ start + n
  pub longest : Longest f n (drop start text)

-- the token of a lexeme of this form
unfoldable pub token_of : List ℕ → Form → ℕ → ℕ → Token
token_of text f start end = record {
  kind = kind_of f (bytes_of text start end);
  start = start;
  end = end;
  place = place_of text start;
  meaning = meaning_of f (bytes_of text start end);
}

unfoldable pub end_token : List ℕ → Token
end_token text = record {
  kind = EndOfSource;
  start = length text;
  end = length text;
  place = place_of text (length text);
  meaning = KindAlone;
}

-- From this place on the text consists of white space, comments and these tokens; the end token follows its last byte.
pub data TokensFrom (text : List ℕ) : ℕ → List Token → Type 0 where
  ended : {at : ℕ} (gap : ℕ) → Gap (drop at text) gap → at + gap ≡ length text → TokensFrom text at (end_token text ∷ [])
  token : {at : ℕ} {list : List Token} {f : Form} {start end : ℕ} → IsNextWord text at f start end → TokensFrom text end list → TokensFrom text at (token_of text f start end ∷ list)

-- the tokens of the text
abbrev pub HasTokens : List ℕ → List Token → Type 0
HasTokens text list = TokensFrom text 0 list

-- How a lexeme breaks a rule, and the offset from its start at which it does: a name or a part of one above 32 bytes,
-- a number with more than 18 digits before or 10 after the point, or an invalid date.
pub data Misfit : Form → List ℕ → Rule → ℕ → Type 0 where
  long_name : {w : List ℕ} → 32 < length w → Misfit Word w L4 0
  long_first : {w : List ℕ} → 32 < length (leading is_name_byte w) → Misfit Qualified w L4 0
  long_second : {w : List ℕ} → 32 < length (after_separator is_name_byte w) → Misfit Qualified w L4 (prefix_len is_name_byte w + 1)
  long_whole : {w : List ℕ} → 18 < length w → Misfit Digits w L5 0
  long_before : {w : List ℕ} → 18 < length (leading is_digit w) → Misfit Fractional w L5 0
  long_fraction : {w : List ℕ} → 10 < length (after_separator is_digit w) → Misfit Fractional w L5 0
  no_date : {w : List ℕ} → is_date (date_of w) ≡ false → Misfit Dated w L5 0

-- the rule that the text breaks directly after the gap at this place
pub data Broken (text : List ℕ) (at : ℕ) : Rule → ℕ → Type 0 where
  no_token : (gap : ℕ) → Gap (drop at text) gap → at + gap < length text → starts_quote (drop (at + gap) text) ≡ false → NoForm (drop (at + gap) text) → Broken text at L1 (at + gap)
  open_comment : (gap : ℕ) → OpenGap (drop at text) gap → Broken text at L2 (at + gap)
  open_text : (gap : ℕ) → Gap (drop at text) gap → starts_quote (drop (at + gap) text) ≡ true → NoForm (drop (at + gap) text) → Broken text at L3 (at + gap)
  misfit : {f : Form} {start end offset : ℕ} {rule : Rule} → IsNextWord text at f start end → Misfit f (bytes_of text start end) rule offset → Broken text at rule (start + offset)

-- the rule is broken after the gap at this place, or after some further tokens
pub data BreaksFrom (text : List ℕ) : ℕ → Rule → ℕ → Type 0 where
  here : {at spot : ℕ} {rule : Rule} → Broken text at rule spot → BreaksFrom text at rule spot
  later : {at start end spot : ℕ} {f : Form} {rule : Rule} → IsNextWord text at f start end → BreaksFrom text end rule spot → BreaksFrom text at rule spot

-- the places that break a rule
abbrev pub Breaks : List ℕ → Rule → ℕ → Type 0
Breaks text rule spot = BreaksFrom text 0 rule spot

-- the number of a rule among those of tokens
abbrev pub number : Rule → ℕ
number L1 = 1
number L2 = 2
number L3 = 3
number L4 = 4
number L5 = 5
number _ = 6

-- no form matches at the start of the text: L3 where it begins with a quote, else L1
abbrev pub BreaksFront : Rule → List ℕ → Type 0
BreaksFront L1 text = (starts_quote text ≡ false) × NoForm text
BreaksFront L3 text = (starts_quote text ≡ true) × NoForm text
BreaksFront _ text = ⊥

-- the lexeme breaks no rule
abbrev pub IsFit : Form → List ℕ → Type 0
IsFit f w = (rule : Rule) (offset : ℕ) → Misfit f w rule offset → ⊥

-- the first rule that the lexeme breaks
pub record IsFirstMisfit (f : Form) (w : List ℕ) (rule : Rule) (offset : ℕ) : Type 0 where
  pub breaks : Misfit f w rule offset
  pub first : (other : Rule) (at : ℕ) → Misfit f w other at → (offset ≤ at) × (number rule ≤ number other)

-- nothing but a gap is left
abbrev pub EndsAt : List ℕ → ℕ → Type 0
EndsAt text at = (gap : ℕ) × Gap (drop at text) gap × (at + gap ≡ length text)

-- the first rule broken after the gap at this place
pub record IsBrokenFirst (text : List ℕ) (at : ℕ) (rule : Rule) (spot : ℕ) : Type 0 where
  pub breaks : Broken text at rule spot
  pub first : (other : Rule) (x : ℕ) → Broken text at other x → (spot ≤ x) × (number rule ≤ number other)

-- The first place that breaks a rule, and the least rule broken there.
pub record IsFirst (text : List ℕ) (rule : Rule) (spot : ℕ) : Type 0 where
  pub breaks : Breaks text rule spot
  pub first : (other : Rule) (at : ℕ) → Breaks text other at → (spot < at) ⊎ ((spot ≡ at) × (number rule ≤ number other))

-- the rule is the first that the text breaks, at this line and column
abbrev pub IsRefused : List ℕ → Rule → Place → Type 0
IsRefused text rule place = (spot : ℕ) × IsFirst text rule spot × (place ≡ place_of text spot)
