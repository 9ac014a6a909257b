-- What a condition is: true, false, or none.
use Rattle.std.specs.Prelude.{ℕ, ◌+◌, ◌-◌, ◌*◌, Bool, true, false, not, ◌&&◌, ◌||◌, ◌==◌, nat_le, nat_lt, if◌then◌else◌, List, [], ◌∷◌, ◌++◌, length, drop, map, codes, Option, Some, None}
use Rattle.preprocessor.specs.declared.tokens.Token.{Token}
use Rattle.preprocessor.specs.declared.tokens.Token.TheVariants.{Word, Text, Equal, Unequal, Open, Close, Wrong}
use Rattle.preprocessor.specs.declared.condition.Operand.{Operand}
use Rattle.preprocessor.specs.declared.condition.Operand.TheVariants.{Number, Quoted}
use Rattle.preprocessor.specs.declared.condition.Read.{Read}
use Rattle.preprocessor.specs.declared.texts.State.{State}
use Rattle.preprocessor.specs.Modes.{is_digit, next_byte}
use Rattle.preprocessor.specs.Names.{is_name, lower, same_bytes, same_name}
use Rattle.preprocessor.specs.Texts.{defined_number}
use Rattle.preprocessor.specs.Words.{is_blank}

-- ---- tokens

-- three octal digits up to 377
abbrev pub is_octal : List ℕ → Bool
is_octal [] = false
is_octal (a ∷ []) = false
is_octal (a ∷ b ∷ []) = false
is_octal (a ∷ b ∷ c ∷ bs) = (nat_le 48 a && nat_le a 51) && (nat_le 48 b && nat_le b 55) && (nat_le 48 c && nat_le c 55)

abbrev pub octal_of : List ℕ → ℕ
octal_of [] = 0
octal_of (a ∷ []) = 0
octal_of (a ∷ b ∷ []) = 0
octal_of (a ∷ b ∷ c ∷ bs) = (a - 48) * 64 + (b - 48) * 8 + (c - 48)

-- how many of the bytes after ~ belong to it
abbrev pub escape_length : List ℕ → ℕ
escape_length bs = if is_octal bs then 3 else 1

-- n t r denote line feed, tab and carriage return
abbrev pub control_of : ℕ → ℕ
control_of b = if b == 110 then 10 else if b == 116 then 9 else if b == 114 then 13 else b

-- what ~ and the bytes after it denote; a line feed after it nothing
abbrev pub escaped : List ℕ → List ℕ
escaped [] = []
escaped (b ∷ bs) =
    if is_octal (b ∷ bs) then octal_of (b ∷ bs) ∷ []
    else if b == 10 then []
    else control_of b ∷ []

-- the word that is open before these tokens, where it has bytes
abbrev pub word_before : List ℕ → List Token → List Token
word_before [] tokens = tokens
word_before (b ∷ bs) tokens = Word (b ∷ bs) ∷ tokens

-- ( ) = < >
abbrev pub is_sign : ℕ → Bool
is_sign b = (b == 40 || b == 41) || (nat_le 60 b && nat_le b 62)

-- a sign before `next`
abbrev pub sign_of : ℕ → ℕ → Token
sign_of b next =
    if b == 40 then Open
    else if b == 41 then Close
    else if b == 61 then Equal
    else if b == 60 && next == 62 then Unequal
    else Wrong

-- the bytes after it that belong to it
abbrev pub sign_rest : ℕ → ℕ → ℕ
sign_rest b next = if b == 60 && next == 62 then 1 else 0

-- what is open at the end
abbrev pub last_token : ℕ → List ℕ → List Token
last_token quote held = if nat_lt 0 quote then Wrong ∷ [] else word_before held []

-- The tokens: words, TEXTs and signs. Inside a TEXT `quote` is its quotation mark, outside 0; `held` is what there is
-- of the TEXT or the word; the next `skip` bytes belong to what was before.
abbrev pub tokens : ℕ → ℕ → List ℕ → List ℕ → List Token
tokens quote skip held [] = last_token quote held
tokens quote skip held (b ∷ bs) =
    if nat_lt 0 skip then tokens quote (skip - 1) held bs
    else if nat_lt 0 quote then
    (if b == 126 then tokens quote (escape_length bs) (held ++ escaped bs) bs
    else if b == quote then
    (if next_byte bs == quote then tokens quote 1 (held ++ b ∷ []) bs else Text held ∷ tokens 0 0 [] bs)
    else tokens quote 0 (held ++ b ∷ []) bs)
    else if is_blank b then word_before held (tokens 0 0 [] bs)
    else if b == 34 || b == 39 then word_before held (tokens b 0 [] bs)
    else if is_sign b then word_before held (sign_of b (next_byte bs) ∷ tokens 0 (sign_rest b (next_byte bs)) [] bs)
    else tokens 0 0 (held ++ b ∷ []) bs

-- ---- operands

-- the bytes without the run of this byte at their start
abbrev pub without_leading : ℕ → List ℕ → List ℕ
without_leading dropped [] = []
without_leading dropped (b ∷ bs) = if b == dropped then without_leading dropped bs else b ∷ bs

-- the bytes without the run of this byte at their end, where `kept` and then a run of it were before
abbrev pub without_trailing : ℕ → List ℕ → List ℕ → List ℕ → List ℕ
without_trailing dropped kept run [] = kept
without_trailing dropped kept run (b ∷ bs) =
    if b == dropped then without_trailing dropped kept (run ++ b ∷ []) bs
    else without_trailing dropped ((kept ++ run) ++ b ∷ []) [] bs

-- the number with these digits before and after its point, as it is compared
abbrev pub number_of : Bool → List ℕ → List ℕ → Option Operand
number_of point whole fraction =
    if nat_lt 0 (length whole) && (not point || nat_lt 0 (length fraction))
    then Some (Number (without_leading 48 whole) (without_trailing 48 [] [] fraction)) else None

-- digits, or digits, a point and digits; `whole` and `fraction` were before, and the point where `point` is true
abbrev pub number_at : Bool → List ℕ → List ℕ → List ℕ → Option Operand
number_at point whole fraction [] = number_of point whole fraction
number_at point whole fraction (b ∷ bs) =
    if is_digit b then
    (if point then number_at true whole (fraction ++ b ∷ []) bs else number_at false (whole ++ b ∷ []) fraction bs)
    else if point then None
    else if b == 46 then number_at true whole fraction bs
    else None

-- a text as it is compared: its letters small, without blanks at its end
abbrev pub compared : List ℕ → List ℕ
compared text = map lower (without_trailing 32 [] [] text)

-- one digit
abbrev pub digit : ℕ → Operand
digit n = Number (without_leading 48 ((48 + n) ∷ [])) []

-- an operand of one token
abbrev pub alone : Option Operand → Option Read
alone None = None
alone (Some operand) = Some (record { operand = operand; tokens = 1 })

abbrev pub is_open : Token → Bool
is_open Open = true
is_open Close = false
is_open Equal = false
is_open Unequal = false
is_open Wrong = false
is_open (Word word) = false
is_open (Text text) = false

abbrev pub is_close : Token → Bool
is_close Close = true
is_close Open = false
is_close Equal = false
is_close Unequal = false
is_close Wrong = false
is_close (Word word) = false
is_close (Text text) = false

-- the number that DEFINED gives for this name
abbrev pub defined_name : State → Token → Option Read
defined_name state (Word name) =
    if is_name name then Some (record { operand = digit (defined_number state name); tokens = 4 }) else None
defined_name state (Text text) = None
defined_name state Open = None
defined_name state Close = None
defined_name state Equal = None
defined_name state Unequal = None
defined_name state Wrong = None

-- DEFINED is followed by a name in parentheses.
abbrev pub defined : State → List Token → Option Read
defined state [] = None
defined state (a ∷ []) = None
defined state (a ∷ b ∷ []) = None
defined state (a ∷ b ∷ c ∷ ts) = if is_open a && is_close c then defined_name state b else None

-- the operand that begins with this token, before these
abbrev pub first_operand : State → Token → List Token → Option Read
first_operand state (Text text) ts = Some (record { operand = Quoted (compared text); tokens = 1 })
first_operand state (Word word) ts = if same_name word (codes "defined") then defined state ts else alone (number_at false [] [] word)
first_operand state Open ts = None
first_operand state Close ts = None
first_operand state Equal ts = None
first_operand state Unequal ts = None
first_operand state Wrong ts = None

-- the operand that these tokens begin with
abbrev pub operand_of : State → List Token → Option Read
operand_of state [] = None
operand_of state (t ∷ ts) = first_operand state t ts

-- ---- conditions

-- A number other than 0 holds; a TEXT alone is no condition.
abbrev pub holds : Operand → Option Bool
holds (Number whole fraction) = Some (nat_lt 0 (length whole) || nat_lt 0 (length fraction))
holds (Quoted text) = None

-- A number and a TEXT are not compared.
abbrev pub same_operand : Operand → Operand → Option Bool
same_operand (Number a b) (Number c d) = Some (same_bytes a c && same_bytes b d)
same_operand (Quoted a) (Quoted b) = Some (same_bytes a b)
same_operand (Number a b) (Quoted c) = None
same_operand (Quoted a) (Number b c) = None

abbrev pub turned : Bool → Option Bool → Option Bool
turned negated None = None
turned false (Some t) = Some t
turned true (Some t) = Some (not t)

-- the second operand is all that follows
abbrev pub compared_with : Operand → List Token → Option Read → Option Bool
compared_with first ts None = None
compared_with first ts (Some second) = if length ts == second.tokens then same_operand first second.operand else None

-- = or <> and the second operand follow the first
abbrev pub second_of : State → Operand → Token → List Token → Option Bool
second_of state first Equal ts = compared_with first ts (operand_of state ts)
second_of state first Unequal ts = turned true (compared_with first ts (operand_of state ts))
second_of state first Open ts = None
second_of state first Close ts = None
second_of state first Wrong ts = None
second_of state first (Word word) ts = None
second_of state first (Text text) ts = None

-- what follows the first operand: nothing, or the second
abbrev pub rest_of : State → Operand → List Token → Option Bool
rest_of state first [] = holds first
rest_of state first (t ∷ ts) = second_of state first t ts

abbrev pub begun_with : State → List Token → Option Read → Option Bool
begun_with state ts None = None
begun_with state ts (Some first) = rest_of state first.operand (drop first.tokens ts)

abbrev pub comparison : State → List Token → Option Bool
comparison state ts = begun_with state ts (operand_of state ts)

abbrev pub is_not : Token → Bool
is_not (Word word) = same_name word (codes "not")
is_not (Text text) = false
is_not Open = false
is_not Close = false
is_not Equal = false
is_not Unequal = false
is_not Wrong = false

-- NOT may be before it.
abbrev pub truth_of : State → List Token → Option Bool
truth_of state [] = None
truth_of state (t ∷ ts) = if is_not t then turned true (comparison state ts) else comparison state (t ∷ ts)

-- whether the condition holds; nothing where it is of no form
abbrev pub truth : State → List ℕ → Option Bool
truth state bytes = truth_of state (tokens 0 0 [] bytes)
