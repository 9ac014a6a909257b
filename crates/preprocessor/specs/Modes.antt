-- What a byte of a text is: within a comment, a TEXT or a name, the start of a reference or of a word, or none of these.
use Rattle.std.specs.Prelude.{ℕ, ◌+◌, ◌-◌, Bool, true, false, ◌&&◌, ◌||◌, ◌==◌, nat_le, nat_lt, if◌then◌else◌, List, [], ◌∷◌}
use Rattle.preprocessor.specs.declared.mode.Mode.{Mode}

abbrev pub is_letter : ℕ → Bool
is_letter b = (nat_le 65 b && nat_le b 90) || (nat_le 97 b && nat_le b 122)

abbrev pub is_digit : ℕ → Bool
is_digit b = nat_le 48 b && nat_le b 57

-- a letter, a digit or one of # $ % & - _
abbrev pub is_name_byte : ℕ → Bool
is_name_byte b =
    if is_letter b then true
    else if is_digit b then true
    else if nat_le 35 b && nat_le b 38 then true
    else b == 45 || b == 95

-- at the start of a text: outside comments, TEXTs and names
abbrev pub plain : Mode
plain = record { directives = true; condition = false; branch = false; quote = 0; comments = 0; passed = false; name = false; number = false }

-- at the start of a reference's inside or of a definition's line, where & begins no word
abbrev pub inner : Mode
inner = record { directives = false; condition = false; branch = false; quote = 0; comments = 0; passed = false; name = false; number = false }

-- in a reference, in a TEXT with this quotation mark, or in none where it is 0
abbrev pub within : ℕ → Mode
within quote = record { directives = false; condition = false; branch = false; quote = quote; comments = 0; passed = false; name = false; number = false }

-- at the start of a condition
abbrev pub in_condition : Mode
in_condition = record { directives = true; condition = true; branch = false; quote = 0; comments = 0; passed = false; name = false; number = false }

-- at the word that ends a part which was not chosen
abbrev pub at_branch : Mode
at_branch = record { directives = true; condition = false; branch = true; quote = 0; comments = 0; passed = false; name = false; number = false }

-- { opens a reference outside comments, in a TEXT too
abbrev pub opens : Mode → ℕ → Bool
opens m b = if m.passed || nat_lt 0 m.comments then false else b == 123

-- and } closes one
abbrev pub closes : Mode → ℕ → Bool
closes m b = if m.passed || nat_lt 0 m.comments then false else b == 125

-- & begins a word outside comments, TEXTs and names
abbrev pub begins_word : Mode → ℕ → Bool
begins_word m b =
    if m.passed || nat_lt 0 m.comments then false
    else if m.name || nat_lt 0 m.quote then false
    else if m.directives then b == 38
    else false

-- Two bytes open a comment, two close one; the second of the two is passed over.
abbrev pub in_comment : Mode → ℕ → ℕ → Mode
in_comment m b next =
    if b == 47 && next == 42 then record m { comments = m.comments + 1; passed = true }
    else if b == 42 && next == 47 then record m { comments = m.comments - 1; passed = true }
    else m

-- In a TEXT ~ passes over the next byte, and the TEXT's own quote ends it.
abbrev pub in_text : Mode → ℕ → Mode
in_text m b =
    if b == 126 then record m { passed = true }
    else if b == m.quote then record m { quote = 0 }
    else m

-- Elsewhere ~ passes over a brace alone.
abbrev pub outside : Mode → ℕ → ℕ → Mode
outside m b next =
    if b == 126 then record m { passed = next == 123 || next == 125 }
    else if b == 47 && next == 42 then record m { comments = 1; passed = true }
    else if b == 34 || b == 39 then record m { quote = b }
    else m

-- what a byte opens and closes, where `next` is the byte after it
abbrev pub shifted : Mode → ℕ → ℕ → Mode
shifted m b next =
    if m.passed then record m { passed = false }
    else if nat_lt 0 m.comments then in_comment m b next
    else if nat_lt 0 m.quote then in_text m b
    else outside m b next

-- the byte belongs to a name: a letter begins one, and bytes of names continue it
abbrev pub in_name : Mode → ℕ → Bool
in_name m b = if m.name then is_name_byte b else is_letter b

-- the byte is a digit that belongs to no name
abbrev pub in_number : Mode → ℕ → Bool
in_number m b = if m.name then false else is_digit b

-- the mode after a byte that is copied
abbrev pub after : Mode → ℕ → ℕ → Mode
after m b next = record (shifted m b next) { name = in_name m b; number = in_number m b }

-- the mode after a reference
abbrev pub beside : Mode → Mode
beside m = record m { name = false; number = false }

-- the byte after, or 0
abbrev pub next_byte : List ℕ → ℕ
next_byte [] = 0
next_byte (b ∷ bs) = b
