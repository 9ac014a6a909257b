-- Where the parts of an &IF end.
use Rattle.std.specs.Prelude.{ℕ, ◌+◌, ◌-◌, Bool, true, false, not, ◌==◌, nat_lt, if◌then◌else◌, List, [], ◌∷◌, length, take, drop, Option, Some, None}
use Rattle.preprocessor.specs.declared.mode.Mode.{Mode}
use Rattle.preprocessor.specs.declared.directive.Directive.{Directive}
use Rattle.preprocessor.specs.declared.directive.Directive.TheVariants.{Scoped, Global, If, Then, ElseIf, Else, EndIf, Unknown}
use Rattle.preprocessor.specs.Modes.{after, begins_word, beside, inner, next_byte, opens, plain}
use Rattle.preprocessor.specs.Braces.{closing, one_more}
use Rattle.preprocessor.specs.Names.{word_length}
use Rattle.preprocessor.specs.Directives.{directive_in, directive_of, line_length}

-- the bytes up to and with the } that closes the reference, or all
abbrev pub up_to_closing : List ℕ → Option ℕ → ℕ
up_to_closing bs None = length bs
up_to_closing bs (Some n) = n + 1

-- how many &IFs are open inside, after this word
abbrev pub depth_after : ℕ → Directive → ℕ
depth_after d If = d + 1
depth_after d EndIf = d - 1
depth_after d Scoped = d
depth_after d Global = d
depth_after d Then = d
depth_after d ElseIf = d
depth_after d Else = d
depth_after d Unknown = d

-- a word that ends a part: &ENDIF, or one of the other three where they are looked for too
abbrev pub ends_outer : Bool → Directive → Bool
ends_outer last EndIf = true
ends_outer last Then = not last
ends_outer last ElseIf = not last
ends_outer last Else = not last
ends_outer last If = false
ends_outer last Scoped = false
ends_outer last Global = false
ends_outer last Unknown = false

-- It does so where no &IF is open inside.
abbrev pub ends_part : Bool → ℕ → Directive → Bool
ends_part last d word = if d == 0 then ends_outer last word else false

-- the bytes after a word that belong to it: the line of a definition
abbrev pub line_of : Directive → List ℕ → ℕ
line_of Scoped bs = line_length bs
line_of Global bs = line_length bs
line_of If bs = 0
line_of Then bs = 0
line_of ElseIf bs = 0
line_of Else bs = 0
line_of EndIf bs = 0
line_of Unknown bs = 0

-- the word that these bytes continue, after its &
abbrev pub word_in : Mode → List ℕ → Directive
word_in m bs = directive_in m (take (word_length bs) bs)

-- how many of the bytes after the & of this word belong to it
abbrev pub span : Directive → List ℕ → ℕ
span word bs = word_length bs + line_of word (drop (word_length bs) bs)

-- The number of bytes before the word that ends a part of the &IF that is open here; with `last`, before its &ENDIF.
-- References and lines of definitions are passed over, as `skip` bytes are, and so are the &IFs inside, of which d are open.
abbrev pub cut : Bool → ℕ → ℕ → Mode → List ℕ → Option ℕ
cut last d skip m [] = None
cut last d skip m (b ∷ bs) =
    if nat_lt 0 skip then one_more (cut last d (skip - 1) m bs)
    else if opens m b then one_more (cut last d (up_to_closing bs (closing [] inner bs)) (beside m) bs)
    else if begins_word m b then
    (if ends_part last d (word_in m bs) then Some 0
    else one_more (cut last (depth_after d (word_in m bs)) (span (word_in m bs) bs) plain bs))
    else one_more (cut last d 0 (after m b (next_byte bs)) bs)

-- from the start of a condition or a part
abbrev pub part_length : Bool → List ℕ → Option ℕ
part_length last bytes = cut last 0 0 plain bytes

-- the number of bytes of the word that these bytes begin with, its & included
abbrev pub word_size : List ℕ → ℕ
word_size [] = 0
word_size (b ∷ bs) = 1 + word_length bs

-- what that word is
abbrev pub word_at : List ℕ → Directive
word_at [] = Unknown
word_at (b ∷ bs) = directive_of (take (word_length bs) bs)
