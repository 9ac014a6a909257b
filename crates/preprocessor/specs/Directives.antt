-- Words that begin with &, and the definitions that they make.
use Rattle.std.specs.Prelude.{ℕ, ◌+◌, Bool, true, false, ◌||◌, ◌==◌, nat_lt, if◌then◌else◌, List, [], ◌∷◌, ◌++◌, length, codes, Option, Some, None}
use Rattle.preprocessor.specs.declared.mode.Mode.{Mode}
use Rattle.preprocessor.specs.declared.names.Definition.{Definition}
use Rattle.preprocessor.specs.declared.names.Maker.{Maker}
use Rattle.preprocessor.specs.declared.names.Maker.TheVariants.{ByGlobal, ByScoped}
use Rattle.preprocessor.specs.declared.directive.Directive.{Directive}
use Rattle.preprocessor.specs.declared.directive.Directive.TheVariants.{Scoped, Global, If, Then, ElseIf, Else, EndIf, Unknown}
use Rattle.preprocessor.specs.Names.{is_name, same_name}
use Rattle.preprocessor.specs.Words.{is_blank}

-- what the word is, without its &
abbrev pub directive_of : List ℕ → Directive
directive_of word =
    if same_name word (codes "scoped-define") then Scoped
    else if same_name word (codes "global-define") then Global
    else if same_name word (codes "if") then If
    else if same_name word (codes "then") then Then
    else if same_name word (codes "elseif") then ElseIf
    else if same_name word (codes "else") then Else
    else if same_name word (codes "endif") then EndIf
    else Unknown

-- In a condition and after a number there is no such word.
abbrev pub directive_in : Mode → List ℕ → Directive
directive_in m word = if m.condition || m.number then Unknown else directive_of word

-- the number of bytes before the first line feed
abbrev pub line_length : List ℕ → ℕ
line_length [] = 0
line_length (b ∷ bs) = if b == 10 then 0 else 1 + line_length bs

abbrev pub maker_of : Bool → Maker
maker_of true = ByGlobal
maker_of false = ByScoped

-- The definition that a line makes: the bytes up to white space are its name, the rest without white space at its ends its value.
abbrev pub made_of : Maker → List ℕ → Bool → List ℕ → List ℕ → List ℕ → Definition
made_of maker name ended value pending [] = record { name = name; value = value; maker = maker }
made_of maker name ended value pending (b ∷ bs) =
    if ended then
    (if is_blank b then (if nat_lt 0 (length value) then made_of maker name true value (pending ++ b ∷ []) bs else made_of maker name true value pending bs)
    else made_of maker name true ((value ++ pending) ++ b ∷ []) [] bs)
    else
    (if is_blank b then made_of maker name (nat_lt 0 (length name)) value pending bs
    else made_of maker (name ++ b ∷ []) false value pending bs)

abbrev pub where_named : Definition → Option Definition
where_named d = if is_name d.name then Some d else None

-- the definition that a line makes, where it begins with a name
abbrev pub definition_of : Maker → List ℕ → Option Definition
definition_of maker line = where_named (made_of maker [] false [] [] line)
