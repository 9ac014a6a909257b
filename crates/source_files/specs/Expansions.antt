-- What the texts of a source expand to, and where a place of the expansion is written.
use Rattle.std.specs.Prelude.{ℕ, zero, suc, List, [], ◌∷◌, Option, Some, None}
use Rattle.abl_base.specs.declared.place.Place.{Place}
use Rattle.preprocessor.specs.declared.expanded.Origin.{Origin}
use Rattle.preprocessor.specs.declared.texts.NamedText.{NamedText}
use Rattle.preprocessor.specs.declared.texts.Outcome.{Outcome}
use Rattle.preprocessor.specs.declared.texts.Outcome.TheVariants.{Gives, Breaks, Needs}
use Rattle.preprocessor.specs.Answers.{end_of, origin_of_place, origins_of}
use Rattle.preprocessor.specs.Expansion.{expansion}
use Rattle.preprocessor.specs.Places.{start}
use Rattle.preprocessor.specs.Texts.{bytes_of, name_at}

-- ---- outcomes

-- the outcome is a text
abbrev pub IsText : Outcome → Type 0
IsText (Gives marks state) = Unit {0}
IsText (Breaks rule text place) = ⊥
IsText (Needs name) = ⊥

-- the outcome asks for no file
abbrev pub AsksForNone : Outcome → Type 0
AsksForNone (Gives marks state) = Unit {0}
AsksForNone (Breaks rule text place) = Unit {0}
AsksForNone (Needs name) = ⊥

-- the bytes of the outcome; none where it is no text
abbrev pub bytes_in : Outcome → List ℕ
bytes_in (Gives marks state) = bytes_of marks
bytes_in (Breaks rule text place) = []
bytes_in (Needs name) = []

-- where a place of the outcome of these texts was taken from; where it breaks a rule, where it does
abbrev pub taken_from : List NamedText → Outcome → Place → Origin
taken_from texts (Gives marks state) place = origin_of_place (bytes_of marks) (origins_of marks) (end_of texts) place
taken_from texts (Breaks rule text at) place = record { text = text; place = at }
taken_from texts (Needs name) place = record { text = 0; place = start }

-- ---- the texts of a source, its own first

-- they break no rule E, and no further file is needed
abbrev pub IsExpanded : List NamedText → Type 0
IsExpanded texts = IsText (expansion texts)

-- THE EXPANSION of the texts
abbrev pub expanded : List NamedText → List ℕ
expanded texts = bytes_in (expansion texts)

-- where a place of the expansion is written: the number of the text, and the place in it
abbrev pub origin_in : List NamedText → Place → Origin
origin_in texts place = taken_from texts (expansion texts) place

-- the line that a place of the expansion has in its own text
abbrev pub own_line : List NamedText → Place → ℕ
own_line texts place = (origin_in texts place).place.line

-- the name of the file that has the text of this number; none of the source's own
abbrev pub file_of : List NamedText → ℕ → Option (List ℕ)
file_of texts zero = None
file_of texts (suc number) = Some (name_at texts (suc number))

-- a source that is no file and needs none
abbrev pub alone : List ℕ → List NamedText
alone bytes = record { name = []; bytes = bytes } ∷ []
