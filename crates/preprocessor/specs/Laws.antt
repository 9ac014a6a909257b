-- What the definition says in the subject's words.
use Rattle.std.specs.Prelude.{ℕ, ◌≡◌, Bool, true, not, ◌&&◌, ◌||◌, ◌==◌, ◌≤◌, List, [], ◌∷◌, length}
use Rattle.abl_base.specs.declared.place.Place.{Place}
use Rattle.preprocessor.specs.declared.texts.NamedText.{NamedText}
use Rattle.preprocessor.specs.declared.texts.Mark.{Mark}
use Rattle.preprocessor.specs.declared.texts.State.{State}
use Rattle.preprocessor.specs.declared.texts.Here.{Here}
use Rattle.preprocessor.specs.declared.reference.FileReference.{FileReference}
use Rattle.preprocessor.specs.declared.limits.TheConstants.{MAX_EXPANSION_BYTES}
use Rattle.preprocessor.specs.declared.texts.Outcome.{Outcome}
use Rattle.preprocessor.specs.declared.texts.Outcome.TheVariants.{Gives, Breaks, Needs}
use Rattle.preprocessor.specs.Expansion.{expansion, one_more_text, text_of}
use Rattle.preprocessor.specs.Places.{moved, start}
use Rattle.preprocessor.specs.Texts.{bytes_at}

-- no byte is { or &
abbrev pub is_plain : List ℕ → Bool
is_plain [] = true
is_plain (b ∷ bs) = not (b == 123 || b == 38) && is_plain bs

-- the bytes, each taken from its own place
abbrev pub taken : ℕ → Place → List ℕ → List Mark
taken text p [] = []
taken text p (b ∷ bs) = record { byte = b; text = text; place = p } ∷ taken text (moved p b) bs

-- The source expands to itself, and each byte is taken from its own place.
abbrev pub IsItself : List NamedText → Type 0
IsItself texts = (state : State) × (expansion texts ≡ Gives (taken 0 start (bytes_at texts 0)) state)

-- What a file defines for itself ends with it: the definitions of the open texts are after it those before it.
abbrev pub DefinitionsEnd : List NamedText → Type 0
DefinitionsEnd texts = (here : Here) (at : Place) (state last : State) (file : FileReference) (marks : List Mark) → one_more_text texts (text_of texts here.left) here at state file here.left ≡ Gives marks last → last.locals ≡ state.locals

-- What is given is at most as long as an expansion may be.
abbrev pub IsShort : Outcome → Type 0
IsShort (Gives marks state) = length marks ≤ MAX_EXPANSION_BYTES
IsShort (Breaks rule text place) = Unit {0}
IsShort (Needs name) = Unit {0}
