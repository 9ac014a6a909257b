-- The texts of an expansion, and the definitions that are in force.
use Rattle.std.specs.Prelude.{ℕ, zero, suc, ◌+◌, ◌<◌, ◌≤◌, ◌^◌, Bool, if◌then◌else◌, List, [], ◌∷◌, length, map, Option, Some, None, slice_get}
use Rattle.abl_base.specs.declared.limits.TheConstants.{MAX_FILE_BYTES}
use Rattle.abl_base.specs.declared.place.Place.{Place}
use Rattle.preprocessor.specs.declared.names.Definition.{Definition}
use Rattle.preprocessor.specs.declared.names.Maker.{Maker}
use Rattle.preprocessor.specs.declared.names.Maker.TheVariants.{ByGlobal, ByArgument, ByScoped}
use Rattle.preprocessor.specs.declared.texts.NamedText.{NamedText}
use Rattle.preprocessor.specs.declared.texts.Mark.{Mark}
use Rattle.preprocessor.specs.declared.texts.State.{State}
use Rattle.preprocessor.specs.declared.texts.Here.{Here}
use Rattle.preprocessor.specs.Names.{same_bytes, same_name}

-- the number of the first text with this name, where the first text has the number i
abbrev pub found : ℕ → List ℕ → List NamedText → Option ℕ
found i name [] = None
found i name (t ∷ ts) = if same_bytes t.name name then Some i else found (i + 1) name ts

abbrev pub text_bytes : Option NamedText → List ℕ
text_bytes None = []
text_bytes (Some t) = t.bytes

abbrev pub text_name : Option NamedText → List ℕ
text_name None = []
text_name (Some t) = t.name

abbrev pub bytes_at : List NamedText → ℕ → List ℕ
bytes_at texts i = text_bytes (slice_get texts i)

abbrev pub name_at : List NamedText → ℕ → List ℕ
name_at texts i = text_name (slice_get texts i)

-- Texts that can be expanded: their numbers fit, and none is longer than a file.
pub record AreTexts (texts : List NamedText) : Type 0 where
  pub few : length texts < 2 ^ 32
  pub short : (i : ℕ) → length (bytes_at texts i) ≤ MAX_FILE_BYTES

abbrev pub or_empty : Option (List ℕ) → List ℕ
or_empty None = []
or_empty (Some bytes) = bytes

abbrev pub nth : List (List ℕ) → ℕ → List ℕ
nth arguments i = or_empty (slice_get arguments i)

-- the argument with this number; 0 is the name of the text
abbrev pub argument_at : List NamedText → Here → ℕ → List ℕ
argument_at texts here zero = name_at texts here.text
argument_at texts here (suc i) = nth here.arguments i

-- the value of the last definition of this name, else `value`
abbrev pub last_value : List ℕ → List ℕ → List Definition → List ℕ
last_value value name [] = value
last_value value name (d ∷ ds) = last_value (if same_name d.name name then d.value else value) name ds

-- The innermost text's definition counts first, a global one last. Without a definition it is empty.
abbrev pub value_of : State → List ℕ → List ℕ
value_of state name = last_value (last_value [] name state.globals) name state.locals

-- 1 by &GLOBAL-DEFINE, 2 by an argument, 3 by &SCOPED-DEFINE
abbrev pub maker_number : Maker → ℕ
maker_number ByGlobal = 1
maker_number ByArgument = 2
maker_number ByScoped = 3

abbrev pub last_maker : ℕ → List ℕ → List Definition → ℕ
last_maker n name [] = n
last_maker n name (d ∷ ds) = last_maker (if same_name d.name name then maker_number d.maker else n) name ds

-- what DEFINED gives: 0 without a definition, else the number of the one that counts
abbrev pub defined_number : State → List ℕ → ℕ
defined_number state name = last_maker (last_maker 0 name state.globals) name state.locals

-- the bytes, each taken from this place
abbrev pub marked : ℕ → Place → List ℕ → List Mark
marked text place bytes = map (λ b. record { byte = b; text = text; place = place }) bytes

abbrev pub bytes_of : List Mark → List ℕ
bytes_of marks = map (λ m. m.byte) marks

-- the last value, where there is one
abbrev pub last_of : List Bool → Option Bool
last_of [] = None
last_of (x ∷ []) = Some x
last_of (x ∷ y ∷ ys) = last_of (y ∷ ys)

-- the values before it
abbrev pub all_but_last : List Bool → List Bool
all_but_last [] = []
all_but_last (x ∷ []) = []
all_but_last (x ∷ y ∷ ys) = x ∷ all_but_last (y ∷ ys)
