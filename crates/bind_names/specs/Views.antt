-- How the contracts see the values of the program.
use Rattle.std.specs.Prelude.{◌≡◌, List, [], ◌∷◌, ◌++◌, Option, Some, None}
use Rattle.bind_names.specs.declared.meaning.Buffer.{Buffer}
use Rattle.bind_names.specs.declared.among.Having.{Having}
use Rattle.bind_names.specs.declared.among.Having.TheVariants as h
use Rattle.bind_names.specs.declared.meaning.Meaning.{Meaning as TypedMeaning}
use Rattle.bind_names.specs.declared.meaning.Meaning.TheVariants as m
use Rattle.bind_names.specs.declared.names.NamedBuffer.{NamedBuffer}
use Rattle.bind_names.specs.declared.names.NamedVariable.{NamedVariable}
use Rattle.bind_names.specs.declared.notes.Notes.{Notes}
use Rattle.bind_names.specs.declared.scene.Scene.{Scene as TypedScene}
use Rattle.bind_names.specs.Judged.{Judged, first_of}
use Rattle.bind_names.specs.Names.{Scene, Meaning, TheVariable, TheField, TheBuffer, Nothing}

-- the place
abbrev pub scene_of : TypedScene → Scene
scene_of w = record {
  context = record { schema = w.schema.now; namings = w.namings.now; procedures = w.procedures.now };
  known = w.known;
  procedure = w.procedure;
  buffers = w.buffers;
  named = w.named;
  around = w.around;
  block = w.block;
}

-- a buffer
abbrev pub buffer_of : Buffer → NamedBuffer
buffer_of b = record { name = b.name.now; table = b.table }

abbrev pub maybe_buffer_of : Option Buffer → Option NamedBuffer
maybe_buffer_of None = None
maybe_buffer_of (Some b) = Some (buffer_of b)

-- what a name means
abbrev pub meaning_of : TypedMeaning → Meaning
meaning_of (m.Variable x mask) = TheVariable x mask.now
meaning_of (m.Field buffer field kind mask) = TheField buffer field kind mask.now
meaning_of (m.Buffer b) = TheBuffer (buffer_of b)
meaning_of m.Nothing = Nothing

abbrev pub maybe_meaning_of : Option TypedMeaning → Option Meaning
maybe_meaning_of None = None
maybe_meaning_of (Some x) = Some (meaning_of x)

-- no buffer, one, or several
abbrev pub IsHaving : List NamedBuffer → Having → Type 0
IsHaving bs h.None = bs ≡ []
IsHaving bs (h.One b) = bs ≡ buffer_of b ∷ []
IsHaving bs h.Several = (x y : NamedBuffer) × (rest : List NamedBuffer) × (bs ≡ x ∷ (y ∷ rest))

-- a variable, as what a name means
abbrev pub variable_meaning : NamedVariable → Meaning
variable_meaning v = TheVariable v.variable v.mask

-- the value is what the part is judged to be, and what the part breaks and names is noted
pub record IsJudged {A : Type 0} (j : Judged A) (value : A) (old new : Notes) : Type 0 where
  pub is : value ≡ j.is
  pub first : new.first ≡ first_of old.first j.breaks
  pub names : new.names ≡ old.names ++ j.names
