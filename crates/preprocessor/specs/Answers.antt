-- What an expansion is answered with.
use Rattle.std.specs.Prelude.{ℕ, ◌≡◌, List, map, Option, Some, None, slice_get, Result, Ok, Err}
use Rattle.abl_base.specs.declared.place.Place.{Place}
use Rattle.preprocessor.specs.declared.expanded.Expansion.{Expansion}
use Rattle.preprocessor.specs.declared.expanded.Origin.{Origin}
use Rattle.preprocessor.specs.declared.answer.PreFault.{PreFault}
use Rattle.preprocessor.specs.declared.answer.PreFault.TheVariants.{Broken, Need, NoMemory}
use Rattle.preprocessor.specs.declared.texts.NamedText.{NamedText}
use Rattle.preprocessor.specs.declared.texts.Mark.{Mark}
use Rattle.preprocessor.specs.declared.texts.Outcome.{Outcome}
use Rattle.preprocessor.specs.declared.texts.Outcome.TheVariants.{Gives, Breaks, Needs}
use Rattle.preprocessor.specs.Places.{offset_of, past, start}
use Rattle.preprocessor.specs.Texts.{bytes_at, bytes_of}

-- where each byte was taken from
abbrev pub origins_of : List Mark → List Origin
origins_of marks = map (λ m. record { text = m.text; place = m.place }) marks

-- the end of the source
abbrev pub end_of : List NamedText → Place
end_of texts = past start (bytes_at texts 0)

abbrev pub or_end : Place → Option Origin → Origin
or_end end None = record { text = 0; place = end }
or_end end (Some origin) = origin

-- where the byte at this offset was taken from; after the last byte the end of the source
abbrev pub origin_at : Expansion → ℕ → Origin
origin_at expansion at = or_end expansion.end (slice_get expansion.origins at)

-- Where the first byte at this place of an expansion was taken from; where no byte is there, the end of the source. These are
-- the expansion's bytes and their origins.
abbrev pub origin_of_place : List ℕ → List Origin → Place → Place → Origin
origin_of_place bytes origins end place = or_end end (slice_get origins (offset_of bytes place))

-- The answer is what the outcome is; out of memory may come in place of any.
abbrev pub IsAnswer : List NamedText → Result Expansion PreFault → Outcome → Type 0
IsAnswer texts (Ok e) (Gives marks state) = (e.bytes ≡ bytes_of marks) × (e.origins ≡ origins_of marks) × (e.end ≡ end_of texts)
IsAnswer texts (Ok e) (Breaks r t p) = ⊥
IsAnswer texts (Ok e) (Needs name) = ⊥
IsAnswer texts (Err NoMemory) outcome = Unit {0}
IsAnswer texts (Err (Broken rule text place)) (Breaks r t p) = (rule ≡ r) × (text ≡ t) × (place ≡ p)
IsAnswer texts (Err (Broken rule text place)) (Gives marks state) = ⊥
IsAnswer texts (Err (Broken rule text place)) (Needs name) = ⊥
IsAnswer texts (Err (Need name)) (Needs n) = name ≡ n
IsAnswer texts (Err (Need name)) (Gives marks state) = ⊥
IsAnswer texts (Err (Need name)) (Breaks r t p) = ⊥
