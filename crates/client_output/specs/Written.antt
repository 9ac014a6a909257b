-- What an output has of the pieces that were written. The layers above use `HasWritten` and `IsUnchanged` by name alone.
use Rattle.std.specs.Prelude.{◌≡◌, ◌≢◌, ℕ, ◌+◌, ◌<◌, List, [], ◌∷◌, ◌++◌, Option, Some, None, map, length, slice_index_or, slice_set}
use Rattle.block_meaning.specs.declared.wants.Piece.{Piece}
use Rattle.client_output.specs.declared.output.Output.{Output}
use Rattle.client_output.specs.declared.section.Section.{Section}
use Rattle.client_output.specs.Sections.{OutputBytes, with_pieces, first_section, sections_of}

-- the outputs of the sections that these pieces make, None for the default one
abbrev pub outputs_of : List Piece → List (Option ℕ)
outputs_of pieces = map (λ (s : OutputBytes). s.output) (with_pieces pieces (first_section ∷ []))

-- the output is what these pieces make, where the named outputs have these names
pub record HasWritten (output : Output) (names : List (List ℕ)) (pieces : List Piece) : Type 0 where
  pub opened : outputs_of pieces ≡ None ∷ map (λ (n : ℕ). Some n) output.opened.items
  pub sections : output.sections.items ≡ sections_of names pieces

-- nothing was written or opened
pub record IsUnchanged (old new : Output) : Type 0 where
  pub opened : new.opened.items ≡ old.opened.items
  pub sections : new.sections.items ≡ old.sections.items
  pub size : new.size ≡ old.size

-- the place of the section of an output, where the named ones were opened in this order
abbrev pub IsPlaceOf : List ℕ → Option ℕ → Option ℕ → Type 0
IsPlaceOf opened None None = ⊥
IsPlaceOf opened None (Some place) = place ≡ 0
IsPlaceOf opened (Some n) None = (k : ℕ) → k < length opened → slice_index_or opened k 0 ≢ n
IsPlaceOf opened (Some n) (Some place) = (k : ℕ) × ((k < length opened) × ((slice_index_or opened k 0 ≡ n) × (place ≡ k + 1)))

abbrev pub no_section : Section
no_section = record { name = []; bytes = [] }

-- appends a text to the section at a place
abbrev pub longer_at : ℕ → List ℕ → List Section → List Section
longer_at k text ss = slice_set ss k (record (slice_index_or ss k no_section) { bytes = (slice_index_or ss k no_section).bytes ++ text })

-- empties the section at a place
abbrev pub emptied_at : ℕ → List Section → List Section
emptied_at k ss = slice_set ss k (record (slice_index_or ss k no_section) { bytes = [] })
