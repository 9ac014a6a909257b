-- The sections of a client's output, from its pieces.
use Rattle.std.specs.Prelude.{ℕ, ◌==◌, List, [], ◌∷◌, ◌++◌, Bool, true, false, Option, Some, None, map, slice_index_or}
use Rattle.block_meaning.specs.declared.wants.Piece.{Piece}
use Rattle.block_meaning.specs.declared.wants.Piece.TheVariants.{Wrote, Opened}
use Rattle.client_output.specs.declared.section.Section.{Section}

-- a section: the number of its named output, None for the default one, and what was written to it
pub record OutputBytes : Type 0 where
  pub output : Option ℕ
  pub bytes : List ℕ

-- the two are the same output
abbrev pub is_same : Option ℕ → Option ℕ → Bool
is_same None None = true
is_same None (Some n) = false
is_same (Some m) None = false
is_same (Some m) (Some n) = m == n

-- appends a text to a section
abbrev pub longer_if : Bool → List ℕ → OutputBytes → OutputBytes
longer_if true bytes s = record s { bytes = s.bytes ++ bytes }
longer_if false bytes s = s

-- appends a text to the section of this output
abbrev pub with_text : Option ℕ → List ℕ → List OutputBytes → List OutputBytes
with_text output bytes ss = map (λ s. longer_if (is_same output s.output) bytes s) ss

-- opening a section empties it, except under APPEND
abbrev pub emptied_unless : Bool → OutputBytes → OutputBytes
emptied_unless true s = s
emptied_unless false s = record s { bytes = [] }

-- opens this section, or one of the rest
abbrev pub opened_or : Bool → Bool → OutputBytes → List OutputBytes → List OutputBytes → List OutputBytes
opened_or true append s ss rest = emptied_unless append s ∷ ss
opened_or false append s ss rest = s ∷ rest

-- opens a section; at the first time it is added at the end
abbrev pub with_opened : ℕ → Bool → List OutputBytes → List OutputBytes
with_opened output append [] = record { output = Some output; bytes = [] } ∷ []
with_opened output append (s ∷ ss) = opened_or (is_same (Some output) s.output) append s ss (with_opened output append ss)

-- the sections after a piece
abbrev pub with_piece : Piece → List OutputBytes → List OutputBytes
with_piece (Wrote section bytes) ss = with_text section bytes ss
with_piece (Opened output append) ss = with_opened output append ss

-- the sections after several pieces
abbrev pub with_pieces : List Piece → List OutputBytes → List OutputBytes
with_pieces [] ss = ss
with_pieces (piece ∷ pieces) ss = with_pieces pieces (with_piece piece ss)

-- a client begins with the empty default section alone
abbrev pub first_section : OutputBytes
first_section = record { output = None; bytes = [] }

-- the name of an output, where the named ones have these names; the default one has none
abbrev pub name_in : List (List ℕ) → Option ℕ → List ℕ
name_in names None = []
name_in names (Some n) = slice_index_or names n []

-- a section under its name
abbrev pub named : List (List ℕ) → OutputBytes → Section
named names s = record { name = name_in names s.output; bytes = s.bytes }

-- the sections of these pieces: the default one, and the named outputs in the order of their first opening
abbrev pub sections_of : List (List ℕ) → List Piece → List Section
sections_of names pieces = map (named names) (with_pieces pieces (first_section ∷ []))
