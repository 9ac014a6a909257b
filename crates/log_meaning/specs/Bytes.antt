-- The bytes of the log. Numbers are big-endian.
use Rattle.std.specs.Prelude.{◌≡◌, ℕ, ◌<◌, ◌≤◌, ◌^◌, List, [], ◌∷◌, ◌++◌, length, replicate, All}
use Rattle.std.specs.List.{flat_map}
use Rattle.std.specs.Int.{w32, w64, to_be_bytes}
use Rattle.log_meaning.specs.declared.note.Note.{Note}
use Rattle.log_meaning.specs.declared.note.Note.TheVariants.{Change as Changed, Commit}

-- a number in eight bytes, and in four
unfoldable pub eight : ℕ → List ℕ
eight n = to_be_bytes w64 n

unfoldable pub four : ℕ → List ℕ
four n = to_be_bytes w32 n

-- a note
unfoldable pub note_bytes : Note → List ℕ
note_bytes (Changed c) = 1 ∷ eight c.tx ++ four c.slot ++ c.old ++ c.new
note_bytes (Commit tx) = 2 ∷ eight tx

-- a gate and its batch of notes; the gate is open where it is 1
abbrev pub batch_bytes : ℕ → List Note → List ℕ
batch_bytes gate notes = gate ∷ four (length (flat_map note_bytes notes)) ++ flat_map note_bytes notes

-- the bytes after a gate: the rest of its batch, and the next closed gate
abbrev pub after_gate : List Note → List ℕ
after_gate notes = four (length (flat_map note_bytes notes)) ++ flat_map note_bytes notes ++ 0 ∷ []

-- the header of an area after its gate: the text `ABLBI001`, the number of the generation, and zeros
unfoldable pub header_bytes : ℕ → List ℕ
header_bytes generation = 65 ∷ 66 ∷ 76 ∷ 66 ∷ 73 ∷ 48 ∷ 48 ∷ 49 ∷ eight generation ++ replicate 15 0

-- an open header, and open batches
abbrev pub log_bytes : ℕ → List (List Note) → List ℕ
log_bytes generation batches = 1 ∷ header_bytes generation ++ flat_map (batch_bytes 1) batches

-- a note that the log can hold
abbrev pub IsNote : Note → Type 0
IsNote (Changed c) = (c.tx < 2 ^ 64) × (c.slot < 2 ^ 20) × (length c.old ≡ 256) × (length c.new ≡ 256)
IsNote (Commit tx) = tx < 2 ^ 64

-- notes that a batch can hold
pub record IsBatch (notes : List Note) : Type 0 where
  pub each : All IsNote notes
  pub some : 1 ≤ length (flat_map note_bytes notes)
  pub few : length (flat_map note_bytes notes) ≤ 2 ^ 20
