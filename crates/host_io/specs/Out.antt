-- The state of the two streams, and what a write does to it.
use Rattle.std.specs.Prelude.{◌≡◌, ◌≤◌, ◌+◌, ℕ, Bool, true, false, IsTrue, List, ◌++◌, length, take}
use Rattle.storage.specs.faults.Faults.{Rose}
use Rattle.host_io.specs.declared.out.Stream.{Stream}
use Rattle.host_io.specs.declared.out.Stream.TheVariants.{Output, Diagnostics}

-- what was written to each stream
pub record Texts : Type 0 where
  pub output : List ℕ
  pub diagnostics : List ℕ

-- the bytes of one stream
abbrev pub text_on : Stream → Texts → List ℕ
text_on Output t = t.output
text_on Diagnostics t = t.diagnostics

-- the texts with this piece at the end of one stream
abbrev pub appended : Stream → List ℕ → Texts → Texts
appended Output piece t = record { output = t.output ++ piece; diagnostics = t.diagnostics }
appended Diagnostics piece t = record { output = t.output; diagnostics = t.diagnostics ++ piece }

-- a prefix of the piece is at the end of the stream
abbrev pub AppendsPrefix : Stream → List ℕ → Texts → Texts → Type 0
AppendsPrefix stream piece old new = (n : ℕ) × (n ≤ length piece) × (new ≡ appended stream (take n piece) old)

-- the number of bytes on both streams
abbrev pub bytes_on_both : Texts → ℕ
bytes_on_both t = length t.output + length t.diagnostics

-- whether it is known what the streams hold, what they hold, and how often a write has failed. What is not observable is
-- not constrained
pub record OutState : Type 0 where
  pub observable : Bool
  pub texts : Texts
  pub faults : ℕ

-- the text was appended to the stream whole, or else a prefix of it
pub record Writes (whole : Bool) (stream : Stream) (text : List ℕ) (old new : OutState) : Type 0 where
  pub all : whole ≡ true → IsTrue old.observable → new.texts ≡ appended stream text old.texts
  pub part : whole ≡ false → IsTrue old.observable → AppendsPrefix stream text old.texts new.texts
  pub cause : whole ≡ false → Rose old.faults new.faults
  pub quiet : whole ≡ true → new.faults ≡ old.faults
  pub later : old.faults ≤ new.faults
  pub same_observable : new.observable ≡ old.observable
