-- The state of files by name.
use Rattle.std.specs.Prelude.{◌<◌, ℕ, Bool, if◌then◌else◌, List, [], ◌∷◌, length, Option, Some, None, IsSomeAnd}
use Rattle.std.specs.Str.{bytes_eq}
use Rattle.host_io.specs.declared.named_file.NamedFile.{NamedFile}

-- whether it is known what the files hold; whether, too, a read fails only for a missing file; the bytes of each file;
-- and how often a read has failed. What is not observable is not constrained
pub record FileState : Type 0 where
  pub observable : Bool
  pub sound : Bool
  pub file : List ℕ → Option (List ℕ)
  pub faults : ℕ

-- there is such a file, and it is longer
abbrev pub IsLonger : Option (List ℕ) → ℕ → Type 0
IsLonger file most = IsSomeAnd file (λ bytes. most < length bytes)

-- the bytes of the first file of that name
abbrev pub bytes_named : List NamedFile → List ℕ → Option (List ℕ)
bytes_named [] name = None
bytes_named (file ∷ files) name = if bytes_eq file.name name then Some file.bytes else bytes_named files name
