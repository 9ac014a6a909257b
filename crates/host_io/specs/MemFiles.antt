-- Files in memory, and the calls that fail.
use Rattle.std.specs.Prelude.{◌≡◌, ◌⊎◌, ◌==◌, ℕ, true, List, length, Contains, None}
use Rattle.host_io.specs.declared.named_file.NamedFile.{NamedFile}
use Rattle.storage.specs.faults.Faults.{counted}
use Rattle.host_io.specs.Files.{FileState, bytes_named}

-- the files, the numbers of the calls that fail, and the number of reads and of faults so far
pub record Folder : Type 0 where
  pub files : List NamedFile
  pub fails : List ℕ
  pub calls : ℕ
  pub faults : ℕ

-- the next read of this name fails
abbrev pub FailsNext : Folder → List ℕ → Type 0
FailsNext folder name = Contains folder.fails (counted folder.calls) ⊎ (bytes_named folder.files name ≡ None)

-- files in memory are observable, and sound where no call is to fail
abbrev pub file_state : Folder → FileState
file_state folder = record { observable = true; sound = length folder.fails == 0; file = bytes_named folder.files; faults = folder.faults }
