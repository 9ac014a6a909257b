-- The files that a command reads: their texts, which file is asked for next, and why one was not read.
use Rattle.std.specs.Prelude.{◌≡◌, ◌≤◌, ◌++◌, ℕ, IsTrue, List, [], ◌∷◌, length, Option, Some, None}
use Rattle.storage.specs.faults.Faults.{Rose}
use Rattle.host_io.specs.Files.{FileState, IsLonger}
use Rattle.command_arguments.specs.CommandLine.{ClientFiles}
use Rattle.preprocessor.specs.declared.texts.NamedText.{NamedText}
use Rattle.preprocessor.specs.declared.texts.Outcome.TheVariants.{Needs}
use Rattle.preprocessor.specs.Expansion.{expansion}
use Rattle.run_report.specs.declared.refusal.Refusal.{Refusal}
use Rattle.run_report.specs.declared.refusal.Refusal.TheVariants.{File, TooLong, NoMemory}
use Rattle.source_files.specs.declared.files.TheConstants.{MAX_FILE_BYTES}
use Rattle.source_files.specs.declared.files.ClientTexts.{ClientTexts}
use Rattle.source_files.specs.Expansions.{AsksForNone}

-- the files have this text under the name, where they are observable, and it is not too long
pub record HasText (files : FileState) (name text : List ℕ) : Type 0 where
  pub content : IsTrue files.observable → files.file name ≡ Some text
  pub short : length text ≤ MAX_FILE_BYTES

-- the client's input is this text: that of its file, and empty without one
abbrev pub HasInput : FileState → Option (List ℕ) → List ℕ → Type 0
HasInput files None text = text ≡ []
HasInput files (Some name) text = HasText files name text

-- the files of these names have these texts
abbrev pub HaveTexts : FileState → List (List ℕ) → List (List ℕ) → Type 0
HaveTexts files [] [] = Unit {0}
HaveTexts files [] (text ∷ texts) = ⊥
HaveTexts files (name ∷ names) [] = ⊥
HaveTexts files (name ∷ names) (text ∷ texts) = HasText files name text × HaveTexts files names texts

-- why the file of this name was not read; the files' count of faults is now `faults`
pub data IsNotRead (files : FileState) (faults : ℕ) (name : List ℕ) : Refusal → Type 0 where
  is_missing : Rose files.faults faults → (IsTrue files.sound → files.file name ≡ None) → IsNotRead files faults name (File name)
  is_too_long : (IsTrue files.observable → IsLonger (files.file name) MAX_FILE_BYTES) → IsNotRead files faults name (TooLong name MAX_FILE_BYTES)
  reading_wants : IsNotRead files faults name NoMemory

-- why the first of these files that was not read was not
pub data OneIsNotRead (files : FileState) (faults : ℕ) : List (List ℕ) → Refusal → Type 0 where
  this_one : {name : List ℕ} {names : List (List ℕ)} {refusal : Refusal} → IsNotRead files faults name refusal → OneIsNotRead files faults (name ∷ names) refusal
  later_one : {name text : List ℕ} {names : List (List ℕ)} {refusal : Refusal} → HasText files name text → OneIsNotRead files faults names refusal → OneIsNotRead files faults (name ∷ names) refusal

-- ---- the texts of a source

-- the files that the expansion of the texts needs besides, in the order in which it asks for them, each with its text; it ends where
-- the expansion asks for none
abbrev pub Needed : FileState → List NamedText → List NamedText → Type 0
Needed files texts [] = AsksForNone (expansion texts)
Needed files texts (t ∷ more) = (expansion texts ≡ Needs t.name) × HasText files t.name t.bytes × Needed files (texts ++ t ∷ []) more

-- THE TEXTS OF A SOURCE in the file of this name: its own under that name, and then those of the files that it needs
abbrev pub HasSource : FileState → List ℕ → List NamedText → Type 0
HasSource files program [] = ⊥
HasSource files program (t ∷ needed) = (t.name ≡ program) × HasText files program t.bytes × Needed files (t ∷ []) needed

-- the texts of the sources in the files of these names
abbrev pub HaveSources : FileState → List (List ℕ) → List (List NamedText) → Type 0
HaveSources files [] [] = Unit {0}
HaveSources files [] (texts ∷ more) = ⊥
HaveSources files (program ∷ programs) [] = ⊥
HaveSources files (program ∷ programs) (texts ∷ more) = HasSource files program texts × HaveSources files programs more

-- the files of a client have these texts: its source, and its input
abbrev pub HasClient : FileState → ClientFiles → ClientTexts → Type 0
HasClient files c t = HasSource files c.program t.source × HasInput files c.input t.input

-- the files of these clients have these texts
abbrev pub HaveClients : FileState → List ClientFiles → List ClientTexts → Type 0
HaveClients files [] [] = Unit {0}
HaveClients files [] (t ∷ ts) = ⊥
HaveClients files (c ∷ cs) [] = ⊥
HaveClients files (c ∷ cs) (t ∷ ts) = HasClient files c t × HaveClients files cs ts

-- ---- which file is asked for, where those before it were read

-- the expansion of the texts asks for the file of this name
pub data AsksNeeded (files : FileState) : List NamedText → List ℕ → Type 0 where
  asks_now : {texts : List NamedText} {name : List ℕ} → expansion texts ≡ Needs name → AsksNeeded files texts name
  asks_later : {texts : List NamedText} {name : List ℕ} (t : NamedText) → expansion texts ≡ Needs t.name → HasText files t.name t.bytes → AsksNeeded files (texts ++ t ∷ []) name → AsksNeeded files texts name

-- a source in the file of this name asks for the file of that name: its own, and then each that it needs
pub data AsksSource (files : FileState) (program : List ℕ) : List ℕ → Type 0 where
  asks_own : AsksSource files program program
  asks_needed : {name bytes : List ℕ} → HasText files program bytes → AsksNeeded files (record { name = program; bytes = bytes } ∷ []) name → AsksSource files program name

-- one of these sources does; those before it were read
pub data AsksSources (files : FileState) : List (List ℕ) → List ℕ → Type 0 where
  asks_this_source : {program name : List ℕ} {programs : List (List ℕ)} → AsksSource files program name → AsksSources files (program ∷ programs) name
  asks_later_source : {program name : List ℕ} {programs : List (List ℕ)} (texts : List NamedText) → HasSource files program texts → AsksSources files programs name → AsksSources files (program ∷ programs) name

-- a client asks for the file of this name: one of its source, and then its input
pub data AsksClient (files : FileState) (c : ClientFiles) : List ℕ → Type 0 where
  asks_source : {name : List ℕ} → AsksSource files c.program name → AsksClient files c name
  asks_input : {name : List ℕ} (texts : List NamedText) → HasSource files c.program texts → c.input ≡ Some name → AsksClient files c name

-- one of these clients does; the files of those before it were read
pub data AsksClients (files : FileState) : List ClientFiles → List ℕ → Type 0 where
  asks_this_client : {c : ClientFiles} {cs : List ClientFiles} {name : List ℕ} → AsksClient files c name → AsksClients files (c ∷ cs) name
  asks_later_client : {c : ClientFiles} {cs : List ClientFiles} {name : List ℕ} (t : ClientTexts) → HasClient files c t → AsksClients files cs name → AsksClients files (c ∷ cs) name

-- why a file that is asked for was not read
pub record AskedIsNotRead (files : FileState) (faults : ℕ) (Asks : List ℕ → Type 0) (refusal : Refusal) : Type 0 where
  pub name : List ℕ
  pub asks : Asks name
  pub unread : IsNotRead files faults name refusal

-- what holds inside of a call: no read has failed, and what is known of the files is as it was
pub record AreSame (old new : FileState) : Type 0 where
  pub observable : new.observable ≡ old.observable
  pub sound : new.sound ≡ old.sound
  pub file : IsTrue old.observable → new.file ≡ old.file
  pub faults : new.faults ≡ old.faults
