-- The files of a check, for the laws on it.
use Rattle.std.specs.Prelude.{◌≡◌, ℕ, IsTrue, List}
use Rattle.host_io.specs.Files.{FileState}
use Rattle.command_arguments.specs.CommandLine.{Check, IsCheck, check_arguments}
use Rattle.preprocessor.specs.declared.texts.NamedText.{NamedText}
use Rattle.source_files.specs.Files.{HaveSources}
use Rattle.abl_cli.specs.Command.{IsThere}

-- the arguments name the check, and the files are observable and fail for a missing file alone
pub record NamesSources (arguments : List (List ℕ)) (files : FileState) (check : Check) : Type 0 where
  pub is_check : IsCheck check
  pub arguments_are : arguments ≡ check_arguments check
  pub observable : IsTrue files.observable
  pub sound : IsTrue files.sound

-- the schema file, the sources and the files that they need are there, with these texts of the schema file and of the sources
pub record SourcesThere (files : FileState) (check : Check) (df : List ℕ) (sources : List (List NamedText)) : Type 0 where
  pub schema : IsThere files check.schema df
  pub programs : HaveSources files check.programs sources
