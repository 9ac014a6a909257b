-- The limit of a file.
use Rattle.std.specs.Prelude.{◌≡◌, refl}
use Rattle.source_files.specs.declared.files.TheConstants.{MAX_FILE_BYTES}

-- a file may have 1 MiB
limit_is : MAX_FILE_BYTES ≡ 1048576
limit_is = refl
