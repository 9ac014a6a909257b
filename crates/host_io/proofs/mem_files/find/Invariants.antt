use Rattle.std.proofs.Common.{◌≡◌, drop}
use Rattle.host_io.specs.Files.{bytes_named}
use Rattle.host_io.proofs.mem_files.find.Given as goal

abbrev pub invariant-loop-file : goal.invariant-loop-file
invariant-loop-file l = bytes_named l.files l.name ≡ bytes_named (drop l.file-index l.files) l.name
