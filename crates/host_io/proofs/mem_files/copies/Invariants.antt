use Rattle.std.proofs.Common.{◌≡◌, take}
use Rattle.host_io.proofs.mem_files.copies.Given as goal

abbrev pub invariant-loop-file : goal.invariant-loop-file
invariant-loop-file l = l.same.items ≡ take l.file-index l.files
