use Rattle.std.proofs.Common.{◌≤◌, length}
use Rattle.abl_main.proofs.real_files.read_file.Given as goal

-- the buffer contains at most `most` bytes
abbrev pub invariant-loop : goal.invariant-loop
invariant-loop g l = length l.bytes.items ≤ l.most
