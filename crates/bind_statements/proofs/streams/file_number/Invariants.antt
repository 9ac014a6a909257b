use Rattle.std.proofs.Common.{◌≡◌, drop}
use Rattle.bind_statements.specs.Streams.{file_number}
use Rattle.bind_statements.proofs.streams.file_number.Given as goal

-- the number in what is left, counted on, is that in all
abbrev pub invariant-loop-i : goal.invariant-loop-i
invariant-loop-i l = file_number l.i (drop l.i l.files) l.name ≡ file_number 0 l.files l.name
