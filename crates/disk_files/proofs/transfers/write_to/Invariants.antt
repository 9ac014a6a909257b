use Rattle.std.proofs.Common.{◌≡◌, ◌-◌, ◌≤◌, length}
use Rattle.std.specs.Prelude.{IsTrue}
use Rattle.disk_files.proofs.Parts.{SoFar}
use Rattle.disk_files.proofs.transfers.write_to.Given as goal

-- the first `done` bytes are written
abbrev pub invariant-loop-done : goal.invariant-loop-done
invariant-loop-done g l = (l.done ≤ length l.from) × (g.F.AreaFile.observable l.file ≡ g.F.AreaFile.observable l.initial.file) × (IsTrue (g.F.AreaFile.observable l.initial.file) → SoFar l.at l.from l.done (g.F.AreaFile.bytes l.initial.file) (g.F.AreaFile.bytes l.file))

abbrev pub decreases-loop-done : goal.decreases-loop-done
decreases-loop-done g l = length l.from - l.done
