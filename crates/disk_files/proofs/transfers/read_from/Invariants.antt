use Rattle.std.proofs.Common.{◌≡◌, ℕ, ◌+◌, ◌-◌, ◌<◌, ◌≤◌, length, get_or}
use Rattle.std.specs.Prelude.{IsTrue}
use Rattle.disk_files.proofs.transfers.read_from.Given as goal

-- the first `done` bytes are read
abbrev pub invariant-loop-done : goal.invariant-loop-done
invariant-loop-done g l = (l.done ≤ length l.into) × (IsTrue (g.F.AreaFile.observable l.file) → ((i : ℕ) → i < l.done → get_or l.into i 0 ≡ get_or (g.F.AreaFile.bytes l.file) (l.at + i) 0))

abbrev pub decreases-loop-done : goal.decreases-loop-done
decreases-loop-done g l = length l.into - l.done
